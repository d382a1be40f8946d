-- A loop in a loop, and tests in tests.
use Rattle.std.proofs.Common.{◌≡◌, List, [], ◌∷◌, None, Ok, false, refl}
use Rattle.std.specs.Prelude.{codes}
use Rattle.std.specs.Fmt.{digits}
use Rattle.dk_base.specs.declared.error.Errno.TheVariants.{ENOENT, EBUSY}
use Rattle.line_forms.specs.declared.line.Cond.TheVariants.{Good, Errno as Failed}
use Rattle.line_forms.specs.declared.line.FdArg.TheVariants.{Of as OfFd}
use Rattle.script_lang.specs.Types.{Line}
use Rattle.line_forms.specs.declared.line.Line.TheVariants as line
use Rattle.line_reader.specs.Words.{attach_line, create_line, end_line, if_line, open_line, repeat_line}
use Rattle.line_forms.specs.Words.{keyword_create_to_info, keyword_getn_to_end, keyword_getparam_to_detach, keyword_open_to_get}
use Rattle.script_lang.specs.declared.script.Part.TheVariants as part
use Rattle.script_lang.specs.Words.{ScriptValue, line_read, line_spelling, parse_result, procedure_item, process_item, tables_of_lines, thread_item}
use Rattle.spec_kernel.specs.Words.{step}
use Rattle.spec_requests.specs.Words.{end_line_of, greatest_data, line_of, trace_text}
use Rattle.spec_scripts.specs.WorkedRuns.{loops_script, loops_trace, text_of_play, PlaysAs}
use Rattle.spec_scripts.specs.ScriptRuns.{run, turns_of_play, refusal}

abbrev loops_body : List Line
loops_body =
    line.Repeat 2
    ∷ line.Open (codes "d") (record { 0 = 0 })
    ∷ line.Repeat 2
    ∷ line.Open (codes "d") (record { 0 = 0 })
    ∷ line.End
    ∷ line.If Good
    ∷ line.Open (codes "d") (record { 0 = 1 })
    ∷ line.If Good
    ∷ line.Open (codes "d") (record { 0 = 1 })
    ∷ line.End
    ∷ line.End
    ∷ line.If (Failed ENOENT)
    ∷ line.Create (codes "d") 0 5 (record { 0 = 0 })
    ∷ line.If Good
    ∷ line.Attach (OfFd (codes "d") 0) (record { 0 = 1 })
    ∷ line.End
    ∷ line.If (Failed EBUSY)
    ∷ line.Open (codes "d") (record { 0 = 1 })
    ∷ line.End
    ∷ line.End
    ∷ line.End
    ∷ []

abbrev loops_value : ScriptValue
loops_value =
    record {
      version = 1;
      budget = 100000;
      processes = record { name = codes "p"; limit = 256; parent = None } ∷ [];
      threads = record { name = codes "t"; process = record { 0 = 1 }; spare = false; body = loops_body } ∷ [];
      procedures = record { name = codes "e"; process = record { 0 = 1 }; body = [] } ∷ [];
      order = part.Process ∷ part.Thread ∷ part.Procedure ∷ [];
      paths = codes "x" ∷ codes "y" ∷ [];
      schedule = [];
    }

loops_reading : parse_result loops_script ≡ Ok loops_value
unfolding parse_result line_read line_spelling tables_of_lines process_item thread_item procedure_item keyword_create_to_info keyword_getparam_to_detach keyword_open_to_get keyword_getn_to_end create_line attach_line open_line repeat_line if_line end_line digits
loops_reading = refl

loops_play : text_of_play loops_value ≡ loops_trace
unfolding turns_of_play refusal run step trace_text line_of end_line_of digits greatest_data
loops_play = refl

pub loops_row : PlaysAs loops_script loops_trace
loops_row = record { script = loops_value; spelled = loops_reading; trace = loops_play }
