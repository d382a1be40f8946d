-- Notices of a door that has one and of a door that has many.
use Rattle.std.proofs.Common.{◌≡◌, List, [], ◌∷◌, None, Ok, false, refl}
use Rattle.std.specs.Prelude.{codes}
use Rattle.std.specs.Fmt.{digits}
use Rattle.line_forms.specs.declared.line.Cond.TheVariants.{Unref}
use Rattle.line_forms.specs.declared.line.FdArg.TheVariants.{Of as OfFd}
use Rattle.script_lang.specs.Types.{Line}
use Rattle.line_forms.specs.declared.line.Line.TheVariants as line
use Rattle.line_reader.specs.Words.{close_line, create_line, dup_line, end_line, if_line, repeat_line, serve_line}
use Rattle.line_forms.specs.Words.{keyword_create_to_info, keyword_getn_to_end, keyword_getparam_to_detach, keyword_open_to_get}
use Rattle.script_lang.specs.declared.script.Part.TheVariants as part
use Rattle.script_lang.specs.Words.{ScriptValue, line_read, line_spelling, parse_result, procedure_item, process_item, tables_of_lines, thread_item}
use Rattle.spec_kernel.specs.Words.{step}
use Rattle.spec_requests.specs.Words.{end_line_of, greatest_data, line_of, trace_text}
use Rattle.spec_scripts.specs.WorkedRuns.{noticed_script, noticed_trace, text_of_play, PlaysAs}
use Rattle.spec_scripts.specs.ScriptRuns.{run, turns_of_play, refusal}

-- with the numbers of DOOR_UNREF and of DOOR_UNREF_MULTI
abbrev noticed_body : List Line
noticed_body =
    line.Create (codes "d") 0 7 (record { 0 = 1 })
    ∷ line.Create (codes "m") 0 9 (record { 0 = 16 })
    ∷ line.Repeat 2
    ∷ line.Dup (codes "e") (OfFd (codes "d") 0)
    ∷ line.Close (OfFd (codes "e") 0)
    ∷ line.Dup (codes "e") (OfFd (codes "m") 0)
    ∷ line.Close (OfFd (codes "e") 0)
    ∷ line.End
    ∷ line.Serve
    ∷ []

abbrev procedure_body : List Line
procedure_body =
    line.If Unref
    ∷ line.Close (OfFd (codes "arg") 0)
    ∷ line.End
    ∷ []

abbrev noticed_value : ScriptValue
noticed_value =
    record {
      version = 1;
      budget = 100000;
      processes = record { name = codes "srv"; limit = 256; parent = None } ∷ [];
      threads = record { name = codes "s"; process = record { 0 = 1 }; spare = false; body = noticed_body } ∷ [];
      procedures = record { name = codes "p"; process = record { 0 = 1 }; body = procedure_body } ∷ [];
      order = part.Process ∷ part.Thread ∷ part.Procedure ∷ [];
      paths = [];
      schedule = [];
    }

noticed_reading : parse_result noticed_script ≡ Ok noticed_value
unfolding parse_result line_read line_spelling tables_of_lines process_item thread_item procedure_item keyword_create_to_info keyword_getparam_to_detach keyword_open_to_get keyword_getn_to_end create_line dup_line close_line serve_line repeat_line if_line end_line digits
noticed_reading = refl

noticed_play : text_of_play noticed_value ≡ noticed_trace
unfolding turns_of_play refusal run step trace_text line_of end_line_of digits greatest_data
noticed_play = refl

pub noticed_row : PlaysAs noticed_script noticed_trace
noticed_row = record { script = noticed_value; spelled = noticed_reading; trace = noticed_play }
