-- An interrupt of the client of a server that waits in a nested call.
use Rattle.std.proofs.Common.{◌≡◌, List, [], ◌∷◌, None, Ok, false, map, refl}
use Rattle.std.specs.Prelude.{ℕ, codes}
use Rattle.std.specs.Fmt.{digits}
use Rattle.line_forms.specs.declared.line.FdArg.TheVariants.{Of as OfFd}
use Rattle.spec_kernel.specs.Types.{Tid}
use Rattle.script_lang.specs.Types.{Line}
use Rattle.line_forms.specs.declared.line.Line.TheVariants as line
use Rattle.line_forms.specs.declared.line.Piece.TheVariants as piece
use Rattle.line_reader.specs.Words.{attach_line, await_line, call_line, create_line, end_line, interrupt_line, open_line, return_line, serve_line, testcancel_line}
use Rattle.line_forms.specs.Words.{keyword_create_to_info, keyword_getn_to_end, keyword_getparam_to_detach, keyword_open_to_get}
use Rattle.script_lang.specs.declared.script.Part.TheVariants as part
use Rattle.script_lang.specs.Words.{ScriptValue, line_read, line_spelling, parse_result, procedure_item, process_item, schedule_item, tables_of_lines, thread_item}
use Rattle.spec_kernel.specs.Words.{step}
use Rattle.spec_requests.specs.Words.{end_line_of, greatest_data, line_of, trace_text}
use Rattle.spec_scripts.specs.WorkedRuns.{interrupted_script, interrupted_trace, text_of_play, PlaysAs}
use Rattle.spec_scripts.specs.ScriptRuns.{run, turns_of_play, refusal}

-- a server's body: its door's procedure, cookie and path
abbrev server_with : ℕ → ℕ → ℕ → List Line
server_with entry cookie path =
    line.Create (codes "d") entry cookie (record { 0 = 0 })
    ∷ line.Attach (OfFd (codes "d") 0) (record { 0 = path })
    ∷ line.Serve
    ∷ []

abbrev find_body : List Line
find_body = line.Return (piece.Text (codes "found ") ∷ piece.Of (codes "arg") ∷ []) [] ∷ []

abbrev ask_body : List Line
ask_body =
    line.Open (codes "e") (record { 0 = 0 })
    ∷ line.Call (codes "r") (OfFd (codes "e") 0) (piece.Of (codes "arg") ∷ []) [] 4096
    ∷ line.TestCancel
    ∷ line.Return (piece.Of (codes "r") ∷ []) []
    ∷ []

abbrev client_body : List Line
client_body =
    line.Await (record { 0 = 1 })
    ∷ line.Open (codes "d") (record { 0 = 1 })
    ∷ line.Call (codes "r") (OfFd (codes "d") 0) (piece.Text (codes "q") ∷ []) [] 4096
    ∷ []

abbrev thread : ℕ → Tid
thread t = record { 0 = t }

abbrev interrupted_value : ScriptValue
interrupted_value =
    record {
      version = 1;
      budget = 100000;
      processes =
          record { name = codes "back"; limit = 256; parent = None }
          ∷ record { name = codes "front"; limit = 256; parent = None }
          ∷ record { name = codes "cli"; limit = 256; parent = None }
          ∷ record { name = codes "other"; limit = 256; parent = None } ∷ [];
      threads =
          record { name = codes "g"; process = record { 0 = 1 }; spare = false; body = server_with 0 3 0 }
          ∷ record { name = codes "f"; process = record { 0 = 2 }; spare = false; body = server_with 1 4 1 }
          ∷ record { name = codes "c"; process = record { 0 = 3 }; spare = false; body = client_body }
          ∷ record { name = codes "k"; process = record { 0 = 4 }; spare = false; body = line.Interrupt (thread 3) ∷ [] } ∷ [];
      procedures =
          record { name = codes "find"; process = record { 0 = 1 }; body = find_body }
          ∷ record { name = codes "ask"; process = record { 0 = 2 }; body = ask_body } ∷ [];
      order =
          part.Process ∷ part.Thread ∷ part.Procedure ∷ part.Process ∷ part.Thread ∷ part.Procedure ∷ part.Process ∷ part.Thread
          ∷ part.Process ∷ part.Thread ∷ [];
      paths = codes "back" ∷ codes "front" ∷ [];
      schedule = map thread (1 ∷ 1 ∷ 1 ∷ 2 ∷ 2 ∷ 2 ∷ 3 ∷ 3 ∷ 3 ∷ 2 ∷ 2 ∷ 2 ∷ 4 ∷ 1 ∷ []);
    }

interrupted_reading : parse_result interrupted_script ≡ Ok interrupted_value
unfolding parse_result line_read line_spelling tables_of_lines process_item thread_item procedure_item schedule_item keyword_create_to_info keyword_getparam_to_detach keyword_open_to_get keyword_getn_to_end create_line attach_line serve_line return_line await_line open_line call_line testcancel_line interrupt_line end_line digits
interrupted_reading = refl

interrupted_play : text_of_play interrupted_value ≡ interrupted_trace
unfolding turns_of_play refusal run step trace_text line_of end_line_of digits greatest_data
interrupted_play = refl

pub interrupted_row : PlaysAs interrupted_script interrupted_trace
interrupted_row = record { script = interrupted_value; spelled = interrupted_reading; trace = interrupted_play }
