-- The text of a whole run: its last state tells how it ended, and who waits.
use Rattle.std.specs.Prelude.{ℕ, List}
use Rattle.script_lang.specs.Words.{ScriptValue}
use Rattle.spec_kernel.specs.Words.{waiting_threads}
use Rattle.spec_requests.specs.Words.{trace_text}
use Rattle.spec_scripts.specs.Endings.{ending_of}
use Rattle.spec_scripts.specs.ScriptRuns.{History}

-- the text of a run by its history: its end is told by the last state
abbrev pub text_of_history : ScriptValue → History → List ℕ
text_of_history script h = trace_text script h.events (ending_of h.state) (waiting_threads h.state)
