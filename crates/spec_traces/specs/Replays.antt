-- The turns of a run as a schedule.
use Rattle.std.specs.Prelude.{ℕ, List, map}
use Rattle.line_text.specs.Types.{Tid}
use Rattle.script_lang.specs.Words.{ScriptValue}

-- the thread of this number
abbrev pub numbered_thread : ℕ → Tid
numbered_thread t = record { 0 = t }

-- the script with these threads as its schedule, whatever its own is
abbrev pub scheduled : ScriptValue → List ℕ → ScriptValue
scheduled script turns = record script { schedule = map numbered_thread turns }
