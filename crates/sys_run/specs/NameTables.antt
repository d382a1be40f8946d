-- The name tables of processes: each stands for the lines that the threads of its process asked.
use Rattle.std.specs.Prelude.{ℕ, ◌≡◌, ◌<◌, List, [], ◌∷◌, length, suc}
use Rattle.ncd_app.specs.Words.{NcdValue, StandsFor}
use Rattle.script_lang.specs.Words.{ScriptValue}
use Rattle.spec_events.specs.Words.{AskedLine, lines_of_process}

-- the tables of the processes from p on
abbrev pub AllTablesStandFrom : List AskedLine → ℕ → List NcdValue → Type 0
AllTablesStandFrom asked p [] = Unit {0}
AllTablesStandFrom asked p (n ∷ ns) = StandsFor n (lines_of_process p asked) × AllTablesStandFrom asked (suc p) ns

-- they can reply to one line more
pub record CanReply (asked : List AskedLine) (tables : List NcdValue) : Type 0 where
  pub stand : AllTablesStandFrom asked 1 tables
  pub few : length asked < 4000000000

-- each process of a script has one
pub record HasTables (script : ScriptValue) (asked : List AskedLine) (tables : List NcdValue) : Type 0 where
  pub stand : AllTablesStandFrom asked 1 tables
  pub there : length tables ≡ length script.processes
