-- A script as data.
use Rattle.std.specs.Prelude.{ℕ, List}
use Rattle.line_text.specs.Types.{Tid}
use Rattle.script_lang.specs.declared.script.Part.{Part}
use Rattle.script_lang.specs.declared.script.Procedure.{Procedure}
use Rattle.script_lang.specs.declared.script.ScriptProcess.{ScriptProcess}
use Rattle.script_lang.specs.declared.script.ScriptThread.{ScriptThread}

-- The value of a `Script`: clauses see each `Script` as this record.
pub record ScriptValue : Type 0 where
  -- of the language that the text is in
  pub version : ℕ
  -- at most this many events are made
  pub budget : ℕ
  -- numbered from 1, as threads are; children with them
  pub processes : List ScriptProcess
  -- threads with spares
  pub threads : List ScriptThread
  -- numbered from 0
  pub procedures : List Procedure
  -- what the lines that declare something declare, in their order
  pub order : List Part
  -- the names of the paths, numbered from 0 in the order of their first uses
  pub paths : List (List ℕ)
  pub schedule : List Tid
