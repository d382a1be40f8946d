-- What the printer's own contracts say.
use Rattle.std.specs.Prelude.{ℕ, ◌≡◌, List, [], ◌∷◌, ◌++◌, map, Result, OnOk}
use Rattle.line_text.specs.Types.{NoMemory}
use Rattle.line_text.specs.Words.{text_of_lines}
use Rattle.line_forms.specs.Words.{Tables}
use Rattle.script_lang.specs.declared.item.ScriptLine.{ScriptLine}
use Rattle.script_lang.specs.declared.print.Declared.{Declared}
use Rattle.script_lang.specs.declared.print.Declared.TheVariants.{Process as TheProcess, Thread as TheThread, Procedure as TheProcedure}
use Rattle.script_lang.specs.Canonical.{item_line}
use Rattle.script_lang.specs.Scripts.{process_item, thread_items, procedure_items}

-- the canonical text of these lines
abbrev pub items_text : Tables → List ScriptLine → List ℕ
items_text tables items = text_of_lines (map (item_line tables) items)

-- these lines were put after a text, unless memory was wanting
abbrev pub PutsScriptLines : Tables → List ScriptLine → List ℕ → Result (Unit {0}) NoMemory → List ℕ → Type 0
PutsScriptLines tables items old result new = OnOk result (new ≡ old ++ items_text tables items)

-- the lines of a part
abbrev pub declared_items : Declared → List ScriptLine
declared_items (TheProcess process) = process_item process.now ∷ []
declared_items (TheThread thread) = thread_items thread.now thread.now.spare
declared_items (TheProcedure procedure) = procedure_items procedure.now
