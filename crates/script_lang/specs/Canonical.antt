-- The canonical text of a script: no skipped lines, single spaces and no indentation.
use Rattle.std.specs.Prelude.{ℕ, List, [], ◌∷◌, ◌++◌, map, codes, decimal}
use Rattle.line_text.specs.Words.{joined_words, text_of_lines}
use Rattle.line_forms.specs.Words.{Tables, line_words, process_word, thread_word}
use Rattle.script_lang.specs.declared.item.ScriptLine.{ScriptLine}
use Rattle.script_lang.specs.declared.item.ScriptLine.TheVariants.{Budget, Process, Child, Spare, Thread, Procedure, Do, Schedule}
use Rattle.script_lang.specs.Value.{ScriptValue}
use Rattle.script_lang.specs.Scripts.{tables_of, items_of}

-- the first line of a text of this version
abbrev pub header : ℕ → List ℕ
header version = codes "doors script " ++ decimal version

abbrev pub item_words : Tables → ScriptLine → List (List ℕ)
item_words tables (Budget events) = codes "budget" ∷ decimal events ∷ []
item_words tables (Process name limit) = codes "process" ∷ name ∷ codes "limit" ∷ decimal limit ∷ []
item_words tables (Child name parent) = codes "child" ∷ name ∷ codes "of" ∷ process_word tables parent ∷ []
item_words tables (Spare name) = codes "spare" ∷ name ∷ []
item_words tables (Thread name) = codes "thread" ∷ name ∷ []
item_words tables (Procedure name) = codes "proc" ∷ name ∷ []
item_words tables (Do line) = line_words tables line
item_words tables (Schedule threads) = codes "schedule" ∷ map (thread_word tables) threads

abbrev pub item_line : Tables → ScriptLine → List ℕ
item_line tables item = joined_words (item_words tables item)

unfoldable pub canonical_text : ScriptValue → List ℕ
canonical_text script = text_of_lines (header script.version ∷ map (item_line (tables_of script)) (items_of script))
