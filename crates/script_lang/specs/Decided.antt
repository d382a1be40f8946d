-- Every text either spells one script, or has a first bad line with a reason.
use Rattle.std.specs.Prelude.{ℕ, ◌≡◌, ⊤, true, List, ◌∷◌, Some, None, Result, Ok, Err}
use Rattle.line_text.specs.Words.{lines_of}
use Rattle.script_lang.specs.declared.bad.Bad.{Bad}
use Rattle.script_lang.specs.declared.bad.ParseFault.{ParseFault}
use Rattle.script_lang.specs.declared.bad.ParseFault.TheVariants.{Bad as BadLine, Memory as NoRoom}
use Rattle.script_lang.specs.Context.{first_context}
use Rattle.script_lang.specs.Canonical.{header}
use Rattle.script_lang.specs.Parsing.{ScriptLinesRead, lines_read, first_bad_line}
use Rattle.script_lang.specs.Spelled.{is_version, spells}
use Rattle.script_lang.specs.TextTables.{tables_of_lines}
use Rattle.script_lang.specs.Value.{ScriptValue}

-- the text spells this script and no other
pub record SpellsOnly (text : List ℕ) (script : ScriptValue) : Type 0 where
  pub spelled : spells text script
  pub only : (other : ScriptValue) → spells text other → other ≡ script
  pub good : first_bad_line text ≡ None

-- the text spells no script, and this is its first bad line
pub record SpellsNone (text : List ℕ) (fault : Bad) : Type 0 where
  pub none : (script : ScriptValue) → spells text script → ⊥
  pub bad : first_bad_line text ≡ Some fault

abbrev pub IsDecided : List ℕ → Result ScriptValue Bad → Type 0
IsDecided text (Ok script) = SpellsOnly text script
IsDecided text (Err fault) = SpellsNone text fault

-- a text's script was given, or its first bad line, or memory was wanting
abbrev pub IsParsed : List ℕ → Result ScriptValue ParseFault → Type 0
IsParsed text (Ok script) = SpellsOnly text script
IsParsed text (Err (BadLine fault)) = SpellsNone text fault
IsParsed text (Err NoRoom) = ⊤

-- No line of the text has another reason, nor has its end: the first line is the header of a version, and the lines after it are read to
-- the end. This is the first of them that names something that is not declared.
pub record IsOnlyUnknown (text : List ℕ) (line : ℕ) : Type 0 where
  pub version : ℕ
  pub lines : List (List ℕ)
  pub found : ScriptLinesRead
  pub is_one : is_version version ≡ true
  pub headed : lines_of text ≡ header version ∷ lines
  pub read : lines_read version (tables_of_lines lines) 2 first_context lines ≡ Ok found
  pub first : found.unknown ≡ Some line
