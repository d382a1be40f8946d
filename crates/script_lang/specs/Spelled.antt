-- Which script a text spells: from the script's lines to the text's, with no reader.
use Rattle.std.specs.Prelude.{ℕ, ◌≡◌, ◌⊎◌, Bool, true, false, ◌+◌, ◌==◌, nat_le, nat_lt, List, [], ◌∷◌, Option, Some, None, length, flat_map, bytes_eq, codes, if◌then◌else◌}
use Rattle.std.specs.List.{list_all, list_any}
use Rattle.line_text.specs.Types.{PathId}
use Rattle.line_text.specs.Words.{SpellsName, SpellsNumber, are_distinct, lines_of, words_of}
use Rattle.line_forms.specs.Words.{Each, Ends, First, Spelling, SpellsLine, SpellsParent, SpellsThread, Tables, Then, line_version, paths_of}
use Rattle.script_lang.specs.declared.item.ScriptLine.{ScriptLine}
use Rattle.script_lang.specs.declared.item.ScriptLine.TheVariants.{Budget, Process, Child, Spare, Thread, Procedure, Do, Schedule}
use Rattle.script_lang.specs.declared.item.ScriptPlace.{ScriptPlace}
use Rattle.script_lang.specs.declared.item.ScriptPlace.TheVariants.{Start, Processes, Members, Body, Schedule as Scheduled}
use Rattle.script_lang.specs.Context.{ContextValue, first_context, is_closed, is_declared_twice, is_over_limit, is_misplaced, context_after}
use Rattle.script_lang.specs.Value.{ScriptValue}
use Rattle.script_lang.specs.Scripts.{tables_of, script_of_items}
use Rattle.script_lang.specs.Canonical.{header}
use Rattle.script_lang.specs.Parsing.{is_skipped, is_printable_line}
use Rattle.script_lang.specs.Versions.{versions}
use Rattle.dk_base.specs.declared.limits.TheConstants.{BUDGET_MAX, DESCRIPTORS_MAX}

-- nothing for `DESCRIPTORS_MAX`, or `limit N` (N at most so many)
abbrev pub SpellsLimit : ℕ → Spelling
SpellsLimit limit words = ((limit ≡ DESCRIPTORS_MAX) × Ends words) ⊎ Then (codes "limit") (First (SpellsNumber 0 DESCRIPTORS_MAX limit) Ends) words

-- the words of a line after so many processes
abbrev pub SpellsScriptLine : Tables → ℕ → ScriptLine → Spelling
SpellsScriptLine tables of (Budget events) = Then (codes "budget") (First (SpellsNumber 1 BUDGET_MAX events) Ends)
SpellsScriptLine tables of (Process name limit) = Then (codes "process") (First (SpellsName name) (SpellsLimit limit))
SpellsScriptLine tables of (Child name parent) = Then (codes "child") (First (SpellsName name) (Then (codes "of") (First (SpellsParent tables of parent) Ends)))
SpellsScriptLine tables of (Spare name) = Then (codes "spare") (First (SpellsName name) Ends)
SpellsScriptLine tables of (Thread name) = Then (codes "thread") (First (SpellsName name) Ends)
SpellsScriptLine tables of (Procedure name) = Then (codes "proc") (First (SpellsName name) Ends)
SpellsScriptLine tables of (Do line) = SpellsLine tables of line
SpellsScriptLine tables of (Schedule []) = λ words. ⊥
SpellsScriptLine tables of (Schedule (thread ∷ threads)) = Then (codes "schedule") (Each (SpellsThread tables) (thread ∷ threads) Ends)

-- which lines have a place where
abbrev pub is_of_place : ScriptPlace → ScriptLine → Bool
is_of_place Start (Budget events) = true
is_of_place Start (Process name limit) = true
is_of_place Start (Child name parent) = true
is_of_place Start (Schedule threads) = true
is_of_place Processes (Process name limit) = true
is_of_place Processes (Child name parent) = true
is_of_place Processes (Schedule threads) = true
is_of_place Members (Process name limit) = true
is_of_place Members (Child name parent) = true
is_of_place Members (Spare name) = true
is_of_place Members (Thread name) = true
is_of_place Members (Procedure name) = true
is_of_place Members (Schedule threads) = true
is_of_place Body (Do line) = true
is_of_place Scheduled (Schedule threads) = true
is_of_place place item = false

-- versions

abbrev pub is_version : ℕ → Bool
is_version version = list_any (λ of. version == of) versions

-- the least version in whose texts a line may stand
abbrev pub item_version : ScriptLine → ℕ
item_version (Child name parent) = 2
item_version (Do line) = line_version line
item_version item = 1

abbrev pub is_of_version : ℕ → ScriptLine → Bool
is_of_version version item = nat_le (item_version item) version

-- a line may stand after these
pub record MayStand (context : ContextValue) (item : ScriptLine) : Type 0 where
  pub of_place : is_of_place context.place item ≡ true
  pub once : is_declared_twice context item ≡ false
  pub within_limits : is_over_limit context item ≡ false
  pub in_its_place : is_misplaced context item ≡ false

-- a line that is skipped, and what the others are
pub record SkipsNext (line : List ℕ) (Others : Type 0) : Type 0 where
  pub skipped : is_skipped line ≡ true
  pub others : Others

-- a line that is this item after these, and what the others are
pub record SpellsNext (tables : Tables) (context : ContextValue) (line : List ℕ) (item : ScriptLine) (Others : Type 0) : Type 0 where
  pub read : is_skipped line ≡ false
  pub spells : SpellsScriptLine tables (length context.processes) item (words_of line)
  pub may_stand : MayStand context item
  pub others : Others

-- these lines are these items, after these
abbrev pub SpellsScriptLines : Tables → ContextValue → List (List ℕ) → List ScriptLine → Type 0
SpellsScriptLines tables context [] [] = is_closed context ≡ true
SpellsScriptLines tables context [] (item ∷ items) = ⊥
SpellsScriptLines tables context (line ∷ lines) [] = (is_printable_line line ≡ true) × SkipsNext line (SpellsScriptLines tables context lines [])
SpellsScriptLines tables context (line ∷ lines) (item ∷ items) =
    (is_printable_line line ≡ true)
    × (SkipsNext line (SpellsScriptLines tables context lines (item ∷ items))
    ⊎ SpellsNext tables context line item (SpellsScriptLines tables (context_after context item) lines items))

-- the numbers of the paths of a line
abbrev pub path_uses : ScriptLine → List PathId
path_uses (Do line) = paths_of line
path_uses item = []

-- how many paths are there after these uses, where so many are before and each new one has the next number
abbrev pub path_count_after : ℕ → List PathId → Option ℕ
path_count_after n [] = Some n
path_count_after n (path ∷ paths) =
    if nat_lt path.0 n then path_count_after n paths else (
    if path.0 == n then path_count_after (n + 1) paths else None)

-- a text's lines after the first are these items, which are this script
pub record SpellsScript (lines : List (List ℕ)) (script : ScriptValue) : Type 0 where
  pub items : List ScriptLine
  pub spells : SpellsScriptLines (tables_of script) first_context lines items
  pub of_version : list_all (is_of_version script.version) items ≡ true
  pub different_paths : are_distinct bytes_eq script.paths ≡ true
  pub numbered_paths : path_count_after 0 (flat_map path_uses items) ≡ Some (length script.paths)
  pub is_script : script_of_items script.version script.paths items ≡ script

abbrev pub SpellsLines : List (List ℕ) → ScriptValue → Type 0
SpellsLines [] script = ⊥
SpellsLines (line ∷ lines) script = (is_version script.version ≡ true) × (line ≡ header script.version) × SpellsScript lines script

-- the text spells the script
unfoldable pub spells : List ℕ → ScriptValue → Type 0
spells text script = SpellsLines (lines_of text) script
