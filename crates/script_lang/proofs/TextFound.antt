-- What is read is spelled.
use Rattle.std.proofs.Common.{◌≡◌, ℕ, Bool, true, false, cond, not, List, [], ◌∷◌, Option, Some, None, Result, Ok, Err, refl, sym, ap, ◌∙◌, subst}
use Rattle.std.specs.Prelude.{bytes_eq, map, filter_map, flat_map, nat_le}
use Rattle.std.proofs.lemmas.Bool.{le-leb}
use Rattle.line_text.specs.Types.{Pid}
use Rattle.line_text.specs.Words.{are_distinct, first_uses, lines_of, words_of}
use Rattle.line_forms.specs.declared.reason.Reason.TheVariants.{Byte}
use Rattle.line_forms.specs.Words.{ProcedureName, Tables, path_word}
use Rattle.script_lang.specs.declared.bad.Bad.{Bad}
use Rattle.script_lang.specs.declared.item.ScriptLine.{ScriptLine}
use Rattle.script_lang.specs.Context.{first_context}
use Rattle.script_lang.specs.Canonical.{header}
use Rattle.script_lang.specs.Parsing.{ScriptLinesRead, bad_line, is_printable_line, lines_read, script_unless_unknown, script_read, version_of, result_after_header, text_lines_read, parse_result}
use Rattle.script_lang.specs.Scripts.{process_of_item, script_of_items, tables_of}
use Rattle.script_lang.specs.Spelled.{SpellsScriptLines, SpellsScript, SpellsLines, is_version, path_uses, spells}
use Rattle.script_lang.specs.TextTables.{path_of_words, tables_of_lines}
use Rattle.script_lang.specs.Value.{ScriptValue}
use Rattle.script_lang.proofs.FirstUses.{all_used, first_uses-distinct}
use Rattle.script_lang.proofs.LinesFound.{AreItems, are_used, lines_found}
use Rattle.script_lang.proofs.PathNumbers.{numbered_by_first_use}
use Rattle.script_lang.proofs.ChildLimits.{kept-with_limits, name_kept}
use Rattle.script_lang.proofs.ParentsOfItems.{parents_agree}
use Rattle.script_lang.proofs.TablesOfItems.{names_agree}
use Rattle.script_lang.proofs.Versions.{is_version_some, version_found}

-- the tables of the text's lines are those of its script

abbrev tables_with : List (List ℕ) → List (Option Pid) → List (List ℕ) → List ProcedureName → List (List ℕ) → Tables
tables_with processes parents threads procedures paths = record { processes = processes; parents = parents; threads = threads; procedures = procedures; paths = paths }

same_tables : (version : ℕ) (lines : List (List ℕ)) (items : List ScriptLine) → SpellsScriptLines (tables_of_lines lines) first_context lines items → tables_of_lines lines ≡ tables_of (script_of_items version (tables_of_lines lines).paths items)
same_tables version lines items spells =
    let of = tables_of_lines lines in
    let agree = names_agree of lines items spells in
    let parents = parents_agree of lines items spells (agree.processes ∙ kept-with_limits (λ process. process.name) name_kept (filter_map process_of_item items)) in
    let names = tables_of (script_of_items version of.paths items) in
    ap (λ processes. tables_with processes of.parents of.threads of.procedures of.paths) agree.processes ∙
    ap (λ parents. tables_with names.processes parents of.threads of.procedures of.paths) parents ∙
    ap (λ threads. tables_with names.processes names.parents threads of.procedures of.paths) agree.threads ∙
    ap (λ procedures. tables_with names.processes names.parents names.threads procedures of.paths) agree.procedures

paths_of_lines : (lines : List (List ℕ)) → (tables_of_lines lines).paths ≡ first_uses (filter_map path_of_words (map words_of lines))
unfolding tables_of_lines
paths_of_lines lines = refl

all_in_tables : (lines : List (List ℕ)) → are_used (tables_of_lines lines) lines ≡ true
unfolding tables_of_lines
all_in_tables lines = all_used (filter_map path_of_words (map words_of lines))

-- a script of this version, which the lines after the first spell
record SpellsOf (of : ℕ) (lines : List (List ℕ)) (script : ScriptValue) : Type 0 where
  version : script.version ≡ of
  spelled : SpellsScript lines script

script_spelled : (version : ℕ) (lines : List (List ℕ)) (items : List ScriptLine) → AreItems version (tables_of_lines lines) first_context lines items → SpellsScript lines (script_of_items version (tables_of_lines lines).paths items)
script_spelled version lines items are =
    let tables = tables_of_lines lines in
    let agree = names_agree tables lines items are.spells in
    let uses = flat_map path_uses items in
    let first : tables.paths ≡ first_uses (map (path_word tables) uses) = paths_of_lines lines ∙ ap first_uses agree.paths in
    record {
      items = items;
      spells = subst (λ t. SpellsScriptLines t first_context lines items) (same_tables version lines items are.spells) are.spells;
      of_version = are.of_version;
      different_paths = ap (are_distinct bytes_eq) first ∙ first_uses-distinct (map (path_word tables) uses);
      numbered_paths = numbered_by_first_use tables uses are.paths first;
      is_script = refl;
    }

-- from the script that a text is read as

known_found : (version : ℕ) (lines : List (List ℕ)) (found : ScriptLinesRead) (unknown : Option ℕ) (script : ScriptValue) → nat_le 1 version ≡ true → found.unknown ≡ unknown → lines_read version (tables_of_lines lines) 2 first_context lines ≡ Ok found
    → script_unless_unknown (script_of_items version (tables_of_lines lines).paths found.items) unknown ≡ Ok script → SpellsOf version lines script
known_found version lines found (Some n) script some is read e = cc
known_found version lines found None script some is read e =
    let same : script_of_items version (tables_of_lines lines).paths found.items ≡ script = cc in
    subst (SpellsOf version lines) same (record { version = refl; spelled = script_spelled version lines found.items (lines_found version (tables_of_lines lines) 2 first_context lines found some read is (all_in_tables lines)) })

lines_answer : (version : ℕ) (lines : List (List ℕ)) (answer : Result ScriptLinesRead Bad) (script : ScriptValue) → nat_le 1 version ≡ true → lines_read version (tables_of_lines lines) 2 first_context lines ≡ answer → script_read version (tables_of_lines lines) answer ≡ Ok script
    → SpellsOf version lines script
lines_answer version lines (Err fault) script some read e = cc
lines_answer version lines (Ok found) script some read e = known_found version lines found found.unknown script some refl read e

header_if : (version : Option ℕ) (line : List ℕ) (lines : List (List ℕ)) (script : ScriptValue) → version_of line ≡ version → result_after_header (tables_of_lines lines) lines version ≡ Ok script → SpellsLines (line ∷ lines) script
header_if None line lines script is e = cc
header_if (Some version) line lines script is e =
    let first = version_found line version is in
    let some = le-leb 1 version (is_version_some version first.versioned) in
    let of = lines_answer version lines (lines_read version (tables_of_lines lines) 2 first_context lines) script some refl e in
    (ap is_version of.version ∙ first.versioned, first.headed ∙ ap header (sym of.version), of.spelled)

first_if : (printable : Bool) (line : List ℕ) (lines : List (List ℕ)) (script : ScriptValue) → cond (not printable) (Err (bad_line 1 Byte)) (result_after_header (tables_of_lines lines) lines (version_of line)) ≡ Ok script → SpellsLines (line ∷ lines) script
first_if false line lines script e = cc
first_if true line lines script e = header_if (version_of line) line lines script refl e

text_lines_found : (lines : List (List ℕ)) (script : ScriptValue) → text_lines_read lines ≡ Ok script → SpellsLines lines script
text_lines_found [] script e = cc
text_lines_found (line ∷ lines) script e = first_if (is_printable_line line) line lines script e

pub text_found : (text : List ℕ) (script : ScriptValue) → parse_result text ≡ Ok script → spells text script
unfolding parse_result spells
text_found text script e = text_lines_found (lines_of text) script e
