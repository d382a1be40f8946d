-- What is spelled is read.
use Rattle.std.proofs.Common.{◌≡◌, ℕ, ◌+◌, true, List, [], ◌∷◌, Option, None, Ok, refl, sym, ap, subst, ◌∙◌}
use Rattle.std.specs.Prelude.{map, filter_map, flat_map, bytes_eq}
use Rattle.std.specs.List.{list_all}
use Rattle.std.proofs.lemmas.Bool.{and_parts}
use Rattle.line_text.specs.Types.{Pid}
use Rattle.line_text.specs.Words.{are_distinct, first_uses, lines_of, words_of}
use Rattle.line_forms.specs.Words.{AreDistinct, ProcedureName, Tables}
use Rattle.script_lang.specs.declared.item.ScriptLine.{ScriptLine}
use Rattle.script_lang.specs.Context.{ContextValue, first_context}
use Rattle.script_lang.specs.Canonical.{header}
use Rattle.script_lang.specs.Parsing.{item_read, items_read, with_item, line_then, result_at_end, lines_read, script_read, result_after_header, text_lines_read, parse_result}
use Rattle.script_lang.specs.Scripts.{process_of_item, tables_of, script_of_items}
use Rattle.script_lang.specs.Spelled.{SpellsScriptLines, is_of_version, is_version, path_uses, SpellsScript, SpellsLines, spells}
use Rattle.script_lang.specs.TextTables.{path_of_words, tables_of_lines}
use Rattle.script_lang.specs.Value.{ScriptValue}
use Rattle.script_lang.proofs.ChildLimits.{kept-with_limits, name_kept}
use Rattle.script_lang.proofs.DistinctItems.{declared_once}
use Rattle.script_lang.proofs.NumberedUses.{first_uses_numbered}
use Rattle.script_lang.proofs.ItemAgain.{line_again, line_skipped}
use Rattle.script_lang.proofs.ParentsOfItems.{parents_agree}
use Rattle.script_lang.proofs.SpelledItems.{along}
use Rattle.script_lang.proofs.TablesOfItems.{names_agree, process_names}
use Rattle.script_lang.proofs.Versions.{header_printable, version_again}

-- lines

abbrev AreReadAs : ℕ → Tables → ContextValue → List (List ℕ) → List ScriptLine → Type 0
AreReadAs version tables context lines items = list_all (is_of_version version) items ≡ true → (n : ℕ) → lines_read version tables n context lines ≡ Ok (items_read items None)

lines_again : (version : ℕ) (tables : Tables) (context : ContextValue) (lines : List (List ℕ)) (items : List ScriptLine) → AreDistinct tables → SpellsScriptLines tables context lines items → AreReadAs version tables context lines items
lines_again version tables context lines items distinct =
    along tables (AreReadAs version tables) (record {
      ends = λ context closed since n. ap (result_at_end n) closed;
      skips = λ context line lines items printable skipped others since n.
          ap (line_then n context (λ after. lines_read version tables (n + 1) after lines)) (line_skipped version tables context line printable skipped) ∙ others since (n + 1);
      goes_on = λ context line lines item items is others since n.
          let parts = and_parts (is_of_version version item) (list_all (is_of_version version) items) since in
          ap (line_then n context (λ after. lines_read version tables (n + 1) after lines)) (line_again version tables context line item distinct parts.0 is) ∙ ap (with_item n (item_read item true)) (others parts.1 (n + 1));
    }) context lines items

-- tables

same_tables : (tables : Tables) (processes : List (List ℕ)) (parents : List (Option Pid)) (threads : List (List ℕ)) (procedures : List ProcedureName) (paths : List (List ℕ)) → tables.processes ≡ processes → tables.parents ≡ parents → tables.threads ≡ threads → tables.procedures ≡ procedures → tables.paths ≡ paths
    → tables ≡ record { processes = processes; parents = parents; threads = threads; procedures = procedures; paths = paths }
same_tables tables processes parents threads procedures paths same_processes same_parents same_threads same_procedures same_paths = rw (← same_processes, ← same_parents, ← same_threads, ← same_procedures, ← same_paths) refl

paths_of_lines : (lines : List (List ℕ)) → (tables_of_lines lines).paths ≡ first_uses (filter_map path_of_words (map words_of lines))
unfolding tables_of_lines
paths_of_lines lines = refl

-- the names in the lines are those of the script
pub tables_again : (lines : List (List ℕ)) (script : ScriptValue) → SpellsScript lines script → tables_of_lines lines ≡ tables_of script
tables_again lines script spelled =
    let names = names_agree (tables_of script) lines spelled.items spelled.spells in
    let declared : (tables_of script).processes ≡ process_names spelled.items =
    ap (λ (of : ScriptValue). (tables_of of).processes) (sym spelled.is_script) ∙ kept-with_limits (λ process. process.name) name_kept (filter_map process_of_item spelled.items) in
    same_tables (tables_of_lines lines) (tables_of script).processes (tables_of script).parents (tables_of script).threads (tables_of script).procedures script.paths
    (names.processes ∙ ap (λ (of : ScriptValue). (tables_of of).processes) spelled.is_script)
    (parents_agree (tables_of script) lines spelled.items spelled.spells declared ∙ ap (λ (of : ScriptValue). (tables_of of).parents) spelled.is_script)
    (names.threads ∙ ap (λ (of : ScriptValue). (tables_of of).threads) spelled.is_script)
    (names.procedures ∙ ap (λ (of : ScriptValue). (tables_of of).procedures) spelled.is_script)
    (paths_of_lines lines ∙ ap first_uses names.paths ∙ first_uses_numbered (tables_of script) (flat_map path_uses spelled.items) spelled.different_paths spelled.numbered_paths)

tables_distinct : (lines : List (List ℕ)) (script : ScriptValue) → SpellsScript lines script → AreDistinct (tables_of script)
tables_distinct lines script spelled =
    let once = declared_once (tables_of script) lines spelled.items spelled.spells in
    let processes = kept-with_limits (λ process. process.name) name_kept (filter_map process_of_item spelled.items) in
    let of : AreDistinct (tables_of (script_of_items script.version script.paths spelled.items)) = record { processes = ap (are_distinct bytes_eq) processes ∙ once.processes; threads = once.threads; procedures = once.procedures; paths = spelled.different_paths } in
    subst (λ (at : ScriptValue). AreDistinct (tables_of at)) spelled.is_script of

-- a text

script_again : (lines : List (List ℕ)) (script : ScriptValue) → is_version script.version ≡ true → SpellsScript lines script → text_lines_read (header script.version ∷ lines) ≡ Ok script
script_again lines script versioned spelled =
    let version = script.version in
    let read = lines_again version (tables_of script) first_context lines spelled.items (tables_distinct lines script spelled) spelled.spells spelled.of_version 2 in
    rw (header_printable version versioned) (
    ap (result_after_header (tables_of_lines lines) lines) (version_again version versioned) ∙
    ap (λ tables. script_read version tables (lines_read version tables 2 first_context lines)) (tables_again lines script spelled) ∙ ap (script_read version (tables_of script)) read ∙ ap Ok spelled.is_script)

text_lines_again : (lines : List (List ℕ)) (script : ScriptValue) → SpellsLines lines script → text_lines_read lines ≡ Ok script
text_lines_again [] script spells = absurd spells
text_lines_again (line ∷ lines) script (versioned, first, spelled) = ap (λ at. text_lines_read (at ∷ lines)) first ∙ script_again lines script versioned spelled

-- the text that spells a script is read as this script
pub text_only : (text : List ℕ) (script : ScriptValue) → spells text script → parse_result text ≡ Ok script
unfolding spells parse_result
text_only text script is = text_lines_again (lines_of text) script is
