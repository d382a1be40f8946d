-- The parents of the processes that lines declare, by the items that they spell.
use Rattle.std.proofs.Common.{◌≡◌, ℕ, ◌≤◌, true, false, List, [], ◌∷◌, ◌++◌, length, take, Option, Some, None, refl, sym, ap, ◌∙◌, arith}
use Rattle.std.specs.Prelude.{map, filter_map, bytes_eq, codes, option_map, unwrap_or}
use Rattle.std.proofs.lemmas.List.{append_assoc, take-append-le, take_all}
use Rattle.line_text.specs.Types.{Pid}
use Rattle.line_text.specs.Words.{are_distinct, words_of}
use Rattle.line_forms.specs.Words.{Tables, depth_after, earlier_number, kind_of, parent_named}
use Rattle.line_reader.specs.Words.{pid}
use Rattle.line_forms.proofs.Numbering.{number_of_earlier}
use Rattle.script_lang.specs.declared.item.ScriptLine.{ScriptLine}
use Rattle.script_lang.specs.declared.item.ScriptLine.TheVariants.{Process, Child, Do}
use Rattle.script_lang.specs.Context.{ContextValue, first_context, context_after, context_at_depth, context_with_variables}
use Rattle.script_lang.specs.Scripts.{process_of_item, with_limits}
use Rattle.script_lang.specs.Spelled.{SpellsScriptLine, SpellsScriptLines}
use Rattle.script_lang.specs.TextTables.{fourth_of, names_after, parent_of_words, parents_from, parents_with, tables_of_lines}
use Rattle.script_lang.proofs.ChildLimits.{kept-with_limits, parent_kept}
use Rattle.script_lang.proofs.DistinctItems.{declared_once}
use Rattle.script_lang.proofs.NamesInWords.{names_skipped, process_named, item_names}
use Rattle.script_lang.proofs.SpelledItems.{along}
use Rattle.script_lang.proofs.TablesOfItems.{all_taken, few_before, few_follow, process_names}

abbrev parents_of : List ScriptLine → List (Option Pid)
parents_of items = map (λ process. process.parent) (filter_map process_of_item items)

no_fourth : (keyword word : List ℕ) (words : List (List ℕ)) → bytes_eq word keyword ≡ false → fourth_of keyword (word ∷ words) ≡ None
no_fourth keyword word [] other = refl
no_fourth keyword word (second ∷ []) other = refl
no_fourth keyword word (second ∷ third ∷ []) other = refl
no_fourth keyword word (second ∷ third ∷ fourth ∷ words) other = rw other refl

-- one item more, where these processes stand before
parents_more : (tables : Tables) (of : ℕ) (item : ScriptLine) (words : List (List ℕ)) (names : List (List ℕ)) (items : List ScriptLine) → SpellsScriptLine tables of item words → are_distinct bytes_eq tables.processes ≡ true → names ≡ take of tables.processes
    → parents_with (process_named item) (parent_of_words names words) (parents_of items) ≡ parents_of (item ∷ items)
parents_more tables of (Process name limit) [] names items spells distinct before = absurd spells
parents_more tables of (Process name limit) (word ∷ words) names items spells distinct before =
    let none : fourth_of (codes "child") (word ∷ words) ≡ None =
    ap (λ w. fourth_of (codes "child") (w ∷ words)) spells.0 ∙ no_fourth (codes "child") (codes "process") words refl in
    ap (λ (found : Option (List ℕ)). option_map (parent_named names) found ∷ parents_of items) none
parents_more tables of (Child name parent) [] names items spells distinct before = absurd spells
parents_more tables of (Child name parent) (word ∷ []) names items spells distinct before = absurd spells.1
parents_more tables of (Child name parent) (word ∷ named ∷ []) names items spells distinct before = absurd spells.1.1
parents_more tables of (Child name parent) (word ∷ named ∷ preposition ∷ []) names items spells distinct before = absurd spells.1.1.1
parents_more tables of (Child name parent) (word ∷ named ∷ preposition ∷ parent_word ∷ words) names items spells distinct before =
    let is = spells.1.1.1.0 in
    let numbered : earlier_number names parent_word ≡ Some parent.0 =
    ap (λ earlier. earlier_number earlier parent_word) before ∙ number_of_earlier tables.processes of parent.0 parent_word distinct is.0.1 is.1 in
    let fourth : fourth_of (codes "child") (word ∷ named ∷ preposition ∷ parent_word ∷ words) ≡ Some parent_word =
    ap (λ w. fourth_of (codes "child") (w ∷ named ∷ preposition ∷ parent_word ∷ words)) spells.0 in
    let same : parent_named names parent_word ≡ parent = ap (λ (found : Option ℕ). pid (unwrap_or found 0)) numbered in
    ap (λ (found : Option (List ℕ)). option_map (parent_named names) found ∷ parents_of items) fourth ∙ ap (λ (p : Pid). Some p ∷ parents_of items) same
parents_more tables of item words names items spells distinct before = refl

-- the processes that stand before

processes_at_depth : (context : ContextValue) (after : Option ℕ) → (context_at_depth context after).processes ≡ context.processes
processes_at_depth context None = refl
processes_at_depth context (Some depth) = refl

processes_after : (context : ContextValue) (item : ScriptLine) → (context_after context item).processes ≡ names_after context.processes (process_named item)
processes_after context (Do line) = processes_at_depth (context_with_variables context line) (depth_after context.depth (kind_of line))
processes_after context item = refl

processes_moved : (context : ContextValue) (item : ScriptLine) (items : List ScriptLine) → context.processes ++ process_names (item ∷ items) ≡ (context_after context item).processes ++ process_names items
processes_moved context (Process name limit) items = sym (append_assoc context.processes (name ∷ []) (process_names items))
processes_moved context (Child name parent) items = sym (append_assoc context.processes (name ∷ []) (process_names items))
processes_moved context (Do line) items = ap (λ names. names ++ process_names items) (sym (processes_after context (Do line)))
processes_moved context item items = refl

first_processes : (names more all : List (List ℕ)) → all ≡ names ++ more → names ≡ take (length names) all
first_processes names more all is =
    let whole : length names ≤ length names = omega arith in
    sym (ap (take (length names)) is ∙ take-append-le (length names) names more whole ∙ take_all (length names) names whole)

parents_of_lines : (tables : Tables) → are_distinct bytes_eq tables.processes ≡ true → (context : ContextValue) (lines : List (List ℕ)) (items : List ScriptLine) → SpellsScriptLines tables context lines items
    → tables.processes ≡ context.processes ++ process_names items → parents_from context.processes (map words_of lines) ≡ parents_of items
parents_of_lines tables distinct =
    along tables (λ context lines items. tables.processes ≡ context.processes ++ process_names items → parents_from context.processes (map words_of lines) ≡ parents_of items) (record {
      ends = λ context closed is. refl;
      skips = λ context line lines items printable skipped others is. let none = names_skipped line skipped in rw none.process (others is);
      goes_on = λ context line lines item items is others agree.
          let named = item_names tables (length context.processes) item (words_of line) is.spells in
          let later : parents_from (names_after context.processes (process_named item)) (map words_of lines) ≡ parents_of items =
          ap (λ names. parents_from names (map words_of lines)) (sym (processes_after context item)) ∙ others (agree ∙ processes_moved context item items) in
          let before = first_processes context.processes (process_names (item ∷ items)) tables.processes agree in
          rw (named.process, later) (parents_more tables (length context.processes) item (words_of line) context.processes items is.spells distinct before);
    })

-- the parents of a text's processes are those of its script
pub parents_agree : (tables : Tables) (lines : List (List ℕ)) (items : List ScriptLine) → SpellsScriptLines tables first_context lines items → tables.processes ≡ process_names items
    → (tables_of_lines lines).parents ≡ map (λ process. process.parent) (with_limits [] (filter_map process_of_item items))
unfolding tables_of_lines
parents_agree tables lines items spells agree =
    let once = declared_once tables lines items spells in
    let distinct : are_distinct bytes_eq tables.processes ≡ true = ap (are_distinct bytes_eq) agree ∙ once.processes in
    let few = few_follow tables first_context lines items spells few_before in
    let parents = parents_of_lines tables distinct first_context lines items spells agree in
    all_taken 64 (λ process. process.parent) (filter_map process_of_item items) _ parents (omega (arith, few.processes)) ∙ sym (kept-with_limits (λ process. process.parent) parent_kept (filter_map process_of_item items))
