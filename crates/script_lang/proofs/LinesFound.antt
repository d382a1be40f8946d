-- What lines are read as, they spell.
use Rattle.std.proofs.Common.{◌≡◌, ℕ, ◌+◌, Bool, true, false, cond, not, ◌==◌, List, [], ◌∷◌, ◌++◌, length, Option, Some, None, Result, Ok, Err, refl, sym, ap, ◌∙◌, subst, inl, inr}
use Rattle.std.specs.Prelude.{map, filter_map, flat_map, nat_le}
use Rattle.std.specs.List.{list_all, cons_option, onto_first}
use Rattle.std.proofs.lemmas.Bool.{false≢true, and_from, and_parts}
use Rattle.line_text.specs.Types.{PathId}
use Rattle.line_text.specs.Words.{has_name, words_from, words_of, words_with}
use Rattle.line_text.specs.declared.mode.Mode.TheVariants.{Between, Word as InWord, Text}
use Rattle.script_lang.specs.Types.{Reason}
use Rattle.line_forms.specs.declared.reason.Reason.TheVariants.{Byte, Twice, Many, Body as Misplaced}
use Rattle.line_forms.specs.Words.{ArePaths, Tables}
use Rattle.line_reader.specs.Words.{Reader, Rest, rest_of}
use Rattle.script_lang.specs.declared.bad.Bad.{Bad}
use Rattle.script_lang.specs.declared.item.ScriptLine.{ScriptLine}
use Rattle.script_lang.specs.declared.item.ScriptLineRead.{ScriptLineRead}
use Rattle.script_lang.specs.Context.{ContextValue, is_closed, is_declared_twice, is_over_limit, is_misplaced, place_fault, context_after}
use Rattle.script_lang.specs.Items.{item_in_context}
use Rattle.script_lang.specs.Parsing.{ScriptLinesRead, is_skipped, is_printable_line, item_found, spelling_with, words_spelling, line_spelling, result_at_place, result_unless, line_read, items_read, first_unknown, with_item, line_then, result_at_end, lines_read}
use Rattle.script_lang.specs.Spelled.{is_of_place, is_of_version, MayStand, SpellsScriptLines, path_uses}
use Rattle.script_lang.specs.TextTables.{path_of_words}
use Rattle.script_lang.proofs.ItemFound.{SpelledItem, MaySpell, item_spells}
use Rattle.script_lang.proofs.LinePaths.{is_used}
use Rattle.script_lang.proofs.OfPlace.{given_is, of_place}

-- a line that is not skipped has a word

onto_some : (b : ℕ) (words : List (List ℕ)) → onto_first b words ≡ [] → ⊥
onto_some b [] e = cc
onto_some b (word ∷ words) e = cc

word_if : (space quote : Bool) (b : ℕ) (bs : List ℕ) → (is_skipped bs ≡ false → words_of bs ≡ [] → ⊥) → cond space (is_skipped bs) (b == 35) ≡ false
    → words_with b Between (cond space Between (cond quote Text InWord)) (words_from (cond space Between (cond quote Text InWord)) bs) ≡ [] → ⊥
word_if true quote b bs later read none = later read none
word_if false true b bs later read none = onto_some b (words_from Text bs) none
word_if false false b bs later read none = onto_some b (words_from InWord bs) none

some_word : (line : List ℕ) → is_skipped line ≡ false → words_of line ≡ [] → ⊥
some_word [] read none = false≢true (sym read)
some_word (b ∷ bs) read none = word_if (b == 32) (b == 34) b bs (some_word bs) read none

-- a line by its spelling

record IsLine (version : ℕ) (tables : Tables) (of : ℕ) (line : List ℕ) (item : ScriptLine) : Type 0 where
  printable : is_printable_line line ≡ true
  read : is_skipped line ≡ false
  is : SpelledItem version tables of (words_of line) item

record IsNoLine (line : List ℕ) : Type 0 where
  printable : is_printable_line line ≡ true
  skipped : is_skipped line ≡ true

answer_found : (version : ℕ) (tables : Tables) (of : ℕ) (word : List ℕ) (words : List (List ℕ)) (read : Reader ScriptLine) (answer : Result (ScriptLine × Rest) Reason) (found : ScriptLineRead) → MaySpell version tables of word (Some read) → is_used tables (path_of_words (word ∷ words)) ≡ true
    → read (rest_of words) ≡ answer → item_found answer ≡ Ok (Some found) → found.known ≡ true → SpelledItem version tables of (word ∷ words) found.item
answer_found version tables of word words read (Err reason) found spells used is e known = cc
answer_found version tables of word words read (Ok given) found spells used is e known =
    let same = given_is given found e in
    subst (SpelledItem version tables of (word ∷ words)) (ap (λ f. f.item) same) (spells.found read words given.0 given.1 refl used is (ap (λ f. f.known) same ∙ known))

given_found : (version : ℕ) (tables : Tables) (of : ℕ) (word : List ℕ) (words : List (List ℕ)) (given : Option (Reader ScriptLine)) (found : ScriptLineRead) → MaySpell version tables of word given → is_used tables (path_of_words (word ∷ words)) ≡ true → spelling_with words given ≡ Ok (Some found) → found.known ≡ true → SpelledItem version tables of (word ∷ words) found.item
given_found version tables of word words None found spells used e known = cc
given_found version tables of word words (Some read) found spells used e known = answer_found version tables of word words read (read (rest_of words)) found spells used refl e known

words_found : (version : ℕ) (tables : Tables) (context : ContextValue) (words : List (List ℕ)) (found : ScriptLineRead) → nat_le 1 version ≡ true → is_used tables (path_of_words words) ≡ true → words_spelling version tables context words ≡ Ok (Some found) → found.known ≡ true → SpelledItem version tables (length context.processes) words found.item
words_found version tables context [] found some used e known = cc
words_found version tables context (word ∷ words) found some used e known =
    given_found version tables (length context.processes) word words (item_in_context version tables context word) found (item_spells context.place version tables (length context.processes) word some) used e known

spelled_if : (printable skipped : Bool) (version : ℕ) (tables : Tables) (context : ContextValue) (line : List ℕ) (found : ScriptLineRead) → nat_le 1 version ≡ true → is_printable_line line ≡ printable → is_skipped line ≡ skipped → is_used tables (path_of_words (words_of line)) ≡ true
    → cond (not printable) (Err Byte) (cond skipped (Ok None) (words_spelling version tables context (words_of line))) ≡ Ok (Some found) → found.known ≡ true → IsLine version tables (length context.processes) line found.item
spelled_if false skipped version tables context line found some p s used e known = cc
spelled_if true true version tables context line found some p s used e known = cc
spelled_if true false version tables context line found some p s used e known = record { printable = p; read = s; is = words_found version tables context (words_of line) found some used e known }

item_line : (version : ℕ) (tables : Tables) (context : ContextValue) (line : List ℕ) (found : ScriptLineRead) → nat_le 1 version ≡ true → is_used tables (path_of_words (words_of line)) ≡ true → line_spelling version tables context line ≡ Ok (Some found) → found.known ≡ true → IsLine version tables (length context.processes) line found.item
unfolding line_spelling
item_line version tables context line found some used e known = spelled_if (is_printable_line line) (is_skipped line) version tables context line found some refl refl used e known

answer_some : (words : List (List ℕ)) (answer : Result (ScriptLine × Rest) Reason) → item_found answer ≡ Ok None → ⊥
answer_some words (Err reason) e = cc
answer_some words (Ok given) e = cc

given_some : (words : List (List ℕ)) (given : Option (Reader ScriptLine)) → spelling_with words given ≡ Ok None → ⊥
given_some words None e = cc
given_some words (Some read) e = answer_some words (read (rest_of words)) e

words_none : (version : ℕ) (tables : Tables) (context : ContextValue) (words : List (List ℕ)) → words_spelling version tables context words ≡ Ok None → words ≡ []
words_none version tables context [] e = refl
words_none version tables context (word ∷ words) e = absurd (given_some words (item_in_context version tables context word) e)

skipped_if : (printable skipped : Bool) (version : ℕ) (tables : Tables) (context : ContextValue) (line : List ℕ) → is_printable_line line ≡ printable → is_skipped line ≡ skipped
    → cond (not printable) (Err Byte) (cond skipped (Ok None) (words_spelling version tables context (words_of line))) ≡ Ok None → IsNoLine line
skipped_if false skipped version tables context line p s e = cc
skipped_if true true version tables context line p s e = record { printable = p; skipped = s }
skipped_if true false version tables context line p s e = absurd (some_word line s (words_none version tables context (words_of line) e))

no_line : (version : ℕ) (tables : Tables) (context : ContextValue) (line : List ℕ) → line_spelling version tables context line ≡ Ok None → IsNoLine line
unfolding line_spelling
no_line version tables context line e = skipped_if (is_printable_line line) (is_skipped line) version tables context line refl refl e

-- a line after others

record IsPlaced (context : ContextValue) (answer : Result (Option ScriptLineRead) Reason) (found : ScriptLineRead) : Type 0 where
  is : answer ≡ Ok (Some found)
  no_fault : place_fault context found.item ≡ None

placed_if : (fault : Option Reason) (context : ContextValue) (given found : ScriptLineRead) → place_fault context given.item ≡ fault → result_unless fault given ≡ Ok (Some found) → IsPlaced context (Ok (Some given)) found
placed_if (Some reason) context given found is e = cc
placed_if None context given found is e =
    let same : given ≡ found = cc in
    record { is = ap (λ (f : ScriptLineRead). Ok (Some f)) same; no_fault = ap (λ (f : ScriptLineRead). place_fault context f.item) (sym same) ∙ is }

placed_found : (context : ContextValue) (answer : Result (Option ScriptLineRead) Reason) (found : ScriptLineRead) → result_at_place context answer ≡ Ok (Some found) → IsPlaced context answer found
placed_found context (Err reason) found e = cc
placed_found context (Ok None) found e = cc
placed_found context (Ok (Some given)) found e = placed_if (place_fault context given.item) context given found refl e

unless_none : (fault : Option Reason) (given : ScriptLineRead) → result_unless fault given ≡ Ok None → ⊥
unless_none None given e = cc
unless_none (Some reason) given e = cc

placed_none : (context : ContextValue) (answer : Result (Option ScriptLineRead) Reason) → result_at_place context answer ≡ Ok None → answer ≡ Ok None
placed_none context (Err reason) e = cc
placed_none context (Ok None) e = refl
placed_none context (Ok (Some given)) e = absurd (unless_none (place_fault context given.item) given e)

-- what has no reason against it may stand

may_if : (twice over misplaced : Bool) (context : ContextValue) (item : ScriptLine) → is_of_place context.place item ≡ true → is_declared_twice context item ≡ twice → is_over_limit context item ≡ over → is_misplaced context item ≡ misplaced
    → cond twice (Some Twice) (cond over (Some Many) (cond misplaced (Some Misplaced) None)) ≡ None → MayStand context item
may_if true over misplaced context item place t o m e = cc
may_if false true misplaced context item place t o m e = cc
may_if false false true context item place t o m e = cc
may_if false false false context item place t o m e = record { of_place = place; once = t; within_limits = o; in_its_place = m }

may_stand : (context : ContextValue) (item : ScriptLine) → is_of_place context.place item ≡ true → place_fault context item ≡ None → MayStand context item
may_stand context item place e = may_if (is_declared_twice context item) (is_over_limit context item) (is_misplaced context item) context item place refl refl refl e

-- lines

-- these lines are these items, the items' paths are in the table, and they are of this version
pub record AreItems (version : ℕ) (tables : Tables) (context : ContextValue) (lines : List (List ℕ)) (items : List ScriptLine) : Type 0 where
  pub spells : SpellsScriptLines tables context lines items
  pub paths : ArePaths tables (flat_map path_uses items)
  pub of_version : list_all (is_of_version version) items ≡ true

are_paths-append : (tables : Tables) (paths more : List PathId) → ArePaths tables paths → ArePaths tables more → ArePaths tables (paths ++ more)
are_paths-append tables [] more known others = others
are_paths-append tables (path ∷ paths) more known others = (known.0, are_paths-append tables paths more known.1 others)

-- each path that these lines use is in the table
abbrev pub are_used : Tables → List (List ℕ) → Bool
are_used tables lines = list_all (has_name tables.paths) (filter_map path_of_words (map words_of lines))

used_parts : (tables : Tables) (used : Option (List ℕ)) (others : List (List ℕ)) → list_all (has_name tables.paths) (cons_option used others) ≡ true → (is_used tables used ≡ true) × (list_all (has_name tables.paths) others ≡ true)
used_parts tables None others all = (refl, all)
used_parts tables (Some used) others all = and_parts (has_name tables.paths used) (list_all (has_name tables.paths) others) all

skipped_too : (version : ℕ) (tables : Tables) (context : ContextValue) (line : List ℕ) (lines : List (List ℕ)) (items : List ScriptLine) → IsNoLine line → AreItems version tables context lines items → AreItems version tables context (line ∷ lines) items
skipped_too version tables context line lines [] none later = record { spells = (none.printable, record { skipped = none.skipped; others = later.spells }); paths = later.paths; of_version = later.of_version }
skipped_too version tables context line lines (item ∷ items) none later = record { spells = (none.printable, inl (record { skipped = none.skipped; others = later.spells })); paths = later.paths; of_version = later.of_version }

item_too : (version : ℕ) (tables : Tables) (context : ContextValue) (line : List ℕ) (lines : List (List ℕ)) (item : ScriptLine) (items : List ScriptLine) → IsLine version tables (length context.processes) line item → MayStand context item → AreItems version tables (context_after context item) lines items
    → AreItems version tables context (line ∷ lines) (item ∷ items)
item_too version tables context line lines item items is may later =
    record {
      spells = (is.printable, inr (record { read = is.read; spells = is.is.spells; may_stand = may; others = later.spells }));
      paths = are_paths-append tables (path_uses item) (flat_map path_uses items) is.is.paths later.paths;
      of_version = and_from _ _ is.is.of_version later.of_version;
    }

record WithItem (given : ScriptLineRead) (answer : Result ScriptLinesRead Bad) (found : ScriptLinesRead) : Type 0 where
  others : ScriptLinesRead
  is : answer ≡ Ok others
  items : found.items ≡ given.item ∷ others.items
  known : given.known ≡ true
  all_known : others.unknown ≡ None

known_if : (known : Bool) (n : ℕ) (unknown : Option ℕ) → first_unknown n known unknown ≡ None → (known ≡ true) × (unknown ≡ None)
known_if true n unknown e = (refl, e)
known_if false n unknown e = cc

with_item-found : (n : ℕ) (given : ScriptLineRead) (answer : Result ScriptLinesRead Bad) (found : ScriptLinesRead) → with_item n given answer ≡ Ok found → found.unknown ≡ None → WithItem given answer found
with_item-found n given (Err fault) found e known = cc
with_item-found n given (Ok others) found e known =
    let same : items_read (given.item ∷ others.items) (first_unknown n given.known others.unknown) ≡ found = cc in
    let all = known_if given.known n others.unknown (ap (λ f. f.unknown) same ∙ known) in
    record { others = others; is = refl; items = sym (ap (λ f. f.items) same); known = all.0; all_known = all.1 }

line_found : (version : ℕ) (tables : Tables) (context : ContextValue) (line : List ℕ) (lines : List (List ℕ)) (found : ScriptLineRead) (items : List ScriptLine) → nat_le 1 version ≡ true → line_read version tables context line ≡ Ok (Some found) → found.known ≡ true → is_used tables (path_of_words (words_of line)) ≡ true
    → AreItems version tables (context_after context found.item) lines items → AreItems version tables context (line ∷ lines) (found.item ∷ items)
unfolding line_read
line_found version tables context line lines found items some e known used later =
    let place = placed_found context (line_spelling version tables context line) found e in
    item_too version tables context line lines found.item items
    (item_line version tables context line found some used place.is known)
    (may_stand context found.item (of_place version tables context line found place.is) place.no_fault)
    later

line_skipped : (version : ℕ) (tables : Tables) (context : ContextValue) (line : List ℕ) → line_read version tables context line ≡ Ok None → IsNoLine line
unfolding line_read
line_skipped version tables context line e = no_line version tables context line (placed_none context (line_spelling version tables context line) e)

line_step : (version : ℕ) (tables : Tables) (n : ℕ) (context : ContextValue) (line : List ℕ) (lines : List (List ℕ)) (answer : Result (Option ScriptLineRead) Reason) (found : ScriptLinesRead) → nat_le 1 version ≡ true → line_read version tables context line ≡ answer
    → line_then n context (λ after. lines_read version tables (n + 1) after lines) answer ≡ Ok found → found.unknown ≡ None → is_used tables (path_of_words (words_of line)) ≡ true
    → ((after : ContextValue) (others : ScriptLinesRead) → lines_read version tables (n + 1) after lines ≡ Ok others → others.unknown ≡ None → AreItems version tables after lines others.items)
    → AreItems version tables context (line ∷ lines) found.items
line_step version tables n context line lines (Err reason) found some is e known used later = cc
line_step version tables n context line lines (Ok None) found some is e known used later =
    skipped_too version tables context line lines found.items (line_skipped version tables context line is) (later context found e known)
line_step version tables n context line lines (Ok (Some given)) found some is e known used later =
    let one = with_item-found n given (lines_read version tables (n + 1) (context_after context given.item) lines) found e known in
    subst (AreItems version tables context (line ∷ lines)) (sym one.items) (
    line_found version tables context line lines given one.others.items some is one.known used (later (context_after context given.item) one.others one.is one.all_known))

end_if : (closed : Bool) (n version : ℕ) (tables : Tables) (context : ContextValue) (found : ScriptLinesRead) → is_closed context ≡ closed → result_at_end n closed ≡ Ok found → AreItems version tables context [] found.items
end_if false n version tables context found is e = cc
end_if true n version tables context found is e =
    let same : items_read [] None ≡ found = cc in
    subst (AreItems version tables context []) (ap (λ f. f.items) same) (record { spells = is; paths = tt; of_version = refl })

pub lines_found : (version : ℕ) (tables : Tables) (n : ℕ) (context : ContextValue) (lines : List (List ℕ)) (found : ScriptLinesRead) → nat_le 1 version ≡ true → lines_read version tables n context lines ≡ Ok found → found.unknown ≡ None → are_used tables lines ≡ true
    → AreItems version tables context lines found.items
lines_found version tables n context [] found some e known used = end_if (is_closed context) n version tables context found refl e
lines_found version tables n context (line ∷ lines) found some e known used =
    let parts = used_parts tables (path_of_words (words_of line)) (filter_map path_of_words (map words_of lines)) used in
    line_step version tables n context line lines (line_read version tables context line) found some refl e known parts.0 (λ after others is all.
    lines_found version tables (n + 1) after lines others some is all parts.1)
