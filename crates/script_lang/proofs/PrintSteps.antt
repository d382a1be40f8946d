-- Lines after a text, one after another.
use Rattle.std.proofs.Common.{◌≡◌, ℕ, zero, suc, ◌+◌, ◌<◌, ◌≤◌, false, ◌==◌, min, List, [], ◌∷◌, ◌++◌, length, take, drop, get_or, map, refl, sym, ap, ◌∙◌, inl, inr, arith}
use Rattle.std.proofs.lemmas.Bool.{false≢true, cases_lt}
use Rattle.std.specs.List.{onto_first}
use Rattle.std.specs.Prelude.{codes}
use Rattle.std.proofs.lemmas.List.{append_assoc, take_more, take_all, drop_all, map-append}
use Rattle.line_text.specs.Types.{Tid}
use Rattle.line_text.specs.Words.{joined_words, spaced_words, text_of_lines}
use Rattle.line_text.proofs.JoinedWords.{joined_first}
use Rattle.line_text.proofs.TextLines.{text_of_lines-append}
use Rattle.script_lang.specs.Types.{Line}
use Rattle.line_forms.specs.declared.line.Line.TheVariants.{End}
use Rattle.line_forms.specs.Words.{Tables, line_words, thread_word}
use Rattle.script_lang.specs.declared.item.ScriptLine.{ScriptLine}
use Rattle.script_lang.specs.declared.item.ScriptLine.TheVariants.{Budget, Do, Schedule}
use Rattle.script_lang.specs.Canonical.{item_line}
use Rattle.script_lang.specs.Printed.{items_text}
use Rattle.script_lang.specs.Scripts.{rows_from, body_items, schedule_items, part_items, items_of, tables_of}
use Rattle.script_lang.specs.Value.{ScriptValue}

pub items_text-append : (tables : Tables) (items others : List ScriptLine) → items_text tables (items ++ others) ≡ items_text tables items ++ items_text tables others
items_text-append tables items others = ap text_of_lines (map-append (item_line tables) items others) ∙ text_of_lines-append (map (item_line tables) items) (map (item_line tables) others)

-- lines after others
pub put_items : (tables : Tables) (text : List ℕ) (items others : List ScriptLine) → (text ++ items_text tables items) ++ items_text tables others ≡ text ++ items_text tables (items ++ others)
put_items tables text items others = append_assoc text (items_text tables items) (items_text tables others) ∙ ap (λ rest. text ++ rest) (sym (items_text-append tables items others))

-- one line after others
pub put_item : (tables : Tables) (text : List ℕ) (item : ScriptLine) → (text ++ item_line tables item) ++ 10 ∷ [] ≡ text ++ items_text tables (item ∷ [])
put_item tables text item = append_assoc text (item_line tables item) (10 ∷ [])

pub body_more : (tables : Tables) (body : List Line) (i : ℕ) (line d : Line) (text : List ℕ) → i < length body → line ≡ get_or body i d
    → ((text ++ items_text tables (map Do (take i body))) ++ joined_words (line_words tables line)) ++ 10 ∷ [] ≡ text ++ items_text tables (map Do (take (i + 1) body))
body_more tables body i line d text within is =
    put_item tables (text ++ items_text tables (map Do (take i body))) (Do line) ∙
    put_items tables text (map Do (take i body)) (Do line ∷ []) ∙
    ap (λ items. text ++ items_text tables items) (
    sym (map-append Do (take i body) (line ∷ [])) ∙ ap (map Do) (ap (λ y. take i body ++ y ∷ []) is ∙ sym (take_more body i d within)))

-- the first row of a schedule
pub first_row : (room : ℕ) (thread : Tid) (threads : List Tid) → rows_from room (thread ∷ threads) ≡ (thread ∷ take room threads) ∷ rows_from 15 (drop room threads)
first_row zero thread threads = refl
first_row (suc room) thread [] = refl
first_row (suc room) thread (next ∷ threads) = ap (onto_first thread) (first_row room next threads)

pub body_ends : (tables : Tables) (text : List ℕ) (body : List Line) → ((text ++ items_text tables (map Do body)) ++ codes "end") ++ 10 ∷ [] ≡ text ++ items_text tables (body_items body)
body_ends tables text body = put_item tables (text ++ items_text tables (map Do body)) (Do End) ∙ put_items tables text (map Do body) (Do End ∷ [])

pub schedule_ends : (tables : Tables) (text : List ℕ) (threads : List Tid) → ((text ++ codes "schedule") ++ spaced_words (map (thread_word tables) threads)) ++ 10 ∷ [] ≡ text ++ items_text tables (Schedule threads ∷ [])
schedule_ends tables text threads =
    ap (λ line. line ++ 10 ∷ []) (append_assoc text (codes "schedule") (spaced_words (map (thread_word tables) threads)) ∙ ap (λ rest. text ++ rest) (sym (joined_first (codes "schedule") (map (thread_word tables) threads)))) ∙
    put_item tables text (Schedule threads)

-- a row is 16, or what there is
row_same : {X : Type 0} (xs : List X) (n : ℕ) → n ≡ min (length xs) 16 → (take n xs ≡ take 16 xs) × (drop n xs ≡ drop 16 xs)
row_same xs n is =
    elim (cases_lt 16 (length xs)) [
      | inl more ↦ (let e : n ≡ 16 = omega arith in (ap (λ k. take k xs) e, ap (λ k. drop k xs) e))
      | inr all ↦ (let e : length xs ≤ n = omega arith in (take_all n xs e ∙ sym (take_all 16 xs all), drop_all n xs e ∙ sym (drop_all 16 xs all)))
    ]

some_row : (threads : List Tid) → false ≡ (length threads == 0) → rows_from 15 threads ≡ take 16 threads ∷ rows_from 15 (drop 16 threads)
some_row [] some = absurd (false≢true some)
some_row (thread ∷ threads) some = first_row 15 thread threads

pub row_more : (tables : Tables) (text : List ℕ) (threads row others : List Tid) (n : ℕ) → false ≡ (length threads == 0) → n ≡ min (length threads) 16 → row ≡ take n threads → others ≡ drop n threads
    → (text ++ items_text tables (Schedule row ∷ [])) ++ items_text tables (schedule_items others) ≡ text ++ items_text tables (schedule_items threads)
row_more tables text threads row others n some is front back =
    let same = row_same threads n is in
    let rows : row ∷ rows_from 15 others ≡ rows_from 15 threads = rw (front, back, same.0, same.1) (sym (some_row threads some)) in
    put_items tables text (Schedule row ∷ []) (schedule_items others) ∙ ap (λ rows. text ++ items_text tables (map Schedule rows)) rows

-- the lines of a script after the first, with its own names
pub script_put : (tables : Tables) (script : ScriptValue) (text : List ℕ) → tables ≡ tables_of script
    → ((text ++ items_text tables (Budget script.budget ∷ [])) ++ items_text tables (part_items script.order script.processes script.threads script.procedures)) ++ items_text tables (schedule_items script.schedule)
    ≡ text ++ items_text (tables_of script) (items_of script)
script_put tables script text names =
    let parts = part_items script.order script.processes script.threads script.procedures in
    ap (λ front. front ++ items_text tables (schedule_items script.schedule)) (put_items tables text (Budget script.budget ∷ []) parts) ∙
    put_items tables text (Budget script.budget ∷ parts) (schedule_items script.schedule) ∙
    ap (λ t. text ++ items_text t (items_of script)) names
