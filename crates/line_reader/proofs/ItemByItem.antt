-- Lists of operands, read one by one.
use Rattle.std.proofs.Common.{◌≡◌, ℕ, ◌<◌, Bool, true, false, cond, List, [], ◌∷◌, ◌++◌, length, Option, Some, None, Result, Ok, Err, refl, ap, sym, ◌∙◌, append_assoc, append-nil, arith}
use Rattle.std.specs.Prelude.{is_some}
use Rattle.std.proofs.lemmas.Bool.{false≢true}
use Rattle.line_reader.specs.Types.{Reason}
use Rattle.line_reader.specs.Combinators.{Rest, Reader, pure, value_with_rest, then_read, items_from, items_to, ◌>>=◌}
use Rattle.line_reader.specs.ListContracts.{next_item, item_unless}
use Rattle.line_reader.proofs.SkippedWords.{SkipsWords, at_words, moved}

-- these items in front of those that a reading gives
abbrev pub onto : {A : Type 0} → List A → Result (List A × Rest) Reason → Result (List A × Rest) Reason
onto front (Err reason) = Err reason
onto front (Ok found) = Ok (front ++ found.0, found.1)

abbrev onto_found : {A : Type 0} → Rest → List A → Result (List A × Rest) Reason
onto_found rest items = Ok (items, rest)

pub onto-onto : {A : Type 0} (xs ys : List A) (answer : Result (List A × Rest) Reason) → onto xs (onto ys answer) ≡ onto (xs ++ ys) answer
onto-onto xs ys (Err reason) = refl
onto-onto xs ys (Ok found) = rw append_assoc refl

-- the items are those of a reading after one more
abbrev pub first_then : {A : Type 0} → Reader (List A) → A → Reader (List A)
first_then read first = read >>= (λ others. pure (first ∷ others))

pub first_then-onto : {A : Type 0} (first : A) (answer : Result (List A × Rest) Reason) → then_read (λ others. pure (first ∷ others)) answer ≡ onto (first ∷ []) answer
first_then-onto first (Err reason) = refl
first_then-onto first (Ok found) = refl

pub first_at_words : {A : Type 0} (read : Reader (List A)) → ((words : List (List ℕ)) (rest : Rest) → read (at_words words rest) ≡ read rest) → (words : List (List ℕ)) (found : Result (A × Rest) Reason) → then_read (first_then read) (moved words found) ≡ then_read (first_then read) found
first_at_words read same words (Err reason) = refl
first_at_words read same words (Ok found) = ap (then_read (λ others. pure (found.0 ∷ others))) (same words found.1)

pub if_at : {A : Type 0} (test : Bool) (left right : Reader A) (one other : Rest) → left one ≡ left other → right one ≡ right other → cond test left right one ≡ cond test left right other
if_at true left right one other e f = e
if_at false left right one other e f = f

pub items_from-at_words : {A : Type 0} (stops : List ℕ → Bool) (read : List ℕ → Reader A) → ((word : List ℕ) → SkipsWords (read word)) → (words others : List (List ℕ)) (rest : Rest) → items_from stops read words (at_words others rest) ≡ items_from stops read words rest
items_from-at_words stops read skips [] others rest = refl
items_from-at_words stops read skips (word ∷ words) others rest =
    if_at (stops word) (value_with_rest (word ∷ words) []) (read word >>= first_then (items_from stops read words)) (at_words others rest) rest refl (
    ap (then_read (first_then (items_from stops read words))) ((skips word).same others rest) ∙
    first_at_words (items_from stops read words) (λ o r. items_from-at_words stops read skips words o r) others (read word rest))

-- the items after the next one
abbrev pub then_all : {A : Type 0} → Reader (List A) → Option A → Reader (List A)
then_all all None rest = pure [] rest
then_all all (Some first) rest = onto (first ∷ []) (all rest)

-- a list is read one item after another, of which each takes a word
pub record IsByItem {A : Type 0} (all : Reader (List A)) (next : Reader (Option A)) : Type 0 where
  pub step : (rest : Rest) → all rest ≡ then_read (then_all all) (next rest)
  pub fewer : (rest new : Rest) (x : A) → next rest ≡ Ok (Some x, new) → length new.words < length rest.words

-- a loop that takes one item after another

abbrev given : {A : Type 0} → Rest → Option A → Result (Option A × Rest) Reason
given rest item = Ok (item, rest)

pub items-kept : {A : Type 0} {all : Reader (List A)} {next : Reader (Option A)} → IsByItem all next → (xs : List A) (x : A) (item : Option A) (old new : Rest) (answer : Result (List A × Rest) Reason)
    → onto xs (all old) ≡ answer → next old ≡ Ok (item, new) → item ≡ Some x → onto (xs ++ x ∷ []) (all new) ≡ answer
items-kept {all = all} by_item xs x item old new answer invariant found is =
    sym (onto-onto xs (x ∷ []) (all new)) ∙
    ap (onto xs) (sym (by_item.step old ∙ ap (then_read (then_all all)) (found ∙ ap (given new) is))) ∙
    invariant

pub items-ended : {A : Type 0} {all : Reader (List A)} {next : Reader (Option A)} → IsByItem all next → (xs : List A) (item : Option A) (old new : Rest) (answer : Result (List A × Rest) Reason)
    → onto xs (all old) ≡ answer → next old ≡ Ok (item, new) → item ≡ None → answer ≡ Ok (xs, new)
items-ended {all = all} by_item xs item old new answer invariant found is =
    sym invariant ∙
    ap (onto xs) (by_item.step old ∙ ap (then_read (then_all all)) (found ∙ ap (given new) is)) ∙
    ap (onto_found new) (append-nil xs)

pub items-failed : {A : Type 0} {all : Reader (List A)} {next : Reader (Option A)} → IsByItem all next → (xs : List A) (old : Rest) (reason : Reason) (answer : Result (List A × Rest) Reason)
    → onto xs (all old) ≡ answer → next old ≡ Err reason → answer ≡ Err reason
items-failed {all = all} by_item xs old reason answer invariant found =
    sym invariant ∙ ap (onto xs) (by_item.step old ∙ ap (then_read (then_all all)) found)

pub items-fewer : {A : Type 0} {all : Reader (List A)} {next : Reader (Option A)} → IsByItem all next → (x : A) (item : Option A) (old new : Rest) → next old ≡ Ok (item, new) → item ≡ Some x → length new.words < length old.words
items-fewer by_item x item old new found is = by_item.fewer old new x (found ∙ ap (given new) is)

-- operands to a stop

item_found : {A : Type 0} (stops : List ℕ → Bool) (read : List ℕ → Reader A) → ((word : List ℕ) → SkipsWords (read word)) → (words : List (List ℕ)) (found : Result (A × Rest) Reason) → then_read (first_then (items_from stops read words)) found ≡ then_read (then_all (items_to stops read)) (then_read (λ item. pure (Some item)) (moved words found))
item_found stops read skips words (Err reason) = refl
item_found stops read skips words (Ok found) =
    first_then-onto found.0 (items_from stops read words found.1) ∙
    ap (onto (found.0 ∷ [])) (sym (items_from-at_words stops read skips words words found.1))

word_read : {A : Type 0} (stops : List ℕ → Bool) (read : List ℕ → Reader A) → ((word : List ℕ) → SkipsWords (read word)) → (test : Bool) (word : List ℕ) (words : List (List ℕ)) (in_range known : Bool)
    → let rest : Rest = record { words = word ∷ words; in_range = in_range; known = known } in
    cond test (value_with_rest (word ∷ words) []) (read word >>= first_then (items_from stops read words)) rest ≡ then_read (then_all (items_to stops read)) (item_unless read test rest)
word_read stops read skips true word words in_range known = refl
word_read stops read skips false word words in_range known =
    let rest : Rest = record { words = word ∷ words; in_range = in_range; known = known } in
    item_found stops read skips words (read word rest) ∙
    ap (λ found. then_read (then_all (items_to stops read)) (then_read (λ item. pure (Some item)) found)) (sym ((skips word).same words rest))

next_of_words : {A : Type 0} (stops : List ℕ → Bool) (read : List ℕ → Reader A) → ((word : List ℕ) → SkipsWords (read word)) → (words : List (List ℕ)) (in_range known : Bool)
    → let rest : Rest = record { words = words; in_range = in_range; known = known } in
    items_to stops read rest ≡ then_read (then_all (items_to stops read)) (next_item stops read rest)
next_of_words stops read skips [] in_range known = refl
next_of_words stops read skips (word ∷ words) in_range known = word_read stops read skips (stops word) word words in_range known

items_to-next : {A : Type 0} (stops : List ℕ → Bool) (read : List ℕ → Reader A) → ((word : List ℕ) → SkipsWords (read word)) → (rest : Rest) → items_to stops read rest ≡ then_read (then_all (items_to stops read)) (next_item stops read rest)
items_to-next stops read skips rest = next_of_words stops read skips rest.words rest.in_range rest.known

-- whether a reading gave an item, and the words that it left
abbrev pub is_taken : {A : Type 0} → Result (Option A × Rest) Reason → Bool
is_taken (Err reason) = false
is_taken (Ok found) = is_some found.0

abbrev pub words_left : {A : Type 0} → Result (Option A × Rest) Reason → List (List ℕ)
words_left (Err reason) = []
words_left (Ok found) = found.1.words

fewer_after : {A : Type 0} (words : List (List ℕ)) (found : Result (A × Rest) Reason) (x : A) (new : Rest) → then_read (λ item. pure (Some item)) (moved words found) ≡ Ok (Some x, new) → new.words ≡ words
fewer_after words (Err reason) x new e = absurd (false≢true (ap is_taken e))
fewer_after words (Ok found) x new e = sym (ap words_left e)

fewer_words : {A : Type 0} (stops : List ℕ → Bool) (read : List ℕ → Reader A) → ((word : List ℕ) → SkipsWords (read word)) → (test : Bool) (word : List ℕ) (words : List (List ℕ)) (in_range known : Bool) (x : A) (new : Rest)
    → let rest : Rest = record { words = word ∷ words; in_range = in_range; known = known } in
    item_unless read test rest ≡ Ok (Some x, new) → length new.words < length (word ∷ words)
fewer_words stops read skips true word words in_range known x new e = absurd (false≢true (ap is_taken e))
fewer_words stops read skips false word words in_range known x new e =
    let rest : Rest = record { words = word ∷ words; in_range = in_range; known = known } in
    let moved_found = ap (then_read (λ item. pure (Some item))) (sym ((skips word).same words rest)) ∙ e in
    let left : new.words ≡ words = fewer_after words (read word rest) x new moved_found in
    let lengths : length new.words ≡ length words = ap length left in
    omega arith

fewer_of_words : {A : Type 0} (stops : List ℕ → Bool) (read : List ℕ → Reader A) → ((word : List ℕ) → SkipsWords (read word)) → (words : List (List ℕ)) (in_range known : Bool) (x : A) (new : Rest)
    → let rest : Rest = record { words = words; in_range = in_range; known = known } in
    next_item stops read rest ≡ Ok (Some x, new) → length new.words < length words
fewer_of_words stops read skips [] in_range known x new e = absurd (false≢true (ap is_taken e))
fewer_of_words stops read skips (word ∷ words) in_range known x new e = fewer_words stops read skips (stops word) word words in_range known x new e

pub items_by_item : {A : Type 0} (stops : List ℕ → Bool) (read : List ℕ → Reader A) → ((word : List ℕ) → SkipsWords (read word)) → IsByItem (items_to stops read) (next_item stops read)
items_by_item stops read skips = record {
  step = items_to-next stops read skips;
  fewer = λ rest new x found. fewer_of_words stops read skips rest.words rest.in_range rest.known x new found;
}
