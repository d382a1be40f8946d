-- Words with a space before each.
use Rattle.std.proofs.Common.{◌≡◌, ◌≤◌, ℕ, List, [], ◌∷◌, ◌++◌, length, refl, ap, ◌∙◌, arith, append_assoc, append-nil, get_or, take, sym, ◌+◌, ◌<◌}
use Rattle.std.specs.Prelude.{codes, flat_map, map}
use Rattle.dk_base.specs.declared.request.AlertMode.{AlertMode}
use Rattle.dk_base.specs.declared.request.AlertMode.TheVariants.{Set}
use Rattle.dk_base.specs.declared.request.Param.{Param}
use Rattle.dk_base.specs.declared.request.Param.TheVariants.{DataMax}
use Rattle.std.proofs.lemmas.List.{take_all, take_more}
use Rattle.std.proofs.lemmas.Grind.{flat_map-append}
use Rattle.line_text.specs.Words.{joined_words, spaced_words}
use Rattle.line_text.proofs.JoinedWords.{spaced_words-append, joined_first}
use Rattle.line_forms.specs.Words.{mode_word, param_word}

pub spaced_map : {X : Type 0} (word_of : X → List ℕ) (xs : List X) → spaced_words (map word_of xs) ≡ flat_map (λ x. 32 ∷ word_of x) xs
spaced_map word_of [] = refl
spaced_map word_of (x ∷ xs) = ap (λ rest. (32 ∷ word_of x) ++ rest) (spaced_map word_of xs)

pub spaced_flat : {X : Type 0} (words_of : X → List (List ℕ)) (xs : List X) → spaced_words (flat_map words_of xs) ≡ flat_map (λ x. spaced_words (words_of x)) xs
spaced_flat words_of [] = refl
spaced_flat words_of (x ∷ xs) = spaced_words-append (words_of x) (flat_map words_of xs) ∙ ap (λ rest. spaced_words (words_of x) ++ rest) (spaced_flat words_of xs)

six_parts : (old a b c d e f : List ℕ) → (((((old ++ a) ++ b) ++ c) ++ d) ++ e) ++ f ≡ old ++ (a ++ (b ++ (c ++ (d ++ (e ++ f)))))
six_parts old a b c d e f = simp append_assoc

four_parts : (old a b c d : List ℕ) → (((old ++ a) ++ b) ++ c) ++ d ≡ old ++ (a ++ (b ++ (c ++ d)))
four_parts old a b c d = simp append_assoc

-- the words of a call, put one after another
pub call_put : (old fd string : List ℕ) (words : List (List ℕ)) (rsize t1 t2 t3 t4 new : List ℕ) →
    t1 ≡ (old ++ codes " call") ++ spaced_words (fd ∷ []) → t2 ≡ t1 ++ 32 ∷ string → t3 ≡ t2 ++ spaced_words words → t4 ≡ t3 ++ codes " rsize" → new ≡ t4 ++ 32 ∷ rsize →
    new ≡ old ++ spaced_words (codes "call" ∷ fd ∷ string ∷ words ++ codes "rsize" ∷ rsize ∷ [])
call_put old fd string words rsize t1 t2 t3 t4 new e1 e2 e3 e4 e5 =
    let parts = six_parts old (codes " call") (32 ∷ fd) (32 ∷ string) (spaced_words words) (codes " rsize") (32 ∷ rsize) in
    let first : t1 ≡ (old ++ codes " call") ++ 32 ∷ fd = e1 ∙ ap (λ end. (old ++ codes " call") ++ 32 ∷ end) (append-nil fd) in
    let last : spaced_words (words ++ codes "rsize" ∷ rsize ∷ []) ≡ spaced_words words ++ (codes " rsize" ++ 32 ∷ rsize) =
    spaced_words-append words (codes "rsize" ∷ rsize ∷ []) ∙ ap (λ end. spaced_words words ++ (codes " rsize" ++ 32 ∷ end)) (append-nil rsize) in
    e5
    ∙ ap (λ t. t ++ 32 ∷ rsize) (e4 ∙ ap (λ t. t ++ codes " rsize") (e3 ∙ ap (λ t. t ++ spaced_words words) (e2 ∙ ap (λ t. t ++ 32 ∷ string) first)))
    ∙ parts
    ∙ ap (λ rest. old ++ (codes " call" ++ ((32 ∷ fd) ++ ((32 ∷ string) ++ rest)))) (sym last)

-- the first word of a line has no space before it
pub joined_from : (first : List ℕ) (words : List (List ℕ)) → joined_words (first ∷ words) ≡ first ++ spaced_words words
joined_from first words = joined_first first words

pub mode_short : (mode : AlertMode) → length (mode_word mode) ≤ 6
mode_short Set = omega arith
mode_short mode = omega arith

pub param_short : (param : Param) → length (param_word param) ≤ 8
param_short DataMax = omega arith
param_short param = omega arith

-- After a loop over items whose words were put one after another, all are there.
pub all_put : {X : Type 0} (word_of : X → List ℕ) (xs : List X) (i : ℕ) (old new : List ℕ) → length xs ≤ i →
    new ≡ old ++ flat_map (λ x. 32 ∷ word_of x) (take i xs) → new ≡ old ++ spaced_words (map word_of xs)
all_put word_of xs i old new all e =
    e ∙ ap (λ rest. old ++ rest) (ap (flat_map (λ x. 32 ∷ word_of x)) (take_all i xs all) ∙ sym (spaced_map word_of xs))

pub all_words_put : {X : Type 0} (words_of : X → List (List ℕ)) (xs : List X) (i : ℕ) (old new : List ℕ) → length xs ≤ i →
    new ≡ old ++ flat_map (λ x. spaced_words (words_of x)) (take i xs) → new ≡ old ++ spaced_words (flat_map words_of xs)
all_words_put words_of xs i old new all e =
    e ∙ ap (λ rest. old ++ rest) (ap (flat_map (λ x. spaced_words (words_of x))) (take_all i xs all) ∙ sym (spaced_flat words_of xs))

-- a turn of a loop that puts the text of another item
pub one_more_put : (text_of : ℕ → List ℕ) (xs : List ℕ) (i : ℕ) (old text new : List ℕ) → i < length xs →
    text ≡ old ++ flat_map text_of (take i xs) → new ≡ text ++ text_of (get_or xs i 0) → new ≡ old ++ flat_map text_of (take (i + 1) xs)
one_more_put text_of xs i old text new within before after =
    after
    ∙ ap (λ t. t ++ text_of (get_or xs i 0)) before
    ∙ append_assoc old (flat_map text_of (take i xs)) (text_of (get_or xs i 0))
    ∙ ap (λ rest. old ++ rest) (
    ap (λ last. flat_map text_of (take i xs) ++ last) (sym (append-nil (text_of (get_or xs i 0))))
    ∙ sym (flat_map-append text_of (take i xs) (get_or xs i 0 ∷ []))
    ∙ ap (flat_map text_of) (sym (take_more xs i 0 within)))

-- what stands before an answer
pub left_put : (old number thread root : List ℕ) (words : List (List ℕ)) (t1 t2 new : List ℕ) →
    t1 ≡ (old ++ number) ++ spaced_words (thread ∷ root ∷ []) → t2 ≡ t1 ++ spaced_words words → new ≡ t2 ++ codes " = " →
    new ≡ old ++ (joined_words (number ∷ thread ∷ root ∷ words) ++ codes " = ")
left_put old number thread root words t1 t2 new e1 e2 e3 =
    e3
    ∙ ap (λ t. t ++ codes " = ") (
    e2
    ∙ ap (λ t. t ++ spaced_words words) e1
    ∙ append_assoc (old ++ number) (spaced_words (thread ∷ root ∷ [])) (spaced_words words)
    ∙ append_assoc old number (spaced_words (thread ∷ root ∷ []) ++ spaced_words words)
    ∙ ap (λ rest. old ++ rest) (
    ap (λ rest. number ++ rest) (sym (spaced_words-append (thread ∷ root ∷ []) words))
    ∙ sym (joined_first number (thread ∷ root ∷ words))))
    ∙ append_assoc old (joined_words (number ∷ thread ∷ root ∷ words)) (codes " = ")

-- how a history ends
pub end_put : (old ending number : List ℕ) (threads : List (List ℕ)) (t1 t2 new : List ℕ) →
    t1 ≡ (old ++ codes "end") ++ 32 ∷ ending → t2 ≡ t1 ++ 32 ∷ number → new ≡ t2 ++ spaced_words threads →
    new ≡ old ++ (joined_words (codes "end" ∷ ending ∷ number ∷ threads) ++ [])
end_put old ending number threads t1 t2 new e1 e2 e3 =
    e3
    ∙ ap (λ t. t ++ spaced_words threads) (e2 ∙ ap (λ t. t ++ 32 ∷ number) e1)
    ∙ four_parts old (codes "end") (32 ∷ ending) (32 ∷ number) (spaced_words threads)
    ∙ ap (λ rest. old ++ rest) (
    sym (joined_first (codes "end") (ending ∷ number ∷ threads))
    ∙ sym (append-nil (joined_words (codes "end" ∷ ending ∷ number ∷ threads))))
