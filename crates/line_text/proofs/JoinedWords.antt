-- Words, joined and read again.
use Rattle.std.proofs.Common.{◌≡◌, ℕ, true, ◌&&◌, ◌==◌, not, List, [], ◌∷◌, ◌++◌, refl, sym, ap, ◌∙◌, arith}
use Rattle.std.specs.List.{list_all}
use Rattle.std.proofs.lemmas.Bool.{false≢true, and_parts}
use Rattle.std.proofs.lemmas.List.{append_assoc}
use Rattle.std.proofs.lemmas.Grind.{common_steps}
use Rattle.line_text.specs.declared.mode.Mode.{Mode}
use Rattle.line_text.specs.declared.mode.Mode.TheVariants.{Between, Word, Text, Escape}
use Rattle.line_text.specs.LineWords.{mode_after, words_with, words_from, words_of, is_in_word, is_word_from, is_word, is_plain_byte, is_plain, joined_words, spaced_words}
use Rattle.line_text.proofs.WordEnd.{word_with, words_from-cons}

is_word_from-cons : (mode : Mode) (b : ℕ) (bs : List ℕ) → is_word_from mode (b ∷ bs) ≡ (is_in_word (mode_after mode b) && is_word_from (mode_after mode b) bs)
is_word_from-cons Between b bs = refl
is_word_from-cons Word b bs = refl
is_word_from-cons Text b bs = refl
is_word_from-cons Escape b bs = refl

parts : (mode : Mode) (b : ℕ) (bs : List ℕ) → is_word_from mode (b ∷ bs) ≡ true → (is_in_word (mode_after mode b) ≡ true) × (is_word_from (mode_after mode b) bs ≡ true)
parts mode b bs h = and_parts _ _ (sym (is_word_from-cons mode b bs) ∙ h)

-- a word, or the rest of one, before a space
word_before : (mode : Mode) (word rest : List ℕ) → is_word_from mode word ≡ true → words_from mode (word ++ 32 ∷ rest) ≡ word ∷ words_of rest
word_before Between [] rest h = absurd (false≢true h)
word_before Word [] rest h = refl
word_before Text [] rest h = absurd (false≢true h)
word_before Escape [] rest h = absurd (false≢true h)
word_before mode (b ∷ bs) rest h =
    let p = parts mode b bs h in
    words_from-cons mode b (bs ++ 32 ∷ rest)
    ∙ ap (words_with b mode (mode_after mode b)) (word_before (mode_after mode b) bs rest p.1)
    ∙ word_with b mode (mode_after mode b) bs (words_of rest) p.0

-- a word, or the rest of one, at a line's end
word_last : (mode : Mode) (word : List ℕ) → is_word_from mode word ≡ true → words_from mode word ≡ word ∷ []
word_last Between [] h = absurd (false≢true h)
word_last Word [] h = refl
word_last Text [] h = absurd (false≢true h)
word_last Escape [] h = absurd (false≢true h)
word_last mode (b ∷ bs) h =
    let p = parts mode b bs h in
    words_from-cons mode b bs
    ∙ ap (words_with b mode (mode_after mode b)) (word_last (mode_after mode b) bs p.1)
    ∙ word_with b mode (mode_after mode b) bs [] p.0

-- joined words are these words
pub words_of-joined_words : (words : List (List ℕ)) → list_all is_word words ≡ true → words_of (joined_words words) ≡ words
words_of-joined_words [] h = refl
words_of-joined_words (word ∷ []) h = word_last Between word (and_parts _ _ h).0
words_of-joined_words (word ∷ next ∷ words) h =
    let p = and_parts (is_word word) (list_all is_word (next ∷ words)) h in
    word_before Between word (joined_words (next ∷ words)) p.0 ∙ ap (λ others. word ∷ others) (words_of-joined_words (next ∷ words) p.1)

plain_rest : (word : List ℕ) → list_all is_plain_byte word ≡ true → is_word_from Word word ≡ true
plain_rest [] h = refl
plain_rest (b ∷ bs) h =
    let p = and_parts (is_plain_byte b) (list_all is_plain_byte bs) h in
    plain_step b bs p.0 (plain_rest bs p.1)
  where
    plain_step : (b : ℕ) (bs : List ℕ) → is_plain_byte b ≡ true → is_word_from Word bs ≡ true → is_word_from Word (b ∷ bs) ≡ true
    plain_step b bs plain rest = grind (arith, common_steps)

plain_first : (b : ℕ) (bs : List ℕ) → not (b == 34) ≡ true → is_plain_byte b ≡ true → is_word_from Word bs ≡ true → is_word_from Between (b ∷ bs) ≡ true
plain_first b bs no_quote plain rest = grind (arith, common_steps)

-- a plain word is a word
pub is_word-plain : (word : List ℕ) → is_plain word ≡ true → is_word word ≡ true
is_word-plain [] h = absurd (false≢true h)
is_word-plain (b ∷ bs) h =
    let p = and_parts (not (b == 34)) (list_all is_plain_byte (b ∷ bs)) h in
    let q = and_parts (is_plain_byte b) (list_all is_plain_byte bs) p.1 in
    plain_first b bs p.0 q.0 (plain_rest bs q.1)

-- joined words are the first, and the others each after a space
pub joined_first : (word : List ℕ) (words : List (List ℕ)) → joined_words (word ∷ words) ≡ word ++ spaced_words words
joined_first word [] = grind (arith, common_steps)
joined_first word (next ∷ words) = ap (λ rest. word ++ 32 ∷ rest) (joined_first next words)

pub spaced_words-append : (words others : List (List ℕ)) → spaced_words (words ++ others) ≡ spaced_words words ++ spaced_words others
spaced_words-append [] others = refl
spaced_words-append (word ∷ words) others = ap (λ rest. 32 ∷ (word ++ rest)) (spaced_words-append words others) ∙ ap (λ rest. 32 ∷ rest) (sym (append_assoc word (spaced_words words) (spaced_words others)))
