-- A word that has begun, up to a place.
use Rattle.std.proofs.Common.{◌≡◌, ℕ, ◌+◌, ◌<◌, ◌≤◌, true, List, [], ◌∷◌, ◌++◌, length, take, drop, get_or, refl, sym, ◌∙◌, arith}
use Rattle.std.proofs.lemmas.List.{take_more, append_assoc, append-nil}
use Rattle.std.proofs.Math.Seq.{drop-length}
use Rattle.std.proofs.lemmas.Bool.{false≢true}
use Rattle.std.proofs.lemmas.Grind.{common_steps}
use Rattle.line_text.specs.declared.mode.Mode.{Mode}
use Rattle.line_text.specs.declared.mode.Mode.TheVariants.{Between, Word, Text, Escape}
use Rattle.line_text.specs.LineWords.{mode_after, words_with, words_from, words_of}
use Rattle.line_text.proofs.Places.{drop_cons_at}
use Rattle.line_text.specs.LineWords.{is_in_word}

-- the word goes on at place len with the word that the rest begins with
abbrev pub Continues : Mode → List ℕ → Mode → ℕ → Type 0
Continues begun bytes mode len = (word : List ℕ) (words : List (List ℕ)) → words_from mode (drop len bytes) ≡ word ∷ words → words_from begun bytes ≡ (take len bytes ++ word) ∷ words

pub word_with : (b : ℕ) (mode after : Mode) (word : List ℕ) (words : List (List ℕ)) → is_in_word after ≡ true → words_with b mode after (word ∷ words) ≡ (b ∷ word) ∷ words
word_with b Between Word word words h = refl
word_with b Between Text word words h = refl
word_with b Between Escape word words h = refl
word_with b Word Word word words h = refl
word_with b Word Text word words h = refl
word_with b Word Escape word words h = refl
word_with b Text Word word words h = refl
word_with b Text Text word words h = refl
word_with b Text Escape word words h = refl
word_with b Escape Word word words h = refl
word_with b Escape Text word words h = refl
word_with b Escape Escape word words h = refl
word_with b mode Between word words h = absurd (false≢true h)

pub words_from-cons : (mode : Mode) (b : ℕ) (bs : List ℕ) → words_from mode (b ∷ bs) ≡ words_with b mode (mode_after mode b) (words_from (mode_after mode b) bs)
words_from-cons Between b bs = refl
words_from-cons Word b bs = refl
words_from-cons Text b bs = refl
words_from-cons Escape b bs = refl

-- the word at a place with the byte there
word_at : (bytes : List ℕ) (mode : Mode) (len : ℕ) (word : List ℕ) (words : List (List ℕ)) → len < length bytes → is_in_word (mode_after mode (get_or bytes len 0)) ≡ true
    → words_from (mode_after mode (get_or bytes len 0)) (drop (len + 1) bytes) ≡ word ∷ words → words_from mode (drop len bytes) ≡ (get_or bytes len 0 ∷ word) ∷ words
word_at bytes mode len word words within h e =
    rw (drop_cons_at bytes len within) (rw (words_from-cons mode (get_or bytes len 0) (drop (len + 1) bytes), e) (word_with _ _ _ _ _ h))

-- one byte more
pub word_more : (begun : Mode) (bytes : List ℕ) (mode after : Mode) (len : ℕ) → len < length bytes → after ≡ mode_after mode (get_or bytes len 0) → is_in_word after ≡ true → Continues begun bytes mode len
    → Continues begun bytes after (len + 1)
word_more begun bytes mode after len within is h goes word words e =
    rw (take_more bytes len 0 within, append_assoc) (goes _ words (word_at bytes mode len word words within (rw is at h) (rw is at e)))

pub in_word : (mode : Mode) → (mode ≡ Between → ⊥) → is_in_word mode ≡ true
in_word Between h = absurd (h refl)
in_word Word h = refl
in_word Text h = refl
in_word Escape h = refl

words_from-end : (mode : Mode) → is_in_word mode ≡ true → words_from mode [] ≡ [] ∷ []
words_from-end Between h = absurd (false≢true h)
words_from-end Word h = refl
words_from-end Text h = refl
words_from-end Escape h = refl

-- the bytes end in the word
pub word_all : (begun : Mode) (bytes : List ℕ) (mode : Mode) (len : ℕ) → length bytes ≤ len → len ≤ length bytes → is_in_word mode ≡ true → Continues begun bytes mode len
    → words_from begun bytes ≡ take (length bytes) bytes ∷ words_of (drop (length bytes) bytes)
word_all begun bytes mode len past within h goes =
    let same : len ≡ length bytes = omega arith in
    let goes_all : Continues begun bytes mode (length bytes) = rw (← same) goes in
    let e : words_from mode (drop (length bytes) bytes) ≡ [] ∷ [] = rw (drop-length bytes) (words_from-end mode h) in
    rw (drop-length bytes) (goes_all [] [] e ∙ rw append-nil refl)

word_with_end : (b : ℕ) (mode : Mode) (bs : List ℕ) → is_in_word mode ≡ true → mode_after mode b ≡ Between → words_from mode (b ∷ bs) ≡ [] ∷ words_of (b ∷ bs)
word_with_end b Between bs h ends = absurd (false≢true h)
word_with_end b Word bs h ends = grind (arith, common_steps)
word_with_end b Text bs h ends = grind (arith, common_steps)
word_with_end b Escape bs h ends = grind (arith, common_steps)

-- the word ends at a space
pub word_end : (begun : Mode) (bytes : List ℕ) (mode after : Mode) (len : ℕ) → len < length bytes → is_in_word mode ≡ true → after ≡ mode_after mode (get_or bytes len 0) → after ≡ Between → Continues begun bytes mode len
    → words_from begun bytes ≡ take len bytes ∷ words_of (drop len bytes)
word_end begun bytes mode after len within h is ends goes =
    let e : words_from mode (drop len bytes) ≡ [] ∷ words_of (drop len bytes) = rw (drop_cons_at bytes len within) (word_with_end _ mode _ h (sym is ∙ ends)) in
    goes [] _ e ∙ rw append-nil refl
