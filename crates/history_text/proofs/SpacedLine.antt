-- Words that stand between single spaces.
use Rattle.std.proofs.Common.{◌≡◌, ℕ, Bool, true, false, List, [], ◌∷◌, ◌++◌, Option, Some, None, refl, ap, sym, ◌∙◌}
use Rattle.std.specs.Prelude.{bytes_eq}
use Rattle.line_text.specs.Words.{joined_words, spaced_words}
use Rattle.line_text.proofs.JoinedWords.{joined_first}
use Rattle.history_text.specs.Events.{after_front}
use Rattle.history_text.proofs.Fronts.{equal_front, unequal_front}

-- a line begins with its first word, and the others stand after it
pub spaced_line : (words others : List (List ℕ)) (word line rest : List ℕ) → words ≡ word ∷ others → after_front word line ≡ Some rest → bytes_eq (joined_words words) line ≡ bytes_eq (spaced_words others) rest
spaced_line words others word line rest e found =
    ap (λ ws. bytes_eq (joined_words ws) line) e ∙
    ap (λ text. bytes_eq text line) (joined_first word others) ∙
    equal_front word (spaced_words others) line rest found

pub unspaced_line : (words others : List (List ℕ)) (word line : List ℕ) → words ≡ word ∷ others → after_front word line ≡ None → bytes_eq (joined_words words) line ≡ false
unspaced_line words others word line e found =
    ap (λ ws. bytes_eq (joined_words ws) line) e ∙
    ap (λ text. bytes_eq text line) (joined_first word others) ∙
    unequal_front word (spaced_words others) line found

-- a further word stands after a space, which is 32
pub spaced_word : (words others : List (List ℕ)) (word line rest : List ℕ) → words ≡ word ∷ others → after_front (32 ∷ word) line ≡ Some rest → bytes_eq (spaced_words words) line ≡ bytes_eq (spaced_words others) rest
spaced_word words others word line rest e found =
    ap (λ ws. bytes_eq (spaced_words ws) line) e ∙
    equal_front (32 ∷ word) (spaced_words others) line rest found

pub spaced_lacks_word : (words others : List (List ℕ)) (word line : List ℕ) → words ≡ word ∷ others → after_front (32 ∷ word) line ≡ None → bytes_eq (spaced_words words) line ≡ false
spaced_lacks_word words others word line e found =
    ap (λ ws. bytes_eq (spaced_words ws) line) e ∙
    unequal_front (32 ∷ word) (spaced_words others) line found
