-- A search among the flags is one among their bits, where these give the words.
use Rattle.std.proofs.Common.{◌≡◌, ℕ, Bool, true, false, cond, List, [], ◌∷◌, Option, Some, refl}
use Rattle.std.specs.Prelude.{map, find, option_map, bytes_eq}
use Rattle.line_forms.specs.Enumerated.{value_of_word}
use Rattle.line_forms.specs.Sets.{Flag, attribute_flags, poll_flags, is_word_of, bits_of_word}
use Rattle.line_forms.specs.FlagWords.{flag_word, bits_of_flags}

found_first : (tested : Bool) (f : Flag) (others : Option Flag) (others_bits : Option ℕ) → others_bits ≡ option_map (λ f. f.bits) others → cond tested (Some f.bits) others_bits ≡ option_map (λ f. f.bits) (cond tested (Some f) others)
found_first true f others others_bits e = refl
found_first false f others others_bits e = e

pub find-bits : (word : List ℕ) (spell : ℕ → List ℕ) (flags : List Flag) → map (λ f. spell f.bits) flags ≡ map (λ f. f.word) flags → find (λ bits. bytes_eq word (spell bits)) (bits_of_flags flags) ≡ option_map (λ f. f.bits) (find (is_word_of word) flags)
find-bits word spell [] e = refl
find-bits word spell (f ∷ flags) e =
    let first : spell f.bits ≡ f.word = cc in
    let others : map (λ f. spell f.bits) flags ≡ map (λ f. f.word) flags = cc in
    rw first (found_first (bytes_eq word f.word) f (find (is_word_of word) flags) (find (λ bits. bytes_eq word (spell bits)) (bits_of_flags flags)) (find-bits word spell flags others))

pub attribute_found : (word : List ℕ) → value_of_word (flag_word attribute_flags) (bits_of_flags attribute_flags) word ≡ bits_of_word attribute_flags word
attribute_found word = find-bits word (flag_word attribute_flags) attribute_flags refl

pub poll_found : (word : List ℕ) → value_of_word (flag_word poll_flags) (bits_of_flags poll_flags) word ≡ bits_of_word poll_flags word
poll_found word = find-bits word (flag_word poll_flags) poll_flags refl
