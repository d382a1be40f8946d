-- The words of a set, one attribute after another.
use Rattle.std.proofs.Common.{◌≡◌, ℕ, Bool, true, false, cond, ◌==◌, not, List, [], ◌∷◌, ◌++◌, refl, ap, ◌∙◌}
use Rattle.std.specs.Prelude.{map, flat_map, filter, bit_and}
use Rattle.line_text.specs.Types.{Attrs}
use Rattle.line_forms.specs.Sets.{Flag, attribute_flags, is_in_set, attribute_words}
use Rattle.line_forms.specs.FlagWords.{flag_word, bits_of_flags, attribute_if}

flag_if : (test : Bool) (f : Flag) (spelled : List ℕ) (others : List Flag) → spelled ≡ f.word → cond test [] (spelled ∷ []) ++ map (λ f. f.word) others ≡ map (λ f. f.word) (cond (not test) (f ∷ others) others)
flag_if true f spelled others e = refl
flag_if false f spelled others e = ap (λ word. word ∷ map (λ f. f.word) others) e

flags_words : (set : ℕ) (spell : ℕ → List ℕ) (flags : List Flag) → map (λ f. spell f.bits) flags ≡ map (λ f. f.word) flags
    → flat_map (λ bits. cond (bit_and set bits == 0) [] (spell bits ∷ [])) (bits_of_flags flags) ≡ map (λ f. f.word) (filter (is_in_set set) flags)
flags_words set spell [] e = refl
flags_words set spell (f ∷ flags) e =
    let first : spell f.bits ≡ f.word = cc in
    let others : map (λ f. spell f.bits) flags ≡ map (λ f. f.word) flags = cc in
    ap (λ words. cond (bit_and set f.bits == 0) [] (spell f.bits ∷ []) ++ words) (flags_words set spell flags others) ∙
    flag_if (bit_and set f.bits == 0) f (spell f.bits) (filter (is_in_set set) flags) first

pub attribute_words_put : (set : Attrs) → flat_map (attribute_if set.0) (bits_of_flags attribute_flags) ≡ attribute_words set
attribute_words_put set = flags_words set.0 (flag_word attribute_flags) attribute_flags refl
