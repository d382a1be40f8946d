-- The words of single flags, by their bits.
use Rattle.std.specs.Prelude.{ℕ, List, find, map, ◌==◌, [], ◌∷◌, bit_and, if◌then◌else◌}
use Rattle.line_forms.specs.Sets.{Flag, has_bits, word_or_empty, attribute_flags}

abbrev pub flag_word : List Flag → ℕ → List ℕ
flag_word flags bits = word_or_empty (find (has_bits bits) flags)

abbrev pub bits_of_flags : List Flag → List ℕ
bits_of_flags flags = map (λ f. f.bits) flags

-- the word of an attribute that a set has
abbrev pub attribute_if : ℕ → ℕ → List (List ℕ)
attribute_if set bits = if bit_and set bits == 0 then [] else flag_word attribute_flags bits ∷ []
