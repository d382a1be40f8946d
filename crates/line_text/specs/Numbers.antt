-- Decimal numbers.
use Rattle.std.specs.Prelude.{ℕ, Bool, false, ◌+◌, ◌-◌, ◌*◌, ◌==◌, ◌&&◌, not, nat_le, List, [], ◌∷◌, Option, Some, None, if◌then◌else◌}
use Rattle.std.specs.List.{list_all}
use Rattle.line_text.specs.declared.number.Number.{Number}
use Rattle.line_text.specs.declared.number.Number.TheVariants.{Found, OutOfRange, NoNumber}

abbrev pub is_digit : ℕ → Bool
is_digit b = nat_le 48 b && nat_le b 57

-- digits, with no zero before others
abbrev pub is_decimal : List ℕ → Bool
is_decimal [] = false
is_decimal (b ∷ []) = is_digit b
is_decimal (b ∷ c ∷ bs) = is_digit b && not (b == 48) && list_all is_digit (c ∷ bs)

-- what digits spell after those that spell n
abbrev pub value_from : ℕ → List ℕ → ℕ
value_from n [] = n
value_from n (b ∷ bs) = value_from (10 * n + (b - 48)) bs

-- the number that digits spell
abbrev pub value_of : List ℕ → ℕ
value_of digits = value_from 0 digits

-- a number of at most 64 bits
abbrev pub number_in_64_bits : ℕ → Option ℕ
number_in_64_bits n = if nat_le n 18446744073709551615 then Some n else None

-- a number between two
abbrev pub number_in_range : ℕ → ℕ → ℕ → Number
number_in_range low high n = if nat_le low n && nat_le n high then Found n else OutOfRange

-- what a word is as a number from low to high: a run of digits is a number, however long
abbrev pub bounded_number : ℕ → ℕ → List ℕ → Number
bounded_number low high word = if is_decimal word then number_in_range low high (value_of word) else NoNumber
