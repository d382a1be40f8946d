-- Strings: printable bytes in quotes, of which a quote and a backslash are written `\"` and `\\`. `\xHH` is any byte.
use Rattle.std.specs.Prelude.{ℕ, Bool, ◌+◌, ◌-◌, ◌*◌, ◌/◌, ◌%◌, ◌==◌, ◌&&◌, ◌||◌, nat_le, nat_lt, List, [], ◌∷◌, ◌++◌, Option, Some, None, option_map, flat_map, if◌then◌else◌}
use Rattle.std.specs.List.{list_all}
use Rattle.line_text.specs.Lines.{is_printable}
use Rattle.line_text.specs.Numbers.{is_digit}

-- where a place in a string stands: after a backslash, after `\x`, after that and a digit of this value, or elsewhere
pub data StringPlace : Type 0 where
  Plain : StringPlace
  Escaped : StringPlace
  High : StringPlace
  Low : ℕ → StringPlace

-- a letter from a to f
abbrev pub is_hex_letter : ℕ → Bool
is_hex_letter b = nat_le 97 b && nat_le b 102

-- a digit of a number in base 16
abbrev pub is_hex : ℕ → Bool
is_hex b = is_digit b || is_hex_letter b

abbrev pub hex_value : ℕ → ℕ
hex_value b = if is_digit b then b - 48 else b - 87

-- a byte that stands after a backslash for itself: 34 is `"` and 92 is `\`
abbrev pub is_marked : ℕ → Bool
is_marked b = (b == 34) || (b == 92)

abbrev pub text_with_first : ℕ → Option (List ℕ) → Option (List ℕ)
text_with_first b text = option_map (λ rest. b ∷ rest) text

-- nothing may stand after the closing quote
abbrev pub text_after_quote : List ℕ → Option (List ℕ)
text_after_quote [] = Some []
text_after_quote (b ∷ bs) = None

-- no bytes, where a string's closing quote is all that is left
abbrev pub text_at_end : List ℕ → Option (List ℕ)
text_at_end [] = None
text_at_end (b ∷ bs) = if b == 34 then text_after_quote bs else None

-- the bytes that the rest of a string spells, up to its closing quote; 34 is `"`, 92 is `\` and 120 is `x`
abbrev pub text_from : StringPlace → List ℕ → Option (List ℕ)
text_from place [] = None
text_from Plain (b ∷ bs) =
    if b == 34 then text_after_quote bs else (
    if b == 92 then text_from Escaped bs else (
    if is_printable b then text_with_first b (text_from Plain bs) else None))
text_from Escaped (b ∷ bs) =
    if is_marked b then text_with_first b (text_from Plain bs) else (
    if b == 120 then text_from High bs else None)
text_from High (b ∷ bs) = if is_hex b then text_from (Low (hex_value b)) bs else None
text_from (Low high) (b ∷ bs) = if is_hex b then text_with_first (16 * high + hex_value b) (text_from Plain bs) else None

-- the bytes that a string spells
abbrev pub string_of : List ℕ → Option (List ℕ)
string_of [] = None
string_of (b ∷ bs) = if b == 34 then text_from Plain bs else None

abbrev pub hex_digit : ℕ → ℕ
hex_digit n = if nat_le n 9 then 48 + n else 87 + n

-- a byte as it is written in a string; 92 is `\` and 120 is `x`
abbrev pub quoted_byte : ℕ → List ℕ
quoted_byte b =
    if is_marked b then 92 ∷ b ∷ [] else (
    if is_printable b then b ∷ [] else
    92 ∷ 120 ∷ hex_digit (b / 16) ∷ hex_digit (b % 16) ∷ [])

-- the string that is written for these bytes, between two bytes 34, which is `"`
abbrev pub quoted_text : List ℕ → List ℕ
quoted_text bytes = 34 ∷ flat_map quoted_byte bytes ++ 34 ∷ []

-- each of these is a byte
abbrev pub are_bytes : List ℕ → Bool
are_bytes bytes = list_all (λ b. nat_lt b 256) bytes
