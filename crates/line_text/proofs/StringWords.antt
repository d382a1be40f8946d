-- Strings, written and read again.
use Rattle.std.proofs.Common.{◌≡◌, ℕ, Bool, true, false, cond, ◌+◌, ◌*◌, ◌/◌, ◌%◌, ◌<◌, nat_lt, Some, List, [], ◌∷◌, ◌++◌, flat_map, refl, ap, ◌∙◌, arith, inl, inr}
use Rattle.std.proofs.Math.Nat.{div-add-mod}
use Rattle.std.proofs.lemmas.Bool.{and_parts, ltb-true}
use Rattle.std.proofs.lemmas.Bool.Decides.{nat_tests}
use Rattle.std.proofs.lemmas.List.{append_assoc}
use Rattle.line_text.specs.Lines.{is_printable}
use Rattle.line_text.specs.Strings.{Plain, is_hex, hex_value, is_marked, text_with_first, text_from, string_of, hex_digit, quoted_byte, quoted_text, are_bytes}
use Rattle.line_text.specs.Spelled.{SpellsByte, SpellsText, SpellsString}

-- hexadecimal digits

pub is_hex-digit : (n : ℕ) → n < 16 → is_hex (hex_digit n) ≡ true
is_hex-digit n small = grind (arith, nat_tests)

pub hex_value-digit : (n : ℕ) → n < 16 → hex_value (hex_digit n) ≡ n
hex_value-digit n small = grind (arith, nat_tests)

pub hex_digit-value : (b : ℕ) → is_hex b ≡ true → hex_digit (hex_value b) ≡ b
hex_digit-value b h = grind (arith, nat_tests)

pub hex_value-small : (b : ℕ) → is_hex b ≡ true → hex_value b < 16
hex_value-small b h = grind (arith, nat_tests)

-- the reading of a byte in each spelling

read_plain : (b : ℕ) (rest : List ℕ) → is_printable b ≡ true → is_marked b ≡ false → text_from Plain (b ∷ rest) ≡ text_with_first b (text_from Plain rest)
read_plain b rest printable unmarked = grind (arith, nat_tests)

read_marked : (b : ℕ) (rest : List ℕ) → is_marked b ≡ true → text_from Plain (92 ∷ b ∷ rest) ≡ text_with_first b (text_from Plain rest)
read_marked b rest marked = rw marked refl

read_digits : (high low : ℕ) (rest : List ℕ) → high < 16 → low < 16 → text_from Plain (92 ∷ 120 ∷ hex_digit high ∷ hex_digit low ∷ rest) ≡ text_with_first (16 * high + low) (text_from Plain rest)
read_digits high low rest h l = rw (is_hex-digit high h, is_hex-digit low l, hex_value-digit high h, hex_value-digit low l) refl

read_hex : (b : ℕ) (rest : List ℕ) → b < 256 → text_from Plain (92 ∷ 120 ∷ hex_digit (b / 16) ∷ hex_digit (b % 16) ∷ rest) ≡ text_with_first b (text_from Plain rest)
read_hex b rest small =
    let high : b / 16 < 16 = omega arith in
    let low : b % 16 < 16 = omega arith in
    read_digits (b / 16) (b % 16) rest high low ∙ ap (λ n. text_with_first n (text_from Plain rest)) (div-add-mod b 16)

-- what is written

quoted_cases : (b : ℕ) → b < 256 → SpellsByte b (quoted_byte b)
quoted_cases b small = written (is_marked b) (is_printable b) refl refl
  where
    written : (marked printable : Bool) → is_marked b ≡ marked → is_printable b ≡ printable
        → SpellsByte b (cond marked (92 ∷ b ∷ []) (cond printable (b ∷ []) (92 ∷ 120 ∷ hex_digit (b / 16) ∷ hex_digit (b % 16) ∷ [])))
    written true printable m p = inr (inl (m, refl))
    written false true m p = inl (p, m, refl)
    written false false m p = inr (inr (small, refl))

pub spells_quoted_text : (text : List ℕ) → are_bytes text ≡ true → SpellsText text (flat_map quoted_byte text ++ 34 ∷ [])
spells_quoted_text [] h = refl
spells_quoted_text (b ∷ text) h =
    let p = and_parts (nat_lt b 256) (are_bytes text) h in
    record {
      first = quoted_byte b;
      others = flat_map quoted_byte text ++ 34 ∷ [];
      split = append_assoc (quoted_byte b) (flat_map quoted_byte text) (34 ∷ []);
      spells_first = quoted_cases b (ltb-true b 256 p.0);
      spells_others = spells_quoted_text text p.1;
    }

-- the string that is written spells the bytes
pub spells_quoted : (text : List ℕ) → are_bytes text ≡ true → SpellsString text (quoted_text text)
spells_quoted text h = (refl, spells_quoted_text text h)

-- what is spelled is read

read_first : (b : ℕ) (first others : List ℕ) → SpellsByte b first → text_from Plain (first ++ others) ≡ text_with_first b (text_from Plain others)
read_first b first others (inl plain) = rw plain.2 (read_plain b others plain.0 plain.1)
read_first b first others (inr (inl marked)) = rw marked.1 (read_marked b others marked.0)
read_first b first others (inr (inr hex)) = rw hex.1 (read_hex b others hex.0)

pub text_again : (text bytes : List ℕ) → SpellsText text bytes → text_from Plain bytes ≡ Some text
text_again [] bytes h = rw h refl
text_again (b ∷ text) bytes h =
    ap (text_from Plain) h.split
    ∙ read_first b h.first h.others h.spells_first
    ∙ ap (text_with_first b) (text_again text h.others h.spells_others)

-- a string is read as the bytes that it spells
pub string_again : (text word : List ℕ) → SpellsString text word → string_of word ≡ Some text
string_again text [] h = absurd h
string_again text (b ∷ bytes) h = rw h.0 (text_again text bytes h.1)

-- the bytes of the string that is written
pub string_of-quoted_text : (text : List ℕ) → are_bytes text ≡ true → string_of (quoted_text text) ≡ Some text
string_of-quoted_text text h = string_again text (quoted_text text) (spells_quoted text h)
