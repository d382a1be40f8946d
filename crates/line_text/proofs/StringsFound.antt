-- What is read of a string is what it spells, and a written string is a word.
use Rattle.std.proofs.Common.{◌≡◌, ℕ, Bool, true, false, cond, ◌==◌, ◌+◌, ◌*◌, ◌/◌, ◌%◌, ◌<◌, Option, Some, None, List, [], ◌∷◌, ◌++◌, refl, ap, ◌∙◌, arith, inl, inr}
use Rattle.std.proofs.lemmas.Bool.{or_parts, eqb-true, lt-ltb}
use Rattle.std.proofs.lemmas.Bool.Decides.{nat_tests}
use Rattle.line_text.specs.declared.mode.Mode.TheVariants.{Text}
use Rattle.line_text.specs.Lines.{is_printable}
use Rattle.line_text.specs.LineWords.{is_word_from, is_word}
use Rattle.line_text.specs.Strings.{StringPlace, Plain, Escaped, High, Low, is_hex, hex_value, is_marked, text_with_first, text_after_quote, text_from, string_of, hex_digit, are_bytes}
use Rattle.line_text.specs.Spelled.{SpellsHex, SpellsByte, SpellsText, SpellsString}
use Rattle.line_text.proofs.StringWords.{hex_digit-value, hex_value-small}

-- a text that begins with a byte
record Begins (b : ℕ) (o : Option (List ℕ)) (text : List ℕ) : Type 0 where
  rest : List ℕ
  is : o ≡ Some rest
  split : b ∷ rest ≡ text

begins : (b : ℕ) (o : Option (List ℕ)) (text : List ℕ) → text_with_first b o ≡ Some text → Begins b o text
begins b None text h = cc
begins b (Some rest) text h = record { rest = rest; is = refl; split = cc }

spells_first : (b : ℕ) (first others rest text : List ℕ) → SpellsByte b first → SpellsText rest others → b ∷ rest ≡ text → SpellsText text (first ++ others)
spells_first b first others rest text spelled h e =
    rw (← e) (record { first = first; others = others; split = refl; spells_first = spelled; spells_others = h })

-- what the bytes of a string's rest spell, at each place
abbrev FoundText : StringPlace → List ℕ → List ℕ → Type 0
FoundText Plain bytes text = SpellsText text bytes
FoundText Escaped bytes text = SpellsText text (92 ∷ bytes)
FoundText High bytes text = SpellsText text (92 ∷ 120 ∷ bytes)
FoundText (Low n) bytes text = n < 16 → SpellsText text (92 ∷ 120 ∷ hex_digit n ∷ bytes)

abbrev Finds : StringPlace → List ℕ → Type 0
Finds place bytes = (text : List ℕ) → text_from place bytes ≡ Some text → FoundText place bytes text

closed_found : (b : ℕ) (bs text : List ℕ) → b ≡ 34 → text_after_quote bs ≡ Some text → SpellsText text (b ∷ bs)
closed_found b [] [] e h = ap (λ c. c ∷ []) e
closed_found b [] (c ∷ text) e h = cc
closed_found b (c ∷ bs) text e h = cc

escaped_found : (b : ℕ) (bs text : List ℕ) → b ≡ 92 → SpellsText text (92 ∷ bs) → SpellsText text (b ∷ bs)
escaped_found b bs text e h = rw e h

plain_byte_found : (b : ℕ) (bs text : List ℕ) → is_printable b ≡ true → is_marked b ≡ false → Finds Plain bs → text_with_first b (text_from Plain bs) ≡ Some text → SpellsText text (b ∷ bs)
plain_byte_found b bs text printable unmarked found h =
    let begun = begins b (text_from Plain bs) text h in
    spells_first b (b ∷ []) bs begun.rest text (inl (printable, unmarked, refl)) (found begun.rest begun.is) begun.split

unmarked_from : (b : ℕ) → (b == 34) ≡ false → (b == 92) ≡ false → is_marked b ≡ false
unmarked_from b quote slash = rw (quote, slash) refl

plain_found : (b : ℕ) (bs text : List ℕ) (quote slash printable : Bool) → (b == 34) ≡ quote → (b == 92) ≡ slash → is_printable b ≡ printable → Finds Plain bs → Finds Escaped bs
    → cond quote (text_after_quote bs) (cond slash (text_from Escaped bs) (cond printable (text_with_first b (text_from Plain bs)) None)) ≡ Some text → SpellsText text (b ∷ bs)
plain_found b bs text true slash printable q s p plain escaped h = closed_found b bs text (eqb-true b 34 q) h
plain_found b bs text false true printable q s p plain escaped h = escaped_found b bs text (eqb-true b 92 s) (escaped text h)
plain_found b bs text false false true q s p plain escaped h = plain_byte_found b bs text p (unmarked_from b q s) plain h
plain_found b bs text false false false q s p plain escaped h = cc

marked_found : (b : ℕ) (bs text : List ℕ) → is_marked b ≡ true → Finds Plain bs → text_with_first b (text_from Plain bs) ≡ Some text → SpellsText text (92 ∷ b ∷ bs)
marked_found b bs text marked found h =
    let begun = begins b (text_from Plain bs) text h in
    spells_first b (92 ∷ b ∷ []) bs begun.rest text (inr (inl (marked, refl))) (found begun.rest begun.is) begun.split

letter_found : (b : ℕ) (bs text : List ℕ) → b ≡ 120 → SpellsText text (92 ∷ 120 ∷ bs) → SpellsText text (92 ∷ b ∷ bs)
letter_found b bs text e h = rw e h

escape_found : (b : ℕ) (bs text : List ℕ) (marked letter : Bool) → is_marked b ≡ marked → (b == 120) ≡ letter → Finds Plain bs → Finds High bs
    → cond marked (text_with_first b (text_from Plain bs)) (cond letter (text_from High bs) None) ≡ Some text → SpellsText text (92 ∷ b ∷ bs)
escape_found b bs text true letter m l plain high h = marked_found b bs text m plain h
escape_found b bs text false true m l plain high h = letter_found b bs text (eqb-true b 120 l) (high text h)
escape_found b bs text false false m l plain high h = cc

high_found : (b : ℕ) (bs text : List ℕ) (hex : Bool) → is_hex b ≡ hex → Finds (Low (hex_value b)) bs → cond hex (text_from (Low (hex_value b)) bs) None ≡ Some text → SpellsText text (92 ∷ 120 ∷ b ∷ bs)
high_found b bs text true e low h = rw (hex_digit-value b e) at (low text h (hex_value-small b e))
high_found b bs text false e low h = cc

hex_spelled : (high low : ℕ) → high < 16 → low < 16 → SpellsHex (16 * high + low) (92 ∷ 120 ∷ hex_digit high ∷ hex_digit low ∷ [])
hex_spelled high low h l =
    let front : (16 * high + low) / 16 ≡ high = omega arith in
    let back : (16 * high + low) % 16 ≡ low = omega arith in
    (omega arith, rw (front, back) refl)

digits_found : (n b : ℕ) (bs text : List ℕ) → is_hex b ≡ true → n < 16 → Finds Plain bs → text_with_first (16 * n + hex_value b) (text_from Plain bs) ≡ Some text → SpellsText text (92 ∷ 120 ∷ hex_digit n ∷ b ∷ bs)
digits_found n b bs text hex small found h =
    let begun = begins (16 * n + hex_value b) (text_from Plain bs) text h in
    let spelled : SpellsHex (16 * n + hex_value b) (92 ∷ 120 ∷ hex_digit n ∷ b ∷ []) = rw (hex_digit-value b hex) at (hex_spelled n (hex_value b) small (hex_value-small b hex)) in
    spells_first (16 * n + hex_value b) (92 ∷ 120 ∷ hex_digit n ∷ b ∷ []) bs begun.rest text (inr (inr spelled)) (found begun.rest begun.is) begun.split

low_found : (n b : ℕ) (bs text : List ℕ) (hex : Bool) → is_hex b ≡ hex → n < 16 → Finds Plain bs → cond hex (text_with_first (16 * n + hex_value b) (text_from Plain bs)) None ≡ Some text → SpellsText text (92 ∷ 120 ∷ hex_digit n ∷ b ∷ bs)
low_found n b bs text true e small found h = digits_found n b bs text e small found h
low_found n b bs text false e small found h = cc

text_found : (place : StringPlace) (bytes text : List ℕ) → text_from place bytes ≡ Some text → FoundText place bytes text
text_found Plain [] text h = cc
text_found Escaped [] text h = cc
text_found High [] text h = cc
text_found (Low n) [] text h = λ small. cc
text_found Plain (b ∷ bs) text h = plain_found b bs text _ _ _ refl refl refl (text_found Plain bs) (text_found Escaped bs) h
text_found Escaped (b ∷ bs) text h = escape_found b bs text _ _ refl refl (text_found Plain bs) (text_found High bs) h
text_found High (b ∷ bs) text h = high_found b bs text _ refl (text_found (Low (hex_value b)) bs) h
text_found (Low n) (b ∷ bs) text h = λ small. low_found n b bs text _ refl small (text_found Plain bs) h

string_cases : (b : ℕ) (bs text : List ℕ) (quote : Bool) → (b == 34) ≡ quote → cond quote (text_from Plain bs) None ≡ Some text → SpellsString text (b ∷ bs)
string_cases b bs text true e h = (eqb-true b 34 e, text_found Plain bs text h)
string_cases b bs text false e h = cc

-- a string that was read is spelled so
pub string_found : (text word : List ℕ) → string_of word ≡ Some text → SpellsString text word
string_found text [] h = cc
string_found text (b ∷ bs) h = string_cases b bs text _ refl h

-- what a string spells are bytes

byte_spelled : (b : ℕ) (bytes : List ℕ) → SpellsByte b bytes → b < 256
byte_spelled b bytes (inl plain) = below b plain.0
  where
    below : (b : ℕ) → is_printable b ≡ true → b < 256
    below b h = grind (arith, nat_tests)
byte_spelled b bytes (inr (inl marked)) = below b marked.0
  where
    below : (b : ℕ) → is_marked b ≡ true → b < 256
    below b h = grind (arith, nat_tests)
byte_spelled b bytes (inr (inr hex)) = hex.0

text_bytes : (text bytes : List ℕ) → SpellsText text bytes → are_bytes text ≡ true
text_bytes [] bytes h = refl
text_bytes (b ∷ text) bytes h = rw (lt-ltb b 256 (byte_spelled b h.first h.spells_first)) (text_bytes text h.others h.spells_others)

pub are_bytes-spelled : (text word : List ℕ) → SpellsString text word → are_bytes text ≡ true
are_bytes-spelled text [] h = absurd h
are_bytes-spelled text (b ∷ bytes) h = text_bytes text bytes h.1

-- a written string is a word

digit_in_text : (n : ℕ) (rest : List ℕ) → n < 16 → is_word_from Text (hex_digit n ∷ rest) ≡ is_word_from Text rest
digit_in_text n rest small = grind (arith, nat_tests)

hex_in_text : (b : ℕ) (rest : List ℕ) → b < 256 → is_word_from Text (92 ∷ 120 ∷ hex_digit (b / 16) ∷ hex_digit (b % 16) ∷ rest) ≡ is_word_from Text rest
hex_in_text b rest small = digit_in_text (b / 16) (hex_digit (b % 16) ∷ rest) (omega arith) ∙ digit_in_text (b % 16) rest (omega arith)

marked_in_text : (b : ℕ) (rest : List ℕ) → is_word_from Text (92 ∷ b ∷ rest) ≡ is_word_from Text rest
marked_in_text b rest = refl

plain_in_text : (b : ℕ) (rest : List ℕ) → is_marked b ≡ false → is_word_from Text (b ∷ rest) ≡ is_word_from Text rest
plain_in_text b rest h = let p = or_parts (b == 34) (b == 92) h in rw (p.0, p.1) refl

spelled_in_text : (b : ℕ) (first others : List ℕ) → SpellsByte b first → is_word_from Text (first ++ others) ≡ is_word_from Text others
spelled_in_text b first others (inl plain) = rw plain.2 (plain_in_text b others plain.1)
spelled_in_text b first others (inr (inl marked)) = rw marked.1 (marked_in_text b others)
spelled_in_text b first others (inr (inr hex)) = rw hex.1 (hex_in_text b others hex.0)

text_in_word : (text bytes : List ℕ) → SpellsText text bytes → is_word_from Text bytes ≡ true
text_in_word [] bytes h = rw h refl
text_in_word (b ∷ text) bytes h =
    ap (is_word_from Text) h.split
    ∙ spelled_in_text b h.first h.others h.spells_first
    ∙ text_in_word text h.others h.spells_others

-- a string is a word
pub is_word-string : (text word : List ℕ) → SpellsString text word → is_word word ≡ true
is_word-string text [] h = absurd h
is_word-string text (b ∷ bytes) h = rw h.0 (text_in_word text bytes h.1)
