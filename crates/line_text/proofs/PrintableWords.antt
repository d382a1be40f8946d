-- Written words have printable bytes alone.
use Rattle.std.proofs.Common.{◌≡◌, ℕ, Bool, true, false, ◌==◌, ◌/◌, ◌%◌, ◌^◌, ◌<◌, List, [], ◌∷◌, ◌++◌, refl, ap, ◌∙◌, arith, inl, inr}
use Rattle.std.specs.List.{list_all, list_any}
use Rattle.std.specs.Fmt.{decimal}
use Rattle.std.proofs.lemmas.Bool.{and_parts, and_from, not_from_false, or_from}
use Rattle.std.proofs.lemmas.Bool.Decides.{nat_tests}
use Rattle.std.proofs.lemmas.List.Folds.{list_all-append}
use Rattle.std.proofs.lemmas.Fmt.{digits_decimal}
use Rattle.line_text.specs.Lines.{is_printable, is_one_line}
use Rattle.line_text.specs.Numbers.{is_digit}
use Rattle.line_text.specs.Names.{is_name, is_name_byte}
use Rattle.line_text.specs.LineWords.{joined_words}
use Rattle.line_text.specs.Strings.{is_marked, hex_digit}
use Rattle.line_text.specs.Spelled.{SpellsByte, SpellsText, SpellsString}
use Rattle.line_text.proofs.DecimalWords.{own}
use Rattle.line_text.proofs.PartWords.{name_bytes}

abbrev pub are_printable : List ℕ → Bool
are_printable bytes = list_all is_printable bytes

printable_is_no_feed : (b : ℕ) → is_printable b ≡ true → (b == 10) ≡ false
printable_is_no_feed b h = grind (arith, nat_tests)

no_feed : (line : List ℕ) → are_printable line ≡ true → list_any (λ b. b == 10) line ≡ false
no_feed [] h = refl
no_feed (b ∷ line) h =
    let p = and_parts (is_printable b) (are_printable line) h in
    or_from _ _ (printable_is_no_feed b p.0) (no_feed line p.1)

-- printable bytes are one line
pub is_one_line-printable : (line : List ℕ) → are_printable line ≡ true → is_one_line line ≡ true
is_one_line-printable line h = not_from_false _ (no_feed line h)

pub are_printable-append : (front rest : List ℕ) → are_printable front ≡ true → are_printable rest ≡ true → are_printable (front ++ rest) ≡ true
are_printable-append front rest f r = list_all-append is_printable front rest ∙ and_from _ _ f r

-- words that are printable, joined
pub are_printable-joined_words : (words : List (List ℕ)) → list_all are_printable words ≡ true → are_printable (joined_words words) ≡ true
are_printable-joined_words [] h = refl
are_printable-joined_words (word ∷ []) h = (and_parts _ _ h).0
are_printable-joined_words (word ∷ next ∷ words) h =
    let p = and_parts (are_printable word) (list_all are_printable (next ∷ words)) h in
    are_printable-append word (32 ∷ joined_words (next ∷ words)) p.0 (are_printable-joined_words (next ∷ words) p.1)

digit_is_printable : (b : ℕ) → is_digit b ≡ true → is_printable b ≡ true
digit_is_printable b h = grind (arith, nat_tests)

digits_are_printable : (ds : List ℕ) → list_all is_digit ds ≡ true → are_printable ds ≡ true
digits_are_printable [] h = refl
digits_are_printable (b ∷ ds) h =
    let p = and_parts (is_digit b) (list_all is_digit ds) h in
    and_from _ _ (digit_is_printable b p.0) (digits_are_printable ds p.1)

pub are_printable-decimal : (n : ℕ) → n < 2 ^ 64 → are_printable (decimal n) ≡ true
are_printable-decimal n small = digits_are_printable (decimal n) (digits_decimal own n small)

name_byte_is_printable : (b : ℕ) → is_name_byte b ≡ true → is_printable b ≡ true
name_byte_is_printable b h = grind (arith, nat_tests)

name_bytes_are_printable : (bs : List ℕ) → list_all is_name_byte bs ≡ true → are_printable bs ≡ true
name_bytes_are_printable [] h = refl
name_bytes_are_printable (b ∷ bs) h =
    let p = and_parts (is_name_byte b) (list_all is_name_byte bs) h in
    and_from _ _ (name_byte_is_printable b p.0) (name_bytes_are_printable bs p.1)

pub are_printable-name : (name : List ℕ) → is_name name ≡ true → are_printable name ≡ true
are_printable-name name h = name_bytes_are_printable name (name_bytes name h)

marked_is_printable : (b : ℕ) → is_marked b ≡ true → is_printable b ≡ true
marked_is_printable b h = grind (arith, nat_tests)

hex_is_printable : (n : ℕ) → n < 16 → is_printable (hex_digit n) ≡ true
hex_is_printable n small = grind (arith, nat_tests)

spelled_is_printable : (b : ℕ) (bytes : List ℕ) → SpellsByte b bytes → are_printable bytes ≡ true
spelled_is_printable b bytes (inl plain) = rw plain.2 (and_from _ _ plain.0 refl)
spelled_is_printable b bytes (inr (inl marked)) = rw marked.1 (and_from _ _ (marked_is_printable b marked.0) refl)
spelled_is_printable b bytes (inr (inr hex)) =
    let high : b / 16 < 16 = let small = hex.0 in omega arith in
    let low : b % 16 < 16 = omega arith in
    rw hex.1 (rw (hex_is_printable (b / 16) high, hex_is_printable (b % 16) low) refl)

text_is_printable : (text bytes : List ℕ) → SpellsText text bytes → are_printable bytes ≡ true
text_is_printable [] bytes h = rw h refl
text_is_printable (b ∷ text) bytes h =
    ap are_printable h.split ∙ are_printable-append h.first h.others (spelled_is_printable b h.first h.spells_first) (text_is_printable text h.others h.spells_others)

pub are_printable-string : (text word : List ℕ) → SpellsString text word → are_printable word ≡ true
are_printable-string text [] h = absurd h
are_printable-string text (b ∷ bytes) h = rw h.0 (text_is_printable text bytes h.1)
