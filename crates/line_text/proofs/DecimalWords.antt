-- Numbers, written in decimal and read again.
use Rattle.std.proofs.Common.{◌≡◌, ℕ, Bool, true, false, cond, ◌==◌, ◌^◌, ◌<◌, ◌≤◌, not, List, [], ◌∷◌, length, get_or, refl, sym, ap, ◌∙◌, arith, rules, inl, inr}
use Rattle.std.specs.List.{list_all}
use Rattle.std.specs.Fmt.{decimal}
use Rattle.std.proofs.lemmas.Bool.{false≢true, and_parts, cases_lt}
use Rattle.std.proofs.lemmas.Bool.Decides.{nat_tests}
use Rattle.std.proofs.lemmas.Str.Parse.{IsNumeralModel, numerals_by_fold}
use Rattle.std.proofs.lemmas.Fmt.{digits_decimal, digits_value-decimal, decimal-digits_value, decimal_digit, decimal_nonempty, first_decimal}
use Rattle.std.proofs.lemmas.Grind.{common_steps}
use Rattle.line_text.specs.declared.number.Number.TheVariants.{Found, NoNumber}
use Rattle.line_text.specs.Numbers.{is_digit, is_decimal, value_from, value_of, number_in_range, bounded_number}
use Rattle.line_text.specs.LineWords.{is_plain_byte, is_plain}
use Rattle.line_text.specs.Spelled.{SpellsNumber}
use Rattle.line_text.proofs.Digits.{digits_of_decimal}

pub own : IsNumeralModel (λ ds. list_all is_digit ds ≡ true) (value_from 0)
own = numerals_by_fold _ (search rules) value_from (search rules)

is_decimal-from : (ds : List ℕ) → list_all is_digit ds ≡ true → 0 < length ds → (get_or ds 0 0 ≡ 48 → length ds ≡ 1) → is_decimal ds ≡ true
is_decimal-from [] h some one = absurd (omega arith)
is_decimal-from (b ∷ []) h some one = grind (arith, common_steps)
is_decimal-from (b ∷ c ∷ ds) h some one = grind (arith, common_steps)

first_alone : (n : ℕ) → n < 2 ^ 64 → get_or (decimal n) 0 0 ≡ 48 → length (decimal n) ≡ 1
first_alone n small h =
    elim (cases_lt 0 n) [
      | inl positive ↦ absurd (omega (arith, first_decimal n positive small))
      | inr zero ↦ (let e : n < 10 = omega arith in ap length (decimal_digit n e))
    ]

pub is_decimal-decimal : (n : ℕ) → n < 2 ^ 64 → is_decimal (decimal n) ≡ true
is_decimal-decimal n small = is_decimal-from (decimal n) (digits_decimal own n small) (decimal_nonempty n small) (first_alone n small)

pub value_of-decimal : (n : ℕ) → n < 2 ^ 64 → value_of (decimal n) ≡ n
value_of-decimal n small = digits_value-decimal own n small

some_digits : (ds : List ℕ) → is_decimal ds ≡ true → 0 < length ds
some_digits [] h = absurd (false≢true h)
some_digits (b ∷ ds) h = omega arith

no_zero_first : (ds : List ℕ) → is_decimal ds ≡ true → get_or ds 0 0 ≡ 48 → length ds ≡ 1
no_zero_first [] h z = absurd (false≢true h)
no_zero_first (b ∷ []) h z = refl
no_zero_first (b ∷ c ∷ ds) h z = grind (arith, nat_tests)

pub decimal-value_of : (ds : List ℕ) → is_decimal ds ≡ true → value_of ds < 2 ^ 64 → decimal (value_of ds) ≡ ds
decimal-value_of ds h small = decimal-digits_value own ds (digits_of_decimal ds h) (some_digits ds h) (no_zero_first ds h) small

-- a number that is written is read again
pub number_again : (low high n : ℕ) → low ≤ n → n ≤ high → high < 2 ^ 64 → bounded_number low high (decimal n) ≡ Found n
number_again low high n least most small =
    let below : n < 2 ^ 64 = omega arith in
    rw (is_decimal-decimal n below, value_of-decimal n below) (grind (arith, nat_tests))

-- what a number that was read says of its word
pub record IsFound (low high : ℕ) (word : List ℕ) (n : ℕ) : Type 0 where
  pub least : low ≤ n
  pub most : n ≤ high
  pub spelled : word ≡ decimal n

number_in_range-found : (low high m n : ℕ) → number_in_range low high m ≡ Found n → (low ≤ n) × (n ≤ high) × (m ≡ n)
number_in_range-found low high m n h = grind (arith, nat_tests)

found_decimal : (low high : ℕ) (word : List ℕ) (n : ℕ) → high < 2 ^ 64 → is_decimal word ≡ true → (low ≤ n) × (n ≤ high) × (value_of word ≡ n) → IsFound low high word n
found_decimal low high word n small h p =
    let below : value_of word < 2 ^ 64 = omega arith in
    record { least = p.0; most = p.1; spelled = sym (ap decimal (sym p.2) ∙ decimal-value_of word h below) }

found_cases : (low high : ℕ) (word : List ℕ) (n : ℕ) (b : Bool) → high < 2 ^ 64 → is_decimal word ≡ b → cond b (number_in_range low high (value_of word)) NoNumber ≡ Found n → IsFound low high word n
found_cases low high word n true small e h = found_decimal low high word n small e (number_in_range-found low high (value_of word) n h)
found_cases low high word n false small e h = cc

-- a number that was read is spelled so
pub number_found : (low high : ℕ) (word : List ℕ) (n : ℕ) → high < 2 ^ 64 → bounded_number low high word ≡ Found n → IsFound low high word n
number_found low high word n small h = found_cases low high word n (is_decimal word) small refl h

-- a number is read exactly where it is spelled
pub number_spelled : (low high n : ℕ) (word : List ℕ) → high < 2 ^ 64 → SpellsNumber low high n word → bounded_number low high word ≡ Found n
number_spelled low high n word small h = rw h.2 (number_again low high n h.0 h.1 small)

pub number_spells : (low high n : ℕ) (word : List ℕ) → high < 2 ^ 64 → bounded_number low high word ≡ Found n → SpellsNumber low high n word
number_spells low high n word small h = let found = number_found low high word n small h in (found.least, found.most, found.spelled)

digit_is_plain : (b : ℕ) → is_digit b ≡ true → is_plain_byte b ≡ true
digit_is_plain b h = grind (arith, nat_tests)

digit_is_no_quote : (b : ℕ) → is_digit b ≡ true → not (b == 34) ≡ true
digit_is_no_quote b h = grind (arith, nat_tests)

digits_are_plain : (ds : List ℕ) → list_all is_digit ds ≡ true → list_all is_plain_byte ds ≡ true
digits_are_plain [] h = refl
digits_are_plain (b ∷ ds) h =
    let p = and_parts (is_digit b) (list_all is_digit ds) h in
    rw (digit_is_plain b p.0) (digits_are_plain ds p.1)

decimal_is_plain : (ds : List ℕ) → is_decimal ds ≡ true → is_plain ds ≡ true
decimal_is_plain [] h = absurd (false≢true h)
decimal_is_plain (b ∷ ds) h =
    let digits = digits_of_decimal (b ∷ ds) h in
    rw (digit_is_no_quote b (and_parts (is_digit b) (list_all is_digit ds) digits).0) (digits_are_plain (b ∷ ds) digits)

-- a number's word
pub is_plain-decimal : (n : ℕ) → n < 2 ^ 64 → is_plain (decimal n) ≡ true
is_plain-decimal n small = decimal_is_plain (decimal n) (is_decimal-decimal n small)
