-- Digits and what they spell.
use Rattle.std.proofs.Common.{◌≡◌, ℕ, ◌+◌, ◌-◌, ◌*◌, ◌≤◌, ◌<◌, true, List, [], ◌∷◌, None, length, drop, get_or, arith, refl}
use Rattle.std.specs.List.{list_all}
use Rattle.std.proofs.lemmas.Grind.{common_steps}
use Rattle.line_text.proofs.Places.{drop_cons_at}
use Rattle.line_text.specs.Numbers.{is_digit, is_decimal, value_from, value_of, number_in_64_bits}

-- more digits spell no less
value_from-ge : (n : ℕ) (bs : List ℕ) → n ≤ value_from n bs
value_from-ge n [] = omega arith
value_from-ge n (b ∷ bs) = omega (arith, value_from-ge (10 * n + (b - 48)) bs)

pub digits_of_decimal : (bs : List ℕ) → is_decimal bs ≡ true → list_all is_digit bs ≡ true
digits_of_decimal [] h = refl
digits_of_decimal (b ∷ []) h = grind (arith, common_steps)
digits_of_decimal (b ∷ c ∷ bs) h = grind (arith, common_steps)

great_above : (m n : ℕ) → m ≤ n → number_in_64_bits m ≡ None → number_in_64_bits n ≡ None
great_above m n below h = grind arith

-- a number that is too great with a digit stays so with more
pub stays_great : (digits : List ℕ) (i n : ℕ) → i < length digits → value_from n (drop i digits) ≡ value_of digits → number_in_64_bits (10 * n + (get_or digits i 0 - 48)) ≡ None
    → number_in_64_bits (value_of digits) ≡ None
stays_great digits i n within e h =
    let more : value_from (10 * n + (get_or digits i 0 - 48)) (drop (i + 1) digits) ≡ value_of digits = rw (drop_cons_at digits i within) at e in
    let no_less : 10 * n + (get_or digits i 0 - 48) ≤ value_of digits = rw (← more) (value_from-ge _ (drop (i + 1) digits)) in
    great_above _ _ no_less h
