-- How many of a list meet a test, where the list is cut, put together or filtered.
use Rattle.std.proofs.Common.{◌≡◌, ℕ, zero, suc, ◌+◌, ◌≤◌, ◌<◌, ◌==◌, ◌||◌, List, [], ◌∷◌, ◌++◌, Bool, true, false, if◌then◌else◌, not, cond, drop, filter, map, take, refl, sym, subst, ap, ◌∙◌, arith, count_by}
use Rattle.std.specs.Prelude.{All}
use Rattle.std.specs.List.{list_any}
use Rattle.std.proofs.lemmas.Bool.Decides.{nat_tests}
use Rattle.std.proofs.lemmas.List.Elements.{All-head, All-tail}
use Rattle.std.proofs.lemmas.List.Sums.{sum_by-cons}
use Rattle.spec_records.specs.Words.{IsAscending, change_first}

module _ {X : Type 0} (p : X → Bool) where
  abbrev pub one_if : Bool → ℕ
  one_if b = cond b 1 0

  pub count-cons : (x : X) (xs : List X) → count_by p (x ∷ xs) ≡ one_if (p x) + count_by p xs
  count-cons x xs = sum_by-cons (λ y. cond (p y) 1 0) x xs

  pub count-append : (xs ys : List X) → count_by p (xs ++ ys) ≡ count_by p xs + count_by p ys
  count-append [] ys = omega arith
  count-append (x ∷ xs) ys = omega (arith, count-append xs ys, count-cons x xs, count-cons x (xs ++ ys))

  pub count-cut : (k : ℕ) (xs : List X) → count_by p (take k xs) + count_by p (drop k xs) ≡ count_by p xs
  count-cut zero xs = omega arith
  count-cut (suc k) [] = omega arith
  count-cut (suc k) (x ∷ xs) = omega (arith, count-cut k xs, count-cons x xs, count-cons x (take k xs))

  -- those that are kept and those that are not
  pub count-parted :
      (keep leave : X → Bool) → ((x : X) → leave x ≡ not (keep x)) → (xs : List X) →
      count_by p (filter keep xs) + count_by p (filter leave xs) ≡ count_by p xs
  count-parted keep leave other [] = omega arith
  count-parted keep leave other (x ∷ xs) =
      go (keep x) (leave x) (other x) (count-parted keep leave other xs)
    where
      go :
          (b c : Bool) → c ≡ not b → count_by p (filter keep xs) + count_by p (filter leave xs) ≡ count_by p xs →
          count_by p (if b then x ∷ filter keep xs else filter keep xs) + count_by p (if c then x ∷ filter leave xs else filter leave xs)
          ≡ count_by p (x ∷ xs)
      go true false e rest = omega (arith, rest, count-cons x xs, count-cons x (filter keep xs))
      go false true e rest = omega (arith, rest, count-cons x xs, count-cons x (filter leave xs))
      go true true e rest = cc
      go false false e rest = cc

  -- the first that meets a test is changed, and the change does not show
  pub count-changed : (test : X → Bool) (change : X → X) → ((x : X) → p (change x) ≡ p x) → (xs : List X) → count_by p (change_first test change xs) ≡ count_by p xs
  count-changed test change same [] = refl
  count-changed test change same (x ∷ xs) = go (test x) (count-changed test change same xs)
    where
      go :
          (b : Bool) → count_by p (change_first test change xs) ≡ count_by p xs →
          count_by p (if b then change x ∷ xs else x ∷ change_first test change xs) ≡ count_by p (x ∷ xs)
      go true rest = count-cons (change x) xs ∙ ap (λ b. cond b 1 0 + count_by p xs) (same x) ∙ sym (count-cons x xs)
      go false rest = omega (arith, rest, count-cons x xs, count-cons x (change_first test change xs))

  -- those that leave do not meet the test
  pub count-left : (keep : X → Bool) (xs : List X) → All (λ x. keep x ≡ false → p x ≡ false) xs → count_by p (filter keep xs) ≡ count_by p xs
  count-left keep [] all = refl
  count-left keep (x ∷ xs) all =
      go (keep x) (All-head (λ y. keep y ≡ false → p y ≡ false) x xs all) (count-left keep xs (All-tail (λ y. keep y ≡ false → p y ≡ false) x xs all))
    where
      go :
          (b : Bool) → (b ≡ false → p x ≡ false) → count_by p (filter keep xs) ≡ count_by p xs →
          count_by p (if b then x ∷ filter keep xs else filter keep xs) ≡ count_by p (x ∷ xs)
      go true h rest = omega (arith, rest, count-cons x xs, count-cons x (filter keep xs))
      go false h rest = omega (arith, rest, count-cons x xs ∙ ap (λ b. cond b 1 0 + count_by p xs) (h refl))

  pub count-none : (xs : List X) → list_any p xs ≡ false → count_by p xs ≡ 0
  count-none [] e = refl
  count-none (x ∷ xs) e = go (p x) refl e (count-none xs)
    where
      go : (b : Bool) → p x ≡ b → b || list_any p xs ≡ false → (list_any p xs ≡ false → count_by p xs ≡ 0) → count_by p (x ∷ xs) ≡ 0
      go true f g rest = cc
      go false f g rest = omega (arith, rest g, count-cons x xs ∙ ap (λ b. cond b 1 0 + count_by p xs) f)

module _ {X : Type 0} (p r : X → Bool) where
  one_weaker : (b c : Bool) → (b ≡ true → c ≡ true) → cond b 1 0 ≤ cond c 1 0
  one_weaker true true h = omega arith
  one_weaker true false h = absurd (cc (h refl))
  one_weaker false c h = omega arith

  pub count-weaker : ((x : X) → p x ≡ true → r x ≡ true) → (xs : List X) → count_by p xs ≤ count_by r xs
  count-weaker w [] = omega arith
  count-weaker w (x ∷ xs) =
      omega (arith, count-weaker w xs, count-cons p x xs, count-cons r x xs, one_weaker (p x) (r x) (w x))

-- two tests of which one at most holds
module _ {X : Type 0} (p q r : X → Bool) where
  pub count-apart : ((x : X) → cond (p x) 1 0 + cond (q x) 1 0 ≤ cond (r x) 1 0) → (xs : List X) → count_by p xs + count_by q xs ≤ count_by r xs
  count-apart w [] = omega arith
  count-apart w (x ∷ xs) = omega (arith, count-apart w xs, count-cons p x xs, count-cons q x xs, count-cons r x xs, w x)

-- numbers that go up are different
module _ {X : Type 0} (number : X → ℕ) where
  abbrev pub has : ℕ → X → Bool
  has n x = number x == n

  pub count-above : (low made n : ℕ) (xs : List X) → n ≤ low → IsAscending number low made xs → count_by (has n) xs ≡ 0
  count-above low made n [] l h = refl
  count-above low made n (x ∷ xs) l h =
      let a : low < number x = h.0 in
      let rest : count_by (has n) xs ≡ 0 = count-above (number x) made n xs (omega arith) h.2 in
      let other : (number x == n) ≡ false = grind (arith, nat_tests) in
      omega (arith, count-cons (has n) x xs ∙ ap (λ b. cond b 1 0 + count_by (has n) xs) other, rest)

  pub count-once : (low made n : ℕ) (xs : List X) → IsAscending number low made xs → count_by (has n) xs ≤ 1
  count-once low made n [] h = omega arith
  count-once low made n (x ∷ xs) h = go (number x == n) refl (count-once (number x) made n xs h.2)
    where
      go : (b : Bool) → (number x == n) ≡ b → count_by (has n) xs ≤ 1 → count_by (has n) (x ∷ xs) ≤ 1
      go true e rest =
          let same : number x ≡ n = grind (arith, nat_tests) in
          omega (arith, count-cons (has n) x xs ∙ ap (λ b. cond b 1 0 + count_by (has n) xs) e, count-above (number x) made n xs (omega arith) h.2)
      go false e rest = omega (arith, count-cons (has n) x xs ∙ ap (λ b. cond b 1 0 + count_by (has n) xs) e, rest)

-- a change of each that leaves the numbers
pub ascending-changed :
    {X : Type 0} (number : X → ℕ) (change : X → X) → ((x : X) → number (change x) ≡ number x) → (xs : List X) (low made : ℕ) →
    IsAscending number low made xs → IsAscending number low made (map change xs)
ascending-changed number change same [] low made h = tt
ascending-changed {X} number change same (x ∷ xs) low made h =
    let n : number (change x) ≡ number x = same x in
    (subst (λ k. low < k) (sym n) h.0, subst (λ k. k ≤ made) (sym n) h.1, subst (λ k. IsAscending number k made (map change xs)) (sym n) (ascending-changed number change same xs (number x) made h.2))
