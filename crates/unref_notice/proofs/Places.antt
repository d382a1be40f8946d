-- Where a number stands among records whose numbers go up, and what is changed or taken out there.
use Rattle.std.proofs.Common.{◌≡◌, ◌⊎◌, ℕ, zero, suc, ◌<◌, ◌≤◌, ◌==◌, nat_lt, Bool, true, false, if◌then◌else◌, cond, List, [], ◌∷◌, None, Some, length, map, filter, get_or, set, remove, position, refl, sym, subst, ap, ap₂, ◌∙◌, arith, inl, inr, true≢false}
use Rattle.std.specs.List.{position_or_len}
use Rattle.std.specs.List.Sorted.{IsPartitionPoint, IsPartitionedBy}
use Rattle.std.proofs.lemmas.Bool.Decides.{nat_tests}
use Rattle.std.proofs.lemmas.List.Quantifiers.{position-Some}
use Rattle.std.proofs.lemmas.List.Sums.{position_or_len_is, fails_before_first}
use Rattle.spec_records.specs.Words.{IsAscending, is_numbered}
use Rattle.spec_records.proofs.NumberedLists.{ascending-lower}

-- the first place at which a test passes

pub place_is :
    {X : Type 0} (p : X → Bool) (xs : List X) (i : ℕ) (d : X) → i < length xs → ((k : ℕ) → k < i → p (get_or xs k d) ≡ false) →
    p (get_or xs i d) ≡ true → position p xs ≡ Some i
place_is p xs i d l before here =
    let at : position_or_len p xs ≡ i = position_or_len_is p xs i d (omega arith) before (λ _. here) in grind (arith, nat_tests, at)

pub no_place :
    {X : Type 0} (p : X → Bool) (xs : List X) (d : X) → ((k : ℕ) → k < length xs → p (get_or xs k d) ≡ false) → position p xs ≡ None
no_place p xs d none =
    let at : position_or_len p xs ≡ length xs = position_or_len_is p xs (length xs) d (omega arith) none (λ l. absurd (omega arith)) in
    grind (arith, nat_tests, at)

pub none_before : {X : Type 0} (p : X → Bool) (xs : List X) (k : ℕ) (d : X) → position p xs ≡ None → k < length xs → p (get_or xs k d) ≡ false
none_before p xs k d e l =
    let past : length xs ≤ position_or_len p xs = grind (arith, nat_tests) in fails_before_first p xs k d (omega arith)

module _ {X : Type 0} (number : X → ℕ) where
  above : (xs : List X) (low made i : ℕ) (d : X) → IsAscending number low made xs → i < length xs → low < number (get_or xs i d)
  above [] low made i d h l = absurd (omega arith)
  above (x ∷ xs) low made zero d h l = h.0
  above (x ∷ xs) low made (suc i) d h l = let a : low < number x = h.0 in omega (arith, a, above xs (number x) made i d h.2 (omega arith))

  -- of two places the latter has the greater number
  rises : (xs : List X) (low made i j : ℕ) (d : X) → IsAscending number low made xs → i < j → j < length xs → number (get_or xs i d) < number (get_or xs j d)
  rises [] low made i j d h l m = absurd (omega arith)
  rises (x ∷ xs) low made i zero d h l m = absurd (omega arith)
  rises (x ∷ xs) low made zero (suc j) d h l m = above xs (number x) made j d h.2 (omega arith)
  rises (x ∷ xs) low made (suc i) (suc j) d h l m = rises xs (number x) made i j d h.2 (omega arith) (omega arith)

  cases_order : (i j : ℕ) → (i < j) ⊎ ((i ≡ j) ⊎ (j < i))
  cases_order zero zero = inr (inl refl)
  cases_order zero (suc j) = inl (omega arith)
  cases_order (suc i) zero = inr (inr (omega arith))
  cases_order (suc i) (suc j) =
      elim (cases_order i j) [
        | inl a ↦ inl (omega (arith, a))
        | inr b ↦ elim b [ inl e ↦ inr (inl (ap suc e)) | inr a ↦ inr (inr (omega (arith, a))) ]
      ]

  module _ (xs : List X) (made : ℕ) (up : IsAscending number 0 made xs) where
    -- no number comes twice
    pub only_place : (i j : ℕ) (d : X) → i < length xs → j < length xs → number (get_or xs i d) ≡ number (get_or xs j d) → i ≡ j
    only_place i j d l m e =
        elim (cases_order i j) [
          | inl a ↦ let r = rises xs 0 made i j d up a m in absurd (omega (arith, r, e))
          | inr b ↦ elim b [ inl f ↦ f | inr a ↦ let r = rises xs 0 made j i d up a l in absurd (omega (arith, r, e)) ]
        ]

    -- what a binary search finds

    pub parted : (c : ℕ) → IsPartitionedBy (λ x. nat_lt (number x) c) xs
    parted c i j d l m t =
        elim (cases_order i j) [
          | inl a ↦ let r = rises xs 0 made i j d up a m in grind (arith, nat_tests, r, t)
          | inr b ↦ elim b [ inl e ↦ subst (λ k. nat_lt (number (get_or xs k d)) c ≡ true) (sym e) t | inr a ↦ absurd (omega (arith, a, l)) ]
        ]

    module _ (c place : ℕ) (d : X) (point : IsPartitionPoint (λ x. nat_lt (number x) c ≡ true) (λ x. nat_lt (number x) c ≡ false) xs place) where
      below_point : (k : ℕ) → k < place → k < length xs → is_numbered number c (get_or xs k d) ≡ false
      below_point k l m = let t = point.0 k d (omega arith) l in grind (arith, nat_tests, t)

      pub number_here : place < length xs → number (get_or xs place d) ≡ c → position (is_numbered number c) xs ≡ Some place
      number_here l e = place_is (is_numbered number c) xs place d l (λ k m. below_point k m (omega arith)) (grind (arith, nat_tests))

      pub number_past : length xs ≤ place → position (is_numbered number c) xs ≡ None
      number_past l = no_place (is_numbered number c) xs d (λ k m. below_point k (omega arith) m)

      pub number_nowhere : place < length xs → (number (get_or xs place d) ≡ c → ⊥) → position (is_numbered number c) xs ≡ None
      number_nowhere l other = no_place (is_numbered number c) xs d each
        where
          each : (k : ℕ) → k < length xs → is_numbered number c (get_or xs k d) ≡ false
          each k m =
              elim (cases_order k place) [
                | inl a ↦ below_point k a m
                | inr b ↦ elim b [
                  | inl e ↦ subst (λ j. is_numbered number c (get_or xs j d) ≡ false) (sym e) (apart (number (get_or xs place d)) other)
                  | inr a ↦
                      let r = rises xs 0 made place k d up a m in
                      let t = point.1 place d (omega arith) l in grind (arith, nat_tests, r, t)
                ]
              ]
            where
              apart : (n : ℕ) → (n ≡ c → ⊥) → (n == c) ≡ false
              apart n h = go (n == c) refl
                where
                  go : (b : Bool) → (n == c) ≡ b → b ≡ false
                  go true e = absurd (h (grind (arith, nat_tests)))
                  go false e = refl

    -- a test that passes none but records that another test finds by number

    module _ (p q : X → Bool) (d : X) (within : (k : ℕ) → k < length xs → p (get_or xs k d) ≡ true → q (get_or xs k d) ≡ true) where
      fails_elsewhere : (k : ℕ) → k < length xs → q (get_or xs k d) ≡ false → p (get_or xs k d) ≡ false
      fails_elsewhere k l e = go (p (get_or xs k d)) refl
        where
          go : (b : Bool) → p (get_or xs k d) ≡ b → b ≡ false
          go true f = absurd (true≢false (sym (within k l f) ∙ e))
          go false f = refl

      pub found_nowhere : position q xs ≡ None → position p xs ≡ None
      found_nowhere e = no_place p xs d (λ k l. fails_elsewhere k l (none_before q xs k d e l))

      pub found_here : (i : ℕ) → position q xs ≡ Some i → p (get_or xs i d) ≡ true → position p xs ≡ Some i
      found_here i e here =
          let w = position-Some q xs i d e in
          place_is p xs i d w.0 (λ k l. fails_elsewhere k (let m = w.0 in omega arith) (w.2 k l)) here

      pub found_other :
          ((x y : X) → q x ≡ true → q y ≡ true → number x ≡ number y) → (i : ℕ) → position q xs ≡ Some i → p (get_or xs i d) ≡ false →
          position p xs ≡ None
      found_other same i e other =
          let w = position-Some q xs i d e in
          no_place p xs d (λ k l. each w.0 w.1 k l (p (get_or xs k d)) refl)
        where
          each : i < length xs → q (get_or xs i d) ≡ true → (k : ℕ) → k < length xs → (b : Bool) → p (get_or xs k d) ≡ b → b ≡ false
          each m here k l true f =
              let at : i ≡ k = only_place i k d m l (same (get_or xs i d) (get_or xs k d) here (within k l f)) in
              absurd (true≢false (sym f ∙ ap (λ j. p (get_or xs j d)) (sym at) ∙ other))
          each m here k l false f = refl

  -- they still go up where one is changed or taken out

  pub ascending-set : (xs : List X) (low made i : ℕ) (y d : X) → IsAscending number low made xs → i < length xs → number y ≡ number (get_or xs i d) → IsAscending number low made (set xs i y)
  ascending-set [] low made i y d h l e = tt
  ascending-set (x ∷ xs) low made zero y d h l e = subst (λ n. (low < n) × (n ≤ made) × IsAscending number n made xs) (sym e) h
  ascending-set (x ∷ xs) low made (suc i) y d h l e = (h.0, h.1, ascending-set xs (number x) made i y d h.2 (omega arith) e)

  pub ascending-remove : (xs : List X) (low made i : ℕ) → IsAscending number low made xs → i < length xs → IsAscending number low made (remove xs i)
  ascending-remove [] low made i h l = absurd (omega arith)
  ascending-remove (x ∷ xs) low made zero h l = let a : low < number x = h.0 in ascending-lower number xs low (number x) made (omega arith) h.2
  ascending-remove (x ∷ xs) low made (suc i) h l = (h.0, h.1, ascending-remove xs (number x) made i h.2 (omega arith))

  pub ascending-map :
      (f : X → X) → ((x : X) → number (f x) ≡ number x) → (xs : List X) (low made : ℕ) → IsAscending number low made xs → IsAscending number low made (map f xs)
  ascending-map f same [] low made h = tt
  ascending-map f same (x ∷ xs) low made h =
      subst (λ n. (low < n) × (n ≤ made) × IsAscending number n made (map f xs)) (sym (same x)) (h.0, h.1, ascending-map f same xs (number x) made h.2)

-- a change of the records that pass a test, where one alone does

pub unchanged :
    {X : Type 0} (test : X → Bool) (f : X → X) (xs : List X) (d : X) → ((k : ℕ) → k < length xs → test (get_or xs k d) ≡ false) →
    map (λ x. if test x then f x else x) xs ≡ xs
unchanged test f [] d none = refl
unchanged test f (x ∷ xs) d none =
    ap₂ (λ y ys. y ∷ ys) (ap (λ b. if b then f x else x) (none 0 (omega arith))) (unchanged test f xs d (λ k l. none (suc k) (omega arith)))

pub changed_one :
    {X : Type 0} (test : X → Bool) (f : X → X) (xs : List X) (i : ℕ) (d : X) → i < length xs → test (get_or xs i d) ≡ true →
    ((k : ℕ) → k < length xs → test (get_or xs k d) ≡ true → k ≡ i) →
    set xs i (f (get_or xs i d)) ≡ map (λ x. if test x then f x else x) xs
changed_one test f [] i d l here alone = absurd (omega arith)
changed_one test f (x ∷ xs) zero d l here alone =
    ap₂ (λ y ys. y ∷ ys) (sym (ap (λ b. if b then f x else x) here))
    (sym (unchanged test f xs d (λ k m. go k m (test (get_or xs k d)) refl)))
  where
    go : (k : ℕ) → k < length xs → (b : Bool) → test (get_or xs k d) ≡ b → b ≡ false
    go k m true e = let z = alone (suc k) (omega arith) e in absurd (omega (arith, z))
    go k m false e = refl
changed_one test f (x ∷ xs) (suc i) d l here alone =
    ap₂ (λ y ys. y ∷ ys) (sym (first (test x) refl)) (changed_one test f xs i d (omega arith) here (λ k m e. let z = alone (suc k) (omega arith) e in omega (arith, z)))
  where
    first : (b : Bool) → test x ≡ b → (if b then f x else x) ≡ x
    first true e = let z = alone 0 (omega arith) e in absurd (omega (arith, z))
    first false e = refl

-- the same, where it is taken out

pub all_kept : {X : Type 0} (keep : X → Bool) (xs : List X) (d : X) → ((k : ℕ) → k < length xs → keep (get_or xs k d) ≡ true) → filter keep xs ≡ xs
all_kept keep [] d all = refl
all_kept keep (x ∷ xs) d all =
    ap (λ b. cond b (x ∷ filter keep xs) (filter keep xs)) (all 0 (omega arith))
    ∙ ap (λ ys. x ∷ ys) (all_kept keep xs d (λ k l. all (suc k) (omega arith)))

pub removed_one :
    {X : Type 0} (keep : X → Bool) (xs : List X) (i : ℕ) (d : X) → i < length xs → keep (get_or xs i d) ≡ false →
    ((k : ℕ) → k < length xs → (k ≡ i → ⊥) → keep (get_or xs k d) ≡ true) → remove xs i ≡ filter keep xs
removed_one keep [] i d l here others = absurd (omega arith)
removed_one keep (x ∷ xs) zero d l here others =
    sym (ap (λ b. cond b (x ∷ filter keep xs) (filter keep xs)) here ∙ all_kept keep xs d (λ k m. others (suc k) (omega arith) (λ e. omega (arith, e))))
removed_one keep (x ∷ xs) (suc i) d l here others =
    ap (λ ys. x ∷ ys) (removed_one keep xs i d (omega arith) here (λ k m n. others (suc k) (omega arith) (λ e. n (omega (arith, e)))))
    ∙ sym (ap (λ b. cond b (x ∷ filter keep xs) (filter keep xs)) (others 0 (omega arith) (λ e. omega (arith, e))))
