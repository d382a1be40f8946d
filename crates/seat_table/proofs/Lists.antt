-- Beginnings of one list, and sums over a list of which one place changes.
use Rattle.std.proofs.Common.{◌≡◌, ℕ, zero, suc, ◌+◌, ◌*◌, ◌≤◌, ◌⊎◌, List, [], ◌∷◌, ◌++◌, length, set, refl, ap, sym, ◌∙◌, inl, inr, arith, append_assoc, length-append}
use mathlib.Core.Option.{some, some-injective, some-ne-none}
use mathlib.Core.List.{IsPrefix}
use lib.ListN.{get_elem?}
use Rattle.seat_table.specs.declared.limits.TheConstants.{CALLS_MAX}
use Rattle.seat_table.specs.Sums.{total, Every}

module _ {A : Type 0} where
  pub prefix_trans : (xs ys zs : List A) → IsPrefix xs ys → IsPrefix ys zs → IsPrefix xs zs
  prefix_trans xs ys zs p q = (p.0 ++ q.0, sym (append_assoc xs p.0 q.0) ∙ (ap (λ w. w ++ q.0) p.1 ∙ q.1))

  -- of two beginnings of one list the shorter begins the longer
  pub prefix_shorter : (xs ys zs : List A) → IsPrefix xs zs → IsPrefix ys zs → length xs ≤ length ys → IsPrefix xs ys
  prefix_shorter [] ys zs p q le = (ys, refl)
  prefix_shorter (x ∷ xs) [] zs p q le = absurd (omega arith)
  prefix_shorter (x ∷ xs) (y ∷ ys) [] p q le = absurd (cc (p.1))
  prefix_shorter (x ∷ xs) (y ∷ ys) (z ∷ zs) p q le =
      let heads : x ≡ y = cc (p.1, q.1) in
      let rest = prefix_shorter xs ys zs (p.0, cc (p.1)) (q.0, cc (q.1)) (omega arith) in
      (rest.0, cc (heads, rest.1))

  pub prefix_length : (xs ys : List A) → IsPrefix xs ys → length xs ≤ length ys
  prefix_length xs ys p = omega (arith, sym (ap length p.1) ∙ length-append xs p.0)

  pub all_map : (P Q : A → Type 0) → ((x : A) → P x → Q x) → (xs : List A) → Every P xs → Every Q xs
  all_map P Q f [] h = tt
  all_map P Q f (x ∷ xs) h = (f x h.0, all_map P Q f xs h.1)

  pub sum_set : (f : A → ℕ) (vs : List A) (i : ℕ) (v w : A) → get_elem? vs i ≡ some v → total f (set vs i w) + f v ≡ total f vs + f w
  sum_set f [] i v w e = absurd (some-ne-none v (sym e))
  sum_set f (x ∷ vs) zero v w e = omega (arith, ap f (some-injective x v e))
  sum_set f (x ∷ vs) (suc i) v w e = omega (arith, sum_set f vs i v w e)

  pub sum_at : (f : A → ℕ) (vs : List A) (i : ℕ) (v : A) → get_elem? vs i ≡ some v → f v ≤ total f vs
  sum_at f [] i v e = absurd (some-ne-none v (sym e))
  sum_at f (x ∷ vs) zero v e = omega (arith, ap f (some-injective x v e))
  sum_at f (x ∷ vs) (suc i) v e = omega (arith, sum_at f vs i v e)

  pub sum_snoc : (f : A → ℕ) (vs : List A) (w : A) → total f (vs ++ w ∷ []) ≡ total f vs + f w
  sum_snoc f [] w = omega arith
  sum_snoc f (x ∷ vs) w = omega (arith, sum_snoc f vs w)

  pub sum_zero : (f : A → ℕ) (vs : List A) → ((i : ℕ) (v : A) → get_elem? vs i ≡ some v → f v ≡ 0) → total f vs ≡ 0
  sum_zero f [] h = refl
  sum_zero f (x ∷ vs) h = omega (arith, h 0 x refl, sum_zero f vs (λ i v e. h (suc i) v e))

  pub sum_le : (f g : A → ℕ) (vs : List A) → ((i : ℕ) (v : A) → get_elem? vs i ≡ some v → f v ≤ g v) → total f vs ≤ total g vs
  sum_le f g [] h = omega arith
  sum_le f g (x ∷ vs) h = omega (arith, h 0 x refl, sum_le f g vs (λ i v e. h (suc i) v e))

  pub sum_times : (g : A → ℕ) (vs : List A) → total (λ v. CALLS_MAX * g v) vs ≡ CALLS_MAX * total g vs
  sum_times g [] = refl
  sum_times g (x ∷ vs) = omega (arith, sum_times g vs)

  -- the last place too, by its index
  pub at_end : (l : List A) (a b : A) (j : ℕ) → get_elem? (l ++ a ∷ []) j ≡ some b → (get_elem? l j ≡ some b) ⊎ ((j ≡ length l) × (a ≡ b))
  at_end [] a b zero e = inr (refl, some-injective a b e)
  at_end [] a b (suc j) e = absurd (some-ne-none b (sym e))
  at_end (x ∷ xs) a b zero e = inl e
  at_end (x ∷ xs) a b (suc j) e = elim (at_end xs a b j e) [ inl h ↦ inl h | inr h ↦ inr (omega arith, h.1) ]

  pub only_one : (l : List A) (a : A) → length l ≡ 1 → set l 0 a ≡ a ∷ []
  only_one [] a e = absurd (omega arith)
  only_one (x ∷ []) a e = refl
  only_one (x ∷ y ∷ l) a e = absurd (omega arith)

module _ {A B : Type 0} where
  pub first_is : (p : A × B) (a : A) (b : B) → p ≡ (a, b) → p.0 ≡ a
  first_is p a b is = ap (λ (x : A × B). x.0) is

  pub second_is : (p : A × B) (a : A) (b : B) → p ≡ (a, b) → p.1 ≡ b
  second_is p a b is = ap (λ (x : A × B). x.1) is
