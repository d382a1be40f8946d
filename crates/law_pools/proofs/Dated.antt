-- Dates that do not go down, and none of which is after an event.
use Rattle.std.proofs.Common.{inl, inr, ℕ, ◌≤◌, Bool, true, false, if◌then◌else◌, List, [], ◌∷◌, ◌++◌, map, filter, sym, subst, le_refl, arith}
use Rattle.spec_kernel.proofs.Places.{IsIn}
use Rattle.law_pools.specs.Words.{AreDated}

pub dated_lower : (ks : List ℕ) (low high n : ℕ) → low ≤ high → AreDated high n ks → AreDated low n ks
dated_lower [] low high n l h = tt
dated_lower (k ∷ ks) low high n l h = let a : high ≤ k = h.0 in (omega arith, h.1, h.2)

pub dated_later : (ks : List ℕ) (low n k : ℕ) → n ≤ k → AreDated low n ks → AreDated low k ks
dated_later [] low n k l h = tt
dated_later (x ∷ xs) low n k l h = let a : x ≤ n = h.1 in (h.0, omega arith, dated_later xs x n k l h.2)

pub dated_push : (ks : List ℕ) (low n k : ℕ) → low ≤ k → n ≤ k → AreDated low n ks → AreDated low k (ks ++ k ∷ [])
dated_push [] low n k a l h = (a, le_refl k, tt)
dated_push (x ∷ xs) low n k a l h = let b : x ≤ n = h.1 in (h.0, omega arith, dated_push xs x n k (omega arith) l h.2)

-- of the items of a list
module _ {X : Type 0} (date : X → ℕ) where
  pub dated_filter :
      (keep : X → Bool) (xs : List X) (low n : ℕ) → AreDated low n (map date xs) → AreDated low n (map date (filter keep xs))
  dated_filter keep [] low n h = tt
  dated_filter keep (x ∷ xs) low n h = go (keep x) (dated_filter keep xs (date x) n h.2)
    where
      go :
          (b : Bool) → AreDated (date x) n (map date (filter keep xs)) →
          AreDated low n (map date (if b then x ∷ filter keep xs else filter keep xs))
      go true rest = (h.0, h.1, rest)
      go false rest = dated_lower (map date (filter keep xs)) low (date x) n h.0 rest

  pub dated_in : (xs : List X) (low n : ℕ) (x : X) → AreDated low n (map date xs) → IsIn x xs → date x ≤ n
  dated_in [] low n x h i = absurd i
  dated_in (y ∷ ys) low n x h (inl e) = subst (λ z. date z ≤ n) (sym e) h.1
  dated_in (y ∷ ys) low n x h (inr i) = dated_in ys (date y) n x h.2 i
