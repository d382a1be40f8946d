-- Lists of records of which the first that waits under a number is given to a thread.
use Rattle.std.proofs.Common.{◌≡◌, ℕ, ◌<◌, ◌&&◌, ◌==◌, Bool, true, false, if◌then◌else◌, List, [], ◌∷◌, refl, sym, ap, ◌∙◌, inl, inr, true≢false, arith}
use Rattle.std.proofs.lemmas.Bool.Decides.{nat_tests}
use Rattle.spec_records.specs.Words.{IsAscending, change_first}
use Rattle.spec_kernel.proofs.Places.{IsIn}

module _ {X : Type 0} (number : X → ℕ) where
  pub ascending-in : (low made : ℕ) (xs : List X) (x : X) → IsAscending number low made xs → IsIn x xs → low < number x
  ascending-in low made [] x a h = absurd h
  ascending-in low made (y ∷ ys) x a (inl e) = let same : number x ≡ number y = ap number e in omega (arith, same, a.0)
  ascending-in low made (y ∷ ys) x a (inr k) = omega (arith, a.0, ascending-in (number y) made ys x a.2 k)

  module _ (waits : X → Bool) (give : X → X) (over : (x : X) → waits (give x) ≡ false) (c : ℕ) where
    abbrev waits_as : X → Bool
    waits_as x = (number x == c) && waits x

    abbrev given : List X → List X
    given xs = change_first waits_as give xs

    -- what was given waits no more
    given_not_waiting : (x y : X) → x ≡ give y → waits x ≡ true → ⊥
    given_not_waiting x y e q = true≢false (sym q ∙ ap waits e ∙ over y)

    -- and the others that wait did before
    pub given_stays : (xs : List X) (x : X) → waits x ≡ true → IsIn x (given xs) → IsIn x xs
    given_stays [] x q h = h
    given_stays (y ∷ ys) x q h = go (waits_as y) (given_stays ys x q) h
      where
        go : (b : Bool) → (IsIn x (given ys) → IsIn x ys) → IsIn x (if b then give y ∷ ys else y ∷ given ys) → IsIn x (y ∷ ys)
        go true ih (inl e) = absurd (given_not_waiting x y e q)
        go true ih (inr k) = inr k
        go false ih (inl e) = inl e
        go false ih (inr k) = inr (ih k)

    -- none of its number waits then
    pub given_gone : (low made : ℕ) (xs : List X) (x : X) → IsAscending number low made xs → waits x ≡ true → number x ≡ c → IsIn x (given xs) → ⊥
    given_gone low made [] x a q e h = h
    given_gone low made (y ∷ ys) x a q e h = go (waits_as y) refl (given_gone (number y) made ys x a.2 q e) h
      where
        there : waits_as x ≡ true
        there = grind (arith, nat_tests, q, e)

        its : waits_as y ≡ true → number y ≡ c
        its f = grind (arith, nat_tests, f)

        go : (b : Bool) → waits_as y ≡ b → (IsIn x (given ys) → ⊥) → IsIn x (if b then give y ∷ ys else y ∷ given ys) → ⊥
        go true f ih (inl k) = given_not_waiting x y k q
        go true f ih (inr k) = let above : number y < number x = ascending-in (number y) made ys x a.2 k in absurd (omega (arith, above, its f, e))
        go false f ih (inl k) = true≢false (sym there ∙ ap waits_as k ∙ f)
        go false f ih (inr k) = ih k
