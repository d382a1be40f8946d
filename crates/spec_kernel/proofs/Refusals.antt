-- The tests of an entry that is not refused.
use Rattle.std.proofs.Common.{◌≡◌, false, List, [], ◌∷◌, ◌++◌, None, arith}
use Rattle.spec_records.specs.Words.{Test, first_refusal}

-- none of them holds
pub not_held : (xs : List Test) (x : Test) (ys : List Test) → first_refusal (xs ++ x ∷ ys) ≡ None → x.holds ≡ false
not_held [] x ys e = grind arith
not_held (y ∷ xs) x ys e = grind (arith, not_held xs x ys)

-- nor the one after it
pub last_not_held : (xs : List Test) (x y : Test) → first_refusal (xs ++ x ∷ y ∷ []) ≡ None → y.holds ≡ false
last_not_held [] x y e = grind arith
last_not_held (z ∷ xs) x y e = grind (arith, last_not_held xs x y)
