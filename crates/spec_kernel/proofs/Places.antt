-- Lists whose items have the numbers of their places, and changes that no number shows.
use Rattle.std.proofs.Common.{◌≡◌, ℕ, suc, List, [], ◌∷◌, Some, slice_get, sym, ap, ◌⊎◌, inl, inr}

-- x is an item of the list
abbrev pub IsIn : {X : Type 0} → X → List X → Type 0
IsIn x [] = ⊥
IsIn x (y ∷ ys) = (x ≡ y) ⊎ IsIn x ys

pub place_of : {X : Type 0} (x : X) (xs : List X) → IsIn x xs → (i : ℕ) × (slice_get xs i ≡ Some x)
place_of x [] h = absurd h
place_of x (y ∷ ys) (inl e) = (0, ap Some (sym e))
place_of x (y ∷ ys) (inr h) = let p : (i : ℕ) × (slice_get ys i ≡ Some x) = place_of x ys h in (suc p.0, p.1)
