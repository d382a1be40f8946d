-- The first items of a list that lies in two parts.
use Rattle.std.proofs.Common.{◌≡◌, ℕ, ◌-◌, ◌++◌, List, length, min, take, arith}
use Rattle.std.proofs.lemmas.List.{places, same_lists}

-- some of the first part and, where it is too short, some of the second follow other items
pub take_halves :
    {X : Type 0} (ws xs ys zs : List X) (held max count first : ℕ) → xs ++ ys ≡ zs → held ≡ length zs → count ≡ min held max → first ≡ min (length xs) count →
    (ws ++ take first xs) ++ take (count - first) ys ≡ ws ++ take max zs
take_halves ws xs ys zs held max count first whole e c f = rw (← whole) (same_lists _ _ (grind (arith, places)) (λ k d h. grind (arith, places)))
