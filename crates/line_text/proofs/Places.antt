-- A list from a place on.
use Rattle.std.proofs.Common.{◌≡◌, ℕ, ◌+◌, ◌<◌, List, ◌∷◌, length, drop, get_or, arith, add-one}
use Rattle.std.proofs.lemmas.Grind.{common_steps}

pub drop_cons_at : (xs : List ℕ) (i : ℕ) → i < length xs → drop i xs ≡ get_or xs i 0 ∷ drop (i + 1) xs
drop_cons_at xs i within = grind (arith, add-one, common_steps)
