-- Paths in their table.
use Rattle.std.specs.Prelude.{ℕ, List, map}
use Rattle.std.specs.declared.vec.Vec.{Vec}

abbrev pub names_as_bytes : {Y : Type 0} → List (Vec ℕ Y) → List (List ℕ)
names_as_bytes names = map (λ name. name.items) names
