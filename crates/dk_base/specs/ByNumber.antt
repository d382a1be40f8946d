-- Lists whose items are numbered from 1.
use Rattle.std.specs.Prelude.{ℕ, ◌-◌, ◌==◌, if◌then◌else◌, List, Option, None, slice_get, slice_set}

-- the item of a number, if there is one
abbrev pub at_number : {X : Type 0} → List X → ℕ → Option X
at_number xs n = if n == 0 then None else slice_get xs (n - 1)

-- the list with another item under a number that is there
abbrev pub with_at_number : {X : Type 0} → List X → ℕ → X → List X
with_at_number xs n x = if n == 0 then xs else slice_set xs (n - 1) x
