-- Lists whose items stand in order, and lists whose items are numbered from 1, of which one is changed.
use Rattle.std.specs.Prelude.{ℕ, ◌<◌, List, [], ◌∷◌, Option, None, Some}
use Rattle.std.specs.List.{AllByRecursion}
use Rattle.dk_base.specs.ByNumber.{at_number, with_at_number}

-- each item comes before all that follow it
abbrev pub IsOrderedBy : {X : Type 0} → (X → X → Type 0) → List X → Type 0
IsOrderedBy Before [] = Unit {0}
IsOrderedBy Before (x ∷ xs) = AllByRecursion (Before x) xs × IsOrderedBy Before xs

abbrev pub IsBelow : ℕ → ℕ → Type 0
IsBelow m n = m < n

abbrev pub IsAscending : List ℕ → Type 0
IsAscending = IsOrderedBy IsBelow

abbrev pub change_item : {X : Type 0} → List X → ℕ → (X → X) → Option X → List X
change_item xs n change None = xs
change_item xs n change (Some x) = with_at_number xs n (change x)

-- the list with the item of a number changed; where there is none it is as it was
abbrev pub change_at_number : {X : Type 0} → List X → ℕ → (X → X) → List X
change_at_number xs n change = change_item xs n change (at_number xs n)
