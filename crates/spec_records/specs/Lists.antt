-- Lists of records.
use Rattle.std.specs.Prelude.{ℕ, Bool, List, [], ◌∷◌, Option, None, Some, if◌then◌else◌}
use Rattle.dk_base.specs.ByNumber.{at_number, with_at_number}

-- the first record that meets a test is changed, if there is one
abbrev pub change_first : {X : Type 0} → (X → Bool) → (X → X) → List X → List X
change_first test change [] = []
change_first test change (x ∷ xs) = if test x then change x ∷ xs else x ∷ change_first test change xs

-- the record of a number is changed, if there is one

abbrev pub change_found : {X : Type 0} → List X → ℕ → (X → X) → Option X → List X
change_found xs n change None = xs
change_found xs n change (Some x) = with_at_number xs n (change x)

abbrev pub change_at_number : {X : Type 0} → List X → ℕ → (X → X) → List X
change_at_number xs n change = change_found xs n change (at_number xs n)
