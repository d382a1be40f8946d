-- The versions of the language.
use Rattle.std.specs.Prelude.{ℕ, List, [], ◌∷◌}

abbrev pub versions : List ℕ
versions = 1 ∷ 2 ∷ 3 ∷ 4 ∷ []
