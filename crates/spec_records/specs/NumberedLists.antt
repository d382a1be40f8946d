-- Lists of records that carry numbers.
use Rattle.std.specs.Prelude.{ℕ, ◌≡◌, ◌+◌, ◌<◌, ◌≤◌, List, [], ◌∷◌, Bool, ◌==◌}

module _ {X : Type 0} (number : X → ℕ) where
  abbrev pub is_numbered : ℕ → X → Bool
  is_numbered c x = number x == c

  -- the numbers from n + 1 on, in order
  abbrev pub IsCounted : ℕ → List X → Type 0
  IsCounted n [] = Unit {0}
  IsCounted n (x ∷ xs) = (number x ≡ n + 1) × IsCounted (n + 1) xs

  -- numbers that go up, above low and at most made
  abbrev pub IsAscending : ℕ → ℕ → List X → Type 0
  IsAscending low made [] = Unit {0}
  IsAscending low made (x ∷ xs) = (low < number x) × (number x ≤ made) × IsAscending (number x) made xs
