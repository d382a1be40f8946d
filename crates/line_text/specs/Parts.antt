-- Words that are made of parts.
use Rattle.std.specs.Prelude.{ℕ, ◌==◌, List, [], ◌∷◌, Option, Some, None, option_map, if◌then◌else◌}

abbrev pub with_first : ℕ → Option (List ℕ × List ℕ) → Option (List ℕ × List ℕ)
with_first b None = None
with_first b (Some parts) = Some (b ∷ parts.0, parts.1)

-- what stands before and after the first byte that is this one
abbrev pub parts_at : ℕ → List ℕ → Option (List ℕ × List ℕ)
parts_at mark [] = None
parts_at mark (b ∷ bs) = if b == mark then Some ([], bs) else with_first b (parts_at mark bs)

-- what stands before the last byte, where that is this one
abbrev pub part_before_last : ℕ → List ℕ → Option (List ℕ)
part_before_last mark [] = None
part_before_last mark (b ∷ []) = if b == mark then Some [] else None
part_before_last mark (b ∷ c ∷ bs) = option_map (λ rest. b ∷ rest) (part_before_last mark (c ∷ bs))
