-- How many notices there are of each door.
use Rattle.std.specs.Prelude.{ℕ, ◌≡◌, ◌==◌, List, count_by, nat_eq, unwrap_or}
use Rattle.std.specs.Map.{lookup}
use Rattle.spec_records.specs.declared.record.Notice.{Notice}

pub record DoorCountsValue : Type 0 where
  pub entries : List (ℕ × ℕ)
  -- how many more doors take no memory
  pub spare : ℕ

-- 0 where a door never had a notice
abbrev pub notices_of : List (ℕ × ℕ) → ℕ → ℕ
notices_of entries d = unwrap_or (lookup (nat_eq d) entries) 0

abbrev pub door_in : Notice → ℕ
door_in x = x.door

-- each door is counted as often as it stands among these
abbrev pub CountsDoors : List (ℕ × ℕ) → List ℕ → Type 0
CountsDoors entries doors = (d : ℕ) → notices_of entries d ≡ count_by (λ e. e == d) doors
