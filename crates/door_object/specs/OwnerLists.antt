-- The doors in lists by their owners: a door has the number of the one before it in its list.
use Rattle.std.specs.Prelude.{ℕ, zero, suc, ◌≡◌, ◌<◌, ◌%◌, ◌==◌, Bool, false, if◌then◌else◌, List, Option, None, Some, length, map, slice_get}
use Rattle.std.specs.Option.{option_map}
use Rattle.door_object.specs.declared.owner_lists.TheConstants.{LISTS}
use Rattle.spec_records.specs.declared.record.Door.{Door}
use Rattle.spec_records.specs.Words.{has_common_door, new_door, notice_doors}

-- each number that a process may have has a list of its own
abbrev pub list_of : ℕ → ℕ
list_of p = p % LISTS

abbrev pub is_listed : ℕ → Option Door → Bool
is_listed l None = false
is_listed l (Some x) = list_of x.owner.0 == l

-- the number of the last door of a list among the first n doors, 0 for none
abbrev pub last_listed : List Door → ℕ → ℕ → ℕ
last_listed doors l zero = 0
last_listed doors l (suc n) = if is_listed l (slice_get doors n) then suc n else last_listed doors l n

-- the number of the one before a door at a place
abbrev pub earlier_of : List Door → ℕ → Door → ℕ
earlier_of doors i x = last_listed doors (list_of x.owner.0) i

abbrev pub AreLinked : List Door → List ℕ → Type 0
AreLinked doors earlier = (i : ℕ) → slice_get earlier i ≡ option_map (earlier_of doors i) (slice_get doors i)

-- the doors as they were made: what no change of a door touches
abbrev pub made : Door → Door
made x = new_door x.number x.owner.0 x.entry x.cookie x.attrs

abbrev pub as_made : List Door → List Door
as_made doors = map made doors

-- the number of the last door of an owner's list among the first n doors
abbrev pub last_of : ℕ → List Door → ℕ → ℕ
last_of p doors n = last_listed (as_made doors) (list_of p) n

-- what is kept beside the doors is that of the doors: the numbers of those that take notices, the links, where each list ends,
-- and which owners have a door in their common pool
pub record AreListed (doors : List Door) (with_notices earlier last : List ℕ) (common : List Bool) : Type 0 where
  pub notices : with_notices ≡ notice_doors doors
  pub long : length earlier ≡ length doors
  pub linked : AreLinked doors earlier
  pub ends : (l : ℕ) → l < LISTS → slice_get last l ≡ Some (last_listed doors l (length doors))
  pub served : (p : ℕ) → p < LISTS → slice_get common p ≡ Some (has_common_door doors p)
