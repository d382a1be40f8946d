-- How much room a call takes that adds to the end of a text.
use Rattle.std.specs.Prelude.{ℕ, ◌+◌, ◌≤◌, length}
use Rattle.dk_base.specs.Spare.{RoomValue}

-- the text is longer by at most so much, and as much room is left but for that
abbrev pub TakesAtMost : RoomValue ℕ → RoomValue ℕ → ℕ → Type 0
TakesAtMost old new n = (old.spare ≤ new.spare + n) × (length new.items ≤ length old.items + n)
