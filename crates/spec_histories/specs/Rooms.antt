-- Room for an answer, and which answers fit it.
use Rattle.std.specs.Prelude.{ℕ, ◌≡◌, ◌≤◌, [], Option, length}
use Rattle.dk_base.specs.declared.limits.TheConstants.{ANSWER_ITEMS_MAX, DATA_MAX, PASS_MAX}
use Rattle.dk_base.specs.declared.answer.Answer.TheVariants as answer
use Rattle.dk_base.specs.Spare.{RoomValue}
use Rattle.spec_kernel.specs.Types.{Answer, Errno, EventRec, Fd}

pub record IsEmptyRoom {A : Type 0} (n : ℕ) (room : RoomValue A) : Type 0 where
  pub empty : room.items ≡ []
  pub spare : n ≤ room.spare

pub record IsRoom (bytes : RoomValue ℕ) (fds : RoomValue Fd) (events : RoomValue EventRec) (errors : RoomValue (Option Errno)) : Type 0 where
  pub bytes_fit : IsEmptyRoom DATA_MAX bytes
  pub fds_fit : IsEmptyRoom PASS_MAX fds
  pub events_fit : IsEmptyRoom ANSWER_ITEMS_MAX events
  pub errors_empty : errors.items ≡ []

-- at most 4,096 bytes, 16 descriptors, 64 events, and so many errors
abbrev pub IsNoLarger : ℕ → Answer → Type 0
IsNoLarger ports (answer.Data bytes) = length bytes ≤ DATA_MAX
IsNoLarger ports (answer.Entered call entry cookie bytes fds) = (length bytes ≤ DATA_MAX) × (length fds ≤ PASS_MAX)
IsNoLarger ports (answer.Results bytes fds grown) = (length bytes ≤ DATA_MAX) × (length fds ≤ PASS_MAX)
IsNoLarger ports (answer.Events events) = length events ≤ ANSWER_ITEMS_MAX
IsNoLarger ports (answer.Errors errors) = length errors ≤ ports
IsNoLarger ports _ = Unit {0}
