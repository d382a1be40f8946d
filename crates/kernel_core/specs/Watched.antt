-- Unreferenced notices, as the kernel makes them: before the act of an event it has room for as many as an event can make, and after the
-- act it makes a notice of each door that takes notices and whose references have fallen to one. Only doors with more than one reference
-- are watched for that.
use Rattle.std.specs.Prelude.{ℕ, ◌≡◌, if◌then◌else◌, List, [], ◌∷◌, Option, Bool, Some, filter, length, nat_lt}
use Rattle.spec_kernel.specs.Types.{Door}
use Rattle.spec_records.specs.Words.{AreNumbered, make_notice, notice_doors}
use Rattle.spec_kernel.specs.Words.{State, door_of, falls_to_one, now, reference_count}
use Rattle.law_states.specs.Events.{IsSameDoor}
use Rattle.kernel_store.specs.Words.{ArePlaced, HasBegun, HasRoomForNotices, IsAgreed, KeepsForNotices, StoreValue, may_have_notice_in, stored_state}

abbrev pub is_watched : State → ℕ → Bool
is_watched m d = nat_lt 1 (reference_count m d)

abbrev pub watched : State → List ℕ
watched m = filter (is_watched m) (notice_doors m.doors)

-- the doors that take notices, and whose references fall to one, in order
abbrev pub fallen : State → State → List ℕ
fallen before after = filter (falls_to_one before after) (notice_doors after.doors)

-- a notice of each of these doors that may have one, in order
abbrev pub make_of : State → List ℕ → State
make_of m [] = m
make_of m (d ∷ ds) =
    make_of (if may_have_notice_in m d (door_of m d) then record m { notice_list = make_notice m.notice_list (now m) d } else m) ds

-- a door after an act is the one before it, or is new
pub record IsKeptDoor (x : Door) (o : Option Door) : Type 0 where
  pub door : Door
  pub there : o ≡ Some door
  pub same : IsSameDoor x door

pub record KeepsDoors (m n : State) : Type 0 where
  pub numbered : AreNumbered m.doors
  pub kept : (d : ℕ) (x : Door) → door_of m d ≡ Some x → IsKeptDoor x (door_of n d)

-- what the notices after an act stand on: what it does to doors, and that doors, processes and notices are in their places after it
pub record IsReadyForNotices (m n : State) : Type 0 where
  pub doors : KeepsDoors m n
  pub placed : ArePlaced n

-- the step began in the state m, and has led to a store
pub record BeganIn (m : State) (store : StoreValue) : Type 0 where
  pub doors : KeepsDoors m (stored_state store)
  pub opened : HasBegun store m

-- before the act there was room for the notices that an event can make, and the act made none
pub record HadRoomForNotices (before after : StoreValue) : Type 0 where
  pub began : BeganIn (stored_state before) after
  pub room : HasRoomForNotices before
  pub agreed : IsAgreed before
  pub processes : length after.processes.processes ≡ length before.processes.processes
  pub made : after.notices.list.made ≡ before.notices.list.made
  pub keeps : KeepsForNotices before after
