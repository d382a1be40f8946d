-- Who made a door: a door comes only by a Create, belongs to the process of the thread that asked for it, and keeps that
-- owner, its number, its procedure, its cookie and its attributes; and a call of it is entered at that procedure, with that
-- cookie.
use Rattle.std.specs.Prelude.{ℕ, ◌≡◌, ◌+◌, ◌<◌, ◌≤◌, List, Some, None, length, slice_get}
use Rattle.spec_kernel.specs.Types.{Door, Fd}
use Rattle.dk_base.specs.declared.answer.Answer.TheVariants as answer
use Rattle.spec_kernel.specs.Words.{State, Turn, door_of, process_of, state_at}
use Rattle.law_states.specs.Records.{door_of_call}
use Rattle.law_states.specs.Events.{IsCreated, IsMade}
use Rattle.law_places.specs.Places.{IsKept, IsOf, answer_at}

-- the turn of place i asks for door d, in the name of its thread's process
pub record IsCreate (m : State) (xs : List Turn) (i d : ℕ) (x : Turn) (made : Door) : Type 0 where
  pub created : IsCreated (state_at m xs i) x.thread x.request made
  pub number : made.number ≡ d

-- a door that is there at place i was made by a Create at an earlier place
pub record WasMade (m : State) (xs : List Turn) (i d : ℕ) (door : Door) : Type 0 where
  pub at : ℕ
  pub turn : Turn
  pub earlier : at < i
  pub found : slice_get xs at ≡ Some turn
  pub create : IsCreate m xs at d turn door
  pub none_before : door_of (state_at m xs at) d ≡ None
  pub there_after : IsMade (door_of (state_at m xs (at + 1)) d)

pub record MadeByCreator (m : State) (xs : List Turn) : Type 0 where
  pub none_at_first : (d : ℕ) → door_of m d ≡ None
  pub made :
      (i d : ℕ) (x : Turn) (door : Door) → slice_get xs i ≡ Some x → door_of (state_at m xs i) d ≡ None →
      door_of (state_at m xs (i + 1)) d ≡ Some door → IsCreate m xs i d x door
  pub was_made : (i d : ℕ) (door : Door) → i ≤ length xs → door_of (state_at m xs i) d ≡ Some door → WasMade m xs i d door
  pub kept :
      (i j d : ℕ) (door : Door) → i ≤ j → j ≤ length xs → door_of (state_at m xs i) d ≡ Some door →
      IsKept door (door_of (state_at m xs j) d)
  -- so the process of a thread is the same at the Create and at a later accept
  pub same_process : (i t : ℕ) → process_of (state_at m xs i) t ≡ process_of m t
  pub entered_there :
      (i c entry cookie : ℕ) (x : Turn) (bytes : List ℕ) (fds : List Fd) → slice_get xs i ≡ Some x →
      answer_at m xs i x ≡ answer.Entered c entry cookie bytes fds → IsOf (door_of_call (state_at m xs i) c) entry cookie
