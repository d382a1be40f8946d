-- Ends: what is left of a process that has ended, and why and where threads and processes end. A process that has ended has ended for
-- ever, and a thread that is Done is Done for ever.
use Rattle.std.specs.Prelude.{ℕ, ◌≡◌, ◌+◌, ◌≤◌, ◌⊎◌, List, Bool, true, false, Some, None, length, slice_get}
use Rattle.spec_kernel.specs.Types.{Call, Fd, Pid}
use Rattle.dk_base.specs.declared.request.Request.TheVariants as request
use Rattle.dk_base.specs.ByNumber.{at_number}
use Rattle.spec_records.specs.declared.record.CallStage.TheVariants as stage
use Rattle.spec_records.specs.declared.record.NoticeStage.TheVariants as notice
use Rattle.spec_records.specs.declared.record.ThreadState.TheVariants as is
use Rattle.spec_records.specs.Words.{is_live, tid}
use Rattle.spec_kernel.specs.Words.{State, Turn, door_of, is_unborn_process, is_valid, object_at, process_of, state_at, state_of}
use Rattle.law_states.specs.Arrows.{EndsNow}
use Rattle.law_states.specs.Core.{ended_in}
use Rattle.law_states.specs.Records.{owner_in, owner_of_call, record_of, stage_of}
use Rattle.law_places.specs.Places.{notice_stage_of, owner_of_notice, process_at}

abbrev pub is_ended : State → ℕ → Bool
is_ended m p = ended_in (at_number m.process_table.processes p)

-- no call waits at a door that process p made, or is with a thread
abbrev pub HasNoCall : State → ℕ → Type 0
HasNoCall m p =
    (c u : ℕ) → owner_of_call m c ≡ Some p →
    (stage_of m c ≡ Some stage.Queued) ⊎ ((stage_of m c ≡ Some (stage.Given (tid u))) ⊎ (stage_of m c ≡ Some (stage.Entered (tid u)))) →
    ⊥

-- and no call at all, whoever made its door, is with a thread of p
abbrev pub ServesNone : State → ℕ → Type 0
ServesNone m p =
    (c u : ℕ) → process_of m u ≡ p →
    (stage_of m c ≡ Some (stage.Given (tid u))) ⊎ (stage_of m c ≡ Some (stage.Entered (tid u))) → ⊥

-- no notice waits at a door that process p made, or is with a thread
abbrev pub HasNoNotice : State → ℕ → Type 0
HasNoNotice m p =
    (c u : ℕ) → owner_of_notice m c ≡ Some p →
    (notice_stage_of m c ≡ Some notice.Waiting)
    ⊎ ((notice_stage_of m c ≡ Some (notice.Given (tid u))) ⊎ (notice_stage_of m c ≡ Some (notice.Entered (tid u)))) → ⊥

-- and no notice at all, whoever made its door, is with a thread of p
abbrev pub ServesNoNotice : State → ℕ → Type 0
ServesNoNotice m p =
    (c u : ℕ) → process_of m u ≡ p →
    (notice_stage_of m c ≡ Some (notice.Given (tid u))) ⊎ (notice_stage_of m c ≡ Some (notice.Entered (tid u))) → ⊥

pub record HasEnded (m : State) (p : ℕ) : Type 0 where
  pub no_row : (fd : Fd) → object_at m p fd ≡ None
  -- so none is parked, was given anything, or waits
  pub threads_done : (t : ℕ) → process_of m t ≡ p → state_of m t ≡ is.Done
  pub no_valid_door : (d : ℕ) → owner_in (door_of m d) ≡ Some p → is_valid m d ≡ false
  pub no_call : HasNoCall m p
  pub serves_none : ServesNone m p
  pub no_notice : HasNoNotice m p
  pub serves_no_notice : ServesNoNotice m p
  -- and its own calls are answered, or Gone
  pub none_live : (c : ℕ) (r : Call) → record_of m c ≡ Some r → process_of m r.caller.0 ≡ p → is_live r.stage ≡ false

-- thread t is the last of process p that is neither Done nor Dormant
abbrev pub IsLast : State → ℕ → ℕ → Type 0
IsLast m t p = (u : ℕ) → process_of m u ≡ p → (u ≡ t → ⊥) → (state_of m u ≡ is.Done) ⊎ (state_of m u ≡ is.Dormant)

-- the turn of place i ends process p: it kills it, which has begun, or is the Exit of its last thread that is neither Done nor Dormant
pub data EndsProcess (m : State) (xs : List Turn) (i : ℕ) (x : Turn) (p : ℕ) : Type 0 where
  kills :
      (process : Pid) → x.request ≡ Some (request.Kill process) → process.0 ≡ p → is_unborn_process (state_at m xs i) p ≡ false →
      EndsProcess m xs i x p
  exits :
      x.request ≡ Some request.Exit → process_at m xs i x.thread ≡ p → IsLast (state_at m xs i) x.thread p →
      EndsProcess m xs i x p

-- thread t ends at the turn of place i: by its own Exit, or with its process
pub data ThreadEnds (m : State) (xs : List Turn) (i : ℕ) (x : Turn) (t : ℕ) : Type 0 where
  exits : x.request ≡ Some request.Exit → x.thread ≡ t → ThreadEnds m xs i x t
  with_process : is_ended (state_at m xs (i + 1)) (process_at m xs i t) ≡ true → ThreadEnds m xs i x t

pub record Ends (m : State) (xs : List Turn) : Type 0 where
  pub process : (i p : ℕ) → i ≤ length xs → is_ended (state_at m xs i) p ≡ true → HasEnded (state_at m xs i) p
  pub process_stays :
      (i j p : ℕ) → i ≤ j → j ≤ length xs → is_ended (state_at m xs i) p ≡ true → is_ended (state_at m xs j) p ≡ true
  pub thread_stays :
      (i j t : ℕ) → i ≤ j → j ≤ length xs → state_of (state_at m xs i) t ≡ is.Done → state_of (state_at m xs j) t ≡ is.Done
  -- a thread ends by its own Exit or with its process, and by each of the two
  pub thread_ends_why :
      (i t : ℕ) (x : Turn) → slice_get xs i ≡ Some x → EndsNow (state_at m xs i) (state_at m xs (i + 1)) t → ThreadEnds m xs i x t
  pub thread_ends_where :
      (i t : ℕ) (x : Turn) → slice_get xs i ≡ Some x → ThreadEnds m xs i x t → state_of (state_at m xs (i + 1)) t ≡ is.Done
  -- a process ends by a Kill or by the Exit of its last thread, and by each of the two
  pub process_ends_why :
      (i p : ℕ) (x : Turn) → slice_get xs i ≡ Some x → is_ended (state_at m xs i) p ≡ false → is_ended (state_at m xs (i + 1)) p ≡ true →
      EndsProcess m xs i x p
  pub process_ends_where :
      (i p : ℕ) (x : Turn) → slice_get xs i ≡ Some x → EndsProcess m xs i x p → is_ended (state_at m xs (i + 1)) p ≡ true
