-- Pools: no door has both an idle thread that may serve it and a call or a notice that waits; and to what doors threads are bound.
use Rattle.std.specs.Prelude.{ℕ, ◌≡◌, ◌≤◌, ◌⊎◌, List, Some, true, length}
use Rattle.spec_kernel.specs.Types.{Call, Notice}
use Rattle.spec_records.specs.declared.record.CallStage.TheVariants as stage
use Rattle.spec_records.specs.declared.record.NoticeStage.TheVariants as notice
use Rattle.spec_records.specs.declared.pool.TheConstants.{LOST_DOOR}
use Rattle.spec_records.specs.declared.record.ThreadState.TheVariants as is
use Rattle.spec_kernel.specs.Words.{State, Turn, bound_of, door_of, is_valid, process_of, state_at, state_of}
use Rattle.law_states.specs.Records.{notice_of, owner_in, record_of}
use Rattle.law_places.specs.Counts.{has_own_pool}
use Rattle.law_places.specs.Places.{MayServe}

-- a call or a notice waits at door d
pub data WaitsAt (m : State) (d : ℕ) : Type 0 where
  by_call : (c : ℕ) (r : Call) → record_of m c ≡ Some r → r.stage ≡ stage.Queued → r.door ≡ d → WaitsAt m d
  by_notice : (c : ℕ) (n : Notice) → notice_of m c ≡ Some n → n.stage ≡ notice.Waiting → n.door ≡ d → WaitsAt m d

abbrev pub HasNoneIdle : State → Type 0
HasNoneIdle m = (t d since : ℕ) → state_of m t ≡ is.Idle since → MayServe m t d → WaitsAt m d → ⊥

abbrev pub NoPoolHasBoth : State → List Turn → Type 0
NoPoolHasBoth m xs = (i : ℕ) → i ≤ length xs → HasNoneIdle (state_at m xs i)

-- a thread is bound only to a private door of its own process, which is valid while the thread is idle
pub record IsBoundToOwn (m : State) (t d : ℕ) : Type 0 where
  pub is_private : has_own_pool (door_of m d) ≡ true
  pub own : owner_in (door_of m d) ≡ Some (process_of m t)
  pub valid : (since : ℕ) → state_of m t ≡ is.Idle since → is_valid m d ≡ true

pub record IsBoundToLost (m : State) (t d : ℕ) : Type 0 where
  pub lost : d ≡ LOST_DOOR
  pub not_idle : (since : ℕ) → state_of m t ≡ is.Idle since → ⊥

-- or to the one that is lost, and then it is not idle
abbrev pub AreBoundToOwn : State → List Turn → Type 0
AreBoundToOwn m xs =
    (i t d : ℕ) → i ≤ length xs → bound_of (state_at m xs i) t ≡ Some d → IsBoundToOwn (state_at m xs i) t d ⊎ IsBoundToLost (state_at m xs i) t d
