-- Held: every shuttle has one holder. The walk from a thread to the thread that it serves, and so on, ends at its root; the walk the
-- other way, to the thread that serves it, and so on, ends at its lead, which holds the root's shuttle.
use Rattle.std.specs.Prelude.{ℕ, ◌≡◌, ◌≤◌, ◌⊎◌, List, true, Some, length, slice_get}
use Rattle.spec_kernel.specs.Types.{Call}
use Rattle.spec_records.specs.declared.record.CallStage.TheVariants as stage
use Rattle.spec_records.specs.Words.{tid}
use Rattle.spec_kernel.specs.Words.{State, Turn, is_runnable, lead, root, state_at}
use Rattle.law_states.specs.Records.{record_of}

-- thread t serves thread u: a call of u was given to t, or t has entered it
pub record Serves (m : State) (t u : ℕ) : Type 0 where
  pub number : ℕ
  pub call : Call
  pub there : record_of m number ≡ Some call
  pub with_it : (call.stage ≡ stage.Given (tid t)) ⊎ (call.stage ≡ stage.Entered (tid t))
  pub caller : call.caller.0 ≡ u

-- thread r is reached from thread t by going to the thread that is served, and so on
pub data Walks (m : State) : ℕ → ℕ → Type 0 where
  ends : {t : ℕ} → Walks m t t
  goes : (t u r : ℕ) → Serves m t u → Walks m u r → Walks m t r

-- of each state
pub record HasHolders (m : State) : Type 0 where
  -- a thread serves at most one thread at a time, and at most one serves it
  pub one_served : (t u v : ℕ) → Serves m t u → Serves m t v → u ≡ v
  pub one_server : (t u v : ℕ) → Serves m t v → Serves m u v → t ≡ u
  -- both walks end: a thread's root serves none, and its lead is served by none
  pub root_reached : (t : ℕ) → Walks m t (root m t)
  pub root_ends : (t u : ℕ) → Serves m (root m t) u → ⊥
  pub lead_reached : (t : ℕ) → Walks m (lead m t) t
  pub lead_ends : (t u : ℕ) → Serves m u (lead m t) → ⊥
  -- a thread that can take a turn holds the shuttle of its root, so two of them have different roots
  pub holds : (t : ℕ) → is_runnable m t ≡ true → lead m (root m t) ≡ t
  pub apart : (t u : ℕ) → is_runnable m t ≡ true → is_runnable m u ≡ true → root m t ≡ root m u → t ≡ u

pub record Held (m : State) (xs : List Turn) : Type 0 where
  pub each : (i : ℕ) → i ≤ length xs → HasHolders (state_at m xs i)
  -- so the thread of a turn is the lead of the root that its line names
  pub turn : (i : ℕ) (x : Turn) → slice_get xs i ≡ Some x → lead (state_at m xs i) (root (state_at m xs i) x.thread) ≡ x.thread
