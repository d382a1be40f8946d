-- Forks: a process that has not begun has threads that are Dormant alone, and no descriptor; it begins at a Fork of it by a thread of
-- its parent, and at nothing else, and then its threads run that are no spares, and its spares stay Dormant; and it begins once.
use Rattle.std.specs.Prelude.{ℕ, ◌≡◌, ◌+◌, ◌≤◌, List, true, false, Some, None, length, slice_get}
use Rattle.spec_records.specs.declared.record.ThreadState.TheVariants as is
use Rattle.spec_records.specs.Words.{is_spare_in, pid}
use Rattle.spec_kernel.specs.Types.{Fd, Pid}
use Rattle.spec_kernel.specs.Words.{State, Turn, is_live_process, is_unborn_process, object_at, parent_of, process_of, state_at, state_of, thread_of}
use Rattle.law_places.specs.Places.{process_at}
use Rattle.law_runs.specs.Rows.{Forks}

pub record IsUnborn (m : State) (p : ℕ) : Type 0 where
  pub no_row : (fd : Fd) → object_at m p fd ≡ None
  pub dormant : (t : ℕ) → process_of m t ≡ p → state_of m t ≡ is.Dormant

-- the turn of place i is a Fork of process p by a thread of its parent, and begins it
pub record BeginsAt (m : State) (xs : List Turn) (i : ℕ) (x : Turn) (p : ℕ) : Type 0 where
  pub child : Pid
  pub forks : Forks m xs i x child
  pub number : child.0 ≡ p
  pub parent : parent_of (state_at m xs i) p ≡ Some (pid (process_at m xs i x.thread))

pub record Begins (m : State) (xs : List Turn) : Type 0 where
  pub unborn : (i p : ℕ) → i ≤ length xs → is_unborn_process (state_at m xs i) p ≡ true → IsUnborn (state_at m xs i) p
  pub only_by :
      (i p : ℕ) (x : Turn) → slice_get xs i ≡ Some x → is_unborn_process (state_at m xs i) p ≡ true →
      is_unborn_process (state_at m xs (i + 1)) p ≡ false → BeginsAt m xs i x p
  pub by_each :
      (i : ℕ) (x : Turn) (child : Pid) → slice_get xs i ≡ Some x → Forks m xs i x child → is_live_process (state_at m xs (i + 1)) child.0 ≡ true
  pub was_unborn :
      (i : ℕ) (x : Turn) (child : Pid) → slice_get xs i ≡ Some x → Forks m xs i x child → is_unborn_process (state_at m xs i) child.0 ≡ true
  pub runs :
      (i t : ℕ) (x : Turn) (child : Pid) → slice_get xs i ≡ Some x → Forks m xs i x child → process_at m xs i t ≡ child.0 →
      is_spare_in (thread_of m t) ≡ false → state_of (state_at m xs (i + 1)) t ≡ is.Running
  pub rests :
      (i t : ℕ) (x : Turn) (child : Pid) → slice_get xs i ≡ Some x → Forks m xs i x child → process_at m xs i t ≡ child.0 →
      is_spare_in (thread_of m t) ≡ true → state_of (state_at m xs (i + 1)) t ≡ is.Dormant
  -- so no process begins twice
  pub once :
      (i j p : ℕ) → i ≤ j → j ≤ length xs → is_unborn_process (state_at m xs i) p ≡ false → is_unborn_process (state_at m xs j) p ≡ false
