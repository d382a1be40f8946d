-- Which threads can take a turn by what they are at alone, which wait for a path or at a port, which are parked, and which keep their
-- processes from ending.
use Rattle.std.specs.Prelude.{ℕ, ◌≡◌, Bool, true, false, not, List}
use Rattle.dk_base.specs.ByNumber.{at_number}
use Rattle.spec_records.specs.declared.record.Thread.{Thread}
use Rattle.spec_records.specs.declared.record.ThreadState.{ThreadState}
use Rattle.spec_records.specs.declared.record.ThreadState.TheVariants as is
use Rattle.spec_records.specs.Words.{is_active, is_idle, state_in}
use Rattle.proc_table.specs.declared.standing.Standing.{Standing}
use Rattle.dk_base.specs.Words.{has, with_thread}

-- a thread at this can take a turn, whatever calls and names there are
abbrev pub goes_on : ThreadState → Bool
goes_on is.Running = true
goes_on (is.Given item) = true
goes_on (is.Working op input) = true
goes_on is.FailedReturn = true
goes_on (is.Getting port max nget one interrupted) = interrupted
goes_on _ = false

abbrev pub is_awaiting : ThreadState → Bool
is_awaiting (is.Awaiting path) = true
is_awaiting _ = false

-- a thread at this waits at a port, and was not interrupted
abbrev pub is_getting : ThreadState → Bool
is_getting (is.Getting port max nget one interrupted) = not interrupted
is_getting _ = false

-- the sets are those of these threads
pub record AreNoted (s : Standing) (threads : List Thread) : Type 0 where
  pub going : (t : ℕ) → has s.going t ≡ goes_on (state_in (at_number threads t))
  pub awaiting : (t : ℕ) → has s.awaiting t ≡ is_awaiting (state_in (at_number threads t))
  pub getting : (t : ℕ) → has s.getting t ≡ is_getting (state_in (at_number threads t))
  pub idle : (t : ℕ) → has s.idle t ≡ is_idle (state_in (at_number threads t))
  pub active : (t : ℕ) → has s.active t ≡ is_active (state_in (at_number threads t))

-- a thread is noted anew, and no other
pub record IsNotedAt (t : ℕ) (s : ThreadState) (before after : Standing) : Type 0 where
  pub going : (u : ℕ) → has after.going u ≡ with_thread before.going t (goes_on s) u
  pub awaiting : (u : ℕ) → has after.awaiting u ≡ with_thread before.awaiting t (is_awaiting s) u
  pub getting : (u : ℕ) → has after.getting u ≡ with_thread before.getting t (is_getting s) u
  pub idle : (u : ℕ) → has after.idle u ≡ with_thread before.idle t (is_idle s) u
  pub active : (u : ℕ) → has after.active u ≡ with_thread before.active t (is_active s) u
