-- Which turns a thread may take.
use Rattle.std.specs.Prelude.{ℕ, ◌≡◌, ◌≤◌, ◌<◌, Option, Some, None, true, false, length}
use Rattle.spec_kernel.specs.Types.{Request}
use Rattle.dk_base.specs.declared.request.Request.TheVariants as request
use Rattle.dk_base.specs.declared.limits.TheConstants.{ADVANCE_MAX, ANSWER_ITEMS_MAX, CLOCK_MAX, DATA_MAX, DELAY_MAX, EVENTS_MAX}
use Rattle.spec_records.specs.Words.{pid}
use Rattle.spec_kernel.specs.State.{State, parent_of, process_of}
use Rattle.spec_kernel.specs.Turns.{is_runnable, is_running}

-- the threads and processes that a request of thread t names are there, and its counts are in range
abbrev pub IsFit : State → ℕ → Request → Type 0
IsFit m t (request.Interrupt thread) = (1 ≤ thread.0) × (thread.0 ≤ length m.process_table.threads)
IsFit m t (request.Kill process) = (1 ≤ process.0) × (process.0 ≤ length m.process_table.processes)
-- a child of the thread's own process
IsFit m t (request.Fork child) = parent_of m child.0 ≡ Some (pid (process_of m t))
IsFit m t (request.Read fd max) = (1 ≤ max) × (max ≤ DATA_MAX)
IsFit m t (request.GetN port max nget wait) = max ≤ ANSWER_ITEMS_MAX
IsFit m t (request.TimerSet timer first interval) = (first ≤ DELAY_MAX) × (interval ≤ DELAY_MAX)
-- by a step that is not too long, from a clock that is not too late
IsFit m t (request.Advance by) = (1 ≤ by) × (by ≤ ADVANCE_MAX) × (m.channels.timers.clock ≤ CLOCK_MAX)
IsFit m t _ = Unit {0}

pub record MayEnter (m : State) (t : ℕ) (r : Request) : Type 0 where
  pub running : is_running m t ≡ true
  pub fit : IsFit m t r
  pub few : m.events < EVENTS_MAX

pub record MayGoOn (m : State) (t : ℕ) : Type 0 where
  pub runnable : is_runnable m t ≡ true
  pub waits : is_running m t ≡ false
  pub few : m.events < EVENTS_MAX

abbrev pub MayTurn : State → ℕ → Option Request → Type 0
MayTurn m t (Some r) = MayEnter m t r
MayTurn m t None = MayGoOn m t
