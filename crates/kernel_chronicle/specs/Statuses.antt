-- The numbers by which C is told of threads and of refusals.
use Rattle.std.specs.Prelude.{ℕ, ◌≡◌, ◌≤◌, ◌&&◌, Bool, true, false, not, List, Ok, Err, Result}
use Rattle.dk_base.specs.declared.limits.TheConstants.{EVENTS_MAX}
use Rattle.spec_records.specs.declared.record.ThreadState.TheVariants as is
use Rattle.spec_kernel.specs.Types.{ThreadState}
use Rattle.spec_kernel.specs.Words.{is_runnable, is_running}
use Rattle.spec_histories.specs.Histories.{end}
use Rattle.kernel_chronicle.specs.declared.asked.Asked.{Asked}
use Rattle.kernel_chronicle.specs.declared.refusal.Refusal.{Refusal}
use Rattle.kernel_chronicle.specs.declared.refusal.Refusal.TheVariants as why
use Rattle.kernel_chronicle.specs.declared.refusal.Unopened.{Unopened}
use Rattle.kernel_chronicle.specs.declared.refusal.Unopened.TheVariants as unopened
use Rattle.kernel_chronicle.specs.Written.{IsUnfit, Written}

-- what a thread is at

abbrev pub state_number : ThreadState → ℕ
state_number is.Dormant = 1
state_number is.Running = 2
state_number (is.Idle since) = 3
state_number (is.Given item) = 4
state_number (is.Calling c) = 5
state_number (is.Getting port max nget one interrupted) = 6
state_number (is.Awaiting path) = 7
state_number (is.Working op input) = 8
state_number is.FailedReturn = 9
state_number is.Done = 10

-- how a turn went

abbrev pub refusal_number : Refusal → ℕ
refusal_number why.Full = 1
refusal_number why.NotRunning = 2
refusal_number why.NotReady = 3
refusal_number why.NotFit = 4
refusal_number why.NoMemory = 5

abbrev pub turn_number : Result (Unit {0}) Refusal → ℕ
turn_number (Ok done) = 0
turn_number (Err why) = refusal_number why

-- why there is no kernel
abbrev pub unopened_number : Unopened → ℕ
unopened_number unopened.NoMemory = 5
unopened_number unopened.NoRoom = 6
unopened_number unopened.NoOpening = 7
