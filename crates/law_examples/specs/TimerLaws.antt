-- Timers, their armings, and what is queued of them at places of the runs with timers.
use Rattle.std.specs.Prelude.{ℕ, List, Option, Some, None}
use Rattle.spec_records.specs.declared.timer.Arming.{Arming}
use Rattle.spec_records.specs.declared.timer.Timer.{Timer}
use Rattle.spec_records.specs.Words.{Port, pid}
use Rattle.spec_kernel.specs.Types.{Queued}
use Rattle.spec_kernel.specs.Words.{State, Turn, state_at}
use Rattle.law_runs.specs.Channels.{port_under}
use Rattle.law_runs.specs.OneShot.{queue_in}
use Rattle.law_examples.specs.PortLaws.{sent}
use Rattle.law_examples.specs.TimerRuns.{tick}

abbrev pub arming : ℕ → ℕ → ℕ → Arming
arming clock first interval = record { clock = clock; first = first; interval = interval }

-- the first timer of process 1, at port 1
abbrev pub timer_of : ℕ → Option Arming → Timer
timer_of user a = record { process = pid 1; id = 0; port = 1; user = user; number = 1; arming = a }

-- the timer of the child
abbrev pub timer_of_child : Timer
timer_of_child = record { process = pid 2; id = 0; port = 1; user = 8; number = 2; arming = Some (arming 0 1 1) }

-- an event as it stands in a queue: of timer n, and one that was sent

abbrev pub queued : ℕ → ℕ → ℕ → Queued
queued n count user = record { rec = tick 0 count user; assoc = None; timer = Some n }

abbrev pub queued_of_user : ℕ → ℕ → Queued
queued_of_user events user = record { rec = sent events user; assoc = None; timer = None }

abbrev pub port_with : List Queued → Port
port_with queue = record { number = 1; alert = None; queue = queue }

-- what is queued at port 1 in the state of a place
abbrev pub queue_at : State → List Turn → ℕ → List Queued
queue_at m xs i = queue_in (port_under (state_at m xs i) 1)
