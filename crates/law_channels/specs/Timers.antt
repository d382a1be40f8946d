-- What holds of timers and of what they have queued, at every moment of an event.
use Rattle.std.specs.Prelude.{ℕ, ◌≡◌, ◌<◌, ◌≤◌, true, List, [], ◌∷◌, Option, None, Some, All, count_by, find, is_some, length}
use Rattle.dk_base.specs.declared.limits.TheConstants.{CLOCK_LAST, TIMERS_MAX}
use Rattle.spec_records.specs.declared.timer.Arming.{Arming}
use Rattle.spec_records.specs.declared.timer.Timer.{Timer}
use Rattle.spec_records.specs.Words.{IsAscending, Port, TimerList, is_numbered, is_timer_event, port_of, timer_at, timer_event, timer_number}
use Rattle.spec_kernel.specs.Types.{Queued}

-- no process has two timers with one id
abbrev pub HaveDistinctIds : List Timer → Type 0
HaveDistinctIds [] = Unit {0}
HaveDistinctIds (t ∷ ts) = (timer_at ts t.process.0 t.id ≡ None) × HaveDistinctIds ts

-- an id that a timer may have, a port that was made, and an arming that the clock has reached, with its first moment after it
pub record IsTimer (ports clock : ℕ) (t : Timer) : Type 0 where
  pub id : t.id < TIMERS_MAX
  pub first_port : 1 ≤ t.port
  pub port : t.port ≤ ports
  pub arming : (a : Arming) → t.arming ≡ Some a → (1 ≤ a.first) × (a.clock ≤ clock)

-- the timer of a number, if it has not ended
abbrev pub timer_numbered : List Timer → ℕ → Option Timer
timer_numbered ts n = find (is_numbered timer_number n) ts

-- an event at a port is of the timer of this number: that is armed, tells this port, and has its id and user value in the event, which
-- counts one moment at least
pub record IsOfTimer (ts : List Timer) (q : ℕ) (e : Queued) (n : ℕ) : Type 0 where
  pub timer : Timer
  pub there : timer_numbered ts n ≡ Some timer
  pub event : e ≡ timer_event n timer.id e.rec.events timer.user
  pub port : timer.port ≡ q
  pub armed : is_some timer.arming ≡ true
  pub some : 1 ≤ e.rec.events

-- what is queued at a port: each event that has a timer's number is of that timer, and of each timer one is queued at most
pub record AreTimed (ts : List Timer) (q : ℕ) (queue : List Queued) : Type 0 where
  pub of_timers : All (λ e. (n : ℕ) → e.timer ≡ Some n → IsOfTimer ts q e n) queue
  pub once : (n : ℕ) → count_by (is_timer_event n) queue ≤ 1

pub record AreTimers (ports : List Port) (list : TimerList) : Type 0 where
  -- no number is used twice
  pub in_order : IsAscending timer_number 0 list.made list.timers
  pub distinct : HaveDistinctIds list.timers
  pub each : All (IsTimer (length ports) list.clock) list.timers
  pub queued : (q : ℕ) → AreTimed list.timers q (port_of ports q).queue
  pub late : list.clock ≤ CLOCK_LAST
