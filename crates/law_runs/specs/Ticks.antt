-- Ticks: no moment of a timer is lost, and none is told twice. An arming begins at a timer_settime(3C) that is done and whose first isn't
-- 0. It ends at the next timer_settime(3C) or timer_delete(3C) of that timer that is done, or at the end of its process. In every state
-- of it, its moments not above the clock are as many as its events count, those that were taken so far and the one that is queued. At
-- most one is queued, and none when the arming has ended, so that none is taken then.
use Rattle.std.specs.Prelude.{ℕ, zero, suc, ◌≡◌, ◌+◌, ◌<◌, ◌≤◌, List, [], ◌∷◌, Option, if◌then◌else◌, Some, None, is_none, length, nat_le, slice_get}
use Rattle.spec_kernel.specs.Types.{Answer, EventRec, Obj, Queued, Request, ThreadState}
use Rattle.dk_base.specs.declared.object.Obj.TheVariants as obj
use Rattle.dk_base.specs.declared.request.Request.TheVariants as request
use Rattle.dk_base.specs.declared.answer.Answer.TheVariants as answer
use Rattle.spec_records.specs.declared.record.ThreadState.TheVariants as is
use Rattle.spec_records.specs.declared.timer.Arming.{Arming}
use Rattle.spec_records.specs.declared.timer.Timer.{Timer}
use Rattle.spec_kernel.specs.Words.{State, Turn, object_at, process_of, state_at, state_of}
use Rattle.law_places.specs.Places.{answer_at}
use Rattle.law_runs.specs.Channels.{alert_under, port_under}
use Rattle.law_runs.specs.Clock.{clock_at, moments_by, timer_under}
use Rattle.law_runs.specs.OneShot.{is_from, queue_in}
use Rattle.law_runs.specs.PortEvents.{tick_event}
use Rattle.law_runs.specs.TimerLives.{Ends, Sets}

-- by how much a turn moves the clock
abbrev pub advanced_by : Option Request → ℕ
advanced_by (Some (request.Advance by)) = by
advanced_by _ = 0

-- The arming of a timer, and what ends it

-- the turn of place b begins this arming of timer t
pub record Arms (m : State) (xs : List Turn) (b : ℕ) (t : Timer) (a : Arming) : Type 0 where
  pub turn : Turn
  pub found : slice_get xs b ≡ Some turn
  pub there : timer_under (state_at m xs b) t.number ≡ Some t
  pub sets : Sets m xs b turn t a.first a.interval
  pub not_now : 1 ≤ a.first
  pub clock : a.clock ≡ clock_at (state_at m xs b)

-- the turn of place i ends each arming of timer t
pub data EndsArming (m : State) (xs : List Turn) (i : ℕ) (x : Turn) (t : Timer) : Type 0 where
  set_again : (first interval : ℕ) → Sets m xs i x t first interval → EndsArming m xs i x t
  ended : Ends m xs i x t → EndsArming m xs i x t

-- the arming that began at place b has not ended by place i
pub record IsArmed (m : State) (xs : List Turn) (b i : ℕ) (t : Timer) (a : Arming) : Type 0 where
  pub arms : Arms m xs b t a
  pub began : b < i
  pub lasts : (j : ℕ) (x : Turn) → b < j → j < i → slice_get xs j ≡ Some x → EndsArming m xs j x t → ⊥

-- What is queued of timer n, and what is told of it

-- how many of these events are its own
abbrev pub count_of_timer : ℕ → List Queued → ℕ
count_of_timer n [] = 0
count_of_timer n (e ∷ es) = if is_from n e.timer then 1 + count_of_timer n es else count_of_timer n es

-- and how many moments those count
abbrev pub moments_queued : ℕ → List Queued → ℕ
moments_queued n [] = 0
moments_queued n (e ∷ es) = if is_from n e.timer then e.rec.events + moments_queued n es else moments_queued n es

-- the port that a turn asks for events

abbrev pub port_named_by : Option Obj → Option ℕ
port_named_by (Some (obj.Port q)) = Some q
port_named_by _ = None

abbrev pub port_waited_at : ThreadState → Option ℕ
port_waited_at (is.Getting q max nget one interrupted) = Some q
port_waited_at _ = None

abbrev pub port_asked : State → ℕ → Option Request → Option ℕ
port_asked m t (Some (request.Get fd wait)) = port_named_by (object_at m (process_of m t) fd)
port_asked m t (Some (request.GetN fd max nget wait)) = port_named_by (object_at m (process_of m t) fd)
port_asked m t (Some _) = None
port_asked m t None = port_waited_at (state_of m t)

abbrev pub events_told : Answer → List EventRec
events_told (answer.OneEvent r) = r ∷ []
events_told (answer.Events rs) = rs
events_told _ = []

-- What is told are the first events of the queue, each by the timer that queued it, unless the port has an alert, which is told alone.

abbrev pub moments_among : ℕ → List EventRec → List Queued → ℕ
moments_among n [] es = 0
moments_among n (r ∷ rs) [] = 0
moments_among n (r ∷ rs) (e ∷ es) = if is_from n e.timer then r.events + moments_among n rs es else moments_among n rs es

abbrev pub moments_told : State → ℕ → Option ℕ → List EventRec → ℕ
moments_told m n None rs = 0
moments_told m n (Some q) rs = if is_none (alert_under m q) then moments_among n rs (queue_in (port_under m q)) else 0

abbrev pub told_at : State → List Turn → ℕ → ℕ → Option Turn → ℕ
told_at m xs n i None = 0
told_at m xs n i (Some x) =
    moments_told (state_at m xs i) n (port_asked (state_at m xs i) x.thread x.request) (events_told (answer_at m xs i x))

-- by the turns from place b on, up to place i
abbrev pub told_since : State → List Turn → ℕ → ℕ → ℕ → ℕ
told_since m xs n b zero = 0
told_since m xs n b (suc i) = told_since m xs n b i + (if nat_le b i then told_at m xs n i (slice_get xs i) else 0)

-- an event of timer n that is queued at port q in the state of place i: it counts moments of an arming that has not ended by then
pub record IsOfArming (m : State) (xs : List Turn) (i q n : ℕ) (e : Queued) : Type 0 where
  pub timer : Timer
  pub arming : Arming
  pub began : ℕ
  pub armed : IsArmed m xs began i timer arming
  pub number : timer.number ≡ n
  pub of_port : timer.port ≡ q
  pub as_it_is : e ≡ tick_event timer e.rec.events
  pub some : 1 ≤ e.rec.events

pub record Ticks (m : State) (xs : List Turn) : Type 0 where
  -- the clock is 0 at first, and moves by what is asked for, and by nothing else
  pub at_first : clock_at m ≡ 0
  pub clock :
      (i : ℕ) (x : Turn) → slice_get xs i ≡ Some x → clock_at (state_at m xs (i + 1)) ≡ clock_at (state_at m xs i) + advanced_by x.request
  -- in every state of an arming its moments not above the clock were told or are queued, each once
  pub adds_up :
      (b i : ℕ) (t : Timer) (a : Arming) → i ≤ length xs → IsArmed m xs b i t a →
      moments_by a (clock_at (state_at m xs i))
      ≡ told_since m xs t.number b i + moments_queued t.number (queue_in (port_under (state_at m xs i) t.port))
  -- one event at most is queued
  pub one_queued : (i n q : ℕ) → i ≤ length xs → count_of_timer n (queue_in (port_under (state_at m xs i) q)) ≤ 1
  -- at the port of its timer, and of an arming that has not ended
  pub of_arming :
      (i n q k : ℕ) (e : Queued) → i ≤ length xs → slice_get (queue_in (port_under (state_at m xs i) q)) k ≡ Some e → e.timer ≡ Some n →
      IsOfArming m xs i q n e
  -- so none is queued where an arming ends
  pub none_left :
      (i q : ℕ) (x : Turn) (t : Timer) → slice_get xs i ≡ Some x → timer_under (state_at m xs i) t.number ≡ Some t → EndsArming m xs i x t →
      count_of_timer t.number (queue_in (port_under (state_at m xs (i + 1)) q)) ≡ 0
