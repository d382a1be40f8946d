-- The life of a timer: it begins at each timer_create(3C) that answers a count, under a number that none had and the lowest id that its
-- process has free, not armed, at the port that was named; it is armed by its timer_settime(3C) alone; and it ends exactly at its
-- timer_delete(3C), or with its process.
use Rattle.std.specs.Prelude.{ℕ, ◌≡◌, ◌+◌, ◌<◌, ◌≤◌, ◌&&◌, List, Option, Bool, false, true, if◌then◌else◌, Some, None, length, slice_get}
use Rattle.spec_kernel.specs.Types.{Answer, Fd, Request}
use Rattle.dk_base.specs.declared.object.Obj.TheVariants as obj
use Rattle.dk_base.specs.declared.request.Request.TheVariants as request
use Rattle.dk_base.specs.declared.answer.Answer.TheVariants as answer
use Rattle.spec_records.specs.declared.timer.Timer.{Timer}
use Rattle.spec_records.specs.Words.{IsAscending, timer_number}
use Rattle.spec_kernel.specs.Words.{State, Turn, is_live_process, state_at, timers_in}
use Rattle.law_places.specs.Places.{answer_at, process_at}
use Rattle.law_runs.specs.Channels.{Names}
use Rattle.law_runs.specs.Clock.{clock_at, set_arming, timer_under, timer_with, timers_made}
use Rattle.law_runs.specs.Ends.{EndsProcess}

-- a timer of this process and id stands
pub record Stands (m : State) (p id : ℕ) : Type 0 where
  pub timer : Timer
  pub there : timer_with m p id ≡ Some timer

-- the turn of place i is the timer_create(3C) of timer n
pub record Creates (m : State) (xs : List Turn) (i : ℕ) (x : Turn) (n : ℕ) (t : Timer) : Type 0 where
  pub port : Fd
  pub request : x.request ≡ Some (request.TimerCreate port t.user)
  pub answered : answer_at m xs i x ≡ answer.Count t.id
  pub of_port : Names m xs i x port (obj.Port t.port)
  pub by_own : t.process.0 ≡ process_at m xs i x.thread
  pub number : t.number ≡ n
  pub next : n ≡ timers_made (state_at m xs i) + 1
  pub not_armed : t.arming ≡ None
  -- its id is free, and is the lowest that is
  pub free : timer_with (state_at m xs i) t.process.0 t.id ≡ None
  pub lowest : (id : ℕ) → id < t.id → Stands (state_at m xs i) t.process.0 id

-- the turn of place i sets this timer so, which is of the thread's own process
pub record Sets (m : State) (xs : List Turn) (i : ℕ) (x : Turn) (t : Timer) (first interval : ℕ) : Type 0 where
  pub request : x.request ≡ Some (request.TimerSet t.id first interval)
  pub answered : answer_at m xs i x ≡ answer.Done
  pub by_own : t.process.0 ≡ process_at m xs i x.thread

-- why a timer ends at the turn of place i
pub data Ends (m : State) (xs : List Turn) (i : ℕ) (x : Turn) (t : Timer) : Type 0 where
  deleted :
      x.request ≡ Some (request.TimerDelete t.id) → answer_at m xs i x ≡ answer.Done → t.process.0 ≡ process_at m xs i x.thread →
      Ends m xs i x t
  with_process : EndsProcess m xs i x t.process.0 → Ends m xs i x t

-- timer n before and after the turn of place i
pub data TimerChange (m : State) (xs : List Turn) (i : ℕ) (x : Turn) (n : ℕ) : Option Timer → Option Timer → Type 0 where
  none : TimerChange m xs i x n None None
  stays : (t : Timer) → TimerChange m xs i x n (Some t) (Some t)
  begins : (t : Timer) → Creates m xs i x n t → TimerChange m xs i x n None (Some t)
  is_set :
      (t : Timer) (first interval : ℕ) → Sets m xs i x t first interval →
      TimerChange m xs i x n (Some t) (Some (record t { arming = set_arming (clock_at (state_at m xs i)) first interval }))
  ends : (t : Timer) → Ends m xs i x t → TimerChange m xs i x n (Some t) None

-- a timer_create(3C) that answers a count

abbrev pub creates : Option Request → Bool
creates (Some (request.TimerCreate port user)) = true
creates _ = false

abbrev pub tells_count : Answer → Bool
tells_count (answer.Count n) = true
tells_count _ = false

-- the turn of place i begins a timer with this id and user value, which then stands
pub record IsCreated (m : State) (xs : List Turn) (i : ℕ) (x : Turn) (user id : ℕ) : Type 0 where
  pub timer : Timer
  pub creates : Creates m xs i x (timers_made (state_at m xs i) + 1) timer
  pub same_id : timer.id ≡ id
  pub same_user : timer.user ≡ user
  pub after : timer_under (state_at m xs (i + 1)) timer.number ≡ Some timer

-- the timer of the thread's process with this id, and what the turn of place i leaves of it
pub record Becomes (m : State) (xs : List Turn) (i : ℕ) (x : Turn) (id : ℕ) (after : Timer → Option Timer) : Type 0 where
  pub timer : Timer
  pub there : timer_with (state_at m xs i) (process_at m xs i x.thread) id ≡ Some timer
  pub left : timer_under (state_at m xs (i + 1)) timer.number ≡ after timer

pub record TimerLives (m : State) (xs : List Turn) : Type 0 where
  pub none_at_first : timers_made m ≡ 0
  -- those that stand are kept in the order of their numbers, which are of timers that were made
  pub in_order : (i : ℕ) → i ≤ length xs → IsAscending timer_number 0 (timers_made (state_at m xs i)) (timers_in (state_at m xs i))
  -- each is of a process that lives, which has one under its id, below 32
  pub of_live : (i n : ℕ) (t : Timer) → i ≤ length xs → timer_under (state_at m xs i) n ≡ Some t → is_live_process (state_at m xs i) t.process.0 ≡ true
  pub one_each : (i n : ℕ) (t : Timer) → i ≤ length xs → timer_under (state_at m xs i) n ≡ Some t → timer_with (state_at m xs i) t.process.0 t.id ≡ Some t
  pub few : (i n : ℕ) (t : Timer) → i ≤ length xs → timer_under (state_at m xs i) n ≡ Some t → t.id < 32
  pub changes :
      (i n : ℕ) (x : Turn) → slice_get xs i ≡ Some x →
      TimerChange m xs i x n (timer_under (state_at m xs i) n) (timer_under (state_at m xs (i + 1)) n)
  -- one is made where a timer_create(3C) answers a count, and nowhere else
  pub made :
      (i : ℕ) (x : Turn) → slice_get xs i ≡ Some x →
      timers_made (state_at m xs (i + 1))
      ≡ timers_made (state_at m xs i) + (if creates x.request && tells_count (answer_at m xs i x) then 1 else 0)
  -- and each turn has its effect
  pub created :
      (i : ℕ) (x : Turn) (port : Fd) (user id : ℕ) → slice_get xs i ≡ Some x → x.request ≡ Some (request.TimerCreate port user) →
      answer_at m xs i x ≡ answer.Count id → IsCreated m xs i x user id
  pub set :
      (i : ℕ) (x : Turn) (id first interval : ℕ) → slice_get xs i ≡ Some x → x.request ≡ Some (request.TimerSet id first interval) →
      answer_at m xs i x ≡ answer.Done →
      Becomes m xs i x id (λ t. Some (record t { arming = set_arming (clock_at (state_at m xs i)) first interval }))
  pub deleted :
      (i : ℕ) (x : Turn) (id : ℕ) → slice_get xs i ≡ Some x → x.request ≡ Some (request.TimerDelete id) → answer_at m xs i x ≡ answer.Done →
      Becomes m xs i x id (λ t. None)
  -- where there is a reason that one ends, it ends
  pub ended :
      (i n : ℕ) (x : Turn) (t : Timer) → slice_get xs i ≡ Some x → timer_under (state_at m xs i) n ≡ Some t → Ends m xs i x t →
      timer_under (state_at m xs (i + 1)) n ≡ None
