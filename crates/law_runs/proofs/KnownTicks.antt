-- What is known of timers and of what they have queued at each place of a run, and small facts of armings and answers.
use Rattle.std.specs.Prelude.{ℕ, zero, suc, ◌≡◌, ◌+◌, ◌-◌, ◌≤◌, List, [], Option, true, Some, All, length, slice_get}
use Rattle.std.proofs.Common.{refl, sym, ap, ap₂}
use native.Mathlib.Omega.{arith}
use Rattle.dk_base.specs.declared.object.Obj.TheVariants as obj
use Rattle.dk_base.specs.declared.answer.Answer.TheVariants as answer
use Rattle.spec_records.specs.declared.timer.Arming.{Arming}
use Rattle.spec_records.specs.declared.timer.Timer.{Timer}
use Rattle.spec_records.specs.Words.{Port}
use Rattle.spec_kernel.specs.Types.{Answer, EventRec, Obj, Queued}
use Rattle.spec_kernel.specs.Words.{State, Turn, state_at}
use Rattle.law_runs.specs.Channels.{port_under}
use Rattle.law_runs.specs.Clock.{clock_at, moments_by, set_arming, timer_under}
use Rattle.law_runs.specs.Lives.{tells_done}
use Rattle.law_runs.specs.OneShot.{queue_in}
use Rattle.law_runs.specs.PortEvents.{Tells, tick_event}
use Rattle.law_runs.specs.Ticks.{advanced_by, count_of_timer, events_told, port_named_by}
use Rattle.law_runs.proofs.Channels.{IsThere}

-- an event of timer n at port q: its timer is armed, and the event is as the timer has it
pub record IsOwn (m : State) (q n : ℕ) (e : Queued) : Type 0 where
  pub timer : Timer
  pub there : timer_under m n ≡ Some timer
  pub of_port : timer.port ≡ q
  pub arming : Arming
  pub armed : timer.arming ≡ Some arming
  pub as_it_is : e ≡ tick_event timer e.rec.events
  pub some : 1 ≤ e.rec.events

abbrev pub Own : State → ℕ → Queued → Type 0
Own m q e = (n : ℕ) → e.timer ≡ Some n → IsOwn m q n e

-- what this law stands on besides other laws
pub record KnownTimers (m : State) (xs : List Turn) : Type 0 where
  pub at_first : clock_at m ≡ 0
  pub clock :
      (i : ℕ) (x : Turn) → slice_get xs i ≡ Some x → clock_at (state_at m xs (i + 1)) ≡ clock_at (state_at m xs i) + advanced_by x.request
  pub own : (i q : ℕ) → i ≤ length xs → All (Own (state_at m xs i) q) (queue_in (port_under (state_at m xs i) q))
  pub one : (i n q : ℕ) → i ≤ length xs → count_of_timer n (queue_in (port_under (state_at m xs i) q)) ≤ 1
  pub ports : (i n : ℕ) (t : Timer) → i ≤ length xs → timer_under (state_at m xs i) n ≡ Some t → IsThere (port_under (state_at m xs i) t.port)
  pub moments : (a : Arming) (before after : ℕ) → 1 ≤ a.first → before ≤ after → moments_by a before ≤ moments_by a after

pub done_is : (a : Answer) → tells_done a ≡ true → a ≡ answer.Done
done_is answer.Done e = refl
done_is a e = absurd (cc e)

pub named_is : (o : Option Obj) (q : ℕ) → port_named_by o ≡ Some q → o ≡ Some (obj.Port q)
named_is (Some (obj.Port k)) q e = let same : k ≡ q = cc in ap (λ n. Some (obj.Port n)) same
named_is o q e = absurd (cc e)

-- what an answer tells

pub data IsTold (a : Answer) : Type 0 where
  tells_some : Tells a (events_told a) → IsTold a
  tells_none : events_told a ≡ [] → IsTold a

pub is_told : (a : Answer) → IsTold a
is_told (answer.OneEvent r) = IsTold.tells_some (Tells.one r)
is_told (answer.Events rs) = IsTold.tells_some (Tells.several rs)
is_told a = IsTold.tells_none refl

pub told_is : (a : Answer) (rs : List EventRec) → Tells a rs → events_told a ≡ rs
told_is a rs (Tells.one r) = refl
told_is a rs (Tells.several us) = refl

-- the arming that a timer is set to
pub set_as : (a : Arming) (clock : ℕ) → 1 ≤ a.first → a.clock ≡ clock → set_arming clock a.first a.interval ≡ Some a
set_as a clock l e = go a.first refl
  where
    go : (first : ℕ) → a.first ≡ first → set_arming clock first a.interval ≡ Some a
    go zero f = absurd (omega (arith, l, f))
    go (suc n) f = ap₂ (λ c k. Some (record { clock = c; first = k; interval = a.interval })) (sym e) (sym f)

-- and the other way round
pub record WasSet (at by again : ℕ) (a : Arming) : Type 0 where
  pub first : a.first ≡ by
  pub interval : a.interval ≡ again
  pub not_now : 1 ≤ a.first
  pub clock : a.clock ≡ at

abbrev pub set_so : ℕ → ℕ → ℕ → Arming
set_so clock first interval = record { clock = clock; first = first; interval = interval }

pub was_set : (clock first interval : ℕ) (a : Arming) → set_arming clock first interval ≡ Some a → WasSet clock first interval a
was_set clock zero interval a e = absurd (cc e)
was_set clock (suc n) interval a e =
    let same : set_so clock (suc n) interval ≡ a = cc in
    record {
      first = sym (ap (λ (z : Arming). z.first) same);
      interval = sym (ap (λ (z : Arming). z.interval) same);
      not_now = omega (arith, ap (λ (z : Arming). z.first) same);
      clock = sym (ap (λ (z : Arming). z.clock) same);
    }
