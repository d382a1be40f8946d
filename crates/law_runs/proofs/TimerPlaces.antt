-- What is known of timers at each place of a run: the clock, and what they have queued.
use Rattle.std.specs.Prelude.{ℕ, ◌≡◌, ◌+◌, ◌≤◌, List, Option, Bool, true, false, Some, None, All, count_by, is_some, length, slice_get}
use Rattle.std.proofs.Common.{true≢false, refl, sym, ap, subst, ◌∙◌}
use native.Mathlib.Omega.{arith}
use Rattle.std.proofs.lemmas.List.Elements.{All-weaker}
use Rattle.dk_base.specs.declared.request.Request.TheVariants as request
use Rattle.spec_records.specs.declared.timer.Arming.{Arming}
use Rattle.spec_records.specs.declared.timer.Timer.{Timer}
use Rattle.spec_records.specs.Words.{Port, is_timer_event, port_in}
use Rattle.spec_kernel.specs.Types.{Queued, Request}
use Rattle.spec_kernel.specs.Words.{ActResult, Channels, State, Turn, act, settle, state_at, step, timers_in}
use Rattle.spec_kernel.proofs.Moves.{IsMaking, IsPassing, Moves, act_moves}
use Rattle.spec_kernel.proofs.Settling.{channels-settle_pools}
use Rattle.law_channels.proofs.Elements.{All-find}
use Rattle.law_channels.specs.Timers.{IsOfTimer, IsTimer}
use Rattle.law_places.proofs.Known.{next}
use Rattle.law_runs.specs.Channels.{port_under}
use Rattle.law_runs.specs.Clock.{clock_at, timer_under}
use Rattle.law_runs.specs.OneShot.{queue_in}
use Rattle.law_runs.specs.PortEvents.{tick_event}
use Rattle.law_runs.specs.Ticks.{advanced_by, count_of_timer}
use Rattle.law_runs.proofs.Channels.{KnownChannels, is_among}
use Rattle.law_runs.proofs.KnownTicks.{IsOwn, KnownTimers, Own}
use Rattle.law_runs.proofs.Lives.{queue_is}
use Rattle.law_runs.proofs.Moments.{moments_rise}
use Rattle.law_runs.proofs.TimerLists.{number_found, numbered_is}
use Rattle.law_runs.proofs.TimerPorts.{counted_timer}

-- the clock

abbrev advances : Option Request → Bool
advances (Some (request.Advance by)) = true
advances _ = false

passing_clock : (m : State) (t : ℕ) (r : Request) (c : Channels) (a : _) → IsPassing m t r c a → advances (Some r) ≡ false → c.timers.clock ≡ clock_at m
passing_clock m t r c a (IsPassing.advances by) other = absurd (true≢false other)
passing_clock m t r c a p other = refl

move_clock : (m : State) (t : ℕ) (q : Option Request) (a : ActResult) → Moves m t q a → advances q ≡ false → clock_at a.state ≡ clock_at m
move_clock m t q a (Moves.passes r c x p) other = passing_clock m t r c x p other
move_clock m t q a (Moves.makes_channel r c objects x (IsMaking.makes_pipe f)) other = refl
move_clock m t q a (Moves.makes_channel r c objects x (IsMaking.makes_port f)) other = refl
move_clock m t q a _ other = refl

act_clock : (m : State) (t : ℕ) (q : Option Request) → clock_at (act m t q).state ≡ clock_at m + advanced_by q
act_clock m t (Some (request.Advance by)) = refl
act_clock m t q = by (advances q) refl
  where
    by : (b : Bool) → advances q ≡ b → clock_at (act m t q).state ≡ clock_at m + advanced_by q
    by false f = omega (arith, move_clock m t q (act m t q) (act_moves m t q) f)
    by true f = absurd (cc f)

clock_settled : (before m : State) → clock_at (settle before m) ≡ clock_at m
clock_settled before m = ap (λ (c : Channels). c.timers.clock) (channels-settle_pools before m)

step_clock : (m : State) (t : ℕ) (q : Option Request) → clock_at (step m t q).state ≡ clock_at m + advanced_by q
unfolding step
step_clock m t q = clock_settled m (act m t q).state ∙ act_clock m t q

pub known_timers : (m : State) (xs : List Turn) → KnownChannels m xs → KnownTimers m xs
known_timers m xs k =
    record {
      at_first = ap (λ (c : Channels). c.timers.clock) k.empty;
      clock = λ i x e. ap clock_at (next m xs k.known i x e) ∙ step_clock (state_at m xs i) x.thread x.request;
      own = owned;
      one = λ i n q l.
          omega (
            arith,
            counted_timer n (queue_in (port_under (state_at m xs i) q)),
            subst (λ es. count_by (is_timer_event n) es ≤ 1) (queue_is (port_under (state_at m xs i) q)) (((k.fits i l).timers.queued q).once n),
          );
      ports = λ i n t l f. is_among (state_at m xs i).channels.ports t.port ((its i n t l f).first_port, (its i n t l f).port);
      moments = moments_rise;
    }
  where
    its : (i n : ℕ) (t : Timer) → i ≤ length xs → timer_under (state_at m xs i) n ≡ Some t → IsTimer (length (state_at m xs i).channels.ports) (clock_at (state_at m xs i)) t
    its i n t l f =
        All-find (IsTimer (length (state_at m xs i).channels.ports) (clock_at (state_at m xs i))) _ (timers_in (state_at m xs i)) t (k.fits i l).timers.each
        (sym (numbered_is n (timers_in (state_at m xs i))) ∙ f)

    is_own : (i q n : ℕ) (e : Queued) → IsOfTimer (timers_in (state_at m xs i)) q e n → IsOwn (state_at m xs i) q n e
    is_own i q n e w = go w.timer.arming refl w.armed
      where
        there : timer_under (state_at m xs i) n ≡ Some w.timer
        there = numbered_is n (timers_in (state_at m xs i)) ∙ w.there

        go : (o : Option Arming) → w.timer.arming ≡ o → is_some o ≡ true → IsOwn (state_at m xs i) q n e
        go None f g = absurd (cc g)
        go (Some a) f g =
            record {
              timer = w.timer;
              there = there;
              of_port = w.port;
              arming = a;
              armed = f;
              as_it_is =
                  w.event
                  ∙ ap (λ j. record (tick_event w.timer e.rec.events) { timer = Some j })
                  (sym (number_found n (timers_in (state_at m xs i)) w.timer there));
              some = w.some;
            }

    owned : (i q : ℕ) → i ≤ length xs → All (Own (state_at m xs i) q) (queue_in (port_under (state_at m xs i) q))
    owned i q l =
        subst (All (Own (state_at m xs i) q)) (queue_is (port_under (state_at m xs i) q))
        (All-weaker (λ e. (n : ℕ) → e.timer ≡ Some n → IsOfTimer (timers_in (state_at m xs i)) q e n) (Own (state_at m xs i) q) (λ e h n f. is_own i q n e (h n f)) _
        ((k.fits i l).timers.queued q).of_timers)
