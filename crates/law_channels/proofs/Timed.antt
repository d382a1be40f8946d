-- What is queued of timers stays right where other events come and go.
use Rattle.std.proofs.Common.{◌≡◌, ℕ, ◌+◌, ◌≤◌, ◌==◌, ◌&&◌, List, [], ◌∷◌, ◌++◌, Option, Some, None, is_none, is_some, Bool, true, false, if◌then◌else◌, not, cond, drop, filter, length, map, refl, sym, ap, ap₂, subst, ◌∙◌, arith}
use Rattle.std.proofs.lemmas.Bool.Decides.{nat_tests}
use Rattle.std.proofs.lemmas.List.Elements.{All-filter, All-nil, All-push, All-weaker}
use Rattle.dk_base.specs.ByNumber.{at_number}
use Rattle.dk_base.specs.declared.set.PollSet.{PollSet}
use Rattle.spec_records.specs.declared.association.Association.{Association}
use Rattle.spec_records.specs.declared.port.Alert.{Alert}
use Rattle.spec_records.specs.declared.timer.Timer.{Timer}
use Rattle.spec_records.specs.Words.{Port, TimerList, change_at_number, change_found, fired_where, is_number, is_other_event, is_timer_event, left_at, make_port, new_port, port_in, port_of, post_event, post_fired, send_event, user_event, with_alert, with_event, withdraw_event, withdraw_events, without_event, without_found}
use Rattle.spec_records.proofs.Lists.{at_number-with_at_number, numbered_push}
use Rattle.spec_kernel.specs.Types.{Obj, Queued}
use Rattle.spec_kernel.specs.Words.{after_sending, after_sending_each, port_named, sending_error}
use Rattle.law_channels.specs.Timers.{AreTimed, AreTimers, IsOfTimer, IsTimer}
use Rattle.law_channels.proofs.Bounds.{All-drop}
use Rattle.law_channels.proofs.Tally.{count-append, count-cons, count-cut, count-parted}

-- one queue

module _ (ts : List Timer) (q : ℕ) where
  abbrev pub IsRight : Queued → Type 0
  IsRight e = (n : ℕ) → e.timer ≡ Some n → IsOfTimer ts q e n

  pub timed-none : AreTimed ts q []
  timed-none = record { of_timers = All-nil IsRight; once = λ n. omega arith }

  -- an event of no timer comes
  pub timed-push : (queue : List Queued) (e : Queued) → e.timer ≡ None → AreTimed ts q queue → AreTimed ts q (queue ++ e ∷ [])
  timed-push queue e none h =
      record {
        of_timers = All-push IsRight queue e h.of_timers (λ n f. absurd (cc (sym none ∙ f)));
        once = λ n.
            omega (
              arith,
              h.once n,
              count-append (is_timer_event n) queue (e ∷ []),
              count-cons (is_timer_event n) e [] ∙ ap (λ o. cond (is_number n o) 1 0 + 0) none,
            );
      }

  -- some leave

  pub timed-drop : (k : ℕ) (queue : List Queued) → AreTimed ts q queue → AreTimed ts q (drop k queue)
  timed-drop k queue h =
      record {
        of_timers = All-drop IsRight k queue h.of_timers;
        once = λ n. omega (arith, h.once n, count-cut (is_timer_event n) k queue);
      }

  pub timed-filter : (keep : Queued → Bool) (queue : List Queued) → AreTimed ts q queue → AreTimed ts q (filter keep queue)
  timed-filter keep queue h =
      record {
        of_timers = All-filter keep IsRight queue h.of_timers;
        once = λ n. omega (arith, h.once n, count-parted (is_timer_event n) keep (λ e. not (keep e)) (λ e. refl) queue);
      }

-- the queues of ports

module _ (ts : List Timer) where
  abbrev pub TimedPorts : List Port → Type 0
  TimedPorts ports = (q : ℕ) → AreTimed ts q (port_of ports q).queue

  pub timed-change :
      (ports : List Port) (p : ℕ) (f : Port → Port) →
      ((x : Port) → at_number ports p ≡ Some x → AreTimed ts p x.queue → AreTimed ts p (f x).queue) → TimedPorts ports →
      TimedPorts (change_at_number ports p f)
  timed-change ports p f keeps h q = go (at_number ports p) refl (q == p) refl
    where
      go : (o : Option Port) → at_number ports p ≡ o → (b : Bool) → (q == p) ≡ b → AreTimed ts q (port_of (change_found ports p f o) q).queue
      go None e b g = h q
      go (Some x) e true g =
          let same : q ≡ p = grind (arith, nat_tests) in
          subst (λ o. AreTimed ts q (port_in o).queue)
          (sym
          (at_number-with_at_number ports p q (f x)
          ∙ ap₂ (λ c (o : Option Port). if c && is_some o then Some (f x) else at_number ports q) g e))
          (subst (λ k. AreTimed ts k (f x).queue) (sym same) (keeps x e (subst (λ o. AreTimed ts p (port_in o).queue) e (h p))))
      go (Some x) e false g =
          subst (λ o. AreTimed ts q (port_in o).queue)
          (sym
          (at_number-with_at_number ports p q (f x)
          ∙ ap₂ (λ c (o : Option Port). if c && is_some o then Some (f x) else at_number ports q) g e))
          (h q)

  pub timed-send : (ports : List Port) (p events user : ℕ) → TimedPorts ports → TimedPorts (send_event ports p events user)
  timed-send ports p events user =
      timed-change ports p (with_event (user_event events user)) (λ x e k. timed-push ts p x.queue (user_event events user) refl k)

  pub timed-alert : (ports : List Port) (p events user : ℕ) → TimedPorts ports → TimedPorts (change_at_number ports p (with_alert events user))
  timed-alert ports p events user = timed-change ports p (with_alert events user) (λ x e k. k)

  pub timed-take : (ports : List Port) (p max : ℕ) → TimedPorts ports → TimedPorts (change_at_number ports p (without_found max))
  timed-take ports p max = timed-change ports p (without_found max) (λ x e k. go x.queue x.alert k)
    where
      go : (queue : List Queued) (a : Option Alert) → AreTimed ts p queue → AreTimed ts p (left_at max a queue)
      go queue None k = timed-drop ts p max queue k
      go queue (Some a) k = k

  pub timed-withdraw_events : (ports : List Port) (xs : List Association) → TimedPorts ports → TimedPorts (withdraw_events ports xs)
  timed-withdraw_events ports [] h = h
  timed-withdraw_events ports (a ∷ xs) h =
      timed-withdraw_events (withdraw_event ports a.key.port a.number) xs
      (timed-change ports a.key.port (without_event a.number) (λ x e k. timed-filter ts a.key.port (is_other_event a.number) x.queue k) h)

  pub timed-fired :
      (ready : Obj → PollSet) (ports : List Port) (xs : List Association) → TimedPorts ports → TimedPorts (post_fired ports (map (fired_where ready) xs))
  timed-fired ready ports [] h = h
  timed-fired ready ports (a ∷ xs) h =
      timed-fired ready (post_event ports a.key.port (fired_where ready a).queued) xs
      (timed-change ports a.key.port (with_event (fired_where ready a).queued)
      (λ x e k. timed-push ts a.key.port x.queue (fired_where ready a).queued refl k) h)

  pub timed-made : (ports : List Port) → TimedPorts ports → TimedPorts (make_port ports)
  timed-made ports h q =
      subst (λ o. AreTimed ts q (port_in o).queue) (sym (numbered_push ports (new_port (length ports + 1)) q)) (go (q == length ports + 1))
    where
      go : (b : Bool) → AreTimed ts q (port_in (if b then Some (new_port (length ports + 1)) else at_number ports q)).queue
      go true = timed-none ts q
      go false = h q

  timed-one_sent : (ports : List Port) (o : Option Obj) (events user : ℕ) → TimedPorts ports → TimedPorts (after_sending ports o events user)
  timed-one_sent ports o events user h = go (is_none (sending_error ports o))
    where
      go : (b : Bool) → TimedPorts (if b then send_event ports (port_named o) events user else ports)
      go true = timed-send ports (port_named o) events user h
      go false = h

  pub timed-all_sent : (ports : List Port) (os : List (Option Obj)) (events user : ℕ) → TimedPorts ports → TimedPorts (after_sending_each ports os events user)
  timed-all_sent ports [] events user h = h
  timed-all_sent ports (o ∷ os) events user h =
      timed-all_sent (after_sending ports o events user) os events user (timed-one_sent ports o events user h)

-- timers, where ports alone change, and there are no fewer
pub same_timers :
    (ports others : List Port) (list : TimerList) → length ports ≤ length others →
    (TimedPorts list.timers ports → TimedPorts list.timers others) → AreTimers ports list → AreTimers others list
same_timers ports others list long timed h =
    record {
      in_order = h.in_order;
      distinct = h.distinct;
      each =
          All-weaker (IsTimer (length ports) list.clock) (IsTimer (length others) list.clock)
          (λ t k. record { id = k.id; first_port = k.first_port; port = omega (arith, k.port, long); arming = k.arming }) list.timers h.each;
      queued = timed h.queued;
      late = h.late;
    }
