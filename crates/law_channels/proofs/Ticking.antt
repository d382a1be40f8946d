-- What timers queue, and what is withdrawn of them: ports stay as they are to be.
use Rattle.std.proofs.Common.{◌≡◌, ℕ, ◌+◌, ◌≤◌, ◌==◌, ◌⊎◌, inl, inr, List, [], ◌∷◌, ◌++◌, Option, Some, None, is_some, Bool, true, false, if◌then◌else◌, not, cond, filter, length, map, refl, sym, ap, subst, ◌∙◌, arith, count_by}
use Rattle.std.specs.Prelude.{All}
use Rattle.std.specs.List.{list_any}
use Rattle.std.proofs.lemmas.Bool.Decides.{nat_tests}
use Rattle.std.proofs.lemmas.List.Elements.{All-cons, All-filter, All-head, All-nil, All-push, All-tail, All-weaker, filter_passes}
use Rattle.spec_records.specs.declared.timer.Arming.{Arming}
use Rattle.spec_records.specs.declared.timer.Timer.{Timer}
use Rattle.spec_records.specs.Words.{AssociationList, Port, change_first, due_count, due_event, due_of, grow_timer, grown_event, has_timer_event, is_due, is_event_of, is_number, is_other_timer_event, is_timer_event, port_in, port_of, post_event, tell_due, tell_dues, with_event, with_grown_event, withdraw_timer, withdraw_timers, without_timer_event}
use Rattle.spec_kernel.specs.Types.{Queued}
use Rattle.law_channels.specs.Associations.{AreAssociations}
use Rattle.law_channels.specs.Channels.{ArePorts}
use Rattle.law_channels.specs.Timers.{AreTimed, IsOfTimer, timer_numbered}
use Rattle.law_channels.proofs.Associations.{same_queued}
use Rattle.law_channels.proofs.Bounds.{grow_timer-ports, length-change_at_number, post-ports, withdraw_timer-ports}
use Rattle.law_channels.proofs.Elements.{All-both, All-change_first}
use Rattle.law_channels.proofs.Queues.{queue-change, tally-same, tally-same_there}
use Rattle.law_channels.proofs.Tally.{count-append, count-changed, count-cons, count-left, count-none}
use Rattle.law_channels.proofs.Timed.{IsRight, TimedPorts, timed-change, timed-filter}

-- what holds of ports, with these timers and associations
pub record HoldPorts (ts : List Timer) (list : AssociationList) (made : ℕ) (ports : List Port) : Type 0 where
  pub bounded : ArePorts ports
  pub associated : AreAssociations ports list
  pub timed : TimedPorts ts ports
  pub long : length ports ≡ made

-- one queue

module _ (ts : List Timer) (q : ℕ) (queue : List Queued) (h : AreTimed ts q queue) where
  -- an event of a timer is of no association
  unassociated : (k n : ℕ) → All (λ e. is_other_timer_event k e ≡ false → is_event_of n e ≡ false) queue
  unassociated k n = All-weaker (IsRight ts q) (λ e. is_other_timer_event k e ≡ false → is_event_of n e ≡ false) (λ e r. go e r e.timer refl) queue h.of_timers
    where
      go : (e : Queued) → IsRight ts q e → (o : Option ℕ) → e.timer ≡ o → is_other_timer_event k e ≡ false → is_event_of n e ≡ false
      go e r None f g = let stays : is_other_timer_event k e ≡ true = ap (λ o. not (is_number k o)) f in absurd (cc (sym stays ∙ g))
      go e r (Some m) f g = ap (is_event_of n) (r m f).event

  -- the event of a timer counts more
  timed-grow : (n by : ℕ) → AreTimed ts q (change_first (is_timer_event n) (grown_event by) queue)
  timed-grow n by =
      record {
        of_timers = All-change_first (IsRight ts q) (is_timer_event n) (grown_event by) (λ e r k f. grown e k (r k f)) queue h.of_timers;
        once = λ k. omega (arith, h.once k, count-changed (is_timer_event k) (is_timer_event n) (grown_event by) (λ e. refl) queue);
      }
    where
      grown : (e : Queued) (k : ℕ) → IsOfTimer ts q e k → IsOfTimer ts q (grown_event by e) k
      grown e k o =
          record {
            timer = o.timer;
            there = o.there;
            event = ap (grown_event by) o.event;
            port = o.port;
            armed = o.armed;
            some = omega (arith, o.some);
          }

  -- an event of a timer comes that has none queued
  timed-post :
      (n : ℕ) (e : Queued) → e.timer ≡ Some n → IsOfTimer ts q e n → list_any (is_timer_event n) queue ≡ false → AreTimed ts q (queue ++ e ∷ [])
  timed-post n e it here none =
      record {
        of_timers =
            All-push (IsRight ts q) queue e h.of_timers
            (λ k f. let same : n ≡ k = cc in subst (λ j. IsOfTimer ts q e j) same here);
        once = λ k. go k (n == k) refl;
      }
    where
      counted : (k : ℕ) → count_by (is_timer_event k) (queue ++ e ∷ []) ≡ count_by (is_timer_event k) queue + cond (n == k) 1 0
      counted k =
          omega (
            arith,
            count-append (is_timer_event k) queue (e ∷ []),
            count-cons (is_timer_event k) e [] ∙ ap (λ o. cond (is_number k o) 1 0 + 0) it,
          )

      go : (k : ℕ) (b : Bool) → (n == k) ≡ b → count_by (is_timer_event k) (queue ++ e ∷ []) ≤ 1
      go k true f =
          let same : n ≡ k = grind (arith, nat_tests) in
          omega (
            arith,
            counted k ∙ ap (λ b. count_by (is_timer_event k) queue + cond b 1 0) f,
            count-none (is_timer_event k) queue (ap (λ j. list_any (is_timer_event j) queue) (sym same) ∙ none),
          )
      go k false f = omega (arith, counted k ∙ ap (λ b. count_by (is_timer_event k) queue + cond b 1 0) f, h.once k)

-- no event of this timer is queued
abbrev pub IsCleared : ℕ → List Port → Type 0
IsCleared n ports = (q : ℕ) → All (λ e. is_timer_event n e ≡ false) (port_of ports q).queue

not_so : (b : Bool) → not b ≡ true → b ≡ false
not_so true e = cc
not_so false e = refl

-- withdrawals

module _ (ports : List Port) (p k : ℕ) where
  withdrawn_queue :
      (q : ℕ) →
      (port_of (withdraw_timer ports p k) q).queue
      ≡ (if q == p then filter (is_other_timer_event k) (port_of ports q).queue else (port_of ports q).queue)
  withdrawn_queue q = queue-change ports p q (without_timer_event k) (λ none. refl)

  cleared_stays : (n : ℕ) → IsCleared n ports → IsCleared n (withdraw_timer ports p k)
  cleared_stays n h q = subst (All (λ e. is_timer_event n e ≡ false)) (sym (withdrawn_queue q)) (go (q == p))
    where
      go :
          (b : Bool) →
          All (λ e. is_timer_event n e ≡ false) (if b then filter (is_other_timer_event k) (port_of ports q).queue else (port_of ports q).queue)
      go true = All-filter (is_other_timer_event k) (λ e. is_timer_event n e ≡ false) (port_of ports q).queue (h q)
      go false = h q

  withdraw_one :
      (ts : List Timer) (list : AssociationList) (made : ℕ) → HoldPorts ts list made ports → HoldPorts ts list made (withdraw_timer ports p k)
  withdraw_one ts list made h =
      record {
        bounded = withdraw_timer-ports ports p h.bounded k;
        associated =
            same_queued ports list h.associated (withdraw_timer ports p k) (length-change_at_number ports p (without_timer_event k))
            (λ n q. tally-same_there ports p q (without_timer_event k) n
            (λ x e. count-left (is_event_of n) (is_other_timer_event k) x.queue
            (unassociated ts p x.queue (subst (λ o. AreTimed ts p (port_in o).queue) e (h.timed p)) k n)));
        timed = timed-change ts ports p (without_timer_event k) (λ x e t. timed-filter ts p (is_other_timer_event k) x.queue t) h.timed;
        long = length-change_at_number ports p (without_timer_event k) ∙ h.long;
      }

-- of a timer that is there nothing is left
cleared_by :
    (ts : List Timer) (ports : List Port) (t : Timer) → TimedPorts ts ports → timer_numbered ts t.number ≡ Some t →
    IsCleared t.number (withdraw_timer ports t.port t.number)
cleared_by ts ports t h there q =
    subst (All (λ e. is_timer_event t.number e ≡ false)) (sym (withdrawn_queue ports t.port t.number q)) (go (q == t.port) refl)
  where
    other : (q == t.port) ≡ false → (e : Queued) → IsRight ts q e → (o : Option ℕ) → e.timer ≡ o → is_timer_event t.number e ≡ false
    other g e r None f = ap (is_number t.number) f
    other g e r (Some m) f = by (m == t.number) refl
      where
        by : (b : Bool) → (m == t.number) ≡ b → is_timer_event t.number e ≡ false
        by false i = ap (is_number t.number) f ∙ i
        by true i =
            let same : m ≡ t.number = grind (arith, nat_tests) in
            let both : Some (r m f).timer ≡ Some t = sym (r m f).there ∙ ap (timer_numbered ts) same ∙ there in
            let it : (r m f).timer ≡ t = cc in
            let here : t.port ≡ q = ap (λ (u : Timer). u.port) (sym it) ∙ (r m f).port in
            let found : (q == t.port) ≡ true = grind (arith, nat_tests) in
            absurd (cc (sym found ∙ g))

    go :
        (b : Bool) → (q == t.port) ≡ b →
        All (λ e. is_timer_event t.number e ≡ false) (if b then filter (is_other_timer_event t.number) (port_of ports q).queue else (port_of ports q).queue)
    go true g =
        All-weaker (λ e. is_other_timer_event t.number e ≡ true) (λ e. is_timer_event t.number e ≡ false)
        (λ e f. not_so (is_timer_event t.number e) f) (filter (is_other_timer_event t.number) (port_of ports q).queue)
        (filter_passes (is_other_timer_event t.number) (port_of ports q).queue)
    go false g =
        All-weaker (IsRight ts q) (λ e. is_timer_event t.number e ≡ false) (λ e r. other g e r e.timer refl) (port_of ports q).queue (h q).of_timers

cleared_stay : (ports : List Port) (xs : List Timer) (n : ℕ) → IsCleared n ports → IsCleared n (withdraw_timers ports xs)
cleared_stay ports [] n h = h
cleared_stay ports (x ∷ xs) n h = cleared_stay (withdraw_timer ports x.port x.number) xs n (cleared_stays ports x.port x.number n h)

module _ (ts : List Timer) (list : AssociationList) (made : ℕ) where
  pub withdraw_all : (ports : List Port) (xs : List Timer) → HoldPorts ts list made ports → HoldPorts ts list made (withdraw_timers ports xs)
  withdraw_all ports [] h = h
  withdraw_all ports (x ∷ xs) h = withdraw_all (withdraw_timer ports x.port x.number) xs (withdraw_one ports x.port x.number ts list made h)

  pub all_cleared :
      (ports : List Port) (xs : List Timer) → HoldPorts ts list made ports → All (λ t. timer_numbered ts t.number ≡ Some t) xs →
      All (λ t. IsCleared t.number (withdraw_timers ports xs)) xs
  all_cleared ports [] h there = All-nil (λ t. IsCleared t.number ports)
  all_cleared ports (x ∷ xs) h there =
      All-cons (λ t. IsCleared t.number (withdraw_timers after xs)) x xs
      (cleared_stay after xs x.number (cleared_by ts ports x h.timed (All-head (λ t. timer_numbered ts t.number ≡ Some t) x xs there)))
      (all_cleared after xs (withdraw_one ports x.port x.number ts list made h) (All-tail (λ t. timer_numbered ts t.number ≡ Some t) x xs there))
    where
      after : List Port
      after = withdraw_timer ports x.port x.number

-- other timers, where each that has an event queued is there as it was
pub relisted :
    (ts others : List Timer) (ports : List Port) → TimedPorts ts ports →
    ((n : ℕ) (t : Timer) → timer_numbered ts n ≡ Some t → (timer_numbered others n ≡ Some t) ⊎ IsCleared n ports) → TimedPorts others ports
relisted ts others ports h kept q =
    record {
      of_timers = All-both (IsRight ts q) Clears (IsRight others q) stays (port_of ports q).queue (h q).of_timers (λ k d l n none. none q k d l);
      once = (h q).once;
    }
  where
    Clears : Queued → Type 0
    Clears e = (n : ℕ) → IsCleared n ports → is_timer_event n e ≡ false

    stays : (e : Queued) → IsRight ts q e → Clears e → IsRight others q e
    stays e r clears n f = by (r n f) (kept n (r n f).timer (r n f).there)
      where
        by : (o : IsOfTimer ts q e n) → (timer_numbered others n ≡ Some o.timer) ⊎ IsCleared n ports → IsOfTimer others q e n
        by o (inl there) = record { timer = o.timer; there = there; event = o.event; port = o.port; armed = o.armed; some = o.some }
        by o (inr none) =
            let here : (n == n) ≡ true = grind (arith, nat_tests) in
            let it : is_timer_event n e ≡ true = ap (is_number n) f ∙ here in
            absurd (cc (sym it ∙ clears n none))

-- what is due is told

module _ (ts : List Timer) (list : AssociationList) (made after until : ℕ) where
  told_one :
      (ports : List Port) (x : Timer) → timer_numbered ts x.number ≡ Some x → is_due after until x ≡ true → HoldPorts ts list made ports →
      HoldPorts ts list made (tell_due ports (due_of after until x))
  told_one ports x there due h = go (has_timer_event x.number (port_of ports x.port)) refl
    where
      some : 1 ≤ due_count after until x.arming
      some = grind (arith, nat_tests, due)

      armed : (o : Option Arming) → x.arming ≡ o → is_some o ≡ true
      armed None e = let none : due_count after until x.arming ≡ 0 = ap (due_count after until) e in absurd (omega (arith, none, some))
      armed (Some a) e = refl

      it : IsOfTimer ts x.port (due_event (due_of after until x)) x.number
      it = record { timer = x; there = there; event = refl; port = refl; armed = armed x.arming refl; some = some }

      go :
          (b : Bool) → has_timer_event x.number (port_of ports x.port) ≡ b →
          HoldPorts ts list made (if b then grow_timer ports x.port x.number (due_count after until x.arming) else post_event ports x.port (due_event (due_of after until x)))
      go true e =
          record {
            bounded = grow_timer-ports ports x.port h.bounded x.number (due_count after until x.arming);
            associated =
                same_queued ports list h.associated _ (length-change_at_number ports x.port (with_grown_event x.number (due_count after until x.arming)))
                (λ n q. tally-same ports x.port q (with_grown_event x.number (due_count after until x.arming)) n
                (λ y. count-changed (is_event_of n) (is_timer_event x.number) (grown_event (due_count after until x.arming)) (λ z. refl) y.queue));
            timed = timed-change ts ports x.port (with_grown_event x.number (due_count after until x.arming)) (λ y f t. timed-grow ts x.port y.queue t x.number (due_count after until x.arming)) h.timed;
            long = length-change_at_number ports x.port (with_grown_event x.number (due_count after until x.arming)) ∙ h.long;
          }
      go false e =
          record {
            bounded = post-ports ports x.port h.bounded (due_event (due_of after until x)) refl refl;
            associated =
                same_queued ports list h.associated _ (length-change_at_number ports x.port (with_event (due_event (due_of after until x))))
                (λ n q. tally-same ports x.port q (with_event (due_event (due_of after until x))) n (λ y. omega (arith, count-append (is_event_of n) y.queue (due_event (due_of after until x) ∷ []))));
            timed =
                timed-change ts ports x.port (with_event (due_event (due_of after until x)))
                (λ y f t. timed-post ts x.port y.queue t x.number (due_event (due_of after until x)) refl it
                (ap (λ o. list_any (is_timer_event x.number) (port_in o).queue) (sym f) ∙ e))
                h.timed;
            long = length-change_at_number ports x.port (with_event (due_event (due_of after until x))) ∙ h.long;
          }

  pub told_all :
      (ports : List Port) (xs : List Timer) → All (λ t. timer_numbered ts t.number ≡ Some t) xs → HoldPorts ts list made ports →
      HoldPorts ts list made (tell_dues ports (map (due_of after until) (filter (is_due after until) xs)))
  told_all ports [] there h = h
  told_all ports (x ∷ xs) there h =
      go (is_due after until x) refl (λ k. told_all k xs (All-tail (λ t. timer_numbered ts t.number ≡ Some t) x xs there))
    where
      go :
          (b : Bool) → is_due after until x ≡ b →
          ((k : List Port) → HoldPorts ts list made k → HoldPorts ts list made (tell_dues k (map (due_of after until) (filter (is_due after until) xs)))) →
          HoldPorts ts list made
          (tell_dues ports (map (due_of after until) (if b then x ∷ filter (is_due after until) xs else filter (is_due after until) xs)))
      go true e rest =
          rest (tell_due ports (due_of after until x)) (told_one ports x (All-head (λ t. timer_numbered ts t.number ≡ Some t) x xs there) e h)
      go false e rest = rest ports h
