-- What holds of ports, associations and timers holds after each act of timers, and where timers end with their process.
use Rattle.std.proofs.Common.{◌≡◌, ℕ, zero, suc, ◌+◌, ◌≤◌, ◌==◌, ◌⊎◌, inl, inr, List, [], ◌∷◌, ◌++◌, Option, Some, None, is_none, Bool, true, false, if◌then◌else◌, not, filter, length, refl, sym, ap, subst, ◌∙◌, arith, lit≤}
use Rattle.std.specs.Prelude.{All}
use Rattle.std.proofs.lemmas.Bool.Decides.{nat_tests}
use Rattle.std.proofs.lemmas.List.Elements.{All-filter, All-nil, All-push, All-weaker}
use Rattle.dk_base.specs.ByNumber.{at_number}
use Rattle.dk_base.specs.declared.limits.TheConstants.{ADVANCE_MAX, CLOCK_MAX}
use Rattle.spec_records.specs.declared.timer.Arming.{Arming}
use Rattle.spec_records.specs.declared.timer.Due.{Due}
use Rattle.spec_records.specs.declared.timer.Timer.{Timer}
use Rattle.spec_records.specs.Words.{Port, TimerList, arming_at, delete_timer as without_timer, due_event, dues, grow_timer, has_all_timers, has_timer_event, is_numbered, is_other_timer, is_timer, is_timer_of_ended, is_timer_of_live, new_timer, port_in, port_of, post_event, set_timer as with_timer_set, tell_due, tell_dues, timer_at, timer_number, with_arming, with_event, with_grown_event, withdraw_timer, withdraw_timers, without_queued, without_timer_event}
use Rattle.spec_records.proofs.Lists.{at_number-suc}
use Rattle.spec_records.proofs.NumberedLists.{ascending-change_first, ascending-filter, ascending-push, find-passes}
use Rattle.spec_kernel.specs.Words.{Channels, clock_advanced, timer_created, timer_deleted, timer_set}
use Rattle.law_channels.specs.Associations.{AreAssociations}
use Rattle.law_channels.specs.Channels.{ArePorts}
use Rattle.law_channels.specs.Timers.{AreTimed, AreTimers, IsTimer, timer_numbered}
use Rattle.law_channels.proofs.Bounds.{length-change_at_number}
use Rattle.law_channels.proofs.Elements.{All-change_first, All-find}
use Rattle.law_channels.proofs.Ticking.{HoldPorts, IsCleared, all_cleared, relisted, told_all, withdraw_all}
use Rattle.law_channels.proofs.Timed.{timed-none}
use Rattle.law_channels.proofs.TimerLists.{all_numbered, distinct-changed, distinct-filter, distinct-push, find-changed, find-filter, find-push, free_is, own_id}

-- ports, associations and timers together
pub record HoldChannels (c : Channels) : Type 0 where
  pub ports : ArePorts c.ports
  pub associations : AreAssociations c.ports c.associations
  pub timers : AreTimers c.ports c.timers

module _ (c : Channels) (h : HoldChannels c) where
  abbrev ts : List Timer
  ts = c.timers.timers

  numbered : All (λ t. timer_numbered ts t.number ≡ Some t) ts
  numbered = all_numbered 0 c.timers.made ts h.timers.in_order

  holds : HoldPorts ts c.associations (length c.ports) c.ports
  holds = record { bounded = h.ports; associated = h.associations; timed = h.timers.queued; long = refl }

  -- a timer is made

  pub create_holds :
      (process port user : ℕ) → has_all_timers ts process ≡ false → (1 ≤ port) × (port ≤ length c.ports) →
      HoldChannels (timer_created c process port user)
  create_holds process port user few there =
      record {
        ports = h.ports;
        associations = h.associations;
        timers =
            record {
              in_order = ascending-push timer_number ts 0 c.timers.made new (omega arith) refl h.timers.in_order;
              distinct = distinct-push ts new h.timers.distinct (free_is process ts few).1;
              each =
                  All-push (IsTimer (length c.ports) c.timers.clock) ts new h.timers.each
                  (record { id = (free_is process ts few).0; first_port = there.0; port = there.1; arming = none_armed });
              queued =
                  relisted ts (ts ++ new ∷ []) c.ports h.timers.queued
                  (λ n t e. inl (find-push (is_numbered timer_number n) ts new t e));
              late = h.timers.late;
            };
      }
    where
      new : Timer
      new = new_timer c.timers process port user

      none_armed : (a : Arming) → ◌≡◌ {A = Option Arming} None (Some a) → (1 ≤ a.first) × (a.clock ≤ c.timers.clock)
      none_armed a e = cc

  -- what ports are left with has timers in place of these

  left_holds :
      (list : TimerList) (ports : List Port) → HoldPorts ts c.associations (length c.ports) ports → AreTimers ports list →
      HoldChannels (record c { ports = ports; timers = list })
  left_holds list ports p timers = record { ports = p.bounded; associations = p.associated; timers = timers }

  long_each : (clock made : ℕ) (us : List Timer) → made ≡ length c.ports → All (IsTimer (length c.ports) clock) us → All (IsTimer made clock) us
  long_each clock made us e all = subst (λ k. All (IsTimer k clock) us) (sym e) all

  -- a timer with this id is set again, or deleted

  module _ (process id : ℕ) where
    abbrev at_id : Timer → Bool
    at_id = is_timer process id

    -- what it has queued is withdrawn
    withdrawn : (t : Timer) → HoldPorts ts c.associations (length c.ports) (withdraw_timer c.ports t.port t.number)
    withdrawn t = withdraw_all ts c.associations (length c.ports) c.ports (t ∷ []) holds

    its_number : (t : Timer) → timer_at ts process id ≡ Some t → timer_numbered ts t.number ≡ Some t
    its_number t e = All-find (λ (u : Timer). timer_numbered ts u.number ≡ Some u) at_id ts t numbered e

    cleared : (t : Timer) → timer_at ts process id ≡ Some t → IsCleared t.number (withdraw_timer c.ports t.port t.number)
    cleared t e =
        All-find (λ (u : Timer). IsCleared u.number (withdraw_timer c.ports t.port t.number)) (λ u. true) (t ∷ []) t
        (all_cleared ts c.associations (length c.ports) c.ports (t ∷ []) holds
        (All-push (λ (u : Timer). timer_numbered ts u.number ≡ Some u) [] t (All-nil (λ u. timer_numbered ts u.number ≡ Some u)) (its_number t e)))
        refl

    -- a timer with another id stands, and one with this is the one whose event is withdrawn
    stands :
        (others : List Timer) (t : Timer) → timer_at ts process id ≡ Some t →
        ((n : ℕ) (u : Timer) → timer_numbered ts n ≡ Some u → at_id u ≡ false → timer_numbered others n ≡ Some u) → (n : ℕ) (u : Timer) →
        timer_numbered ts n ≡ Some u → (timer_numbered others n ≡ Some u) ⊎ IsCleared n (withdraw_timer c.ports t.port t.number)
    stands others t e kept n u f = go (at_id u) refl
      where
        go : (b : Bool) → at_id u ≡ b → (timer_numbered others n ≡ Some u) ⊎ IsCleared n (withdraw_timer c.ports t.port t.number)
        go false g = inl (kept n u f g)
        go true g =
            let own : timer_at ts process id ≡ Some u = own_id process id n ts u h.timers.distinct f g in
            let same : u ≡ t = cc in
            let passes : (u.number == n) ≡ true = find-passes (is_numbered timer_number n) ts u f in
            let number : t.number ≡ n = grind (arith, nat_tests, ap (λ (v : Timer). v.number) same) in
            inr (subst (λ k. IsCleared k (withdraw_timer c.ports t.port t.number)) number (cleared t e))

    set_one :
        (first interval : ℕ) (t : Timer) → timer_at ts process id ≡ Some t →
        HoldChannels (record c { ports = withdraw_timer c.ports t.port t.number; timers = with_timer_set c.timers process id first interval })
    set_one first interval t e =
        left_holds list after p
        (record {
          in_order = ascending-change_first timer_number (with_arming a) (λ u. refl) at_id ts 0 c.timers.made h.timers.in_order;
          distinct = distinct-changed at_id (with_arming a) (λ u. refl) (λ u. refl) ts h.timers.distinct;
          each =
              long_each c.timers.clock (length after) list.timers p.long
              (All-change_first (IsTimer (length c.ports) c.timers.clock) at_id (with_arming a)
              (λ u k. record { id = k.id; first_port = k.first_port; port = k.port; arming = armed }) ts h.timers.each);
          queued =
              relisted ts list.timers after p.timed
              (stands list.timers t e (λ n u f g. find-changed (is_numbered timer_number n) at_id (with_arming a) (λ v. refl) ts u f g));
          late = h.timers.late;
        })
      where
        list : TimerList
        list = with_timer_set c.timers process id first interval

        after : List Port
        after = withdraw_timer c.ports t.port t.number

        p : HoldPorts ts c.associations (length c.ports) after
        p = withdrawn t

        a : Option Arming
        a = arming_at c.timers.clock first interval

        armed : (b : Arming) → a ≡ Some b → (1 ≤ b.first) × (b.clock ≤ c.timers.clock)
        armed b f = go (first == 0) refl f
          where
            go :
                (z : Bool) → (first == 0) ≡ z →
                ◌≡◌ {A = Option Arming} (if z then None else Some (record { clock = c.timers.clock; first = first; interval = interval })) (Some b) →
                (1 ≤ b.first) × (b.clock ≤ c.timers.clock)
            go true g i = cc
            go false g i =
                let some : 1 ≤ first = grind (arith, nat_tests) in
                let same : ◌≡◌ {A = Arming} (record { clock = c.timers.clock; first = first; interval = interval }) b = cc in
                (subst (λ (x : Arming). 1 ≤ x.first) same some, subst (λ (x : Arming). x.clock ≤ c.timers.clock) same (omega arith))

    delete_one :
        (t : Timer) → timer_at ts process id ≡ Some t →
        HoldChannels (record c { ports = withdraw_timer c.ports t.port t.number; timers = without_timer c.timers process id })
    delete_one t e =
        left_holds list after p
        (record {
          in_order = ascending-filter timer_number (is_other_timer process id) ts 0 c.timers.made h.timers.in_order;
          distinct = distinct-filter (is_other_timer process id) ts h.timers.distinct;
          each =
              long_each c.timers.clock (length after) list.timers p.long
              (All-filter (is_other_timer process id) (IsTimer (length c.ports) c.timers.clock) ts h.timers.each);
          queued =
              relisted ts list.timers after p.timed
              (stands list.timers t e (λ n u f g. find-filter (is_numbered timer_number n) (is_other_timer process id) ts u f (ap not g)));
          late = h.timers.late;
        })
      where
        list : TimerList
        list = without_timer c.timers process id

        after : List Port
        after = withdraw_timer c.ports t.port t.number

        p : HoldPorts ts c.associations (length c.ports) after
        p = withdrawn t

    pub set_holds : (first interval : ℕ) → is_none (timer_at ts process id) ≡ false → HoldChannels (timer_set c process id first interval)
    set_holds first interval there = go (timer_at ts process id) refl there
      where
        go :
            (o : Option Timer) → timer_at ts process id ≡ o → is_none o ≡ false →
            HoldChannels (record c { ports = without_queued c.ports o; timers = with_timer_set c.timers process id first interval })
        go None e f = cc
        go (Some t) e f = set_one first interval t e

    pub delete_holds : is_none (timer_at ts process id) ≡ false → HoldChannels (timer_deleted c process id)
    delete_holds there = go (timer_at ts process id) refl there
      where
        go :
            (o : Option Timer) → timer_at ts process id ≡ o → is_none o ≡ false →
            HoldChannels (record c { ports = without_queued c.ports o; timers = without_timer c.timers process id })
        go None e f = cc
        go (Some t) e f = delete_one t e

  -- the clock moves on

  advanced : (by : ℕ) → HoldPorts ts c.associations (length c.ports) (tell_dues c.ports (dues c.timers by))
  advanced by = told_all ts c.associations (length c.ports) c.timers.clock (c.timers.clock + by) c.ports ts numbered holds

  pub advance_long : (by : ℕ) → length (tell_dues c.ports (dues c.timers by)) ≡ length c.ports
  advance_long by = (advanced by).long

  pub advance_holds : (by : ℕ) → by ≤ ADVANCE_MAX → c.timers.clock ≤ CLOCK_MAX → HoldChannels (clock_advanced c by)
  advance_holds by short early =
      record {
        ports = p.bounded;
        associations = p.associated;
        timers =
            record {
              in_order = h.timers.in_order;
              distinct = h.timers.distinct;
              each =
                  long_each (c.timers.clock + by) (length (tell_dues c.ports (dues c.timers by))) ts p.long
                  (All-weaker (IsTimer (length c.ports) c.timers.clock) (IsTimer (length c.ports) (c.timers.clock + by))
                  (λ t k.
                  record {
                    id = k.id;
                    first_port = k.first_port;
                    port = k.port;
                    arming = λ a e. ((k.arming a e).0, omega (arith, (k.arming a e).1));
                  })
                  ts h.timers.each);
              queued = p.timed;
              late = omega (arith, short, early);
            };
      }
    where
      p : HoldPorts ts c.associations (length c.ports) (tell_dues c.ports (dues c.timers by))
      p = advanced by

  -- the timers of processes that live no more end
  module _ (lives : ℕ → Bool) where
    abbrev lost : List Timer
    lost = filter (is_timer_of_ended lives) ts

    abbrev left : List Timer
    left = filter (is_timer_of_live lives) ts

    after_end : HoldPorts ts c.associations (length c.ports) (withdraw_timers c.ports lost)
    after_end = withdraw_all ts c.associations (length c.ports) c.ports lost holds

    lost_cleared : All (λ t. IsCleared t.number (withdraw_timers c.ports lost)) lost
    lost_cleared =
        all_cleared ts c.associations (length c.ports) c.ports lost holds
        (All-filter (is_timer_of_ended lives) (λ t. timer_numbered ts t.number ≡ Some t) ts numbered)

    stay_or_lost : (n : ℕ) (t : Timer) → timer_numbered ts n ≡ Some t → (timer_numbered left n ≡ Some t) ⊎ IsCleared n (withdraw_timers c.ports lost)
    stay_or_lost n t e = go (is_timer_of_live lives t) refl
      where
        go : (b : Bool) → is_timer_of_live lives t ≡ b → (timer_numbered left n ≡ Some t) ⊎ IsCleared n (withdraw_timers c.ports lost)
        go true f = inl (find-filter (is_numbered timer_number n) (is_timer_of_live lives) ts t e f)
        go false f =
            let there : timer_numbered lost n ≡ Some t = find-filter (is_numbered timer_number n) (is_timer_of_ended lives) ts t e (ap not f) in
            let passes : (t.number == n) ≡ true = find-passes (is_numbered timer_number n) ts t e in
            let number : t.number ≡ n = grind (arith, nat_tests) in
            inr
            (subst (λ k. IsCleared k (withdraw_timers c.ports lost)) number
            (All-find (λ (u : Timer). IsCleared u.number (withdraw_timers c.ports lost)) (is_numbered timer_number n) lost t lost_cleared there))

    pub end_holds : HoldChannels (record c { ports = withdraw_timers c.ports lost; timers = record c.timers { timers = left } })
    end_holds =
        left_holds (record c.timers { timers = left }) (withdraw_timers c.ports lost) after_end
        (record {
          in_order = ascending-filter timer_number (is_timer_of_live lives) ts 0 c.timers.made h.timers.in_order;
          distinct = distinct-filter (is_timer_of_live lives) ts h.timers.distinct;
          each =
              long_each c.timers.clock (length (withdraw_timers c.ports lost)) left after_end.long
              (All-filter (is_timer_of_live lives) (IsTimer (length c.ports) c.timers.clock) ts h.timers.each);
          queued = relisted ts left (withdraw_timers c.ports lost) after_end.timed stay_or_lost;
          late = h.timers.late;
        })

pub length-without_queued : (ports : List Port) (o : Option Timer) → length (without_queued ports o) ≡ length ports
length-without_queued ports None = refl
length-without_queued ports (Some t) = length-change_at_number ports t.port (without_timer_event t.number)

pub length-withdraw_timers : (ports : List Port) (xs : List Timer) → length (withdraw_timers ports xs) ≡ length ports
length-withdraw_timers ports [] = refl
length-withdraw_timers ports (t ∷ xs) =
    length-withdraw_timers (withdraw_timer ports t.port t.number) xs ∙ length-change_at_number ports t.port (without_timer_event t.number)

pub length-tell_dues : (ports : List Port) (ds : List Due) → length (tell_dues ports ds) ≡ length ports
length-tell_dues ports [] = refl
length-tell_dues ports (d ∷ ds) = length-tell_dues (tell_due ports d) ds ∙ go (has_timer_event d.tag.number (port_of ports d.tag.port))
  where
    go :
        (b : Bool) →
        length (if b then grow_timer ports d.tag.port d.tag.number d.count else post_event ports d.tag.port (due_event d)) ≡ length ports
    go true = length-change_at_number ports d.tag.port (with_grown_event d.tag.number d.count)
    go false = length-change_at_number ports d.tag.port (with_event (due_event d))

-- none is made at first
pub no_timer : AreTimers [] (record { clock = 0; made = 0; timers = [] })
no_timer =
    record {
      in_order = tt;
      distinct = tt;
      each = All-nil (IsTimer 0 0);
      queued = λ q. subst (λ o. AreTimed [] q (port_in o).queue) (sym (none q)) (timed-none [] q);
      late = lit≤ tt;
    }
  where
    none : (q : ℕ) → at_number {X = Port} [] q ≡ None
    none zero = refl
    none (suc k) = at_number-suc [] k
