-- What ports have after an event: what the act leaves in their queues, without the events of associations that ended, and then what
-- those have queued that fired. Events of timers leave as those of associations do, where their timers end.
use Rattle.std.specs.Prelude.{ℕ, ◌≡◌, ◌+◌, ◌++◌, ◌≤◌, ◌<◌, ◌==◌, ◌&&◌, ◌||◌, List, [], ◌∷◌, Option, Bool, true, false, if◌then◌else◌, not, Some, None, count_by, filter, is_some, map, slice_get, All}
use Rattle.std.specs.Option.{option_map}
use Rattle.std.proofs.Common.{append-nil, ap₂, cond, refl, sym, ap, subst, ◌∙◌}
use native.Mathlib.Omega.{arith}
use Rattle.std.proofs.lemmas.Bool.Decides.{nat_tests}
use Rattle.std.proofs.lemmas.List.{append_assoc}
use Rattle.std.proofs.lemmas.List.Elements.{All-cons, All-filter, All-head, All-nil, All-tail, All-weaker}
use Rattle.std.proofs.lemmas.Option.{slice_get_within}
use Rattle.dk_base.specs.declared.set.PollSet.{PollSet}
use Rattle.dk_base.specs.ByNumber.{at_number}
use Rattle.spec_records.specs.declared.association.AssocKey.{AssocKey}
use Rattle.spec_records.specs.declared.association.Association.{Association}
use Rattle.spec_records.specs.declared.association.Fired.{Fired}
use Rattle.spec_records.specs.declared.timer.Timer.{Timer}
use Rattle.spec_records.specs.Words.{AssociationList, IsAscending, Port, TimerList, is_other_timer_event, is_timer_event, is_timer_of_ended, is_timer_of_live, timer_number, timers_of_ended, withdraw_timer, withdraw_timers, without_timer_event, all_fired, association_number, associations_that_lost, disarmed, disarmed_where, fired_where, has_key, has_lost_its_row, is_event_of, is_number, is_other_event, is_to_fire, names_its_object, port_in, post_event, post_fired, told_events, with_event, withdraw_event, withdraw_events, without_event}
use Rattle.spec_records.proofs.NumberedLists.{ascending-filter}
use Rattle.spec_kernel.specs.Types.{Obj, Queued, Request}
use Rattle.spec_kernel.specs.Words.{Channels, State, Turn, act, associations_in, end_lost, is_live_process, ready_at, settle_pools, state_at, step, timers_in}
use Rattle.spec_kernel.proofs.Settling.{channels-settle_pools}
use Rattle.law_channels.specs.Associations.{AreAssociations, IsOfPort}
use Rattle.law_channels.specs.Timers.{AreTimed, IsOfTimer}
use Rattle.law_channels.proofs.Acts.{Fits}
use Rattle.law_channels.proofs.Tally.{count-cons}
use Rattle.law_places.proofs.Known.{next}
use Rattle.law_runs.specs.Channels.{port_under}
use Rattle.law_runs.specs.Clock.{numbered, timer_under}
use Rattle.law_runs.specs.OneShot.{association_under, due_event, has_queued_at, is_unfired, under}
use Rattle.law_runs.specs.PortEvents.{fired_at, has_fired, is_left, stands, timer_stands, told_port}
use Rattle.law_runs.proofs.Channels.{KnownChannels, at_number-change_at_number}
use Rattle.law_runs.proofs.OneShot.{counted_under}
use Rattle.law_runs.proofs.Lives.{Acted, acted_fits, acts, kept, same_due, told, told_one, under-above, under-filter}
use Rattle.law_runs.proofs.Effects.{under-bounded}
use Rattle.law_runs.proofs.TimerLists.{eq_sym, kept as kept_timer, numbered-above, numbered-filter, numbered_is}

-- lists that are filtered

module _ {X : Type 0} where
  filter-both : (f g h : X → Bool) → ((x : X) → g x && f x ≡ h x) → (xs : List X) → filter f (filter g xs) ≡ filter h xs
  filter-both f g h same [] = refl
  filter-both f g h same (x ∷ xs) =
      go (g x) (f x) refl (filter-both f g h same xs)
      ∙ ap (λ (b : Bool). if b then x ∷ filter h xs else filter h xs) (same x)
    where
      go :
          (a b : Bool) → f x ≡ b → filter f (filter g xs) ≡ filter h xs →
          filter f (if a then x ∷ filter g xs else filter g xs) ≡ (if a && b then x ∷ filter h xs else filter h xs)
      go true true e rest =
          ap (λ (b : Bool). if b then x ∷ filter f (filter g xs) else filter f (filter g xs)) e ∙ ap (λ ys. x ∷ ys) rest
      go true false e rest = ap (λ (b : Bool). if b then x ∷ filter f (filter g xs) else filter f (filter g xs)) e ∙ rest
      go false b e rest = rest

  pub filter-alike : (f g : X → Bool) → ((x : X) → f x ≡ g x) → (xs : List X) → filter f xs ≡ filter g xs
  filter-alike f g same [] = refl
  filter-alike f g same (x ∷ xs) =
      ap₂ (λ (b : Bool) (ys : List X). if b then x ∷ ys else ys) (same x) (filter-alike f g same xs)

  filter-all : (f : X → Bool) → ((x : X) → f x ≡ true) → (xs : List X) → filter f xs ≡ xs
  filter-all f all [] = refl
  filter-all f all (x ∷ xs) = ap₂ (λ (b : Bool) (ys : List X). if b then x ∷ ys else ys) (all x) (filter-all f all xs)

itself : (n : ℕ) → (n == n) ≡ true
itself n = grind (arith, nat_tests)

-- where two tests agree on what is queued
filter-queued :
    (f g : Queued → Bool) (whole : List Queued) →
    ((e : Queued) → ((n : ℕ) → e.assoc ≡ Some n → 1 ≤ count_by (is_event_of n) whole) → f e ≡ g e) → (es : List Queued) →
    ((n : ℕ) → count_by (is_event_of n) es ≤ count_by (is_event_of n) whole) → filter f es ≡ filter g es
filter-queued f g whole same [] h = refl
filter-queued f g whole same (e ∷ es) h =
    ap₂ (λ (b : Bool) (ys : List Queued). if b then e ∷ ys else ys) (same e here)
    (filter-queued f g whole same es (λ n. omega (arith, h n, count-cons (is_event_of n) e es)))
  where
    here : (n : ℕ) → e.assoc ≡ Some n → 1 ≤ count_by (is_event_of n) whole
    here n r =
        omega (
          arith,
          h n,
          count-cons (is_event_of n) e es ∙ ap (λ b. cond b 1 0 + count_by (is_event_of n) es) (ap (is_number n) r ∙ itself n),
        )

-- one port, where events are withdrawn and queued

module _ (q : ℕ) where
  -- an event that one of these has queued at port q
  abbrev pub is_of_any : List Association → Queued → Bool
  is_of_any [] e = false
  is_of_any (a ∷ xs) e = (a.key.port == q) && is_event_of a.number e || is_of_any xs e

  abbrev pub without_all : List Association → Port → Port
  without_all xs p = record p { queue = filter (λ (e : Queued). not (is_of_any xs e)) p.queue }

  pub withdrawn_port : (ports : List Port) (xs : List Association) → at_number (withdraw_events ports xs) q ≡ option_map (without_all xs) (at_number ports q)
  withdrawn_port ports [] = go (at_number ports q)
    where
      go : (o : Option Port) → o ≡ option_map (without_all []) o
      go None = refl
      go (Some p) = ap (λ qs. Some (record p { queue = qs })) (sym (filter-all (λ (e : Queued). not (is_of_any [] e)) (λ e. refl) p.queue))
  withdrawn_port ports (a ∷ xs) =
      withdrawn_port (withdraw_event ports a.key.port a.number) xs
      ∙ ap (option_map (without_all xs)) (at_number-change_at_number ports a.key.port q (without_event a.number))
      ∙ go (q == a.key.port) refl
    where
      keeps : (c d : Bool) → not c && not d ≡ not (c || d)
      keeps true d = refl
      keeps false d = refl

      one : (a.key.port == q) ≡ true → (o : Option Port) → option_map (without_all xs) (option_map (without_event a.number) o) ≡ option_map (without_all (a ∷ xs)) o
      one f None = refl
      one f (Some p) =
          ap (λ qs. Some (record p { queue = qs }))
          (filter-both (λ (e : Queued). not (is_of_any xs e)) (is_other_event a.number) (λ (e : Queued). not (is_of_any (a ∷ xs) e))
          (λ e.
          keeps (is_event_of a.number e) (is_of_any xs e)
          ∙ ap (λ b. not (b && is_event_of a.number e || is_of_any xs e)) (sym f))
          p.queue)

      other : (a.key.port == q) ≡ false → (o : Option Port) → option_map (without_all xs) o ≡ option_map (without_all (a ∷ xs)) o
      other f None = refl
      other f (Some p) =
          ap (λ qs. Some (record p { queue = qs }))
          (filter-alike (λ (e : Queued). not (is_of_any xs e)) (λ (e : Queued). not (is_of_any (a ∷ xs) e))
          (λ e. ap (λ b. not (b && is_event_of a.number e || is_of_any xs e)) (sym f))
          p.queue)

      go :
          (b : Bool) → (q == a.key.port) ≡ b →
          option_map (without_all xs) (if b then option_map (without_event a.number) (at_number ports a.key.port) else at_number ports q)
          ≡ option_map (without_all (a ∷ xs)) (at_number ports q)
      go true f =
          let same : a.key.port ≡ q = grind (arith, nat_tests) in
          ap (λ n. option_map (without_all xs) (option_map (without_event a.number) (at_number ports n))) same
          ∙ one (grind (arith, nat_tests)) (at_number ports q)
      go false f = other (grind (arith, nat_tests)) (at_number ports q)

  abbrev pub events_at : List Fired → List Queued
  events_at [] = []
  events_at (f ∷ fs) = if f.port == q then f.queued ∷ events_at fs else events_at fs

  abbrev pub with_all : List Fired → Port → Port
  with_all fs p = record p { queue = p.queue ++ events_at fs }

  pub posted_port : (ports : List Port) (fs : List Fired) → at_number (post_fired ports fs) q ≡ option_map (with_all fs) (at_number ports q)
  posted_port ports [] = go (at_number ports q)
    where
      go : (o : Option Port) → o ≡ option_map (with_all []) o
      go None = refl
      go (Some p) = ap (λ qs. Some (record p { queue = qs })) (sym (append-nil p.queue))
  posted_port ports (f ∷ fs) =
      posted_port (post_event ports f.port f.queued) fs
      ∙ ap (option_map (with_all fs)) (at_number-change_at_number ports f.port q (with_event f.queued))
      ∙ go (q == f.port) refl
    where
      one : (f.port == q) ≡ true → (o : Option Port) → option_map (with_all fs) (option_map (with_event f.queued) o) ≡ option_map (with_all (f ∷ fs)) o
      one h None = refl
      one h (Some p) =
          ap (λ qs. Some (record p { queue = qs }))
          (append_assoc p.queue (f.queued ∷ []) (events_at fs)
          ∙ ap (λ (b : Bool). p.queue ++ (if b then f.queued ∷ events_at fs else events_at fs)) (sym h))

      other : (f.port == q) ≡ false → (o : Option Port) → option_map (with_all fs) o ≡ option_map (with_all (f ∷ fs)) o
      other h None = refl
      other h (Some p) =
          ap (λ (b : Bool). Some (record p { queue = p.queue ++ (if b then f.queued ∷ events_at fs else events_at fs) })) (sym h)

      go :
          (b : Bool) → (q == f.port) ≡ b →
          option_map (with_all fs) (if b then option_map (with_event f.queued) (at_number ports f.port) else at_number ports q)
          ≡ option_map (with_all (f ∷ fs)) (at_number ports q)
      go true h =
          let same : f.port ≡ q = grind (arith, nat_tests) in
          ap (λ n. option_map (with_all fs) (option_map (with_event f.queued) (at_number ports n))) same
          ∙ one (grind (arith, nat_tests)) (at_number ports q)
      go false h = other (grind (arith, nat_tests)) (at_number ports q)

  -- an event that one of these timers has queued at port q
  abbrev pub is_of_timers : List Timer → Queued → Bool
  is_of_timers [] e = false
  is_of_timers (t ∷ ts) e = (t.port == q) && is_timer_event t.number e || is_of_timers ts e

  abbrev pub without_timers : List Timer → Port → Port
  without_timers ts p = record p { queue = filter (λ (e : Queued). not (is_of_timers ts e)) p.queue }

  pub withdrawn_timers : (ports : List Port) (ts : List Timer) → at_number (withdraw_timers ports ts) q ≡ option_map (without_timers ts) (at_number ports q)
  withdrawn_timers ports [] = go (at_number ports q)
    where
      go : (o : Option Port) → o ≡ option_map (without_timers []) o
      go None = refl
      go (Some p) = ap (λ qs. Some (record p { queue = qs })) (sym (filter-all (λ (e : Queued). not (is_of_timers [] e)) (λ e. refl) p.queue))
  withdrawn_timers ports (t ∷ ts) =
      withdrawn_timers (withdraw_timer ports t.port t.number) ts
      ∙ ap (option_map (without_timers ts)) (at_number-change_at_number ports t.port q (without_timer_event t.number))
      ∙ go (q == t.port) refl
    where
      keeps : (c d : Bool) → not c && not d ≡ not (c || d)
      keeps true d = refl
      keeps false d = refl

      one : (t.port == q) ≡ true → (o : Option Port) → option_map (without_timers ts) (option_map (without_timer_event t.number) o) ≡ option_map (without_timers (t ∷ ts)) o
      one f None = refl
      one f (Some p) =
          ap (λ qs. Some (record p { queue = qs }))
          (filter-both (λ (e : Queued). not (is_of_timers ts e)) (is_other_timer_event t.number) (λ (e : Queued). not (is_of_timers (t ∷ ts) e))
          (λ e.
          keeps (is_timer_event t.number e) (is_of_timers ts e)
          ∙ ap (λ b. not (b && is_timer_event t.number e || is_of_timers ts e)) (sym f))
          p.queue)

      other : (t.port == q) ≡ false → (o : Option Port) → option_map (without_timers ts) o ≡ option_map (without_timers (t ∷ ts)) o
      other f None = refl
      other f (Some p) =
          ap (λ qs. Some (record p { queue = qs }))
          (filter-alike (λ (e : Queued). not (is_of_timers ts e)) (λ (e : Queued). not (is_of_timers (t ∷ ts) e))
          (λ e. ap (λ b. not (b && is_timer_event t.number e || is_of_timers ts e)) (sym f))
          p.queue)

      go :
          (b : Bool) → (q == t.port) ≡ b →
          option_map (without_timers ts) (if b then option_map (without_timer_event t.number) (at_number ports t.port) else at_number ports q)
          ≡ option_map (without_timers (t ∷ ts)) (at_number ports q)
      go true f =
          let same : t.port ≡ q = grind (arith, nat_tests) in
          ap (λ n. option_map (without_timers ts) (option_map (without_timer_event t.number) (at_number ports n))) same
          ∙ one (grind (arith, nat_tests)) (at_number ports q)
      go false f = other (grind (arith, nat_tests)) (at_number ports q)

  -- and where ports are told

  abbrev pub settled : List (List (Option Obj)) → (Obj → PollSet) → List Association → (ℕ → Bool) → List Timer → Port → Port
  settled tables ready xs lives ts p =
      record p {
        queue =
            filter (λ (e : Queued). not (is_of_timers (timers_of_ended lives ts) e))
            (filter (λ (e : Queued). not (is_of_any (associations_that_lost tables xs) e)) p.queue)
            ++ events_at (all_fired ready (filter (names_its_object tables) xs));
      }

  told_there :
      (ports : List Port) (tables : List (List (Option Obj))) (ready : Obj → PollSet) (xs : List Association) (lives : ℕ → Bool) (ts : List Timer) →
      at_number
      (post_fired (withdraw_timers (withdraw_events ports (associations_that_lost tables xs)) (timers_of_ended lives ts))
      (all_fired ready (filter (names_its_object tables) xs)))
      q
      ≡ option_map (settled tables ready xs lives ts) (at_number ports q)
  told_there ports tables ready xs lives ts =
      posted_port (withdraw_timers (withdraw_events ports (associations_that_lost tables xs)) (timers_of_ended lives ts))
      (all_fired ready (filter (names_its_object tables) xs))
      ∙ ap (option_map (with_all (all_fired ready (filter (names_its_object tables) xs))))
      (withdrawn_timers (withdraw_events ports (associations_that_lost tables xs)) (timers_of_ended lives ts)
      ∙ ap (option_map (without_timers (timers_of_ended lives ts))) (withdrawn_port ports (associations_that_lost tables xs)))
      ∙ both (at_number ports q)
    where
      both :
          (o : Option Port) →
          option_map (with_all (all_fired ready (filter (names_its_object tables) xs)))
          (option_map (without_timers (timers_of_ended lives ts)) (option_map (without_all (associations_that_lost tables xs)) o))
          ≡ option_map (settled tables ready xs lives ts) o
      both None = refl
      both (Some p) = refl

  pub step_port :
      (m : State) (t : ℕ) (r : Option Request) →
      at_number (step m t r).state.channels.ports q
      ≡ option_map
      (settled (step m t r).state.tables (ready_at (step m t r).state) (associations_in (act m t r).state) (is_live_process (step m t r).state)
      (timers_in (act m t r).state))
      (at_number (act m t r).state.channels.ports q)
  unfolding step
  step_port m t r =
      told_there (settle_pools m (act m t r).state).channels.ports (settle_pools m (act m t r).state).tables
      (ready_at (end_lost (settle_pools m (act m t r).state))) (associations_in (settle_pools m (act m t r).state))
      (is_live_process (settle_pools m (act m t r).state)) (timers_in (settle_pools m (act m t r).state))
      ∙ ap
      (λ (c : Channels).
      option_map
      (settled (settle_pools m (act m t r).state).tables (ready_at (end_lost (settle_pools m (act m t r).state))) c.associations.associations
      (is_live_process (settle_pools m (act m t r).state)) c.timers.timers)
      (at_number c.ports q))
      (channels-settle_pools m (act m t r).state)

  -- an event of an association of one of these numbers

  abbrev is_at : Option Association → Bool
  is_at None = false
  is_at (Some a) = a.key.port == q

  none_any : (xs : List Association) (e : Queued) → e.assoc ≡ None → is_of_any xs e ≡ false
  none_any [] e r = refl
  none_any (a ∷ xs) e r =
      ap₂ (λ (o : Option ℕ) (b : Bool). (a.key.port == q) && is_number a.number o || b) r (none_any xs e r) ∙ by (a.key.port == q)
    where
      by : (c : Bool) → c && false || false ≡ false
      by true = refl
      by false = refl

  any_is :
      (n low made : ℕ) (xs : List Association) (e : Queued) → e.assoc ≡ Some n → IsAscending association_number low made xs →
      is_of_any xs e ≡ is_at (under n xs)
  any_is n low made [] e r h = refl
  any_is n low made (a ∷ xs) e r h =
      ap₂ (λ (o : Option ℕ) (b : Bool). (a.key.port == q) && is_number a.number o || b) r (any_is n a.number made xs e r h.2)
      ∙ go (a.number == n) refl
    where
      here : (c : Bool) → c && true || false ≡ c
      here true = refl
      here false = refl

      there : (c d : Bool) → c && false || d ≡ d
      there true d = refl
      there false d = refl

      go : (b : Bool) → (a.number == n) ≡ b → ((a.key.port == q) && (n == a.number) || is_at (under n xs)) ≡ is_at (if b then Some a else under n xs)
      go true f =
          let same : (n == a.number) ≡ true = grind (arith, nat_tests) in
          let past : under n xs ≡ None = under-above n a.number made xs (grind (arith, nat_tests)) h.2 in
          ap₂ (λ (b : Bool) (o : Option Association). (a.key.port == q) && b || is_at o) same past ∙ here (a.key.port == q)
      go false f =
          let differs : (n == a.number) ≡ false = grind (arith, nat_tests) in
          ap (λ (b : Bool). (a.key.port == q) && b || is_at (under n xs)) differs ∙ there (a.key.port == q) (is_at (under n xs))

  -- what is left in a queue

  module _ (ports : List Port) (list : AssociationList) (h : AreAssociations ports list) (tables : List (List (Option Obj))) (later : State)
      (left : (n : ℕ) (b : Association) → under n list.associations ≡ Some b → is_some (association_under later n) ≡ names_its_object tables b) where
    abbrev lost : List Association
    lost = associations_that_lost tables list.associations

    -- of one that stands
    of_one :
        (n : ℕ) (e : Queued) (o : Option Association) → under n list.associations ≡ o → has_queued_at q o ≡ true →
        not (is_at (kept n (has_lost_its_row tables) o)) ≡ is_some (association_under later n)
    of_one n e None f g = cc
    of_one n e (Some b) f g =
        let at : (b.key.port == q) ≡ true = grind (arith, nat_tests) in
        go (names_its_object tables b) at ∙ sym (left n b f)
      where
        go : (c : Bool) → (b.key.port == q) ≡ true → not (is_at (if not c then Some b else None)) ≡ c
        go true at = refl
        go false at = ap not at

    of_number :
        (p : Port) → at_number ports q ≡ Some p → (e : Queued) (n : ℕ) → e.assoc ≡ Some n → 1 ≤ count_by (is_event_of n) p.queue →
        not (is_of_any lost e) ≡ is_some (association_under later n)
    of_number p there e n r some =
        ap not
        (any_is n 0 list.made lost e r (ascending-filter association_number (has_lost_its_row tables) list.associations 0 list.made h.in_order)
        ∙ ap is_at (under-filter n (has_lost_its_row tables) 0 list.made list.associations h.in_order))
        ∙ of_one n e (under n list.associations) refl (has (has_queued_at q (under n list.associations)) counted)
      where
        counted : 1 ≤ (if has_queued_at q (under n list.associations) then 1 else 0)
        counted =
            omega (
              arith,
              some,
              ap (λ (o : Option Port). count_by (is_event_of n) (port_in o).queue) (sym there)
                  ∙ h.queued n q
                  ∙ counted_under n q 0 list.made list.associations h.in_order,
            )

        has : (b : Bool) → 1 ≤ (if b then 1 else 0) → b ≡ true
        has true l = refl
        has false l = absurd (omega (arith, l))

    pub left_there :
        (p : Port) → at_number ports q ≡ Some p →
        filter (λ (e : Queued). not (is_of_any lost e)) p.queue ≡ filter (λ (e : Queued). stands later e.assoc) p.queue
    left_there p there =
        filter-queued (λ (e : Queued). not (is_of_any lost e)) (λ (e : Queued). stands later e.assoc) p.queue (λ e some. go e some e.assoc refl) p.queue
        (λ n. omega arith)
      where
        go :
            (e : Queued) → ((n : ℕ) → e.assoc ≡ Some n → 1 ≤ count_by (is_event_of n) p.queue) → (o : Option ℕ) → e.assoc ≡ o →
            not (is_of_any lost e) ≡ stands later e.assoc
        go e some None r = ap not (none_any lost e r) ∙ ap (stands later) (sym r)
        go e some (Some n) r = of_number p there e n r (some n r) ∙ ap (stands later) (sym r)

  -- and of timers

  -- an event of a timer of one of these numbers

  abbrev is_at_timer : Option Timer → Bool
  is_at_timer None = false
  is_at_timer (Some t) = t.port == q

  no_timer : (ts : List Timer) (e : Queued) → e.timer ≡ None → is_of_timers ts e ≡ false
  no_timer [] e r = refl
  no_timer (t ∷ ts) e r =
      ap₂ (λ (o : Option ℕ) (b : Bool). (t.port == q) && is_number t.number o || b) r (no_timer ts e r) ∙ by (t.port == q)
    where
      by : (c : Bool) → c && false || false ≡ false
      by true = refl
      by false = refl

  timer_is :
      (n low made : ℕ) (ts : List Timer) (e : Queued) → e.timer ≡ Some n → IsAscending timer_number low made ts →
      is_of_timers ts e ≡ is_at_timer (numbered n ts)
  timer_is n low made [] e r h = refl
  timer_is n low made (t ∷ ts) e r h =
      ap₂ (λ (o : Option ℕ) (b : Bool). (t.port == q) && is_number t.number o || b) r (timer_is n t.number made ts e r h.2)
      ∙ go (t.number == n) refl
    where
      here : (c : Bool) → c && true || false ≡ c
      here true = refl
      here false = refl

      there : (c d : Bool) → c && false || d ≡ d
      there true d = refl
      there false d = refl

      go : (b : Bool) → (t.number == n) ≡ b → ((t.port == q) && (n == t.number) || is_at_timer (numbered n ts)) ≡ is_at_timer (if b then Some t else numbered n ts)
      go true f =
          let same : (n == t.number) ≡ true = grind (arith, nat_tests) in
          let past : numbered n ts ≡ None = numbered-above n t.number made ts (grind (arith, nat_tests)) h.2 in
          ap₂ (λ (b : Bool) (o : Option Timer). (t.port == q) && b || is_at_timer o) same past ∙ here (t.port == q)
      go false f =
          let differs : (n == t.number) ≡ false = grind (arith, nat_tests) in
          ap (λ (b : Bool). (t.port == q) && b || is_at_timer (numbered n ts)) differs ∙ there (t.port == q) (is_at_timer (numbered n ts))

  module _ (list : TimerList) (h : IsAscending timer_number 0 list.made list.timers) (lives : ℕ → Bool) (later : State)
      (left : (n : ℕ) → timer_under later n ≡ kept_timer n (is_timer_of_live lives) (numbered n list.timers)) where
    abbrev ended : List Timer
    ended = timers_of_ended lives list.timers

    abbrev Agrees : Queued → Type 0
    Agrees e = not (is_of_timers ended e) ≡ timer_stands later e.timer

    of_timer : (n : ℕ) (e : Queued) → e.timer ≡ Some n → IsOfTimer list.timers q e n → not (is_of_timers ended e) ≡ timer_stands later e.timer
    of_timer n e r w =
        ap not
        (timer_is n 0 list.made ended e r (ascending-filter timer_number (is_timer_of_ended lives) list.timers 0 list.made h)
        ∙ ap is_at_timer (numbered-filter n (is_timer_of_ended lives) 0 list.made list.timers h ∙ ap (kept_timer n (is_timer_of_ended lives)) found))
        ∙ go (lives w.timer.process.0)
        ∙ ap (λ (o : Option Timer). is_some o) (sym (left n ∙ ap (kept_timer n (is_timer_of_live lives)) found))
        ∙ ap (timer_stands later) (sym r)
      where
        found : numbered n list.timers ≡ Some w.timer
        found = numbered_is n list.timers ∙ w.there

        at : (w.timer.port == q) ≡ true
        at = let same : w.timer.port ≡ q = w.port in grind (arith, nat_tests, same)

        go : (b : Bool) → not (is_at_timer (if not b then Some w.timer else None)) ≡ is_some (if b then Some w.timer else None)
        go true = refl
        go false = ap not at

    agrees : (e : Queued) → ((n : ℕ) → e.timer ≡ Some n → IsOfTimer list.timers q e n) → Agrees e
    agrees e own = go e.timer refl
      where
        go : (o : Option ℕ) → e.timer ≡ o → not (is_of_timers ended e) ≡ timer_stands later e.timer
        go None r = ap not (no_timer ended e r) ∙ ap (timer_stands later) (sym r)
        go (Some n) r = of_timer n e r (own n r)

    filter-agreed : (es : List Queued) → All Agrees es → filter (λ (e : Queued). not (is_of_timers ended e)) es ≡ filter (λ (e : Queued). timer_stands later e.timer) es
    filter-agreed [] w = refl
    filter-agreed (e ∷ es) w =
        ap₂ (λ (b : Bool) (fs : List Queued). if b then e ∷ fs else fs) (All-head Agrees e es w) (filter-agreed es (All-tail Agrees e es w))

    pub timers_left_there :
        (es : List Queued) → AreTimed list.timers q es →
        filter (λ (e : Queued). not (is_of_timers ended e)) (filter (λ (e : Queued). stands later e.assoc) es) ≡ filter (is_left later) es
    timers_left_there es w =
        filter-agreed (filter (λ (e : Queued). stands later e.assoc) es)
        (All-filter (λ (e : Queued). stands later e.assoc) Agrees es (All-weaker (λ e. (n : ℕ) → e.timer ≡ Some n → IsOfTimer list.timers q e n) Agrees agrees es w.of_timers))
        ∙ filter-both (λ (e : Queued). timer_stands later e.timer) (λ (e : Queued). stands later e.assoc) (is_left later) (λ e. refl) es

  -- and what is queued

  module _ (before later : State) (ready : Obj → PollSet) (due : (a : Association) → (fired_where ready a).queued ≡ due_event later (disarmed a)) where
    abbrev WasUnfired : Association → Type 0
    WasUnfired a = is_unfired (association_under before a.number) ≡ a.armed

    pub fired_there :
        (xs : List Association) → All WasUnfired xs → events_at (all_fired ready xs) ≡ fired_at before later q (map (disarmed_where ready) xs)
    fired_there [] h = refl
    fired_there (a ∷ xs) h =
        go (is_to_fire ready a) refl (All-head WasUnfired a xs h) (fired_there xs (All-tail WasUnfired a xs h))
      where
        rest : List Queued
        rest = fired_at before later q (map (disarmed_where ready) xs)

        armed : is_to_fire ready a ≡ true → a.armed ≡ true
        armed f = by a.armed f
          where
            by : (b : Bool) → b && not (told_events (ready a.object) a.events == 0) ≡ true → b ≡ true
            by true g = refl
            by false g = g

        port_first : (c : Bool) → c ≡ c && true
        port_first true = refl
        port_first false = refl

        never : (c d : Bool) → c && (not d && d) ≡ false
        never true true = refl
        never true false = refl
        never false d = refl

        go :
            (b : Bool) → is_to_fire ready a ≡ b → WasUnfired a → events_at (all_fired ready xs) ≡ fired_at before later q (map (disarmed_where ready) xs) →
            events_at (map (fired_where ready) (if b then a ∷ filter (is_to_fire ready) xs else filter (is_to_fire ready) xs))
            ≡ (if ((if b then disarmed a else a).key.port == q) && has_fired before (if b then disarmed a else a)
            then due_event later (if b then disarmed a else a) ∷ fired_at before later q (map (disarmed_where ready) xs)
            else fired_at before later q (map (disarmed_where ready) xs))
        go true f u same =
            ap₂ (λ (e : Queued) (es : List Queued). if a.key.port == q then e ∷ es else es) (due a) same
            ∙ ap (λ (b : Bool). if b then due_event later (disarmed a) ∷ fired_at before later q (map (disarmed_where ready) xs) else fired_at before later q (map (disarmed_where ready) xs))
            (port_first (a.key.port == q) ∙ ap (λ (b : Bool). (a.key.port == q) && b) (sym (u ∙ armed f)))
        go false f u same =
            same
            ∙ ap (λ (b : Bool). if b then due_event later a ∷ fired_at before later q (map (disarmed_where ready) xs) else fired_at before later q (map (disarmed_where ready) xs))
            (sym (ap (λ (b : Bool). (a.key.port == q) && (not a.armed && b)) u ∙ never (a.key.port == q) a.armed))

  -- where none is of the port
  pub none_there :
      (made : ℕ) (ready : Obj → PollSet) (xs : List Association) → made < q → All (IsOfPort made) xs →
      events_at (map (fired_where ready) xs) ≡ []
  none_there made ready [] l h = refl
  none_there made ready (a ∷ xs) l h =
      let few : a.key.port ≤ made = (All-head (IsOfPort made) a xs h).1 in
      let other : (a.key.port == q) ≡ false = grind (arith, nat_tests) in
      ap (λ (b : Bool). if b then (fired_where ready a).queued ∷ events_at (map (fired_where ready) xs) else events_at (map (fired_where ready) xs)) other
      ∙ none_there made ready xs l (All-tail (IsOfPort made) a xs h)

-- each of a list in order stands under its number
all_under : (low made : ℕ) (xs : List Association) → IsAscending association_number low made xs → All (λ (a : Association). under a.number xs ≡ Some a) xs
all_under low made [] h = All-nil (λ (a : Association). under a.number [] ≡ Some a)
all_under low made (x ∷ xs) h =
    All-cons (λ (a : Association). under a.number (x ∷ xs) ≡ Some a) x xs
    (ap (λ (b : Bool). if b then Some x else under x.number xs) (itself x.number))
    (All-weaker (λ (a : Association). under a.number xs ≡ Some a) (λ (a : Association). under a.number (x ∷ xs) ≡ Some a) later xs (all_under x.number made xs h.2))
  where
    later : (a : Association) → under a.number xs ≡ Some a → under a.number (x ∷ xs) ≡ Some a
    later a f =
        let past : x.number < a.number = (under-bounded a.number x.number made xs a h.2 f).0 in
        let other : (x.number == a.number) ≡ false = grind (arith, nat_tests) in
        ap (λ (b : Bool). if b then Some x else under a.number xs) other ∙ f

associations-step :
    (m : State) (t : ℕ) (r : Option Request) →
    associations_in (step m t r).state
    ≡ map (disarmed_where (ready_at (step m t r).state)) (filter (names_its_object (step m t r).state.tables) (associations_in (act m t r).state))
unfolding step
associations-step m t r =
    ap
    (λ (c : Channels).
    map (disarmed_where (ready_at (end_lost (settle_pools m (act m t r).state))))
    (filter (names_its_object (settle_pools m (act m t r).state).tables) c.associations.associations))
    (channels-settle_pools m (act m t r).state)

timers-step : (m : State) (t : ℕ) (r : Option Request) → timers_in (step m t r).state ≡ filter (is_timer_of_live (is_live_process (step m t r).state)) (timers_in (act m t r).state)
unfolding step
timers-step m t r =
    ap (λ (c : Channels). filter (is_timer_of_live (is_live_process (settle_pools m (act m t r).state))) c.timers.timers) (channels-settle_pools m (act m t r).state)

module _ (m : State) (xs : List Turn) (k : KnownChannels m xs) (i : ℕ) (x : Turn) (e : slice_get xs i ≡ Some x) where
  abbrev before : State
  before = state_at m xs i

  abbrev later : State
  later = state_at m xs (i + 1)

  abbrev acted : State
  acted = (act (state_at m xs i) x.thread x.request).state

  fits : Fits acted
  fits = acted_fits m xs k i x e 0

  stepped : later ≡ (step before x.thread x.request).state
  stepped = next m xs k.known i x e

  -- one that the act left stands still exactly where its descriptor names its object
  left_is : (n : ℕ) (b : Association) → under n (associations_in acted) ≡ Some b → is_some (association_under later n) ≡ names_its_object later.tables b
  left_is n b f = ap is_some (told m xs k i x e n ∙ ap (told_one later) f) ∙ go (names_its_object later.tables b)
    where
      go : (c : Bool) → is_some (if c then Some (disarmed_where (ready_at later) b) else None) ≡ c
      go true = refl
      go false = refl

  unfired : (a : Association) → under a.number (associations_in acted) ≡ Some a → is_unfired (association_under before a.number) ≡ a.armed
  unfired a f = go (association_under before a.number) (under a.number (associations_in acted)) (acts m xs k i x e a.number) f
    where
      go : (o p : Option Association) → Acted m xs k i x e a.number acted o p → p ≡ Some a → is_unfired o ≡ a.armed
      go o p Acted.same g = ap is_unfired g
      go o p (Acted.begun b c there) g = let same : b ≡ a = cc in sym c.armed ∙ ap (λ (y : Association). y.armed) same
      go o p (Acted.ended b c) g = absurd (cc g)

  all_unfired : All (λ (a : Association). is_unfired (association_under before a.number) ≡ a.armed) (filter (names_its_object later.tables) (associations_in acted))
  all_unfired =
      All-filter (names_its_object later.tables) (λ (a : Association). is_unfired (association_under before a.number) ≡ a.armed) (associations_in acted)
      (All-weaker (λ (a : Association). under a.number (associations_in acted) ≡ Some a) (λ (a : Association). is_unfired (association_under before a.number) ≡ a.armed)
      unfired (associations_in acted) (all_under 0 acted.channels.associations.made (associations_in acted) fits.associations.in_order))

  -- a timer that the act left stands still exactly where its process lives
  pub timers_told : (n : ℕ) → timer_under later n ≡ kept_timer n (is_timer_of_live (is_live_process later)) (numbered n (timers_in acted))
  timers_told n =
      ap (numbered n)
      (subst (λ (z : State). timers_in z ≡ filter (is_timer_of_live (is_live_process z)) (timers_in acted)) (sym stepped) (timers-step before x.thread x.request))
      ∙ numbered-filter n (is_timer_of_live (is_live_process later)) 0 acted.channels.timers.made (timers_in acted) fits.timers.in_order

  module _ (q : ℕ) where
    -- the port as the act left it
    pub settled_here :
        port_under later q
        ≡ option_map (settled q later.tables (ready_at later) (associations_in acted) (is_live_process later) (timers_in acted)) (at_number acted.channels.ports q)
    settled_here =
        subst
        (λ (z : State).
        at_number z.channels.ports q
        ≡ option_map (settled q z.tables (ready_at z) (associations_in acted) (is_live_process z) (timers_in acted)) (at_number acted.channels.ports q))
        (sym stepped) (step_port q before x.thread x.request)

    stands_now : associations_in later ≡ map (disarmed_where (ready_at later)) (filter (names_its_object later.tables) (associations_in acted))
    stands_now =
        subst (λ (z : State). associations_in z ≡ map (disarmed_where (ready_at z)) (filter (names_its_object z.tables) (associations_in acted)))
        (sym stepped) (associations-step before x.thread x.request)

    fired_here : events_at q (all_fired (ready_at later) (filter (names_its_object later.tables) (associations_in acted))) ≡ fired_at before later q (associations_in later)
    fired_here =
        fired_there q before later (ready_at later) (λ a. same_due m xs k i x e 0 later a) (filter (names_its_object later.tables) (associations_in acted)) all_unfired
        ∙ ap (fired_at before later q) (sym stands_now)

    pub told_here : port_under later q ≡ option_map (told_port before later q) (at_number acted.channels.ports q)
    told_here = settled_here ∙ go (at_number acted.channels.ports q) refl
      where
        timed : (p : Port) → at_number acted.channels.ports q ≡ Some p → AreTimed (timers_in acted) q p.queue
        timed p f = subst (λ (o : Option Port). AreTimed (timers_in acted) q (port_in o).queue) f (fits.timers.queued q)

        go :
            (o : Option Port) → at_number acted.channels.ports q ≡ o →
            option_map (settled q later.tables (ready_at later) (associations_in acted) (is_live_process later) (timers_in acted)) o
            ≡ option_map (told_port before later q) o
        go None f = refl
        go (Some p) f =
            ap₂ (λ (es fs : List Queued). Some (record p { queue = es ++ fs }))
            (ap (filter (λ (e : Queued). not (is_of_timers q (timers_of_ended (is_live_process later) (timers_in acted)) e)))
            (left_there q acted.channels.ports acted.channels.associations fits.associations later.tables later left_is p f)
            ∙ timers_left_there q acted.channels.timers fits.timers.in_order (is_live_process later) later timers_told p.queue (timed p f))
            fired_here

    -- a port that is made has nothing queued
    pub made_here :
        (p : Port) → at_number acted.channels.ports q ≡ Some p → p.queue ≡ [] → (made : ℕ) → made < q → All (IsOfPort made) (associations_in acted) →
        port_under later q ≡ Some p
    made_here p f empty made l all =
        settled_here
        ∙ ap (option_map (settled q later.tables (ready_at later) (associations_in acted) (is_live_process later) (timers_in acted))) f
        ∙ ap₂
        (λ (es fs : List Queued).
        Some
        (record p {
          queue =
              filter (λ (z : Queued). not (is_of_timers q (timers_of_ended (is_live_process later) (timers_in acted)) z))
              (filter (λ (z : Queued). not (is_of_any q (associations_that_lost later.tables (associations_in acted)) z)) es)
              ++ fs;
        }))
        empty
        (none_there q made (ready_at later)
        (filter (is_to_fire (ready_at later)) (filter (names_its_object later.tables) (associations_in acted)))
        l
        (All-filter (is_to_fire (ready_at later)) (IsOfPort made) (filter (names_its_object later.tables) (associations_in acted))
        (All-filter (names_its_object later.tables) (IsOfPort made) (associations_in acted) all)))
        ∙ ap (λ qs. Some (record p { queue = qs })) (sym empty)

    -- where associations of a key end, their events are withdrawn
    pub key_told :
        (key : AssocKey) → ((a : Association) (n : ℕ) → under n (associations_in before) ≡ Some a → has_key key a ≡ true → association_under later n ≡ None) →
        (o : Option Port) →
        option_map (told_port before later q) (option_map (without_all q (filter (has_key key) (associations_in before))) o)
        ≡ option_map (told_port before later q) o
    key_told key gone None = refl
    key_told key gone (Some p) =
        ap (λ qs. Some (record p { queue = qs ++ fired_at before later q (associations_in later) }))
        (filter-both (is_left later) (λ (z : Queued). not (is_of_any q (filter (has_key key) (associations_in before)) z)) (is_left later)
        (λ z. by z z.assoc refl) p.queue)
      where
        in_order : IsAscending association_number 0 before.channels.associations.made (associations_in before)
        in_order = (k.fits i (omega (arith, slice_get_within xs i x e))).associations.in_order

        and_more : (c d w : Bool) → not c && d ≡ d → not c && (d && w) ≡ d && w
        and_more true true w f = absurd (cc (sym f))
        and_more true false w f = refl
        and_more false d w f = refl

        none_left : (c d : Bool) → d ≡ false → c && d ≡ d
        none_left true d f = refl
        none_left false d f = sym f

        of_one :
            (n : ℕ) (o : Option Association) → under n (associations_in before) ≡ o →
            not (is_at q (kept n (has_key key) o)) && is_some (association_under later n) ≡ is_some (association_under later n)
        of_one n None f = refl
        of_one n (Some a) f = go (has_key key a) refl
          where
            go :
                (b : Bool) → has_key key a ≡ b →
                not (is_at q (if b then Some a else None)) && is_some (association_under later n) ≡ is_some (association_under later n)
            go true g = none_left (not (a.key.port == q)) (is_some (association_under later n)) (ap is_some (gone a n f g))
            go false g = refl

        by :
            (z : Queued) (o : Option ℕ) → z.assoc ≡ o →
            not (is_of_any q (filter (has_key key) (associations_in before)) z) && is_left later z ≡ is_left later z
        by z None f = ap (λ (b : Bool). not b && is_left later z) (none_any q (filter (has_key key) (associations_in before)) z f)
        by z (Some n) f =
            and_more (is_of_any q (filter (has_key key) (associations_in before)) z) (stands later z.assoc) (timer_stands later z.timer)
            (ap₂ (λ (b : Bool) (o : Option ℕ). not b && stands later o)
            (any_is q n 0 before.channels.associations.made (filter (has_key key) (associations_in before)) z f
            (ascending-filter association_number (has_key key) (associations_in before) 0 before.channels.associations.made in_order)
            ∙ ap (is_at q) (under-filter n (has_key key) 0 before.channels.associations.made (associations_in before) in_order))
            f
            ∙ of_one n (under n (associations_in before)) refl
            ∙ ap (stands later) (sym f))

    -- where a timer ends, its event is withdrawn
    pub timer_told :
        (n : ℕ) → timer_under later n ≡ None → (o : Option Port) →
        option_map (told_port before later q) (option_map (without_timer_event n) o) ≡ option_map (told_port before later q) o
    timer_told n gone None = refl
    timer_told n gone (Some p) =
        ap (λ qs. Some (record p { queue = qs ++ fired_at before later q (associations_in later) }))
        (filter-both (is_left later) (is_other_timer_event n) (is_left later) (λ z. by z z.timer refl) p.queue)
      where
        none_left : (c d : Bool) → d ≡ false → c && d ≡ d
        none_left true d f = refl
        none_left false d f = sym f

        past : (c : Bool) → c && false ≡ false
        past true = refl
        past false = refl

        of_number : (k : ℕ) (b : Bool) → (n == k) ≡ b → (c : Bool) → not b && (c && is_some (timer_under later k)) ≡ c && is_some (timer_under later k)
        of_number k false f c = refl
        of_number k true f c =
            let same : n ≡ k = grind (arith, nat_tests) in
            none_left false (c && is_some (timer_under later k))
            (ap (λ (o : Option Timer). c && is_some o) (ap (timer_under later) (sym same) ∙ gone) ∙ past c)

        by : (z : Queued) (o : Option ℕ) → z.timer ≡ o → is_other_timer_event n z && is_left later z ≡ is_left later z
        by z None f = ap (λ (u : Option ℕ). not (is_number n u) && (stands later z.assoc && timer_stands later u)) f ∙ ap (λ (u : Option ℕ). stands later z.assoc && timer_stands later u) (sym f)
        by z (Some k) f =
            ap (λ (u : Option ℕ). not (is_number n u) && (stands later z.assoc && timer_stands later u)) f
            ∙ ap (λ (b : Bool). not b && (stands later z.assoc && is_some (timer_under later k))) (eq_sym k n)
            ∙ of_number k (n == k) refl (stands later z.assoc)
            ∙ ap (λ (u : Option ℕ). stands later z.assoc && timer_stands later u) (sym f)
