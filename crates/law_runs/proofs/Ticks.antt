-- Ticks of every run: by the lives of timers, by what ports have before and after each event, and by what is known of what is queued.
use Rattle.std.specs.Prelude.{ℕ, zero, suc, ◌≡◌, ◌+◌, ◌-◌, ◌++◌, ◌≤◌, ◌<◌, ◌==◌, ◌⊎◌, List, [], ◌∷◌, Option, Bool, true, false, if◌then◌else◌, not, Some, None, All, filter, is_none, is_some, length, map, nat_le, slice_get}
use Rattle.std.proofs.Common.{refl, sym, ap, ap₂, subst, ◌∙◌, add-one, inl, inr}
use native.Mathlib.Omega.{arith}
use Rattle.std.proofs.lemmas.Bool.Decides.{nat_tests}
use Rattle.std.proofs.lemmas.List.Elements.{All-weaker}
use Rattle.std.proofs.lemmas.Option.{get_or_from_slice_get, slice_get_within}
use Rattle.dk_base.specs.declared.request.Request.TheVariants as request
use Rattle.dk_base.specs.declared.answer.Answer.TheVariants as answer
use Rattle.spec_records.specs.declared.record.ThreadState.TheVariants as is
use Rattle.spec_records.specs.declared.timer.Arming.{Arming}
use Rattle.spec_records.specs.declared.timer.Timer.{Timer}
use Rattle.spec_records.specs.Words.{Port, is_timer, timer_at}
use Rattle.spec_records.proofs.NumberedLists.{find-passes}
use Rattle.spec_kernel.specs.Types.{EventRec, Queued, Request, ThreadState}
use Rattle.spec_kernel.specs.Words.{State, Turn, object_at, state_at, state_of, timers_in}
use Rattle.law_places.specs.Places.{answer_at, process_at}
use Rattle.law_places.proofs.Known.{TurnAt, from_on, same_turn, turn_at}
use Rattle.law_runs.specs.Channels.{alert_in, alert_under, port_under, told_alert}
use Rattle.law_runs.specs.Clock.{came, came_of, clock_at, moments_by, set_arming, timer_under, timer_with, timers_made}
use Rattle.law_runs.specs.Lives.{tells_done}
use Rattle.law_runs.specs.OneShot.{is_from, queue_in}
use Rattle.law_runs.specs.PortEvents.{AsksPort, Found, IsFound, PortChange, PortEvents, Tells, came_for, came_in, grown, has_queued, is_left, is_of_other, sent_event, sent_to, tick_event, ticks_at, told}
use Rattle.law_runs.specs.TimerLives.{Becomes, Ends, Sets, TimerChange, TimerLives}
use Rattle.law_runs.specs.Ticks.{Arms, EndsArming, IsArmed, IsOfArming, Ticks, advanced_by, count_of_timer, events_told, moments_among, moments_queued, moments_told, port_asked, port_named_by, port_waited_at, told_at, told_since}
use Rattle.law_runs.proofs.Channels.{IsThere}
use Rattle.law_runs.proofs.KnownTicks.{IsOwn, IsTold, KnownTimers, Own, WasSet, done_is, is_told, named_is, set_as, told_is, was_set}
use Rattle.law_runs.proofs.Moments.{none_past}
use Rattle.law_runs.proofs.TimerLists.{found_numbered, identified_is, number_found, numbered-bounds}
use Rattle.law_runs.proofs.TimerQueues.{IsNot, from_some, grown_queued, none_among, none_counted, none_fired, none_queued, none_sent, queued-append, queued-filter, queued-other, ticks_queued, told_taken, without_it}

module _ (m : State) (xs : List Turn) (k : KnownTimers m xs) (lives : TimerLives m xs) (events : PortEvents m xs) where
  -- what a turn makes of a timer
  module _ (i : ℕ) (x : Turn) (e : slice_get xs i ≡ Some x) where
    abbrev before : State
    before = state_at m xs i

    abbrev later : State
    later = state_at m xs (i + 1)

    within : i ≤ length xs
    within = omega (arith, slice_get_within xs i x e)

    within_later : i + 1 ≤ length xs
    within_later = omega (arith, slice_get_within xs i x e)

    module _ (t : Timer) where
      data Decides : Type 0 where
        does_set : (first interval : ℕ) → Sets m xs i x t first interval → Decides
        sets_none : ((first interval : ℕ) → Sets m xs i x t first interval → ⊥) → Decides

      decides : Decides
      decides = by_request x.request refl
        where
          by_parts :
              (id first interval : ℕ) → x.request ≡ Some (request.TimerSet id first interval) → (b : Bool) → (id == t.id) ≡ b → (c : Bool) →
              (t.process.0 == process_at m xs i x.thread) ≡ c → (d : Bool) → tells_done (answer_at m xs i x) ≡ d → Decides
          by_parts id first interval f true g true h true l =
              let same : id ≡ t.id = grind (arith, nat_tests) in
              Decides.does_set first interval
              (record {
                request = f ∙ ap (λ z. Some (request.TimerSet z first interval)) same;
                answered = done_is (answer_at m xs i x) l;
                by_own = grind (arith, nat_tests);
              })
          by_parts id first interval f false g c h d l = Decides.sets_none (λ u v s. other u v s)
            where
              same_id : (u v : ℕ) → request.TimerSet id first interval ≡ request.TimerSet t.id u v → id ≡ t.id
              same_id u v z = cc

              inside : (u v : ℕ) → Some (request.TimerSet id first interval) ≡ Some (request.TimerSet t.id u v) → request.TimerSet id first interval ≡ request.TimerSet t.id u v
              inside u v z = cc

              other : (u v : ℕ) → Sets m xs i x t u v → ⊥
              other u v s = let same : id ≡ t.id = same_id u v (inside u v (sym f ∙ s.request)) in grind (arith, nat_tests, same, g)
          by_parts id first interval f true g false h d l = Decides.sets_none (λ u v s. grind (arith, nat_tests, s.by_own, h))
          by_parts id first interval f true g true h false l =
              Decides.sets_none (λ u v s. cc (sym l ∙ ap tells_done s.answered))

          by_request : (q : Option Request) → x.request ≡ q → Decides
          by_request (Some (request.TimerSet id first interval)) f =
              by_parts id first interval f (id == t.id) refl (t.process.0 == process_at m xs i x.thread) refl (tells_done (answer_at m xs i x)) refl
          by_request q f = Decides.sets_none (λ u v s. cc (sym f ∙ s.request))

      module _ (n : ℕ) (there : timer_under (state_at m xs i) n ≡ Some t) where
        number : t.number ≡ n
        number = number_found n (timers_in (state_at m xs i)) t there

        own_one : timer_with (state_at m xs i) t.process.0 t.id ≡ Some t
        own_one = lives.one_each i n t within there

        after_set :
            (first interval : ℕ) → Sets m xs i x t first interval →
            timer_under (state_at m xs (i + 1)) n ≡ Some (record t { arming = set_arming (clock_at (state_at m xs i)) first interval })
        after_set first interval s = go (lives.set i x t.id first interval e s.request s.answered)
          where
            go :
                Becomes m xs i x t.id (λ u. Some (record u { arming = set_arming (clock_at (state_at m xs i)) first interval })) →
                timer_under (state_at m xs (i + 1)) n ≡ Some (record t { arming = set_arming (clock_at (state_at m xs i)) first interval })
            go b =
                let found : Some b.timer ≡ Some t = sym b.there ∙ ap (λ p. timer_with (state_at m xs i) p t.id) (sym s.by_own) ∙ own_one in
                let same : b.timer ≡ t = cc in
                ap (timer_under (state_at m xs (i + 1))) (sym number ∙ ap (λ (u : Timer). u.number) (sym same))
                ∙ b.left
                ∙ ap (λ (u : Timer). Some (record u { arming = set_arming (clock_at (state_at m xs i)) first interval })) same

        pub data Fate : Type 0 where
          is_set :
              (first interval : ℕ) → Sets m xs i x t first interval →
              timer_under (state_at m xs (i + 1)) n ≡ Some (record t { arming = set_arming (clock_at (state_at m xs i)) first interval }) → Fate
          ended : Ends m xs i x t → timer_under (state_at m xs (i + 1)) n ≡ None → Fate
          stays : (EndsArming m xs i x t → ⊥) → timer_under (state_at m xs (i + 1)) n ≡ Some t → Fate

        fate : Fate
        fate = go _ _ (lives.changes i n x e) there refl
          where
            same_in : (u : Timer) → Some u ≡ Some t → u ≡ t
            same_in u f = cc

            where_stays : timer_under (state_at m xs (i + 1)) n ≡ Some t → Decides → Fate
            where_stays f (Decides.does_set first interval s) = Fate.is_set first interval s (after_set first interval s)
            where_stays f (Decides.sets_none none) = Fate.stays refuse f
              where
                refuse : EndsArming m xs i x t → ⊥
                refuse (EndsArming.set_again first interval s) = none first interval s
                refuse (EndsArming.ended w) = cc (sym (lives.ended i n x t e there w) ∙ f)

            go : (o p : Option Timer) → TimerChange m xs i x n o p → o ≡ Some t → timer_under (state_at m xs (i + 1)) n ≡ p → Fate
            go o p TimerChange.none f g = absurd (cc f)
            go o p (TimerChange.stays u) f g = where_stays (g ∙ f) decides
            go o p (TimerChange.begins u c) f g = absurd (cc f)
            go o p (TimerChange.is_set u first interval s) f g =
                let s' : Sets m xs i x t first interval = subst (λ z. Sets m xs i x z first interval) (same_in u f) s in
                Fate.is_set first interval s' (after_set first interval s')
            go o p (TimerChange.ends u w) f g = Fate.ended (subst (λ z. Ends m xs i x z) (same_in u f) w) g

        -- what is queued of it elsewhere than at its port
        pub none_elsewhere : (q : ℕ) → (q ≡ t.port → ⊥) → All (IsNot n) (queue_in (port_under (state_at m xs i) q))
        none_elsewhere q other =
            All-weaker (Own (state_at m xs i) q) (IsNot n) (λ z own. go z own (is_from n z.timer) refl) (queue_in (port_under (state_at m xs i) q)) (k.own i q within)
          where
            go : (z : Queued) → Own (state_at m xs i) q z → (b : Bool) → is_from n z.timer ≡ b → b ≡ false
            go z own false f = refl
            go z own true f = absurd (other (at_port (own n (from_some n z.timer f))))
              where
                at_port : IsOwn (state_at m xs i) q n z → q ≡ t.port
                at_port w =
                    let found : Some w.timer ≡ Some t = sym w.there ∙ there in
                    let same : w.timer ≡ t = cc in
                    sym w.of_port ∙ ap (λ (u : Timer). u.port) same

    -- a timer that is armed, and stays so

    abbrev told_here : ℕ → ℕ
    told_here n = moments_told (state_at m xs i) n (port_asked (state_at m xs i) x.thread x.request) (events_told (answer_at m xs i x))

    asked_is : (q max nget : ℕ) → AsksPort m xs i x q max nget → port_asked (state_at m xs i) x.thread x.request ≡ Some q
    asked_is q _ _ (AsksPort.by_get fd wait f names) =
        ap (port_asked (state_at m xs i) x.thread) f ∙ ap port_named_by names
    asked_is q _ _ (AsksPort.by_getn fd max nget wait f names) =
        ap (port_asked (state_at m xs i) x.thread) f ∙ ap port_named_by names
    asked_is q _ _ (AsksPort.by_end_of_wait max nget one interrupted f s) =
        ap (port_asked (state_at m xs i) x.thread) f ∙ ap port_waited_at s

    record Asks (q : ℕ) : Type 0 where
      pub max : ℕ
      pub nget : ℕ
      pub asks : AsksPort m xs i x q max nget

    asks_it : (q : ℕ) → port_asked (state_at m xs i) x.thread x.request ≡ Some q → Asks q
    asks_it q f = by_request x.request refl f
      where
        by_state :
            x.request ≡ None → (s : ThreadState) → state_of (state_at m xs i) x.thread ≡ s → port_waited_at s ≡ Some q → Asks q
        by_state g (is.Getting p max nget one interrupted) h l =
            let same : p ≡ q = cc in
            record {
              max = max;
              nget = nget;
              asks = AsksPort.by_end_of_wait max nget one interrupted g (h ∙ ap (λ z. is.Getting z max nget one interrupted) same);
            }
        by_state g s h l = absurd (cc l)

        by_request : (r : Option Request) → x.request ≡ r → port_asked (state_at m xs i) x.thread r ≡ Some q → Asks q
        by_request (Some (request.Get fd wait)) g h =
            record { max = 1; nget = 1; asks = AsksPort.by_get fd wait g (named_is (object_at (state_at m xs i) (process_at m xs i x.thread) fd) q h) }
        by_request (Some (request.GetN fd max nget wait)) g h =
            record {
              max = max;
              nget = nget;
              asks = AsksPort.by_getn fd max nget wait g (named_is (object_at (state_at m xs i) (process_at m xs i x.thread) fd) q h);
            }
        by_request None g h = by_state g (state_of (state_at m xs i) x.thread) refl h
        by_request (Some r) g h = absurd (cc h)

    module _ (n : ℕ) (t : Timer) (a : Arming) (there : timer_under (state_at m xs i) n ≡ Some t) (armed : t.arming ≡ Some a)
        (stays : timer_under (state_at m xs (i + 1)) n ≡ Some t) (lasts : EndsArming m xs i x t → ⊥) where
      abbrev here : List Queued
      here = queue_in (port_under (state_at m xs i) t.port)

      abbrev after : List Queued
      after = queue_in (port_under (state_at m xs (i + 1)) t.port)

      -- what is told and what is queued then are what was queued and what came
      abbrev Conserved : Type 0
      Conserved = told_here n + moments_queued n after ≡ moments_queued n here + came (state_at m xs i) (state_at m xs (i + 1)) t

      number_here : t.number ≡ n
      number_here = number t n there

      came_none : advanced_by x.request ≡ 0 → came (state_at m xs i) (state_at m xs (i + 1)) t ≡ 0
      came_none f = go t.arming
        where
          still : clock_at (state_at m xs (i + 1)) ≡ clock_at (state_at m xs i)
          still = omega (arith, k.clock i x e, f)

          self : (j : ℕ) → j - j ≡ 0
          self j = omega arith

          go : (o : Option Arming) → came_of o (clock_at (state_at m xs i)) (clock_at (state_at m xs (i + 1))) ≡ 0
          go None = refl
          go (Some b) = ap (λ c. moments_by b c - moments_by b (clock_at (state_at m xs i))) still ∙ self (moments_by b (clock_at (state_at m xs i)))

      -- what an advance does
      when_advanced : (by : ℕ) → x.request ≡ Some (request.Advance by) → Conserved
      when_advanced by f = go (k.ports i n t within there)
        where
          none_told : told_here n ≡ 0
          none_told = ap (λ r. moments_told (state_at m xs i) n (port_asked (state_at m xs i) x.thread r) (events_told (answer_at m xs i x))) f

          came_is : came_for (state_at m xs i) (state_at m xs (i + 1)) (Some n) ≡ came (state_at m xs i) (state_at m xs (i + 1)) t
          came_is = ap (came_in (state_at m xs i) (state_at m xs (i + 1))) there

          whole : (p : Port) → port_under (state_at m xs i) t.port ≡ Some p → (b : Bool) → has_queued n p.queue ≡ b →
              moments_queued n (map (grown (state_at m xs i) (state_at m xs (i + 1))) p.queue ++ ticks_at (state_at m xs i) (state_at m xs (i + 1)) t.port p.queue (timers_in (state_at m xs i)))
              ≡ moments_queued n p.queue + came (state_at m xs i) (state_at m xs (i + 1)) t
          whole p g b h =
              queued-append n (map (grown (state_at m xs i) (state_at m xs (i + 1))) p.queue)
              (ticks_at (state_at m xs i) (state_at m xs (i + 1)) t.port p.queue (timers_in (state_at m xs i)))
              ∙ ap₂ (λ (u v : ℕ). u + v)
              (grown_queued n (state_at m xs i) (state_at m xs (i + 1)) p.queue
              (subst (λ es. count_of_timer n es ≤ 1) (ap queue_in g) (k.one i n t.port within))
              ∙ ap₂ (λ (d : Bool) (j : ℕ). moments_queued n p.queue + (if d then j else 0)) h came_is)
              (ticks_queued n (state_at m xs i) (state_at m xs (i + 1)) t.port p.queue 0 _ (timers_in (state_at m xs i)) t (lives.in_order i within) there itself
              ∙ ap (λ (d : Bool). if d then 0 else came (state_at m xs i) (state_at m xs (i + 1)) t) h)
              ∙ sums b
            where
              itself : (t.port == t.port) ≡ true
              itself = self_eq t.port
                where
                  self_eq : (j : ℕ) → (j == j) ≡ true
                  self_eq j = grind (arith, nat_tests)

              sums :
                  (d : Bool) →
                  moments_queued n p.queue + (if d then came (state_at m xs i) (state_at m xs (i + 1)) t else 0) + (if d then 0 else came (state_at m xs i) (state_at m xs (i + 1)) t)
                  ≡ moments_queued n p.queue + came (state_at m xs i) (state_at m xs (i + 1)) t
              sums true = omega arith
              sums false = omega arith

          go : IsThere (port_under (state_at m xs i) t.port) → Conserved
          go y =
              ap₂ (λ (u : ℕ) (es : List Queued). u + moments_queued n es) none_told
              (ap queue_in (events.advanced i t.port by x y.it e f y.there))
              ∙ none_more _
              ∙ whole y.it y.there (has_queued n y.it.queue) refl
              ∙ ap (λ (es : List Queued). moments_queued n es + came (state_at m xs i) (state_at m xs (i + 1)) t) (sym (ap queue_in y.there))
            where
              none_more : (j : ℕ) → 0 + j ≡ j
              none_more j = omega arith

      -- what is told is no more in the queue
      computed :
          (p late : Port) (max nget : ℕ) (rs : List EventRec) → AsksPort m xs i x t.port max nget → Tells (answer_at m xs i x) rs →
          port_under (state_at m xs i) t.port ≡ Some p → port_under (state_at m xs (i + 1)) t.port ≡ Some late → Found max nget p rs late →
          told_here n + moments_queued n after ≡ moments_queued n here
      computed p late max nget rs asks tells f g found =
          ap₂ (λ (u : ℕ) (es : List Queued). u + moments_queued n es) told_now (ap queue_in g)
          ∙ go found
          ∙ ap (λ (o : Option Port). moments_queued n (queue_in o)) (sym f)
        where
          told_now :
              told_here n
              ≡ (if is_none p.alert then moments_among n rs p.queue else 0)
          told_now =
              ap₂ (λ o es. moments_told (state_at m xs i) n o es) (asked_is t.port max nget asks) (told_is (answer_at m xs i x) rs tells)
              ∙ ap (λ (o : Option Port). if is_none (alert_in o) then moments_among n rs (queue_in o) else 0) f

          go :
              {us : List EventRec} {last : Port} → Found max nget p us last →
              (if is_none p.alert then moments_among n us p.queue else 0) + moments_queued n last.queue ≡ moments_queued n p.queue
          go (Found.alert b h) = ap (λ (o : Option _). (if is_none o then moments_among n (told_alert b ∷ []) p.queue else 0) + moments_queued n p.queue) h ∙ none_more (moments_queued n p.queue)
            where
              none_more : (j : ℕ) → 0 + j ≡ j
              none_more j = omega arith
          go (Found.first taken rest h l s few) =
              ap (λ (o : Option _). (if is_none o then moments_among n (told taken) p.queue else 0) + moments_queued n rest) h
              ∙ ap (λ (es : List Queued). moments_among n (told taken) es + moments_queued n rest) l
              ∙ ap (λ (j : ℕ). j + moments_queued n rest) (told_taken n taken rest)
              ∙ sym (queued-append n taken rest)
              ∙ ap (moments_queued n) (sym l)

      data Tellings : Type 0 where
        taken_here : (max nget : ℕ) → AsksPort m xs i x t.port max nget → Tells (answer_at m xs i x) (events_told (answer_at m xs i x)) → Tellings
        none_told : told_here n ≡ 0 → Tellings

      tellings : Tellings
      tellings = by_port (port_asked (state_at m xs i) x.thread x.request) refl
        where
          nothing_said : (o : Option ℕ) → moments_told (state_at m xs i) n o [] ≡ 0
          nothing_said None = refl
          nothing_said (Some q) = go (is_none (alert_under (state_at m xs i) q))
            where
              go : (b : Bool) → (if b then moments_among n [] (queue_in (port_under (state_at m xs i) q)) else 0) ≡ 0
              go true = refl
              go false = refl

          elsewhere : (q : ℕ) → port_asked (state_at m xs i) x.thread x.request ≡ Some q → (q == t.port) ≡ false → told_here n ≡ 0
          elsewhere q f g =
              ap (λ o. moments_told (state_at m xs i) n o (events_told (answer_at m xs i x))) f
              ∙ go (is_none (alert_under (state_at m xs i) q))
            where
              none : moments_among n (events_told (answer_at m xs i x)) (queue_in (port_under (state_at m xs i) q)) ≡ 0
              none =
                  none_among n (events_told (answer_at m xs i x)) (queue_in (port_under (state_at m xs i) q))
                  (none_elsewhere t n there q (λ same. grind (arith, nat_tests, same, g)))

              go : (b : Bool) → (if b then moments_among n (events_told (answer_at m xs i x)) (queue_in (port_under (state_at m xs i) q)) else 0) ≡ 0
              go true = none
              go false = refl

          by_answer : Asks t.port → IsTold (answer_at m xs i x) → Tellings
          by_answer w (IsTold.tells_some z) = Tellings.taken_here w.max w.nget w.asks z
          by_answer w (IsTold.tells_none z) =
              Tellings.none_told
              (ap (moments_told (state_at m xs i) n (port_asked (state_at m xs i) x.thread x.request)) z
              ∙ nothing_said (port_asked (state_at m xs i) x.thread x.request))

          by_port : (o : Option ℕ) → port_asked (state_at m xs i) x.thread x.request ≡ o → Tellings
          by_port None f = Tellings.none_told (ap (λ o. moments_told (state_at m xs i) n o (events_told (answer_at m xs i x))) f)
          by_port (Some q) f = go (q == t.port) refl
            where
              go : (b : Bool) → (q == t.port) ≡ b → Tellings
              go true g =
                  let same : q ≡ t.port = grind (arith, nat_tests) in
                  by_answer (subst Asks same (asks_it q f)) (is_told (answer_at m xs i x))
              go false g = Tellings.none_told (elsewhere q f g)

      -- what is queued of it stays where a port is told
      is_kept : (p : Port) → port_under (state_at m xs i) t.port ≡ Some p → All (λ (z : Queued). is_from n z.timer ≡ true → is_left (state_at m xs (i + 1)) z ≡ true) p.queue
      is_kept p f =
          subst (All (λ (z : Queued). is_from n z.timer ≡ true → is_left (state_at m xs (i + 1)) z ≡ true)) (ap queue_in f)
          (All-weaker (Own (state_at m xs i) t.port) (λ (z : Queued). is_from n z.timer ≡ true → is_left (state_at m xs (i + 1)) z ≡ true)
          (λ z own g. go z (own n (from_some n z.timer g)))
          (queue_in (port_under (state_at m xs i) t.port)) (k.own i t.port within))
        where
          go : (z : Queued) → IsOwn (state_at m xs i) t.port n z → is_left (state_at m xs (i + 1)) z ≡ true
          go z w =
              ap (λ (y : Queued). is_left (state_at m xs (i + 1)) y) w.as_it_is
              ∙ ap (λ (j : ℕ). is_some (timer_under (state_at m xs (i + 1)) j)) (number_found n (timers_in (state_at m xs i)) w.timer w.there)
              ∙ ap (λ (o : Option Timer). is_some o) stays

      by_queues :
          (p late : Port) → port_under (state_at m xs i) t.port ≡ Some p → port_under (state_at m xs (i + 1)) t.port ≡ Some late → told_here n ≡ 0 →
          moments_queued n late.queue ≡ moments_queued n p.queue → told_here n + moments_queued n after ≡ moments_queued n here
      by_queues p late f g none same =
          ap₂ (λ (j : ℕ) (o : Option Port). j + moments_queued n (queue_in o)) none g
          ∙ none_more (moments_queued n late.queue)
          ∙ same
          ∙ ap (λ (o : Option Port). moments_queued n (queue_in o)) (sym f)
        where
          none_more : (j : ℕ) → 0 + j ≡ j
          none_more j = omega arith

      more : (es fs : List Queued) → moments_queued n fs ≡ 0 → moments_queued n (es ++ fs) ≡ moments_queued n es
      more es fs h = omega (arith, queued-append n es fs, h)

      -- another timer that is set
      differs :
          (id first interval : ℕ) (u : Timer) → x.request ≡ Some (request.TimerSet id first interval) → answer_at m xs i x ≡ answer.Done →
          timer_with (state_at m xs i) (process_at m xs i x.thread) id ≡ Some u → (n == u.number) ≡ false
      differs id first interval u f g h = go (n == u.number) refl
        where
          found : timer_at (timers_in (state_at m xs i)) (process_at m xs i x.thread) id ≡ Some u
          found = sym (identified_is (timers_in (state_at m xs i)) (process_at m xs i x.thread) id) ∙ h

          under : timer_under (state_at m xs i) u.number ≡ Some u
          under =
              found_numbered (is_timer (process_at m xs i x.thread) id) 0 (timers_made (state_at m xs i)) (timers_in (state_at m xs i)) u (lives.in_order i within) found

          is_it : is_timer (process_at m xs i x.thread) id u ≡ true
          is_it = find-passes (is_timer (process_at m xs i x.thread) id) (timers_in (state_at m xs i)) u found

          go : (b : Bool) → (n == u.number) ≡ b → b ≡ false
          go false l = refl
          go true l =
              let number_is : n ≡ u.number = grind (arith, nat_tests) in
              let both : Some u ≡ Some t = sym under ∙ ap (timer_under (state_at m xs i)) (sym number_is) ∙ there in
              let same : u ≡ t = cc in
              let same_id : id ≡ u.id = grind (arith, nat_tests, is_it) in
              let same_process : process_at m xs i x.thread ≡ u.process.0 = grind (arith, nat_tests, is_it) in
              absurd
              (lasts
              (EndsArming.set_again first interval
              (record {
                request = f ∙ ap (λ z. Some (request.TimerSet z first interval)) (same_id ∙ ap (λ (y : Timer). y.id) same);
                answered = g;
                by_own = sym (same_process ∙ ap (λ (y : Timer). y.process.0) same);
              })))

      -- the port where nothing is told of it, by each change of a port
      changed :
          (o late : Option Port) → PortChange m xs i x t.port o late → port_under (state_at m xs i) t.port ≡ o →
          port_under (state_at m xs (i + 1)) t.port ≡ late → told_here n ≡ 0 → advanced_by x.request ≡ 0 →
          IsThere (port_under (state_at m xs i) t.port) → told_here n + moments_queued n after ≡ moments_queued n here
      changed o late PortChange.none f g none still y = absurd (cc (sym f ∙ y.there))
      changed o late (PortChange.made fd h l l2) f g none still y = absurd (cc (sym f ∙ y.there))
      changed o late (PortChange.is_told p) f g none still y =
          by_queues p _ f g none
          (more (filter (is_left (state_at m xs (i + 1))) p.queue) _ (none_fired n (state_at m xs i) (state_at m xs (i + 1)) t.port _)
          ∙ queued-filter n (is_left (state_at m xs (i + 1))) p.queue (is_kept p f))
      changed o late (PortChange.sent p fd sent_events user h l z) f g none still y = by_queues p _ f g none (more p.queue (sent_event sent_events user ∷ []) refl)
      changed o late (PortChange.sent_each p fds sent_events user errors h l) f g none still y =
          by_queues p _ f g none
          (more p.queue _ (none_sent n sent_events user (sent_to (state_at m xs i) (process_at m xs i x.thread) t.port fds errors)))
      changed o late (PortChange.alerted p fd mode sent_events user h l z) f g none still y = by_queues p _ f g none refl
      changed o late (PortChange.retrieved p last max nget rs asks tells found) f g none still y = computed p last max nget rs asks tells f g found
      changed o late (PortChange.timer_set p id first interval u h l z at) f g none still y =
          by_queues p _ f g none (queued-other n u.number (differs id first interval u h l z) p.queue)
      changed o late (PortChange.advanced p by h l) f g none still y =
          omega (arith, when_advanced by h, came_none still)

      taken_or_not : advanced_by x.request ≡ 0 → told_here n + moments_queued n after ≡ moments_queued n here
      taken_or_not still = go tellings
        where
          by_found :
              (max nget : ℕ) → AsksPort m xs i x t.port max nget → Tells (answer_at m xs i x) (events_told (answer_at m xs i x)) →
              IsFound m xs i t.port max nget (events_told (answer_at m xs i x)) → told_here n + moments_queued n after ≡ moments_queued n here
          by_found max nget asks tells w =
              computed w.before w.after max nget (events_told (answer_at m xs i x)) asks tells w.there w.there_after w.found

          go : Tellings → told_here n + moments_queued n after ≡ moments_queued n here
          go (Tellings.taken_here max nget asks tells) =
              by_found max nget asks tells (events.found i t.port max nget x (events_told (answer_at m xs i x)) e asks tells)
          go (Tellings.none_told none) =
              changed _ _ (events.each i t.port x e) refl refl none still (k.ports i n t within there)

      conserved : Conserved
      conserved = by_request x.request refl
        where
          otherwise : advanced_by x.request ≡ 0 → Conserved
          otherwise f = omega (arith, taken_or_not f, came_none f)

          by_request : (r : Option Request) → x.request ≡ r → Conserved
          by_request (Some (request.Advance by)) f = when_advanced by f
          by_request r f = otherwise (ap advanced_by f)

  -- an arming in each of its states

  -- a timer is as at the beginning, but armed so
  abbrev armed_as : Timer → Arming → Timer
  armed_as t a = record t { arming = Some a }

  moved : (i : ℕ) (x : Turn) (t : Timer) (a : Arming) → EndsArming m xs i x (armed_as t a) → EndsArming m xs i x t
  moved i x t a (EndsArming.set_again first interval s) =
      EndsArming.set_again first interval (record { request = s.request; answered = s.answered; by_own = s.by_own })
  moved i x t a (EndsArming.ended (Ends.deleted f g h)) = EndsArming.ended (Ends.deleted f g h)
  moved i x t a (EndsArming.ended (Ends.with_process w)) = EndsArming.ended (Ends.with_process w)

  moved_back : (i : ℕ) (x : Turn) (t : Timer) (a : Arming) → EndsArming m xs i x t → EndsArming m xs i x (armed_as t a)
  moved_back i x t a (EndsArming.set_again first interval s) =
      EndsArming.set_again first interval (record { request = s.request; answered = s.answered; by_own = s.by_own })
  moved_back i x t a (EndsArming.ended (Ends.deleted f g h)) = EndsArming.ended (Ends.deleted f g h)
  moved_back i x t a (EndsArming.ended (Ends.with_process w)) = EndsArming.ended (Ends.with_process w)

  told_before : (n b j : ℕ) → j ≤ b → told_since m xs n b j ≡ 0
  told_before n b zero l = refl
  told_before n b (suc j) l =
      let late : nat_le b j ≡ false = grind (arith, nat_tests) in
      ap₂ (λ (u : ℕ) (c : Bool). u + (if c then told_at m xs n j (slice_get xs j) else 0)) (told_before n b j (omega (arith, l))) late

  told_next : (n b j : ℕ) → b ≤ j → told_since m xs n b (j + 1) ≡ told_since m xs n b j + told_at m xs n j (slice_get xs j)
  told_next n b j l =
      let early : nat_le b j ≡ true = grind (arith, nat_tests) in
      ap (told_since m xs n b) (add-one j)
      ∙ ap (λ (c : Bool). told_since m xs n b j + (if c then told_at m xs n j (slice_get xs j) else 0)) early

  module _ (b : ℕ) (t : Timer) (a : Arming) where
    record AddsUp (j : ℕ) : Type 0 where
      pub there : timer_under (state_at m xs j) t.number ≡ Some (armed_as t a)
      pub sum :
          moments_by a (clock_at (state_at m xs j))
          ≡ told_since m xs t.number b j + moments_queued t.number (queue_in (port_under (state_at m xs j) t.port))

    at_first : Arms m xs b t a → AddsUp (b + 1)
    at_first w =
        record {
          there = after_set b w.turn w.found t t.number w.there a.first a.interval w.sets
              ∙ ap (λ o. Some (record t { arming = o })) (set_as a (clock_at (state_at m xs b)) w.not_now w.clock);
          sum = none_by ∙ sym none_here;
        }
      where
        inside : b ≤ length xs
        inside = within b w.turn w.found

        none_by : moments_by a (clock_at (state_at m xs (b + 1))) ≡ 0
        none_by =
            none_past (clock_at (state_at m xs (b + 1))) a (clock_at (state_at m xs (b + 1)))
            (omega (arith, k.clock b w.turn w.found, ap advanced_by w.sets.request, w.clock, w.not_now))

        told_none : told_at m xs t.number b (slice_get xs b) ≡ 0
        told_none =
            ap (told_at m xs t.number b) w.found
            ∙ ap
            (λ r. moments_told (state_at m xs b) t.number (port_asked (state_at m xs b) w.turn.thread r) (events_told (answer_at m xs b w.turn)))
            w.sets.request

        queued_none : IsThere (port_under (state_at m xs b) t.port) → moments_queued t.number (queue_in (port_under (state_at m xs (b + 1)) t.port)) ≡ 0
        queued_none y =
            ap (λ o. moments_queued t.number (queue_in o))
            (events.timer_set b t.id a.first a.interval w.turn t y.it w.found w.sets.request w.sets.answered
            (ap (λ p. timer_with (state_at m xs b) p t.id) (sym w.sets.by_own) ∙ lives.one_each b t.number t inside w.there)
            y.there)
            ∙ none_queued t.number (filter (is_of_other t.number) y.it.queue) (without_it t.number y.it.queue)

        none_here : told_since m xs t.number b (b + 1) + moments_queued t.number (queue_in (port_under (state_at m xs (b + 1)) t.port)) ≡ 0
        none_here =
            omega (
              arith,
              told_next t.number b b (omega arith),
              told_before t.number b b (omega arith),
              told_none,
              queued_none (k.ports b t.number t inside w.there),
            )

    -- each turn that does not end it
    adds_more :
        (j : ℕ) (x : Turn) → slice_get xs j ≡ Some x → b < j → 1 ≤ a.first → (EndsArming m xs j x t → ⊥) → AddsUp j → AddsUp (j + 1)
    adds_more j x e l first lasts h = go (fate j x e (armed_as t a) t.number h.there)
      where
        ended_not : EndsArming m xs j x (armed_as t a) → ⊥
        ended_not w = lasts (moved j x t a w)

        clocks : clock_at (state_at m xs j) ≤ clock_at (state_at m xs (j + 1))
        clocks = omega (arith, k.clock j x e)

        rise : moments_by a (clock_at (state_at m xs j)) ≤ moments_by a (clock_at (state_at m xs (j + 1)))
        rise = k.moments a (clock_at (state_at m xs j)) (clock_at (state_at m xs (j + 1))) first clocks

        by_stays : timer_under (state_at m xs (j + 1)) t.number ≡ Some (armed_as t a) → AddsUp (j + 1)
        by_stays f =
            record {
              there = f;
              sum =
                  omega (
                    arith,
                    h.sum,
                    rise,
                    told_next t.number b j (omega (arith, l)),
                    ap (told_at m xs t.number j) e,
                    conserved j x e t.number (armed_as t a) a h.there refl f ended_not,
                  );
            }

        go : Fate j x e (armed_as t a) t.number h.there → AddsUp (j + 1)
        go (Fate.is_set first_set interval s f) = absurd (ended_not (EndsArming.set_again first_set interval s))
        go (Fate.ended w f) = absurd (ended_not (EndsArming.ended w))
        go (Fate.stays lasts_on f) = by_stays f

  adds_up :
      (b i : ℕ) (t : Timer) (a : Arming) → i ≤ length xs → IsArmed m xs b i t a →
      moments_by a (clock_at (state_at m xs i))
      ≡ told_since m xs t.number b i + moments_queued t.number (queue_in (port_under (state_at m xs i) t.port))
  adds_up b i t a l w = (from_on (AddsUp b t a) i (b + 1) one i (omega (arith, w.began)) (omega arith) (at_first b t a w.arms)).sum
    where
      one : (j : ℕ) → b + 1 ≤ j → j < i → AddsUp b t a j → AddsUp b t a (j + 1)
      one j low high h = go (turn_at xs j (omega (arith, l, high)))
        where
          go : TurnAt xs j → AddsUp b t a (j + 1)
          go y = adds_more b t a j y.turn y.found (omega (arith, low)) w.arms.not_now (w.lasts j y.turn (omega (arith, low)) high y.found) h

  -- a timer that is armed was set so

  record WasArmed (i : ℕ) (t : Timer) (a : Arming) : Type 0 where
    pub began : ℕ
    pub base : Timer
    pub same : t ≡ armed_as base a
    pub armed : IsArmed m xs began i base a

  was_armed : (i n : ℕ) (t : Timer) (a : Arming) → i ≤ length xs → timer_under (state_at m xs i) n ≡ Some t → t.arming ≡ Some a → WasArmed i t a
  was_armed zero n t a l f g =
      let bounds : (0 < n) × (n ≤ timers_made (state_at m xs 0)) = numbered-bounds n 0 (timers_made (state_at m xs 0)) (timers_in (state_at m xs 0)) t (lives.in_order 0 l) f in
      absurd (omega (arith, bounds.0, bounds.1, lives.none_at_first))
  was_armed (suc i) n t a l f g = go (turn_at xs i (omega (arith, l))) (λ u h z. was_armed i n u a (omega (arith, l)) h z)
    where
      later_is : timer_under (state_at m xs (i + 1)) n ≡ Some t
      later_is = ap (λ j. timer_under (state_at m xs j) n) (add-one i) ∙ f

      -- by the turn just before
      by_set :
          (x : Turn) → slice_get xs i ≡ Some x → (u : Timer) → timer_under (state_at m xs i) n ≡ Some u → (first interval : ℕ) →
          Sets m xs i x u first interval →
          timer_under (state_at m xs (i + 1)) n ≡ Some (record u { arming = set_arming (clock_at (state_at m xs i)) first interval }) →
          WasArmed (suc i) t a
      by_set x e u h first interval s after =
          record {
            began = i;
            base = u;
            same = same_timer ∙ ap (λ o. record u { arming = o }) armed;
            armed =
                record {
                  arms =
                      record {
                        turn = x;
                        found = e;
                        there = ap (timer_under (state_at m xs i)) (number_found n (timers_in (state_at m xs i)) u h) ∙ h;
                        sets = subst (λ v. Sets m xs i x u a.first v) (sym w.interval) (subst (λ v. Sets m xs i x u v interval) (sym w.first) s);
                        not_now = w.not_now;
                        clock = w.clock;
                      };
                  began = omega arith;
                  lasts = λ j y low high. absurd (omega (arith, low, high));
                };
          }
        where
          both : Some t ≡ Some (record u { arming = set_arming (clock_at (state_at m xs i)) first interval })
          both = sym later_is ∙ after

          same_timer : t ≡ record u { arming = set_arming (clock_at (state_at m xs i)) first interval }
          same_timer = cc both

          armed : set_arming (clock_at (state_at m xs i)) first interval ≡ Some a
          armed = sym (ap (λ (z : Timer). z.arming) same_timer) ∙ g

          w : WasSet (clock_at (state_at m xs i)) first interval a
          w = was_set (clock_at (state_at m xs i)) first interval a armed

      longer : (x : Turn) → slice_get xs i ≡ Some x → (EndsArming m xs i x t → ⊥) → WasArmed i t a → WasArmed (suc i) t a
      longer x e lasts_on w =
          record {
            began = w.began;
            base = w.base;
            same = w.same;
            armed =
                record {
                  arms = w.armed.arms;
                  began = omega (arith, w.armed.began);
                  lasts = λ j y low high found ends. by_place j y low high found ends (split j high);
                };
          }
        where
          split : (j : ℕ) → j < suc i → (j < i) ⊎ (j ≡ i)
          split j h = grind arith

          ends_not : (y : Turn) → slice_get xs i ≡ Some y → EndsArming m xs i y w.base → ⊥
          ends_not y found ends =
              lasts_on
              (subst (EndsArming m xs i x) (sym w.same)
              (moved_back i x w.base a (subst (λ z. EndsArming m xs i z w.base) (same_turn xs i y x found e) ends)))

          by_place : (j : ℕ) (y : Turn) → w.began < j → j < suc i → slice_get xs j ≡ Some y → EndsArming m xs j y w.base → (j < i) ⊎ (j ≡ i) → ⊥
          by_place j y low high found ends (inl h) = w.armed.lasts j y low h found ends
          by_place j y low high found ends (inr h) =
              ends_not y (subst (λ z. slice_get xs z ≡ Some y) h found) (subst (λ z. EndsArming m xs z y w.base) h ends)

      by_fate :
          (x : Turn) (e : slice_get xs i ≡ Some x) (u : Timer) (h : timer_under (state_at m xs i) n ≡ Some u) →
          ((v : Timer) → timer_under (state_at m xs i) n ≡ Some v → v.arming ≡ Some a → WasArmed i v a) → Fate i x e u n h → WasArmed (suc i) t a
      by_fate x e u h ih (Fate.is_set first interval s after) = by_set x e u h first interval s after
      by_fate x e u h ih (Fate.ended w after) = absurd (cc (sym later_is ∙ after))
      by_fate x e u h ih (Fate.stays lasts_on after) = longer x e (subst (λ z. EndsArming m xs i x z → ⊥) alike lasts_on) (ih t (h ∙ ap (λ z. Some z) alike) g)
        where
          both : Some u ≡ Some t
          both = sym after ∙ later_is

          alike : u ≡ t
          alike = cc both

      by_before :
          (x : Turn) → slice_get xs i ≡ Some x → ((v : Timer) → timer_under (state_at m xs i) n ≡ Some v → v.arming ≡ Some a → WasArmed i v a) →
          (o : Option Timer) → timer_under (state_at m xs i) n ≡ o → WasArmed (suc i) t a
      by_before x e ih (Some u) h = by_fate x e u h ih (fate i x e u n h)
      by_before x e ih None h = begun (lives.changes i n x e) h later_is
        where
          begun : {o p : Option Timer} → TimerChange m xs i x n o p → o ≡ None → p ≡ Some t → WasArmed (suc i) t a
          begun TimerChange.none r s = absurd (cc s)
          begun (TimerChange.stays u) r s = absurd (cc r)
          begun (TimerChange.begins u c) r s =
              let same : u ≡ t = cc in absurd (cc (sym c.not_armed ∙ ap (λ (z : Timer). z.arming) same ∙ g))
          begun (TimerChange.is_set u first interval c) r s = absurd (cc r)
          begun (TimerChange.ends u c) r s = absurd (cc r)

      go : TurnAt xs i → ((v : Timer) → timer_under (state_at m xs i) n ≡ Some v → v.arming ≡ Some a → WasArmed i v a) → WasArmed (suc i) t a
      go y ih = by_before y.turn y.found ih (timer_under (state_at m xs i) n) refl

  -- what is queued is of an arming that has not ended
  of_arming :
      (i n q j : ℕ) (z : Queued) → i ≤ length xs → slice_get (queue_in (port_under (state_at m xs i) q)) j ≡ Some z → z.timer ≡ Some n →
      IsOfArming m xs i q n z
  of_arming i n q j z l f g = go own
    where
      own : IsOwn (state_at m xs i) q n z
      own =
          subst (Own (state_at m xs i) q) (get_or_from_slice_get (queue_in (port_under (state_at m xs i) q)) j z z f)
          (k.own i q l j z (slice_get_within (queue_in (port_under (state_at m xs i) q)) j z f)) n g

      go : IsOwn (state_at m xs i) q n z → IsOfArming m xs i q n z
      go w = by (was_armed i n w.timer w.arming l w.there w.armed)
        where
          by : WasArmed i w.timer w.arming → IsOfArming m xs i q n z
          by y =
              record {
                timer = y.base;
                arming = w.arming;
                began = y.began;
                armed = y.armed;
                number = sym (ap (λ (t : Timer). t.number) y.same) ∙ number_found n (timers_in (state_at m xs i)) w.timer w.there;
                of_port = sym (ap (λ (t : Timer). t.port) y.same) ∙ w.of_port;
                as_it_is = w.as_it_is ∙ ap (λ (t : Timer). tick_event t z.rec.events) y.same;
                some = w.some;
              }

  -- none stays queued where an arming ends
  none_left :
      (i q : ℕ) (x : Turn) (t : Timer) → slice_get xs i ≡ Some x → timer_under (state_at m xs i) t.number ≡ Some t → EndsArming m xs i x t →
      count_of_timer t.number (queue_in (port_under (state_at m xs (i + 1)) q)) ≡ 0
  none_left i q x t e there ends = go ends
    where
      owned : All (Own (state_at m xs (i + 1)) q) (queue_in (port_under (state_at m xs (i + 1)) q))
      owned = k.own (i + 1) q (within_later i x e)

      -- where no timer of this number has queued at this port
      none_by :
          ((z : Queued) → IsOwn (state_at m xs (i + 1)) q t.number z → ⊥) →
          count_of_timer t.number (queue_in (port_under (state_at m xs (i + 1)) q)) ≡ 0
      none_by owns_none =
          none_counted t.number (queue_in (port_under (state_at m xs (i + 1)) q))
          (All-weaker (Own (state_at m xs (i + 1)) q) (IsNot t.number) (λ z own. by z own (is_from t.number z.timer) refl)
          (queue_in (port_under (state_at m xs (i + 1)) q)) owned)
        where
          by : (z : Queued) → Own (state_at m xs (i + 1)) q z → (b : Bool) → is_from t.number z.timer ≡ b → b ≡ false
          by z own false f = refl
          by z own true f = absurd (owns_none z (own t.number (from_some t.number z.timer f)))

      go : EndsArming m xs i x t → count_of_timer t.number (queue_in (port_under (state_at m xs (i + 1)) q)) ≡ 0
      go (EndsArming.ended w) = none_by (λ z y. cc (sym y.there ∙ lives.ended i t.number x t e there w))
      go (EndsArming.set_again first interval s) = by_port (q == t.port) refl
        where
          at_it : IsThere (port_under (state_at m xs i) t.port) → count_of_timer t.number (queue_in (port_under (state_at m xs (i + 1)) t.port)) ≡ 0
          at_it y =
              ap (λ o. count_of_timer t.number (queue_in o))
              (events.timer_set i t.id first interval x t y.it e s.request s.answered
              (ap (λ p. timer_with (state_at m xs i) p t.id) (sym s.by_own) ∙ lives.one_each i t.number t (within i x e) there)
              y.there)
              ∙ none_counted t.number (filter (is_of_other t.number) y.it.queue) (without_it t.number y.it.queue)

          port_same : (z : Queued) → IsOwn (state_at m xs (i + 1)) q t.number z → q ≡ t.port
          port_same z y =
              let both : Some y.timer ≡ Some (record t { arming = set_arming (clock_at (state_at m xs i)) first interval }) =
              sym y.there ∙ after_set i x e t t.number there first interval s
              in
              let same : y.timer ≡ record t { arming = set_arming (clock_at (state_at m xs i)) first interval } = cc in
              sym y.of_port ∙ ap (λ (u : Timer). u.port) same

          by_port : (b : Bool) → (q == t.port) ≡ b → count_of_timer t.number (queue_in (port_under (state_at m xs (i + 1)) q)) ≡ 0
          by_port true f =
              let same : q ≡ t.port = grind (arith, nat_tests) in
              ap (λ z. count_of_timer t.number (queue_in (port_under (state_at m xs (i + 1)) z))) same
              ∙ at_it (k.ports i t.number t (within i x e) there)
          by_port false f = none_by (λ z y. grind (arith, nat_tests, f, port_same z y))

  pub ticks_hold : Ticks m xs
  ticks_hold =
      record {
        at_first = k.at_first;
        clock = k.clock;
        adds_up = adds_up;
        one_queued = k.one;
        of_arming = of_arming;
        none_left = none_left;
      }
