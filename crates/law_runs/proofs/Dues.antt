-- What an advance tells one port: timer by timer, as the step does, and all at once, as the law says.
use Rattle.std.specs.Prelude.{ℕ, zero, suc, ◌≡◌, ◌+◌, ◌++◌, ◌≤◌, ◌<◌, ◌==◌, ◌&&◌, ◌||◌, List, [], ◌∷◌, Option, Bool, true, false, if◌then◌else◌, not, Some, None, All, filter, get_or, map}
use Rattle.std.specs.List.{list_any}
use Rattle.std.specs.Option.{option_map}
use Rattle.std.proofs.Common.{append-nil, append_assoc, ap₂, refl, sym, ap, subst, ◌∙◌}
use native.Mathlib.Omega.{arith}
use Rattle.std.proofs.lemmas.Bool.Decides.{nat_tests}
use Rattle.std.proofs.lemmas.List.Elements.{All-append, All-cons, All-head, All-nil, All-tail, All-weaker}
use Rattle.dk_base.specs.ByNumber.{at_number}
use Rattle.spec_records.specs.declared.timer.Due.{Due}
use Rattle.spec_records.specs.declared.timer.Timer.{Timer}
use Rattle.spec_records.specs.Words.{IsAscending, Port, change_first, due_count, due_event, due_of, dues_of, grow_timer, grown_event, has_timer_event, is_due, is_number, is_timer_event, port_in, port_of, post_event, tell_due, tell_dues, timer_number, with_event, with_grown_event}
use Rattle.law_channels.proofs.Elements.{All-change_first}
use Rattle.spec_kernel.specs.Types.{Queued}
use Rattle.spec_kernel.specs.Words.{State}
use Rattle.law_runs.specs.Clock.{came, numbered}
use Rattle.law_runs.specs.OneShot.{is_from}
use Rattle.law_runs.specs.PortEvents.{came_in, has_queued, tick_event, ticks_at}
use Rattle.law_runs.specs.Ticks.{count_of_timer}
use Rattle.law_runs.proofs.Channels.{at_number-change_at_number}
use Rattle.law_runs.proofs.TimerLists.{numbered-above}

-- one port, timer by timer

module _ (q : ℕ) where
  abbrev pub tell_one : Due → List Queued → List Queued
  tell_one d es =
      if d.tag.port == q
      then (
      if list_any (is_timer_event d.tag.number) es
      then change_first (is_timer_event d.tag.number) (grown_event d.count) es
      else es ++ due_event d ∷ []
      )
      else es

  abbrev pub tell_all : List Due → List Queued → List Queued
  tell_all [] es = es
  tell_all (d ∷ ds) es = tell_all ds (tell_one d es)

  abbrev pub with_one : Due → Port → Port
  with_one d p = record p { queue = tell_one d p.queue }

  abbrev pub with_dues : List Due → Port → Port
  with_dues ds p = record p { queue = tell_all ds p.queue }

  told_one : (ports : List Port) (d : Due) → at_number (tell_due ports d) q ≡ option_map (with_one d) (at_number ports q)
  told_one ports d = go (has_timer_event d.tag.number (port_of ports d.tag.port)) refl (q == d.tag.port) refl
    where
      -- at another port
      same : (d.tag.port == q) ≡ false → (o : Option Port) → o ≡ option_map (with_one d) o
      same f None = refl
      same f (Some p) =
          ap
          (λ (b : Bool).
          Some
          (record p {
            queue =
                if b
                then (
                if list_any (is_timer_event d.tag.number) p.queue
                then change_first (is_timer_event d.tag.number) (grown_event d.count) p.queue
                else p.queue ++ due_event d ∷ []
                )
                else p.queue;
          }))
          (sym f)

      grown : (d.tag.port == q) ≡ true → (o : Option Port) → has_timer_event d.tag.number (port_in o) ≡ true → option_map (with_grown_event d.tag.number d.count) o ≡ option_map (with_one d) o
      grown f None g = refl
      grown f (Some p) g =
          ap₂
          (λ (b c : Bool).
          Some
          (record p {
            queue =
                if b
                then (
                if c
                then change_first (is_timer_event d.tag.number) (grown_event d.count) p.queue
                else p.queue ++ due_event d ∷ []
                )
                else p.queue;
          }))
          (sym f) (sym g)

      posted : (d.tag.port == q) ≡ true → (o : Option Port) → has_timer_event d.tag.number (port_in o) ≡ false → option_map (with_event (due_event d)) o ≡ option_map (with_one d) o
      posted f None g = refl
      posted f (Some p) g =
          ap₂
          (λ (b c : Bool).
          Some
          (record p {
            queue =
                if b
                then (
                if c
                then change_first (is_timer_event d.tag.number) (grown_event d.count) p.queue
                else p.queue ++ due_event d ∷ []
                )
                else p.queue;
          }))
          (sym f) (sym g)

      go :
          (b : Bool) → has_timer_event d.tag.number (port_of ports d.tag.port) ≡ b → (c : Bool) → (q == d.tag.port) ≡ c →
          at_number (if b then grow_timer ports d.tag.port d.tag.number d.count else post_event ports d.tag.port (due_event d)) q
          ≡ option_map (with_one d) (at_number ports q)
      go true f true g =
          let alike : d.tag.port ≡ q = grind (arith, nat_tests) in
          at_number-change_at_number ports d.tag.port q (with_grown_event d.tag.number d.count)
          ∙ ap (λ (c : Bool). if c then option_map (with_grown_event d.tag.number d.count) (at_number ports d.tag.port) else at_number ports q) g
          ∙ grown (grind (arith, nat_tests)) (at_number ports d.tag.port) f
          ∙ ap (λ (k : ℕ). option_map (with_one d) (at_number ports k)) alike
      go false f true g =
          let alike : d.tag.port ≡ q = grind (arith, nat_tests) in
          at_number-change_at_number ports d.tag.port q (with_event (due_event d))
          ∙ ap (λ (c : Bool). if c then option_map (with_event (due_event d)) (at_number ports d.tag.port) else at_number ports q) g
          ∙ posted (grind (arith, nat_tests)) (at_number ports d.tag.port) f
          ∙ ap (λ (k : ℕ). option_map (with_one d) (at_number ports k)) alike
      go true f false g =
          at_number-change_at_number ports d.tag.port q (with_grown_event d.tag.number d.count)
          ∙ ap (λ (c : Bool). if c then option_map (with_grown_event d.tag.number d.count) (at_number ports d.tag.port) else at_number ports q) g
          ∙ same (grind (arith, nat_tests)) (at_number ports q)
      go false f false g =
          at_number-change_at_number ports d.tag.port q (with_event (due_event d))
          ∙ ap (λ (c : Bool). if c then option_map (with_event (due_event d)) (at_number ports d.tag.port) else at_number ports q) g
          ∙ same (grind (arith, nat_tests)) (at_number ports q)

  pub told_dues : (ports : List Port) (ds : List Due) → at_number (tell_dues ports ds) q ≡ option_map (with_dues ds) (at_number ports q)
  told_dues ports [] = go (at_number ports q)
    where
      go : (o : Option Port) → o ≡ option_map (with_dues []) o
      go None = refl
      go (Some p) = refl
  told_dues ports (d ∷ ds) = told_dues (tell_due ports d) ds ∙ ap (option_map (with_dues ds)) (told_one ports d) ∙ go (at_number ports q)
    where
      go : (o : Option Port) → option_map (with_dues ds) (option_map (with_one d) o) ≡ option_map (with_dues (d ∷ ds)) o
      go None = refl
      go (Some p) = refl

-- what is queued, by whom

pub from_is : (n : ℕ) (o : Option ℕ) → is_from n o ≡ is_number n o
from_is n None = refl
from_is n (Some k) = refl

any_is : (n : ℕ) (es : List Queued) → list_any (is_timer_event n) es ≡ has_queued n es
any_is n [] = refl
any_is n (e ∷ es) = ap₂ (λ (b c : Bool). b || c) (sym (from_is n e.timer)) (any_is n es)

module _ (n : ℕ) where
  abbrev IsNot : Queued → Type 0
  IsNot e = is_from n e.timer ≡ false

  none_has : (es : List Queued) → has_queued n es ≡ false → All IsNot es
  none_has [] h = All-nil IsNot
  none_has (e ∷ es) h = go (is_from n e.timer) refl h (λ f. none_has es f)
    where
      go : (b : Bool) → is_from n e.timer ≡ b → (b || has_queued n es) ≡ false → (has_queued n es ≡ false → All IsNot es) → All IsNot (e ∷ es)
      go true f g rest = absurd (cc g)
      go false f g rest = All-cons IsNot e es f (rest g)

  none_counted : (es : List Queued) → has_queued n es ≡ false → count_of_timer n es ≡ 0
  none_counted [] h = refl
  none_counted (e ∷ es) h = go (is_from n e.timer) h (λ f. none_counted es f)
    where
      go :
          (b : Bool) → (b || has_queued n es) ≡ false → (has_queued n es ≡ false → count_of_timer n es ≡ 0) →
          (if b then 1 + count_of_timer n es else count_of_timer n es) ≡ 0
      go true g rest = absurd (cc g)
      go false g rest = rest g

  no_count : (es : List Queued) → count_of_timer n es ≡ 0 → All IsNot es
  no_count [] h = All-nil IsNot
  no_count (e ∷ es) h = go (is_from n e.timer) refl h (λ f. no_count es f)
    where
      go :
          (b : Bool) → is_from n e.timer ≡ b → (if b then 1 + count_of_timer n es else count_of_timer n es) ≡ 0 →
          (count_of_timer n es ≡ 0 → All IsNot es) → All IsNot (e ∷ es)
      go true f g rest = absurd (omega (arith, g))
      go false f g rest = All-cons IsNot e es f (rest g)

  -- where one grows, or one more stands last

  module _ (k by : ℕ) where
    has-grown : (es : List Queued) → has_queued n (change_first (is_timer_event k) (grown_event by) es) ≡ has_queued n es
    has-grown [] = refl
    has-grown (e ∷ es) = go (is_timer_event k e) (has-grown es)
      where
        go :
            (b : Bool) → has_queued n (change_first (is_timer_event k) (grown_event by) es) ≡ has_queued n es →
            has_queued n (if b then grown_event by e ∷ es else e ∷ change_first (is_timer_event k) (grown_event by) es) ≡ is_from n e.timer || has_queued n es
        go true rest = refl
        go false rest = ap (λ (c : Bool). is_from n e.timer || c) rest

    count-grown : (es : List Queued) → count_of_timer n (change_first (is_timer_event k) (grown_event by) es) ≡ count_of_timer n es
    count-grown [] = refl
    count-grown (e ∷ es) = go (is_timer_event k e) (count-grown es)
      where
        go :
            (b : Bool) → count_of_timer n (change_first (is_timer_event k) (grown_event by) es) ≡ count_of_timer n es →
            count_of_timer n (if b then grown_event by e ∷ es else e ∷ change_first (is_timer_event k) (grown_event by) es)
            ≡ (if is_from n e.timer then 1 + count_of_timer n es else count_of_timer n es)
        go true rest = refl
        go false rest = ap (λ (j : ℕ). if is_from n e.timer then 1 + j else j) rest

  has-push : (es : List Queued) (e : Queued) → has_queued n (es ++ e ∷ []) ≡ has_queued n es || is_from n e.timer
  has-push [] e = go (is_from n e.timer)
    where
      go : (b : Bool) → b || false ≡ b
      go true = refl
      go false = refl
  has-push (f ∷ es) e = go (is_from n f.timer) (has-push es e)
    where
      go :
          (b : Bool) → has_queued n (es ++ e ∷ []) ≡ has_queued n es || is_from n e.timer →
          b || has_queued n (es ++ e ∷ []) ≡ (b || has_queued n es) || is_from n e.timer
      go true rest = refl
      go false rest = rest

  count-push : (es : List Queued) (e : Queued) → count_of_timer n (es ++ e ∷ []) ≡ count_of_timer n es + (if is_from n e.timer then 1 else 0)
  count-push [] e = go (is_from n e.timer)
    where
      go : (b : Bool) → (if b then 1 + 0 else 0) ≡ 0 + (if b then 1 else 0)
      go true = refl
      go false = refl
  count-push (f ∷ es) e = go (is_from n f.timer) (count-push es e)
    where
      go :
          (b : Bool) → count_of_timer n (es ++ e ∷ []) ≡ count_of_timer n es + (if is_from n e.timer then 1 else 0) →
          (if b then 1 + count_of_timer n (es ++ e ∷ []) else count_of_timer n (es ++ e ∷ []))
          ≡ (if b then 1 + count_of_timer n es else count_of_timer n es) + (if is_from n e.timer then 1 else 0)
      go true rest = omega (arith, rest)
      go false rest = rest

pub map-alike : (f g : Queued → Queued) (es : List Queued) → All (λ (e : Queued). f e ≡ g e) es → map f es ≡ map g es
map-alike f g [] h = refl
map-alike f g (e ∷ es) h =
    ap₂ (λ x xs. x ∷ xs) (All-head (λ (x : Queued). f x ≡ g x) e es h) (map-alike f g es (All-tail (λ (x : Queued). f x ≡ g x) e es h))

map-push : (f : Queued → Queued) (es : List Queued) (e : Queued) → map f (es ++ e ∷ []) ≡ map f es ++ f e ∷ []
map-push f [] e = refl
map-push f (x ∷ es) e = ap (λ xs. f x ∷ xs) (map-push f es e)

-- all at once

module _ (before later : State) (q : ℕ) where
  -- what came of the timers of a list

  abbrev pub came_among : List Timer → Option ℕ → ℕ
  came_among ts None = 0
  came_among ts (Some n) = came_in before later (numbered n ts)

  abbrev pub grown_by : List Timer → Queued → Queued
  grown_by ts e = record e { rec = record e.rec { events = e.rec.events + came_among ts e.timer } }

  -- each event at this port of one of them is of a timer of this port
  abbrev pub IsAt : List Timer → Queued → Type 0
  IsAt ts e = (n : ℕ) (t : Timer) → e.timer ≡ Some n → numbered n ts ≡ Some t → t.port ≡ q

  abbrev pub HasCome : ℕ → ℕ → Timer → Type 0
  HasCome after until t = due_count after until t.arming ≡ came before later t

  grown_none : (es : List Queued) → es ≡ map (grown_by []) es
  grown_none [] = refl
  grown_none (e ∷ es) = ap₂ (λ x xs. x ∷ xs) (go e.timer) (grown_none es)
    where
      plus_none : (j : ℕ) → j ≡ j + 0
      plus_none j = omega arith

      none : (o : Option ℕ) → came_among [] o ≡ 0
      none None = refl
      none (Some n) = refl

      go : (o : Option ℕ) → e ≡ record e { rec = record e.rec { events = e.rec.events + came_among [] e.timer } }
      go o = ap (λ (j : ℕ). record e { rec = record e.rec { events = j } }) (plus_none e.rec.events ∙ ap (λ (j : ℕ). e.rec.events + j) (sym (none e.timer)))

  -- where the queues agree on what later timers have queued
  ticks-alike :
      (es fs : List Queued) (low made : ℕ) (ts : List Timer) → IsAscending timer_number low made ts → ((j : ℕ) → low < j → has_queued j es ≡ has_queued j fs) →
      ticks_at before later q es ts ≡ ticks_at before later q fs ts
  ticks-alike es fs low made [] h same = refl
  ticks-alike es fs low made (t ∷ ts) h same =
      ap₂
      (λ (b : Bool) (xs : List Queued). if (t.port == q) && (not b && not (came before later t == 0)) then tick_event t (came before later t) ∷ xs else xs)
      (same t.number h.0)
      (ticks-alike es fs t.number made ts h.2 (λ j l. same j (omega (arith, l, h.0))))

  module _ (t : Timer) (ts : List Timer) (made : ℕ) (above : IsAscending timer_number t.number made ts) where
    none_later : numbered t.number ts ≡ None
    none_later = numbered-above t.number t.number made ts (omega arith) above

    -- the first of the timers makes no difference to others' events
    more_other : (o : Option ℕ) → is_from t.number o ≡ false → came_among ts o ≡ came_among (t ∷ ts) o
    more_other None f = refl
    more_other (Some n) f =
        let other : (t.number == n) ≡ false = grind (arith, nat_tests) in
        ap (λ (b : Bool). came_in before later (if b then Some t else numbered n ts)) (sym other)

    -- nor where none of its moments came
    more_none : came before later t ≡ 0 → (o : Option ℕ) → came_among ts o ≡ came_among (t ∷ ts) o
    more_none z None = refl
    more_none z (Some n) = go (t.number == n) refl
      where
        go : (b : Bool) → (t.number == n) ≡ b → came_in before later (numbered n ts) ≡ came_in before later (if b then Some t else numbered n ts)
        go false f = refl
        go true f =
            let same : t.number ≡ n = grind (arith, nat_tests) in
            ap (came_in before later) (ap (λ j. numbered j ts) (sym same) ∙ none_later) ∙ sym z

    its_own : came_among (t ∷ ts) (Some t.number) ≡ came before later t
    its_own = ap (λ (b : Bool). came_in before later (if b then Some t else numbered t.number ts)) (itself t.number)
      where
        itself : (j : ℕ) → (j == j) ≡ true
        itself j = grind (arith, nat_tests)

    same_grown : (e : Queued) → came_among ts e.timer ≡ came_among (t ∷ ts) e.timer → grown_by ts e ≡ grown_by (t ∷ ts) e
    same_grown e f = ap (λ (j : ℕ). record e { rec = record e.rec { events = e.rec.events + j } }) f

    others_grown : (es : List Queued) → All (IsNot t.number) es → map (grown_by ts) es ≡ map (grown_by (t ∷ ts)) es
    others_grown es h =
        map-alike (grown_by ts) (grown_by (t ∷ ts)) es
        (All-weaker (IsNot t.number) (λ (e : Queued). grown_by ts e ≡ grown_by (t ∷ ts) e) (λ e f. same_grown e (more_other e.timer f)) es h)

    -- the one that it has queued grows first
    one_grown :
        (es : List Queued) → count_of_timer t.number es ≤ 1 →
        map (grown_by ts) (change_first (is_timer_event t.number) (grown_event (came before later t)) es) ≡ map (grown_by (t ∷ ts)) es
    one_grown [] h = refl
    one_grown (e ∷ es) h = go (is_from t.number e.timer) refl (is_timer_event t.number e) (from_is t.number e.timer) h (λ l. one_grown es l)
      where
        from_it : (o : Option ℕ) → is_from t.number o ≡ true → o ≡ Some t.number
        from_it None f = absurd (cc f)
        from_it (Some k) f = let same : k ≡ t.number = grind (arith, nat_tests) in ap Some same

        first : is_from t.number e.timer ≡ true → grown_by ts (grown_event (came before later t) e) ≡ grown_by (t ∷ ts) e
        first f =
            ap (λ (j : ℕ). record e { rec = record e.rec { events = j } })
            (ap (λ (o : Option ℕ). e.rec.events + came before later t + came_among ts o) (from_it e.timer f)
            ∙ ap (λ (o : Option Timer). e.rec.events + came before later t + came_in before later o) none_later
            ∙ plus_none (e.rec.events + came before later t)
            ∙ ap (λ (j : ℕ). e.rec.events + j) (sym its_own)
            ∙ ap (λ (o : Option ℕ). e.rec.events + came_among (t ∷ ts) o) (sym (from_it e.timer f)))
          where
            plus_none : (j : ℕ) → j + 0 ≡ j
            plus_none j = omega arith

        go :
            (b : Bool) → is_from t.number e.timer ≡ b → (c : Bool) → is_from t.number e.timer ≡ c →
            (if b then 1 + count_of_timer t.number es else count_of_timer t.number es) ≤ 1 →
            (count_of_timer t.number es ≤ 1 →
            map (grown_by ts) (change_first (is_timer_event t.number) (grown_event (came before later t)) es) ≡ map (grown_by (t ∷ ts)) es) →
            map (grown_by ts)
            (if c then grown_event (came before later t) e ∷ es else e ∷ change_first (is_timer_event t.number) (grown_event (came before later t)) es)
            ≡ map (grown_by (t ∷ ts)) (e ∷ es)
        go true f true g l rest =
            ap₂ (λ x xs. x ∷ xs) (first f) (others_grown es (no_count t.number es (omega (arith, l))))
        go false f false g l rest = ap₂ (λ x xs. x ∷ xs) (same_grown e (more_other e.timer f)) (rest l)
        go true f false g l rest = absurd (cc (sym f ∙ g))
        go false f true g l rest = absurd (cc (sym f ∙ g))

    at_rest : (e : Queued) → IsAt (t ∷ ts) e → IsAt ts e
    at_rest e h n u f g = h n u f (go (t.number == n) refl)
      where
        go : (b : Bool) → (t.number == n) ≡ b → (if b then Some t else numbered n ts) ≡ Some u
        go false k = g
        go true k =
            let same : t.number ≡ n = grind (arith, nat_tests) in
            absurd (cc (sym (ap (λ j. numbered j ts) (sym same) ∙ none_later) ∙ g))

    -- elsewhere it has none queued
    none_at : (e : Queued) → (t.port == q) ≡ false → IsAt (t ∷ ts) e → is_from t.number e.timer ≡ false
    none_at e f h = go e.timer refl
      where
        itself : (j : ℕ) → (j == j) ≡ true
        itself j = grind (arith, nat_tests)

        by : (k : ℕ) → e.timer ≡ Some k → (b : Bool) → (k == t.number) ≡ b → b ≡ false
        by k g false l = refl
        by k g true l =
            let same : k ≡ t.number = grind (arith, nat_tests) in
            let port : t.port ≡ q = h k t g (ap (λ (j : ℕ). if t.number == j then Some t else numbered j ts) same ∙ ap (λ (b : Bool). if b then Some t else numbered t.number ts) (itself t.number)) in
            absurd (grind (arith, nat_tests, f, port))

        go : (o : Option ℕ) → e.timer ≡ o → is_from t.number o ≡ false
        go None g = refl
        go (Some k) g = by k g (k == t.number) refl

  -- the timers in order
  pub told_all :
      (after until low made : ℕ) (ts : List Timer) (es : List Queued) → IsAscending timer_number low made ts → All (HasCome after until) ts →
      ((n : ℕ) → count_of_timer n es ≤ 1) → All (IsAt ts) es →
      tell_all q (dues_of after until ts) es ≡ map (grown_by ts) es ++ ticks_at before later q es ts
  told_all after until low made [] es h come few at = grown_none es ∙ sym (append-nil (map (grown_by []) es))
  told_all after until low made (t ∷ ts) es h come few at =
      by_due (is_due after until t) refl
      (λ fs few_there at_there. told_all after until t.number made ts fs h.2 (All-tail (HasCome after until) t ts come) few_there at_there)
    where
      here : due_count after until t.arming ≡ came before later t
      here = All-head (HasCome after until) t ts come

      rest_at : All (IsAt ts) es
      rest_at = All-weaker (IsAt (t ∷ ts)) (IsAt ts) (λ e g. at_rest t ts made h.2 e g) es at

      and_none : (b : Bool) → (b && false) ≡ false
      and_none true = refl
      and_none false = refl

      -- where it queues none
      no_tick :
          (c : Bool) → ((t.port == q) && (not (has_queued t.number es) && not (came before later t == 0))) ≡ c → c ≡ false →
          ticks_at before later q es ts ≡ ticks_at before later q es (t ∷ ts)
      no_tick c f g =
          ap (λ (b : Bool). if b then tick_event t (came before later t) ∷ ticks_at before later q es ts else ticks_at before later q es ts) (sym (f ∙ g))

      not_due : came before later t ≡ 0 → tell_all q (dues_of after until ts) es ≡ map (grown_by ts) es ++ ticks_at before later q es ts →
          tell_all q (dues_of after until ts) es ≡ map (grown_by (t ∷ ts)) es ++ ticks_at before later q es (t ∷ ts)
      not_due z rest =
          rest
          ∙ ap₂ (λ xs ys. xs ++ ys)
          (map-alike (grown_by ts) (grown_by (t ∷ ts)) es (λ j d l. same_grown t ts made h.2 (get_or es j d) (more_none t ts made h.2 z (get_or es j d).timer)))
          (no_tick _ refl (ap (λ (b : Bool). (t.port == q) && (not (has_queued t.number es) && not b)) no_moment ∙ never (t.port == q) (not (has_queued t.number es))))
        where
          no_moment : (came before later t == 0) ≡ true
          no_moment = grind (arith, nat_tests, z)

          never : (b c : Bool) → b && (c && false) ≡ false
          never true true = refl
          never true false = refl
          never false c = refl

      elsewhere :
          (t.port == q) ≡ false → tell_all q (dues_of after until ts) es ≡ map (grown_by ts) es ++ ticks_at before later q es ts →
          tell_all q (dues_of after until ts) es ≡ map (grown_by (t ∷ ts)) es ++ ticks_at before later q es (t ∷ ts)
      elsewhere f rest =
          rest
          ∙ ap₂ (λ xs ys. xs ++ ys)
          (others_grown t ts made h.2 es (All-weaker (IsAt (t ∷ ts)) (IsNot t.number) (λ e g. none_at t ts made h.2 e f g) es at))
          (no_tick _ refl (ap (λ (b : Bool). b && (not (has_queued t.number es) && not (came before later t == 0))) f))

      grows :
          has_queued t.number es ≡ true →
          ((n : ℕ) → count_of_timer n (change_first (is_timer_event t.number) (grown_event (came before later t)) es) ≤ 1) →
          tell_all q (dues_of after until ts) (change_first (is_timer_event t.number) (grown_event (came before later t)) es)
          ≡ map (grown_by ts) (change_first (is_timer_event t.number) (grown_event (came before later t)) es)
          ++ ticks_at before later q (change_first (is_timer_event t.number) (grown_event (came before later t)) es) ts →
          tell_all q (dues_of after until ts) (change_first (is_timer_event t.number) (grown_event (came before later t)) es)
          ≡ map (grown_by (t ∷ ts)) es ++ ticks_at before later q es (t ∷ ts)
      grows f few_there rest =
          rest
          ∙ ap₂ (λ xs ys. xs ++ ys)
          (one_grown t ts made h.2 es (few t.number))
          (ticks-alike (change_first (is_timer_event t.number) (grown_event (came before later t)) es) es t.number made ts h.2
          (λ j l. has-grown j t.number (came before later t) es)
          ∙ no_tick _ refl (ap (λ (b : Bool). (t.port == q) && (not b && not (came before later t == 0))) f ∙ and_none (t.port == q)))

      queues :
          (t.port == q) ≡ true → has_queued t.number es ≡ false → (came before later t == 0) ≡ false →
          tell_all q (dues_of after until ts) (es ++ tick_event t (came before later t) ∷ [])
          ≡ map (grown_by ts) (es ++ tick_event t (came before later t) ∷ []) ++ ticks_at before later q (es ++ tick_event t (came before later t) ∷ []) ts →
          tell_all q (dues_of after until ts) (es ++ tick_event t (came before later t) ∷ [])
          ≡ map (grown_by (t ∷ ts)) es ++ ticks_at before later q es (t ∷ ts)
      queues f g z rest =
          rest
          ∙ ap₂ (λ xs ys. xs ++ ys)
          (map-push (grown_by ts) es (tick_event t (came before later t))
          ∙ ap₂ (λ xs x. xs ++ x ∷ []) (others_grown t ts made h.2 es (none_has t.number es g)) kept)
          (ticks-alike (es ++ tick_event t (came before later t) ∷ []) es t.number made ts h.2 has_more)
          ∙ append_assoc (map (grown_by (t ∷ ts)) es) (tick_event t (came before later t) ∷ []) (ticks_at before later q es ts)
          ∙ ap (λ (b : Bool). map (grown_by (t ∷ ts)) es ++ (if b then tick_event t (came before later t) ∷ ticks_at before later q es ts else ticks_at before later q es ts))
          (sym
          (ap₂ (λ (b c : Bool). b && (not c && not (came before later t == 0))) f g
          ∙ ap not z))
        where
          plus_none : (j : ℕ) → j + 0 ≡ j
          plus_none j = omega arith

          kept : grown_by ts (tick_event t (came before later t)) ≡ tick_event t (came before later t)
          kept =
              ap (λ (j : ℕ). tick_event t j)
              (ap (λ (o : Option Timer). came before later t + came_in before later o) (none_later t ts made h.2) ∙ plus_none (came before later t))

          has_more : (j : ℕ) → t.number < j → has_queued j (es ++ tick_event t (came before later t) ∷ []) ≡ has_queued j es
          has_more j l =
              let other : (t.number == j) ≡ false = grind (arith, nat_tests) in
              has-push j es (tick_event t (came before later t)) ∙ ap (λ (b : Bool). has_queued j es || b) other ∙ or_none (has_queued j es)
            where
              or_none : (b : Bool) → b || false ≡ b
              or_none true = refl
              or_none false = refl

      few_grown : (n : ℕ) → count_of_timer n (change_first (is_timer_event t.number) (grown_event (came before later t)) es) ≤ 1
      few_grown n = omega (arith, few n, count-grown n t.number (came before later t) es)

      at_grown : All (IsAt ts) (change_first (is_timer_event t.number) (grown_event (came before later t)) es)
      at_grown = All-change_first (IsAt ts) (is_timer_event t.number) (grown_event (came before later t)) (λ e g. g) es rest_at

      few_pushed : has_queued t.number es ≡ false → (n : ℕ) → count_of_timer n (es ++ tick_event t (came before later t) ∷ []) ≤ 1
      few_pushed f n = go (t.number == n) refl
        where
          pushed : count_of_timer n (es ++ tick_event t (came before later t) ∷ []) ≡ count_of_timer n es + (if t.number == n then 1 else 0)
          pushed = count-push n es (tick_event t (came before later t))

          go : (b : Bool) → (t.number == n) ≡ b → count_of_timer n (es ++ tick_event t (came before later t) ∷ []) ≤ 1
          go true g =
              let same : t.number ≡ n = grind (arith, nat_tests) in
              omega (
                arith,
                pushed ∙ ap (λ (b : Bool). count_of_timer n es + (if b then 1 else 0)) g,
                subst (λ j. count_of_timer j es ≡ 0) same (none_counted t.number es f),
              )
          go false g = omega (arith, pushed ∙ ap (λ (b : Bool). count_of_timer n es + (if b then 1 else 0)) g, few n)

      at_pushed : All (IsAt ts) (es ++ tick_event t (came before later t) ∷ [])
      at_pushed =
          All-append (IsAt ts) es (tick_event t (came before later t) ∷ []) rest_at
          (All-cons (IsAt ts) (tick_event t (came before later t)) [] none (All-nil (IsAt ts)))
        where
          none : IsAt ts (tick_event t (came before later t))
          none n u f g =
              let same : t.number ≡ n = cc in
              absurd (cc (sym (ap (λ j. numbered j ts) (sym same) ∙ none_later t ts made h.2) ∙ g))

      -- what the step does with one that is due
      one_due : tell_one q (due_of after until t) es
          ≡ (if t.port == q
          then (
          if has_queued t.number es
          then change_first (is_timer_event t.number) (grown_event (came before later t)) es
          else es ++ tick_event t (came before later t) ∷ []
          )
          else es)
      one_due =
          ap₂
          (λ (b : Bool) (j : ℕ).
          if t.port == q
          then (
          if b
          then change_first (is_timer_event t.number) (grown_event j) es
          else es ++ tick_event t j ∷ []
          )
          else es)
          (any_is t.number es) here

      by_parts :
          (b : Bool) → (t.port == q) ≡ b → (c : Bool) → has_queued t.number es ≡ c → (came before later t == 0) ≡ false →
          ((fs : List Queued) → ((n : ℕ) → count_of_timer n fs ≤ 1) → All (IsAt ts) fs →
          tell_all q (dues_of after until ts) fs ≡ map (grown_by ts) fs ++ ticks_at before later q fs ts) →
          tell_all q (dues_of after until ts)
          (if b
          then (
          if c
          then change_first (is_timer_event t.number) (grown_event (came before later t)) es
          else es ++ tick_event t (came before later t) ∷ []
          )
          else es)
          ≡ map (grown_by (t ∷ ts)) es ++ ticks_at before later q es (t ∷ ts)
      by_parts false f c g z rest = elsewhere f (rest es few rest_at)
      by_parts true f true g z rest =
          grows g few_grown (rest (change_first (is_timer_event t.number) (grown_event (came before later t)) es) few_grown at_grown)
      by_parts true f false g z rest =
          queues f g z (rest (es ++ tick_event t (came before later t) ∷ []) (few_pushed g) at_pushed)

      by_due :
          (b : Bool) → is_due after until t ≡ b →
          ((fs : List Queued) → ((n : ℕ) → count_of_timer n fs ≤ 1) → All (IsAt ts) fs →
          tell_all q (dues_of after until ts) fs ≡ map (grown_by ts) fs ++ ticks_at before later q fs ts) →
          tell_all q (map (due_of after until) (if b then t ∷ filter (is_due after until) ts else filter (is_due after until) ts)) es
          ≡ map (grown_by (t ∷ ts)) es ++ ticks_at before later q es (t ∷ ts)
      by_due false f rest = not_due (grind (arith, nat_tests, f, here)) (rest es few rest_at)
      by_due true f rest =
          ap (tell_all q (dues_of after until ts)) one_due
          ∙ by_parts (t.port == q) refl (has_queued t.number es) refl (grind (arith, nat_tests, f, here)) rest
