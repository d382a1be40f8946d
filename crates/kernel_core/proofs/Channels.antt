-- What is known of pipes and ports: how many events are queued, and for how many a thread waits.
use Rattle.std.proofs.Common.{◌≡◌, ℕ, zero, suc, ◌+◌, ◌<◌, ◌≤◌, ◌==◌, ◌&&◌, Bool, true, false, if◌then◌else◌, not, List, [], ◌∷◌, Option, None, Some, cond, count_by, filter, is_none, is_some, length, refl, sym, ap, ◌∙◌, arith, All}
use Rattle.std.proofs.lemmas.Bool.Decides.{nat_tests}
use Rattle.std.proofs.lemmas.List.Elements.{All-head, All-tail}
use Rattle.dk_base.specs.ByNumber.{at_number}
use Rattle.dk_base.specs.declared.limits.TheConstants.{USER_EVENTS_MAX}
use Rattle.spec_records.specs.declared.association.Association.{Association}
use Rattle.spec_records.specs.declared.timer.Timer.{Timer}
use Rattle.spec_records.specs.Words.{IsAscending, Port, association_number, is_event_of, is_number, is_user_event, port_in, state_in, timer_number}
use Rattle.dk_base.specs.declared.object.Obj.TheVariants as obj
use Rattle.spec_kernel.specs.Types.{Fd, Obj, Queued, Thread}
use Rattle.spec_kernel.specs.Words.{State, object_at, port, port_at, port_named, state_of, thread_of}
use Rattle.law_channels.specs.Associations.{is_queued_at}
use Rattle.law_channels.specs.Timers.{IsOfTimer, timer_numbered}
use Rattle.law_channels.specs.Channels.{AreChannels, IsBounded, WaitsAtMade, made_in}
use Rattle.law_channels.proofs.Elements.{All-at_number}
use Rattle.law_channels.proofs.Tally.{count-cons, count-once, count-parted, count-weaker, has}

-- what carries the number of an association, or of a timer

module _ (key : Queued → Option ℕ) where
  abbrev is_keyed : Queued → Bool
  is_keyed q = is_some (key q)

  abbrev is_of : ℕ → Queued → Bool
  is_of n q = is_number n (key q)

  abbrev is_other : ℕ → Queued → Bool
  is_other n q = not (is_of n q)

  -- those of one number and those of the others
  of_one : (k : ℕ) (qs : List Queued) → count_by is_keyed qs ≡ count_by is_keyed (filter (is_other k) qs) + count_by (is_of k) qs
  of_one k [] = omega arith
  of_one k (q ∷ qs) = go (is_of k q) refl (of_one k qs)
    where
      some : (o : Option ℕ) → is_number k o ≡ true → is_some o ≡ true
      some None e = cc
      some (Some n) e = refl

      go :
          (b : Bool) → is_of k q ≡ b → count_by is_keyed qs ≡ count_by is_keyed (filter (is_other k) qs) + count_by (is_of k) qs →
          count_by is_keyed (q ∷ qs) ≡ count_by is_keyed (if not b then q ∷ filter (is_other k) qs else filter (is_other k) qs) + count_by (is_of k) (q ∷ qs)
      go true e rest =
          omega (
            arith,
            rest,
            count-cons is_keyed q qs ∙ ap (λ b. cond b 1 0 + count_by is_keyed qs) (some (key q) e),
            count-cons (is_of k) q qs ∙ ap (λ b. cond b 1 0 + count_by (is_of k) qs) e,
          )
      go false e rest =
          omega (
            arith,
            rest,
            count-cons is_keyed q qs,
            count-cons is_keyed q (filter (is_other k) qs),
            count-cons (is_of k) q qs ∙ ap (λ b. cond b 1 0 + count_by (is_of k) qs) e,
          )

  none_of_it : (k : ℕ) (qs : List Queued) → count_by (is_of k) (filter (is_other k) qs) ≡ 0
  none_of_it k [] = refl
  none_of_it k (q ∷ qs) = go (is_of k q) refl (none_of_it k qs)
    where
      go :
          (b : Bool) → is_of k q ≡ b → count_by (is_of k) (filter (is_other k) qs) ≡ 0 →
          count_by (is_of k) (if not b then q ∷ filter (is_other k) qs else filter (is_other k) qs) ≡ 0
      go true e rest = rest
      go false e rest =
          omega (arith, rest, count-cons (is_of k) q (filter (is_other k) qs) ∙ ap (λ b. cond b 1 0 + count_by (is_of k) (filter (is_other k) qs)) e)

  none_keyed : (qs : List Queued) → ((n : ℕ) → count_by (is_of n) qs ≡ 0) → count_by is_keyed qs ≡ 0
  none_keyed [] none = refl
  none_keyed (q ∷ qs) none = go (key q) refl (none_keyed qs (λ n. omega (arith, none n, count-cons (is_of n) q qs)))
    where
      go : (o : Option ℕ) → key q ≡ o → count_by is_keyed qs ≡ 0 → count_by is_keyed (q ∷ qs) ≡ 0
      go None e rest = omega (arith, rest, count-cons is_keyed q qs ∙ ap (λ x. cond (is_some x) 1 0 + count_by is_keyed qs) e)
      go (Some n) e rest =
          let here : (n == n) ≡ true = grind (arith, nat_tests) in
          absurd (omega (
            arith,
            none n,
            count-cons (is_of n) q qs ∙ ap (λ x. cond (is_number n x) 1 0 + count_by (is_of n) qs) e ∙ ap (λ b. cond b 1 0 + count_by (is_of n) qs) here,
          ))

  -- of each number below k there is one at most, and of the others none
  few_keyed :
      (k : ℕ) (qs : List Queued) → ((n : ℕ) → count_by (is_of n) qs ≤ 1) → ((n : ℕ) → k ≤ n → count_by (is_of n) qs ≡ 0) → count_by is_keyed qs ≤ k
  few_keyed zero qs once none = omega (arith, none_keyed qs (λ n. none n (omega arith)))
  few_keyed (suc k) qs once none =
      omega (arith, of_one k qs, once k, few_keyed k left (λ n. omega (arith, fewer n, once n)) (λ n l. go n l (n == k) refl))
    where
      left : List Queued
      left = filter (is_other k) qs

      fewer : (n : ℕ) → count_by (is_of n) left ≤ count_by (is_of n) qs
      fewer n = omega (arith, count-parted (is_of n) (is_other k) (λ q. not (is_other k q)) (λ q. refl) qs)

      go : (n : ℕ) → k ≤ n → (b : Bool) → (n == k) ≡ b → count_by (is_of n) left ≡ 0
      go n l true e = let same : n ≡ k = grind (arith, nat_tests) in ap (λ j. count_by (is_of j) left) same ∙ none_of_it k qs
      go n l false e = let above : suc k ≤ n = grind (arith, nat_tests) in omega (arith, fewer n, none n above)

abbrev assoc_of : Queued → Option ℕ
assoc_of q = q.assoc

abbrev timer_of : Queued → Option ℕ
timer_of q = q.timer

abbrev IsSent : Queued → Type 0
IsSent q = is_user_event q ≡ (is_none q.assoc && is_none q.timer)

-- all that is queued was sent, or is of an association or of a timer
all_counted : (qs : List Queued) → All IsSent qs → length qs ≤ count_by is_user_event qs + count_by (is_keyed assoc_of) qs + count_by (is_keyed timer_of) qs
all_counted [] all = omega arith
all_counted (q ∷ qs) all =
    omega (
      arith,
      all_counted qs (All-tail IsSent q qs all),
      count-cons is_user_event q qs ∙ ap (λ b. cond b 1 0 + count_by is_user_event qs) (All-head IsSent q qs all),
      count-cons (is_keyed assoc_of) q qs,
      count-cons (is_keyed timer_of) q qs,
      one q.assoc q.timer,
    )
  where
    one : (x y : Option ℕ) → 1 ≤ cond (is_none x && is_none y) 1 0 + cond (is_some x) 1 0 + cond (is_some y) 1 0
    one None None = omega arith
    one None (Some m) = omega arith
    one (Some n) None = omega arith
    one (Some n) (Some m) = omega arith

-- no timer has a number that was not given out, and so no event

none_numbered : (low made n : ℕ) (ts : List Timer) → made < n → IsAscending timer_number low made ts → timer_numbered ts n ≡ None
none_numbered low made n [] l h = refl
none_numbered low made n (t ∷ ts) l h =
    let within : t.number ≤ made = h.1 in
    let other : (t.number == n) ≡ false = grind (arith, nat_tests) in
    ap (λ b. if b then Some t else timer_numbered ts n) other ∙ none_numbered t.number made n ts l h.2

none_timed :
    (ts : List Timer) (p n : ℕ) (qs : List Queued) → timer_numbered ts n ≡ None → All (λ e. (k : ℕ) → e.timer ≡ Some k → IsOfTimer ts p e k) qs →
    count_by (is_of timer_of n) qs ≡ 0
none_timed ts p n [] none all = refl
none_timed ts p n (q ∷ qs) none all =
    omega (
      arith,
      none_timed ts p n qs none (All-tail (λ e. (k : ℕ) → e.timer ≡ Some k → IsOfTimer ts p e k) q qs all),
      count-cons (is_of timer_of n) q qs ∙ ap (λ b. cond b 1 0 + count_by (is_of timer_of n) qs) (other q.timer refl),
    )
  where
    none_there : (t : Timer) → Some t ≡ None → ⊥
    none_there t e = cc

    other : (o : Option ℕ) → q.timer ≡ o → is_number n o ≡ false
    other None e = refl
    other (Some k) e = go (k == n) refl
      where
        go : (b : Bool) → (k == n) ≡ b → b ≡ false
        go true f =
            let same : k ≡ n = grind (arith, nat_tests) in
            let of : IsOfTimer ts p q k = All-head (λ x. (j : ℕ) → x.timer ≡ Some j → IsOfTimer ts p x j) q qs all k e in
            let gone : timer_numbered ts k ≡ None = ap (timer_numbered ts) same ∙ none in
            absurd (none_there of.timer (sym of.there ∙ gone))
        go false f = refl

count_past : (low made n : ℕ) (xs : List Association) → made < n → IsAscending association_number low made xs → count_by (has association_number n) xs ≡ 0
count_past low made n [] l h = refl
count_past low made n (x ∷ xs) l h =
    let within : x.number ≤ made = h.1 in
    let other : (x.number == n) ≡ false = grind (arith, nat_tests) in
    omega (arith, count_past x.number made n xs l h.2, count-cons (has association_number n) x xs ∙ ap (λ b. cond b 1 0 + count_by (has association_number n) xs) other)

queued_has : (n q : ℕ) (a : Association) → is_queued_at n q a ≡ true → has association_number n a ≡ true
queued_has n q a e = grind (arith, nat_tests)

-- all that is queued at a port was sent to it, or is of an association or of a timer that was made
pub few_queued :
    (m : State) → AreChannels m → (q : ℕ) →
    length (port m q).queue ≤ USER_EVENTS_MAX + (m.channels.associations.made + 1) + (m.channels.timers.made + 1)
few_queued m h q = go (at_number m.channels.ports q) refl
  where
    xs : List Association
    xs = m.channels.associations.associations

    fewer : (n : ℕ) → count_by (is_event_of n) (port m q).queue ≤ count_by (has association_number n) xs
    fewer n = omega (arith, h.associations.queued n q, count-weaker (is_queued_at n q) (has association_number n) (queued_has n q) xs)

    associated : count_by (is_keyed assoc_of) (port m q).queue ≤ m.channels.associations.made + 1
    associated =
        few_keyed assoc_of (m.channels.associations.made + 1) (port m q).queue
        (λ n. omega (arith, fewer n, count-once association_number 0 m.channels.associations.made n xs h.associations.in_order))
        (λ n l. omega (arith, fewer n, count_past 0 m.channels.associations.made n xs (omega arith) h.associations.in_order))

    timed : count_by (is_keyed timer_of) (port m q).queue ≤ m.channels.timers.made + 1
    timed =
        few_keyed timer_of (m.channels.timers.made + 1) (port m q).queue (h.timers.queued q).once
        (λ n l.
        none_timed m.channels.timers.timers q n (port m q).queue
        (none_numbered 0 m.channels.timers.made n m.channels.timers.timers (omega (arith, l)) h.timers.in_order)
        (h.timers.queued q).of_timers)

    go :
        (o : Option Port) → at_number m.channels.ports q ≡ o →
        length (port_in o).queue ≤ USER_EVENTS_MAX + (m.channels.associations.made + 1) + (m.channels.timers.made + 1)
    go None e = omega arith
    go (Some x) e =
        let b : IsBounded x = All-at_number IsBounded m.channels.ports q x h.ports.bounded e in
        omega (
          arith,
          all_counted x.queue b.sent,
          b.few,
          associated,
          timed,
          ap (λ o. count_by (is_keyed assoc_of) (port_in o).queue) e,
          ap (λ o. count_by (is_keyed timer_of) (port_in o).queue) e,
        )

pub waits_at_made : (m : State) → AreChannels m → (t : ℕ) → WaitsAtMade (made_in m) (state_of m t)
waits_at_made m h t = go (thread_of m t) refl
  where
    go : (o : Option Thread) → thread_of m t ≡ o → WaitsAtMade (made_in m) (state_in o)
    go None e = tt
    go (Some x) e = All-at_number (λ y. WaitsAtMade (made_in m) y.state) m.process_table.threads t x h.refers.waits e

pub named_port_made : (m : State) → AreChannels m → (p : ℕ) (fd : Fd) → port_at m p fd ≤ length m.channels.ports
named_port_made m h p fd = go (object_at m p fd) refl
  where
    go : (o : Option Obj) → object_at m p fd ≡ o → port_named o ≤ length m.channels.ports
    go None e = omega arith
    go (Some (obj.Port q)) e = (h.refers.rows p fd (obj.Port q) e).1
    go (Some (obj.Door d)) e = omega arith
    go (Some (obj.PipeIn n)) e = omega arith
    go (Some (obj.PipeOut n)) e = omega arith
