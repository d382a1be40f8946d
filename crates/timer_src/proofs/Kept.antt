-- What the representation keeps, as timers are made, armed, and end, and the clock moves on.
use Rattle.std.proofs.Common.{◌≡◌, ℕ, ◌+◌, ◌-◌, ◌*◌, ◌/◌, ◌<◌, ◌≤◌, ◌==◌, ◌||◌, not, nat_lt, Bool, true, false, if◌then◌else◌, List, [], ◌∷◌, ◌++◌, Option, None, Some, filter, find, length, map, refl, sym, subst, ap, ◌∙◌, arith, length-append}
use Rattle.std.proofs.lemmas.Bool.Decides.{nat_tests}
use Rattle.dk_base.specs.declared.limits.TheConstants.{CLOCK_LAST, TIMERS_MAX}
use Rattle.spec_records.specs.Words.{IsAscending, change_first, is_other_timer, is_timer, is_timer_of_other, timer_at, timer_number, with_arming}
use Rattle.spec_records.proofs.NumberedLists.{ascending-change_first, ascending-filter, ascending-push}
use Rattle.spec_records.proofs.Places.{length-change_first}
use Rattle.spec_records.specs.declared.timer.Arming.{Arming}
use Rattle.spec_records.specs.declared.timer.Timer.{Timer}
use Rattle.timer_src.specs.Lists.{without_first}
use Rattle.timer_src.specs.Pending.{ArmedValue, is_above, is_below, is_pending_of_other, next_from, pending_number, pending_of, pendings, stepped_all}
use Rattle.timer_src.specs.Value.{AreKept, HaveIds}
use Rattle.timer_src.proofs.Pendings.{changed, fewer, in_order, left, moved_on, none_pending, others_fewer, others_left}

-- ids

ids_changed : (n : ℕ) (test : Timer → Bool) (a : Option Arming) (ts : List Timer) → HaveIds n ts → HaveIds n (change_first test (with_arming a) ts)
ids_changed n test a [] h = tt
ids_changed n test a (t ∷ ts) h = go (test t) (ids_changed n test a ts h.1)
  where
    go : (b : Bool) → HaveIds n (change_first test (with_arming a) ts) → HaveIds n (if b then with_arming a t ∷ ts else t ∷ change_first test (with_arming a) ts)
    go true ih = h
    go false ih = (h.0, ih)

ids_left : (n : ℕ) (keep : Timer → Bool) (ts : List Timer) → HaveIds n ts → HaveIds n (filter keep ts)
ids_left n keep [] h = tt
ids_left n keep (t ∷ ts) h = go (keep t) (ids_left n keep ts h.1)
  where
    go : (b : Bool) → HaveIds n (filter keep ts) → HaveIds n (if b then t ∷ filter keep ts else filter keep ts)
    go true ih = (h.0, ih)
    go false ih = ih

ids_more : (n : ℕ) (t : Timer) (ts : List Timer) → t.id < n → HaveIds n ts → HaveIds n (ts ++ t ∷ [])
ids_more n t [] l h = (l, tt)
ids_more n t (u ∷ ts) l h = (h.0, ids_more n t ts l h.1)

pub shorter : {X : Type 0} (keep : X → Bool) (xs : List X) → length (filter keep xs) ≤ length xs
shorter keep [] = omega arith
shorter keep (x ∷ xs) = go (keep x) (shorter keep xs)
  where
    go : (b : Bool) → length (filter keep xs) ≤ length xs → length (if b then x ∷ filter keep xs else filter keep xs) ≤ length (x ∷ xs)
    go true l = omega arith
    go false l = omega arith

module _ (clock made : ℕ) (ts : List Timer) (old new : ArmedValue) (kept : AreKept clock made ts old) where
  -- in order
  pub ordered : (made : ℕ) × IsAscending pending_number 0 made old.items
  ordered = (made, subst (λ ps. IsAscending pending_number 0 made ps) (sym kept.3) (in_order clock ts 0 made kept.1))

  pub roomy : (test : Timer → Bool) (t : Timer) → find test ts ≡ Some t → length (filter (is_below t.number) old.items ++ filter (is_above t.number) old.items) < old.capacity
  roomy test t found =
      let few = others_fewer test clock ts t 0 made kept.1 found in
      let same = ap (λ ps. length (filter (is_below t.number) ps ++ filter (is_above t.number) ps)) kept.3 in
      let all = kept.4 in omega arith

  -- armed anew
  pub kept_set :
      (process id : ℕ) (a : Option Arming) (t : Timer) → timer_at ts process id ≡ Some t →
      new.items ≡ filter (is_below t.number) old.items ++ (pendings clock (with_arming a t ∷ []) ++ filter (is_above t.number) old.items) →
      new.capacity ≡ old.capacity → AreKept clock made (change_first (is_timer process id) (with_arming a) ts) new
  kept_set process id a t found items capacity =
      let same = length-change_first (is_timer process id) (with_arming a) ts in
      let all = kept.4 in (
        kept.0,
        ascending-change_first timer_number (with_arming a) (λ x. refl) (is_timer process id) ts 0 made kept.1,
        ids_changed TIMERS_MAX (is_timer process id) a ts kept.2,
        items ∙ ap (λ ps. filter (is_below t.number) ps ++ (pendings clock (with_arming a t ∷ []) ++ filter (is_above t.number) ps)) kept.3
            ∙ sym (changed (is_timer process id) clock (with_arming a) ts t 0 made kept.1 found),
        omega arith,
      )

  -- one ends
  pub kept_deleted :
      (process id : ℕ) (t : Timer) → timer_at ts process id ≡ Some t → without_first (is_timer process id) ts ≡ filter (is_other_timer process id) ts →
      new.items ≡ filter (is_below t.number) old.items ++ filter (is_above t.number) old.items →
      new.capacity ≡ old.capacity → AreKept clock made (filter (is_other_timer process id) ts) new
  kept_deleted process id t found alone items capacity =
      let less = shorter (is_other_timer process id) ts in
      let all = kept.4 in (
        kept.0,
        ascending-filter timer_number (is_other_timer process id) ts 0 made kept.1,
        ids_left TIMERS_MAX (is_other_timer process id) ts kept.2,
        items ∙ ap (λ ps. filter (is_below t.number) ps ++ filter (is_above t.number) ps) kept.3
            ∙ sym (left (is_timer process id) clock ts t 0 made kept.1 found) ∙ ap (pendings clock) alone,
        omega arith,
      )

  -- all of a process end
  pub kept_ended :
      (process : ℕ) → new.items ≡ filter (is_pending_of_other process) old.items → new.capacity ≡ old.capacity →
      AreKept clock made (filter (is_timer_of_other process) ts) new
  kept_ended process items capacity =
      let less = shorter (is_timer_of_other process) ts in
      let all = kept.4 in (
        kept.0,
        ascending-filter timer_number (is_timer_of_other process) ts 0 made kept.1,
        ids_left TIMERS_MAX (is_timer_of_other process) ts kept.2,
        items ∙ ap (λ ps. filter (is_pending_of_other process) ps) kept.3 ∙ sym (others_left clock process ts),
        omega arith,
      )

  -- one more
  pub kept_made : (t : Timer) → t.number ≡ made + 1 → t.id < TIMERS_MAX → t.arming ≡ None → length ts < old.capacity → AreKept clock (made + 1) (ts ++ t ∷ []) old
  kept_made t number id arming room =
      let more = length-append ts (t ∷ []) in (
        kept.0,
        subst (λ n. IsAscending timer_number 0 n (ts ++ t ∷ [])) number (ascending-push timer_number ts 0 made t (omega arith) number kept.1),
        ids_more TIMERS_MAX t ts id kept.2,
        kept.3 ∙ sym (none_pending clock ts t arming),
        omega (arith, more),
      )

  -- the clock moves on
  pub kept_moved : (by : ℕ) → clock + by ≤ CLOCK_LAST → new.items ≡ stepped_all (clock + by) old.items → new.capacity ≡ old.capacity → AreKept (clock + by) made ts new
  kept_moved by late items capacity =
      let all = kept.4 in (
        late,
        kept.1,
        kept.2,
        items ∙ ap (stepped_all (clock + by)) kept.3 ∙ sym (moved_on clock (clock + by) (omega arith) ts),
        omega arith,
      )

-- what has a moment to come when it is armed
pub first_moment :
    (clock first interval : ℕ) (t : Timer) → 0 < first →
    pendings clock (with_arming (Some (record { clock = clock; first = first; interval = interval })) t ∷ [])
    ≡ record { number = t.number; process = t.process.0; id = t.id; port = t.port; user = t.user; next = clock + first; interval = interval } ∷ []
first_moment clock first interval t p =
    let comes : nat_lt clock (clock + first) ≡ true = grind (arith, nat_tests) in
    let there : (nat_lt clock (clock + first) || not (interval == 0)) ≡ true = ap (λ b. b || not (interval == 0)) comes in
    let next : next_from (clock + first) interval clock ≡ clock + first =
    ap (λ b. if b then clock + first else (if interval == 0 then clock + first else clock + first + ((clock - (clock + first)) / interval + 1) * interval)) comes in
    ap (λ b. map (pending_of clock) (if b then with_arming (Some (record { clock = clock; first = first; interval = interval })) t ∷ [] else [])) there
    ∙ ap (λ (n : ℕ). record { number = t.number; process = t.process.0; id = t.id; port = t.port; user = t.user; next = n; interval = interval } ∷ []) next
