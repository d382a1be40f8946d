-- A thread that waits in no call and serves none may turn to anything; which threads these are.
use Rattle.std.proofs.Common.{◌≡◌, ◌≤◌, ℕ, ◌==◌, Bool, true, false, List, [], ◌∷◌, Option, Some, None, find, if◌then◌else◌, length, option_map, refl, sym, subst, ap, ◌∙◌, arith}
use Rattle.std.proofs.lemmas.Bool.Decides.{nat_tests}
use Rattle.std.specs.List.{AllByRecursion}
use Rattle.dk_base.specs.declared.limits.TheConstants.{THREADS_MAX}
use Rattle.dk_base.specs.declared.object.Item.TheVariants as item
use Rattle.spec_records.proofs.Lists.{numbered_within}
use Rattle.spec_records.specs.declared.record.CallStage.TheVariants as stage
use Rattle.spec_records.specs.declared.record.ThreadState.TheVariants as is
use Rattle.spec_records.specs.Words.{ProcessTable, change_thread, invocation_in, is_calling, is_done, is_served_by, is_to_collect, state_in, thread_at, tid}
use Rattle.spec_kernel.specs.Types.{Call, CallStage, Thread}
use Rattle.spec_kernel.proofs.Threads.{thread_at-change_thread}
use Rattle.call_tree.specs.Words.{IsThread, is_called_by}
use Rattle.law_states.specs.Core.{is_outside}
use Rattle.law_states.specs.Records.{item_in}
use Rattle.law_calls.specs.Backed.{AreBacked, IsBacked, IsServedAt, is_given_item}
use Rattle.law_calls.proofs.Alls.{all_both, all_goes}

pub find_none : (test : Call → Bool) (rs : List Call) → AllByRecursion (λ r. test r ≡ false) rs → find test rs ≡ None
find_none test [] h = refl
find_none test (r ∷ rs) h = let a = h.0 in let b = find_none test rs h.1 in grind (arith, a, b)

pub none_passes : (test : Call → Bool) (rs : List Call) → find test rs ≡ None → AllByRecursion (λ r. test r ≡ false) rs
none_passes test [] e = tt
none_passes test (r ∷ rs) e = go (test r) refl e (none_passes test rs)
  where
    go :
        (b : Bool) → test r ≡ b → (if b then Some r else find test rs) ≡ None → (find test rs ≡ None → AllByRecursion (λ x. test x ≡ false) rs) →
        AllByRecursion (λ x. test x ≡ false) (r ∷ rs)
    go true h f ih = cc
    go false h f ih = (h, ih f)

pub is_number : (a b : ℕ) → (a == b) ≡ true → a ≡ b
is_number a b e = grind (arith, nat_tests)

pub number_is : (a b : ℕ) → a ≡ b → (a == b) ≡ true
number_is a b e = grind (arith, nat_tests)

pub either : (p : Bool) → (p ≡ true → ⊥) → p ≡ false
either true h = absurd (h refl)
either false h = refl

module _ (table : ProcessTable) (t : ℕ) where
  -- it waits in no call where it is not Calling

  pub not_called : is_calling (state_in (thread_at table t)) ≡ false → (r : Call) → IsBacked table r → is_called_by t r ≡ false
  not_called calm r b = either (is_called_by t r) (λ e. let h = is_number r.caller.0 t e in
      let k : state_in (thread_at table t) ≡ is.Calling r.number = subst (λ k. state_in (thread_at table k) ≡ is.Calling r.number) h b.calling in
      let n : true ≡ false = ap is_calling (sym k) ∙ calm in absurd cc)

  pub waits_not : (rs : List Call) → AreBacked table rs → is_calling (state_in (thread_at table t)) ≡ false → find (is_called_by t) rs ≡ None
  waits_not rs b calm = find_none (is_called_by t) rs (all_goes (IsBacked table) (λ r. is_called_by t r ≡ false) (not_called calm) rs b)

  -- it serves none where it has no invocation and was given no call

  served_so : (r : Call) (s : CallStage) → r.stage ≡ s → is_served_by t r ≡ true → IsServedAt table r.number s → is_outside (state_in (thread_at table t)) ≡ true → state_in (thread_at table t) ≡ is.Given (item.Call r.number)
  served_so r (stage.Given u) e h k o = let q : (u.0 == t) ≡ true = grind (arith, nat_tests) in subst (λ v. state_in (thread_at table v) ≡ is.Given (item.Call r.number)) (is_number u.0 t q) k
  served_so r (stage.Entered u) e h k o =
      let q : (u.0 == t) ≡ true = grind (arith, nat_tests) in
      let f : is_outside (state_in (thread_at table t)) ≡ false = subst (λ v. is_outside (state_in (thread_at table v)) ≡ false) (is_number u.0 t q) k.1 in
      let n : true ≡ false = sym o ∙ f in absurd cc
  served_so r stage.Queued e h k o = absurd (grind (arith, nat_tests))
  served_so r (stage.Returned bytes objects) e h k o = absurd (grind (arith, nat_tests))
  served_so r (stage.Ended x) e h k o = absurd (grind (arith, nat_tests))
  served_so r (stage.Answered n) e h k o = absurd (grind (arith, nat_tests))
  served_so r stage.Gone e h k o = absurd (grind (arith, nat_tests))

  pub not_served : is_outside (state_in (thread_at table t)) ≡ true → (r : Call) → (state_in (thread_at table t) ≡ is.Given (item.Call r.number) → ⊥) → IsBacked table r → is_served_by t r ≡ false
  not_served o r given b = either (is_served_by t r) (λ e. given (served_so r r.stage refl e b.served o))

  pub serves_not :
      (rs : List Call) → AreBacked table rs → is_outside (state_in (thread_at table t)) ≡ true → ((c : ℕ) → state_in (thread_at table t) ≡ is.Given (item.Call c) → ⊥) →
      find (is_served_by t) rs ≡ None
  serves_not rs b o given = find_none (is_served_by t) rs (all_goes (IsBacked table) (λ r. is_served_by t r ≡ false) (λ r k. not_served o r (given r.number) k) rs b)

  -- a thread that is not Done is there

  pub there : is_done (state_in (thread_at table t)) ≡ false → (x : Thread) × (thread_at table t ≡ Some x)
  there e = go (thread_at table t) e
    where
      go : (o : Option Thread) → is_done (state_in o) ≡ false → (x : Thread) × (o ≡ Some x)
      go None f = cc
      go (Some x) f = (x, refl)

  pub is_thread : is_done (state_in (thread_at table t)) ≡ false → length table.threads ≤ THREADS_MAX → IsThread t
  is_thread e few =
      let x = there e in
      let w = numbered_within table.threads t x.0 x.1 in
      let a : 1 ≤ t = w.0 in
      let b : t ≤ length table.threads = w.1 in
      (omega arith, omega (arith, few))

-- one thread turns to something else

module _ (table after : ProcessTable) (t : ℕ) (elsewhere : (u : ℕ) → (u ≡ t → ⊥) → thread_at after u ≡ thread_at table u) where
  pub backed_kept :
      (r : Call) → IsBacked table r → (is_called_by t r ≡ true → state_in (thread_at after t) ≡ is.Calling r.number) →
      (is_served_by t r ≡ true → IsServedAt table r.number r.stage → IsServedAt after r.number r.stage) → IsBacked after r
  backed_kept r b waits serves =
      record { calling = calls (r.caller.0 == t) refl; served = at r.stage refl serves b.served b.abandoned; abandoned = b.abandoned }
    where
      calls : (e : Bool) → (r.caller.0 == t) ≡ e → state_in (thread_at after r.caller.0) ≡ is.Calling r.number
      calls true e = subst (λ k. state_in (thread_at after k) ≡ is.Calling r.number) (sym (is_number r.caller.0 t e)) (waits e)
      calls false e = ap state_in (elsewhere r.caller.0 (λ h. let n : true ≡ false = sym (number_is r.caller.0 t h) ∙ e in absurd cc)) ∙ b.calling

      kept_by : (s : CallStage) → (r.abandoned ≡ true → is_to_collect s ≡ true) → is_to_collect s ≡ false → r.abandoned ≡ false
      kept_by s k n = either r.abandoned (λ a. let m : true ≡ false = sym (k a) ∙ n in absurd cc)

      at :
          (s : CallStage) → r.stage ≡ s → (is_served_by t r ≡ true → IsServedAt table r.number s → IsServedAt after r.number s) → IsServedAt table r.number s →
          (r.abandoned ≡ true → is_to_collect s ≡ true) → IsServedAt after r.number s
      at (stage.Given u) e k h a = given (u.0 == t) refl
        where
          given : (q : Bool) → (u.0 == t) ≡ q → state_in (thread_at after u.0) ≡ is.Given (item.Call r.number)
          given true q = let n = kept_by (stage.Given u) a refl in k (grind (arith, nat_tests, e, n, q)) h
          given false q = ap state_in (elsewhere u.0 (λ m. let n : true ≡ false = sym (number_is u.0 t m) ∙ q in absurd cc)) ∙ h
      at (stage.Entered u) e k h a = entered (u.0 == t) refl
        where
          entered : (q : Bool) → (u.0 == t) ≡ q → IsServedAt after r.number (stage.Entered u)
          entered true q = let n = kept_by (stage.Entered u) a refl in k (grind (arith, nat_tests, e, n, q)) h
          entered false q =
              let same = elsewhere u.0 (λ m. let n : true ≡ false = sym (number_is u.0 t m) ∙ q in absurd cc) in
              (ap (λ o. item_in (invocation_in o)) same ∙ h.0, ap (λ o. is_outside (state_in o)) same ∙ h.1)
      at stage.Queued e k h a = tt
      at (stage.Returned bytes objects) e k h a = tt
      at (stage.Ended x) e k h a = tt
      at (stage.Answered n) e k h a = tt
      at stage.Gone e k h a = tt

  pub backed_elsewhere : (r : Call) → IsBacked table r → is_called_by t r ≡ false → is_served_by t r ≡ false → IsBacked after r
  backed_elsewhere r b c s =
      backed_kept r b (λ e. let n : true ≡ false = sym e ∙ c in absurd cc) (λ e. let n : true ≡ false = sym e ∙ s in absurd cc)

  -- a thread that waits in no call and serves none
  pub free_turns : (rs : List Call) → AreBacked table rs → find (is_called_by t) rs ≡ None → find (is_served_by t) rs ≡ None → AreBacked after rs
  free_turns rs b c s =
      all_goes (λ r. IsBacked table r × ((is_called_by t r ≡ false) × (is_served_by t r ≡ false))) (IsBacked after) (λ r h. backed_elsewhere r h.0 h.1.0 h.1.1) rs
      (all_both (IsBacked table) (λ r. (is_called_by t r ≡ false) × (is_served_by t r ≡ false)) rs b
      (all_both (λ r. is_called_by t r ≡ false) (λ r. is_served_by t r ≡ false) rs (none_passes (is_called_by t) rs c) (none_passes (is_served_by t) rs s)))

  -- one that has not been given an item, keeps its invocation, and is in a state that can have one
  module _ (given : is_given_item (state_in (thread_at table t)) ≡ false) (invocation : item_in (invocation_in (thread_at after t)) ≡ item_in (invocation_in (thread_at table t))) (inside : is_outside (state_in (thread_at after t)) ≡ false) where
    served_on : (r : Call) (s : CallStage) → r.stage ≡ s → is_served_by t r ≡ true → IsServedAt table r.number s → IsServedAt after r.number s
    served_on r (stage.Given u) e h k =
        let q : (u.0 == t) ≡ true = grind (arith, nat_tests) in
        let g : state_in (thread_at table t) ≡ is.Given (item.Call r.number) = subst (λ v. state_in (thread_at table v) ≡ is.Given (item.Call r.number)) (is_number u.0 t q) k in
        let n : true ≡ false = sym (ap is_given_item g) ∙ given in absurd cc
    served_on r (stage.Entered u) e h k =
        let q : (u.0 == t) ≡ true = grind (arith, nat_tests) in
        subst (λ v. IsServedAt after r.number (stage.Entered (tid v))) (sym (is_number u.0 t q))
        (invocation ∙ subst (λ v. item_in (invocation_in (thread_at table v)) ≡ Some (item.Call r.number)) (is_number u.0 t q) k.0, inside)
    served_on r stage.Queued e h k = tt
    served_on r (stage.Returned bytes objects) e h k = tt
    served_on r (stage.Ended x) e h k = tt
    served_on r (stage.Answered n) e h k = tt
    served_on r stage.Gone e h k = tt

    pub backed_on : (r : Call) → IsBacked table r → is_called_by t r ≡ false → IsBacked after r
    backed_on r b c = backed_kept r b (λ e. let n : true ≡ false = sym e ∙ c in absurd cc) (λ e k. served_on r r.stage refl e k)

pub changed_elsewhere : (table : ProcessTable) (t : ℕ) (f : Thread → Thread) (u : ℕ) → (u ≡ t → ⊥) → thread_at (change_thread table t f) u ≡ thread_at table u
changed_elsewhere table t f u n = let e : (u == t) ≡ false = either (u == t) (λ e. n (is_number u t e)) in rw (thread_at-change_thread table t u f, e) refl

pub changed_here : (table : ProcessTable) (t : ℕ) (f : Thread → Thread) → thread_at (change_thread table t f) t ≡ option_map f (thread_at table t)
changed_here table t f = rw (thread_at-change_thread table t t f, number_is t t refl) refl
