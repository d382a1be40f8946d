-- What becomes of each thread, and of the rest of a state, where idle threads that lost their doors fail.
use Rattle.std.proofs.Common.{◌≡◌, ◌≤◌, ℕ, zero, suc, ◌==◌, ◌&&◌, Bool, true, false, not, if◌then◌else◌, nat_le, List, Option, None, Some, is_some, option_map, length, refl, sym, true≢false, ap, ap₂, ◌∙◌, arith}
use Rattle.std.proofs.lemmas.Bool.Decides.{nat_tests}
use Rattle.spec_kernel.specs.Types.{Thread}
use Rattle.spec_records.specs.declared.record.ThreadState.TheVariants as is
use Rattle.spec_records.specs.Words.{bound_at, bound_in, is_idle, is_valid_in, state_in, thread_at_state, unbind_thread}
use Rattle.dk_base.specs.ByNumber.{at_number}
use Rattle.spec_kernel.specs.State.{State, bound_of, has_invalid_door, is_bound_to_invalid, state_of, thread_of}
use Rattle.spec_kernel.specs.Settle.{fail_each, fail_one, fail_return, fail_returns, has_lost_door}
use Rattle.spec_records.proofs.Lists.{at_number-with_at_number, numbered_within}
use Rattle.spec_kernel.proofs.Settling.{fail_returns-alone}
use Rattle.spec_kernel.proofs.Threads.{thread_at-change_thread}

-- whether a thread has lost its door

-- that is what the thread, its binding and the doors say
pub has_lost_door-same :
    (k m : State) (t : ℕ) → thread_of k t ≡ thread_of m t → bound_of k t ≡ bound_of m t → k.doors ≡ m.doors →
    has_lost_door k t ≡ has_lost_door m t
has_lost_door-same k m t e f h =
    ap₂ (λ o b. is_idle (state_in o) && is_bound_to_invalid k b) e f ∙ ap (λ b. is_idle (state_of m t) && b) (invalid (bound_of m t))
  where
    invalid : (b : Option ℕ) → is_bound_to_invalid k b ≡ is_bound_to_invalid m b
    invalid None = refl
    invalid (Some d) = ap (λ doors. not (is_valid_in (at_number doors d))) h

-- it is idle
pub lost_is_idle : (m : State) (t : ℕ) → has_lost_door m t ≡ true → is_idle (state_of m t) ≡ true
lost_is_idle m t e = go (is_idle (state_of m t)) e
  where
    go : (b : Bool) → b && has_invalid_door m t ≡ true → b ≡ true
    go true e = refl
    go false e = e

-- so its number is that of a thread
pub lost_within : (m : State) (t : ℕ) → has_lost_door m t ≡ true → (1 ≤ t) × (t ≤ length m.process_table.threads)
lost_within m t e = go (thread_of m t) refl (lost_is_idle m t e)
  where
    go : (o : Option Thread) → thread_of m t ≡ o → is_idle (state_in o) ≡ true → (1 ≤ t) × (t ≤ length m.process_table.threads)
    go None f h = absurd (true≢false (sym h))
    go (Some x) f h = numbered_within m.process_table.threads t x f

-- one thread fails

bound_at-unbind_thread :
    (bindings : List (Option ℕ)) (t u : ℕ) → bound_at (unbind_thread bindings t) u ≡ (if u == t then None else bound_at bindings u)
bound_at-unbind_thread bindings t u =
    ap bound_in (at_number-with_at_number bindings t u None) ∙ go (u == t) refl (at_number bindings t) refl
  where
    go :
        (b : Bool) → (u == t) ≡ b → (o : Option (Option ℕ)) → at_number bindings t ≡ o →
        bound_in (if b && is_some o then Some None else at_number bindings u) ≡ (if b then None else bound_at bindings u)
    go false e o f = refl
    go true e None f = ap bound_in (ap (at_number bindings) (grind (arith, nat_tests)) ∙ f)
    go true e (Some x) f = refl

-- of the threads 1 to n

abbrev fails_by : State → ℕ → ℕ → Bool
fails_by m n u = nat_le u n && has_lost_door m u

abbrev failed_where : Bool → Option Thread → Option Thread
failed_where b o = if b then option_map (thread_at_state is.FailedReturn) o else o

abbrev bound_where : Bool → Option ℕ → Option ℕ
bound_where b o = if b then None else o

record HaveFailed (m : State) (n : ℕ) (k : State) : Type 0 where
  thread : (u : ℕ) → thread_of k u ≡ failed_where (fails_by m n u) (thread_of m u)
  bound : (u : ℕ) → bound_of k u ≡ bound_where (fails_by m n u) (bound_of m u)
  doors : k.doors ≡ m.doors

none_first : (m : State) (u : ℕ) → fails_by m zero u ≡ false
none_first m u = go (has_lost_door m u) refl
  where
    go : (b : Bool) → has_lost_door m u ≡ b → nat_le u 0 && b ≡ false
    go false e = grind (arith, nat_tests)
    go true e = let h : (1 ≤ u) × (u ≤ length m.process_table.threads) = lost_within m u e in grind (arith, nat_tests)

-- the next one is as it was
next_is_same : (m : State) (n : ℕ) → fails_by m n (suc n) ≡ false
next_is_same m n = grind (arith, nat_tests)

next_fails : (m : State) (n u : ℕ) → has_lost_door m (suc n) ≡ true → fails_by m (suc n) u ≡ (if u == suc n then true else fails_by m n u)
next_fails m n u e = go (u == suc n) refl
  where
    go : (b : Bool) → (u == suc n) ≡ b → fails_by m (suc n) u ≡ (if b then true else fails_by m n u)
    go true h = let same : u ≡ suc n = grind (arith, nat_tests) in
        ap (λ k. nat_le k (suc n) && has_lost_door m k) same ∙ ap (λ b. nat_le (suc n) (suc n) && b) e ∙ grind (arith, nat_tests)
    go false h = ap (λ b. b && has_lost_door m u) (grind (arith, nat_tests))

next_stays : (m : State) (n u : ℕ) → has_lost_door m (suc n) ≡ false → fails_by m (suc n) u ≡ fails_by m n u
next_stays m n u e = go (u == suc n) refl
  where
    none : (b : Bool) → b && false ≡ false
    none true = refl
    none false = refl

    go : (b : Bool) → (u == suc n) ≡ b → fails_by m (suc n) u ≡ fails_by m n u
    go true h =
        let same : u ≡ suc n = grind (arith, nat_tests) in
        let lost : has_lost_door m u ≡ false = ap (has_lost_door m) same ∙ e in
        ap (λ b. nat_le u (suc n) && b) lost ∙ none (nat_le u (suc n)) ∙ sym (ap (λ b. nat_le u n && b) lost ∙ none (nat_le u n))
    go false h = ap (λ b. b && has_lost_door m u) (grind (arith, nat_tests))

fail_each-failed : (m : State) (n : ℕ) → HaveFailed m n (fail_each m n)
fail_each-failed m zero =
    record {
      thread = λ u. sym (ap (λ b. failed_where b (thread_of m u)) (none_first m u));
      bound = λ u. sym (ap (λ b. bound_where b (bound_of m u)) (none_first m u));
      doors = refl;
    }
fail_each-failed m (suc n) = go (has_lost_door m (suc n)) refl (fail_each m n) (fail_each-failed m n)
  where
    next_thread : (k : State) → HaveFailed m n k → thread_of k (suc n) ≡ thread_of m (suc n)
    next_thread k h = h.thread (suc n) ∙ ap (λ b. failed_where b (thread_of m (suc n))) (next_is_same m n)

    next_bound : (k : State) → HaveFailed m n k → bound_of k (suc n) ≡ bound_of m (suc n)
    next_bound k h = h.bound (suc n) ∙ ap (λ b. bound_where b (bound_of m (suc n))) (next_is_same m n)

    same : (k : State) → HaveFailed m n k → has_lost_door k (suc n) ≡ has_lost_door m (suc n)
    same k h = has_lost_door-same k m (suc n) (next_thread k h) (next_bound k h) h.doors

    thread_there :
        (k : State) → HaveFailed m n k → (u : ℕ) (b : Bool) → (u == suc n) ≡ b →
        failed_where b (if b then thread_of k (suc n) else thread_of k u)
        ≡ failed_where (if b then true else fails_by m n u) (thread_of m u)
    thread_there k h u true e =
        ap (option_map (thread_at_state is.FailedReturn)) (next_thread k h ∙ ap (thread_of m) (grind (arith, nat_tests)))
    thread_there k h u false e = h.thread u

    changed :
        (k : State) (u : ℕ) (b : Bool) →
        (if b then option_map (thread_at_state is.FailedReturn) (thread_of k (suc n)) else thread_of k u)
        ≡ failed_where b (if b then thread_of k (suc n) else thread_of k u)
    changed k u true = refl
    changed k u false = refl

    bound_there :
        (k : State) → HaveFailed m n k → (u : ℕ) (b : Bool) →
        (if b then None else bound_of k u) ≡ bound_where (if b then true else fails_by m n u) (bound_of m u)
    bound_there k h u true = refl
    bound_there k h u false = h.bound u

    failed : (k : State) → has_lost_door m (suc n) ≡ true → HaveFailed m n k → HaveFailed m (suc n) (fail_return k (suc n))
    failed k e h =
        record {
          thread =
              λ u.
              thread_at-change_thread k.process_table (suc n) u (thread_at_state is.FailedReturn)
              ∙ changed k u (u == suc n)
              ∙ thread_there k h u (u == suc n) refl
              ∙ sym (ap (λ b. failed_where b (thread_of m u)) (next_fails m n u e));
          bound =
              λ u.
              bound_at-unbind_thread k.bindings (suc n) u
              ∙ bound_there k h u (u == suc n)
              ∙ sym (ap (λ b. bound_where b (bound_of m u)) (next_fails m n u e));
          doors = h.doors;
        }

    stayed : (k : State) → has_lost_door m (suc n) ≡ false → HaveFailed m n k → HaveFailed m (suc n) k
    stayed k e h =
        record {
          thread = λ u. h.thread u ∙ sym (ap (λ b. failed_where b (thread_of m u)) (next_stays m n u e));
          bound = λ u. h.bound u ∙ sym (ap (λ b. bound_where b (bound_of m u)) (next_stays m n u e));
          doors = h.doors;
        }

    by : (k : State) (b c : Bool) → c ≡ b → has_lost_door m (suc n) ≡ b → HaveFailed m n k → HaveFailed m (suc n) (if c then fail_return k (suc n) else k)
    by k true true f e h = failed k e h
    by k false false f e h = stayed k e h
    by k true false f e h = absurd (true≢false (sym f))
    by k false true f e h = absurd (true≢false f)

    go : (b : Bool) → has_lost_door m (suc n) ≡ b → (k : State) → HaveFailed m n k → HaveFailed m (suc n) (fail_one k (suc n))
    go b e k h = by k b (has_lost_door k (suc n)) (same k h ∙ e) e h

-- of all threads

fails_of_all : (m : State) (u : ℕ) → fails_by m (length m.process_table.threads) u ≡ has_lost_door m u
fails_of_all m u = go (has_lost_door m u) refl
  where
    go : (b : Bool) → has_lost_door m u ≡ b → nat_le u (length m.process_table.threads) && b ≡ b
    go false e = grind (arith, nat_tests)
    go true e = let h : (1 ≤ u) × (u ≤ length m.process_table.threads) = lost_within m u e in grind (arith, nat_tests)

pub thread_of-fail_returns :
    (m : State) (u : ℕ) →
    thread_of (fail_returns m) u
    ≡ (if has_lost_door m u then option_map (thread_at_state is.FailedReturn) (thread_of m u) else thread_of m u)
thread_of-fail_returns m u =
    (fail_each-failed m (length m.process_table.threads)).thread u ∙ ap (λ b. failed_where b (thread_of m u)) (fails_of_all m u)

pub bound_of-fail_returns :
    (m : State) (u : ℕ) → bound_of (fail_returns m) u ≡ (if has_lost_door m u then None else bound_of m u)
bound_of-fail_returns m u =
    (fail_each-failed m (length m.process_table.threads)).bound u ∙ ap (λ b. bound_where b (bound_of m u)) (fails_of_all m u)

-- where a thread keeps its door, it is as it was
pub thread_of-not_failed : (m : State) (u : ℕ) → has_lost_door m u ≡ false → thread_of (fail_returns m) u ≡ thread_of m u
thread_of-not_failed m u e = thread_of-fail_returns m u ∙ ap (λ b. failed_where b (thread_of m u)) e

pub bound_of-not_failed : (m : State) (u : ℕ) → has_lost_door m u ≡ false → bound_of (fail_returns m) u ≡ bound_of m u
bound_of-not_failed m u e = bound_of-fail_returns m u ∙ ap (λ b. bound_where b (bound_of m u)) e

pub state_of-fail_returns :
    (m : State) (u : ℕ) → state_of (fail_returns m) u ≡ (if has_lost_door m u then is.FailedReturn else state_of m u)
state_of-fail_returns m u = ap state_in (thread_of-fail_returns m u) ∙ go (has_lost_door m u) refl
  where
    there : (o : Option Thread) → is_idle (state_in o) ≡ true → state_in (option_map (thread_at_state is.FailedReturn) o) ≡ is.FailedReturn
    there None e = absurd (true≢false (sym e))
    there (Some x) e = refl

    go :
        (b : Bool) → has_lost_door m u ≡ b → state_in (failed_where b (thread_of m u)) ≡ (if b then is.FailedReturn else state_of m u)
    go true e = there (thread_of m u) (lost_is_idle m u e)
    go false e = refl

-- the rest of the state

pub doors-fail_returns : (m : State) → (fail_returns m).doors ≡ m.doors
doors-fail_returns m = ap (λ (n : State). n.doors) (fail_returns-alone m)

-- no thread has lost its door then

pub has_lost_door-fail_returns : (m : State) (u : ℕ) → has_lost_door (fail_returns m) u ≡ false
has_lost_door-fail_returns m u = go (has_lost_door m u) refl
  where
    go : (b : Bool) → has_lost_door m u ≡ b → has_lost_door (fail_returns m) u ≡ false
    go true e =
        ap (λ s. is_idle s && has_invalid_door (fail_returns m) u)
        (state_of-fail_returns m u ∙ ap (λ b. if b then is.FailedReturn else state_of m u) e)
    go false e =
        has_lost_door-same (fail_returns m) m u (thread_of-not_failed m u e) (bound_of-not_failed m u e) (doors-fail_returns m) ∙ e
