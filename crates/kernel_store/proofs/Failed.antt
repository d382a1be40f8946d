-- Idle threads that lost their doors wake in any order: all that do in the end are those of the definition, which goes by number.
use Rattle.std.proofs.Common.{◌≡◌, ℕ, suc, ◌==◌, ◌&&◌, Bool, true, false, if◌then◌else◌, List, [], ◌∷◌, Option, None, Some, is_some, option_map, slice_get, length, refl, sym, subst, ap, ap₂, ◌∙◌, true≢false, arith}
use Rattle.std.proofs.lemmas.Bool.Decides.{nat_tests}
use Rattle.dk_base.specs.ByNumber.{at_number}
use Rattle.spec_records.specs.declared.record.ThreadState.TheVariants as is
use Rattle.spec_records.specs.Words.{bound_in, is_idle, process_in, thread_at_state}
use Rattle.spec_kernel.specs.Types.{Thread}
use Rattle.spec_kernel.specs.Words.{State, bound_of, fail_return, fail_returns, has_invalid_door, has_lost_door, thread_of}
use Rattle.spec_records.proofs.Lists.{at_number-suc, at_number-with_at_number, length-with_at_number}
use Rattle.spec_kernel.proofs.Failing.{bound_of-fail_returns, has_lost_door-same, thread_of-fail_returns}
use Rattle.spec_kernel.proofs.Settling.{fail_returns-all, fail_returns-alone, with_threads}
use Rattle.spec_kernel.proofs.Threads.{processes-change_thread}
use Rattle.law_pools.specs.Words.{own_pool, pool_by}
use Rattle.law_pools.proofs.Stacks.{state_changed, thread_elsewhere, thread_there}

-- lists with the same items are the same

same_items : {X : Type 0} (xs ys : List X) → ((i : ℕ) → slice_get xs i ≡ slice_get ys i) → xs ≡ ys
same_items [] [] e = refl
same_items [] (y ∷ ys) e = let f = e 0 in cc
same_items (x ∷ xs) [] e = let f = e 0 in cc
same_items (x ∷ xs) (y ∷ ys) e =
    let f : Some x ≡ Some y = e 0 in
    let same : x ≡ y = cc in
    ap₂ (λ z zs. z ∷ zs) same (same_items xs ys (λ i. e (suc i)))

same_bindings :
    (xs ys : List (Option ℕ)) → length xs ≡ length ys → ((i : ℕ) → bound_in (slice_get xs i) ≡ bound_in (slice_get ys i)) → xs ≡ ys
same_bindings [] [] l e = refl
same_bindings [] (y ∷ ys) l e = cc
same_bindings (x ∷ xs) [] l e = cc
same_bindings (x ∷ xs) (y ∷ ys) l e = ap₂ (λ z zs. z ∷ zs) (e 0) (same_bindings xs ys (omega arith) (λ i. e (suc i)))

-- one thread wakes

abbrev failed : Bool → Option Thread → Option Thread
failed b o = if b then option_map (thread_at_state is.FailedReturn) o else o

abbrev unbound : Bool → Option ℕ → Option ℕ
unbound b o = if b then None else o

module _ (m : State) (t : ℕ) (lost : has_lost_door m t ≡ true) where
  abbrev k : State
  k = fail_return m t

  pub gone : has_lost_door k t ≡ false
  gone =
      ap (λ b. b && has_invalid_door k t)
      (state_changed m.process_table t (thread_at_state is.FailedReturn) is_idle refl (λ x. refl))

  thread_else : (u : ℕ) → (u == t) ≡ false → thread_of k u ≡ thread_of m u
  thread_else u e = thread_elsewhere m.process_table t u (thread_at_state is.FailedReturn) e

  bound_else : (u : ℕ) → (u == t) ≡ false → bound_of k u ≡ bound_of m u
  bound_else u e =
      ap bound_in
      (at_number-with_at_number m.bindings t u None
      ∙ ap (λ c. if c && is_some (at_number m.bindings t) then Some None else at_number m.bindings u) e)

  bound_here : bound_of k t ≡ None
  bound_here = ap bound_in (at_number-with_at_number m.bindings t t None) ∙ go (t == t) (grind (arith, nat_tests)) (at_number m.bindings t) refl
    where
      go :
          (b : Bool) → b ≡ true → (o : Option (Option ℕ)) → at_number m.bindings t ≡ o →
          bound_in (if b && is_some o then Some None else at_number m.bindings t) ≡ None
      go true e None f = ap bound_in f
      go true e (Some x) f = refl
      go false e o f = cc

  pub lost_else : (u : ℕ) → (u == t) ≡ false → has_lost_door k u ≡ has_lost_door m u
  lost_else u e = has_lost_door-same k m u (thread_else u e) (bound_else u e) refl

  own_else : (u : ℕ) → (u == t) ≡ false → own_pool k u ≡ own_pool m u
  own_else u e = ap₂ (λ o b. pool_by (process_in o) b) (thread_else u e) (bound_else u e)

  -- who has lost a door then had lost it before
  pub still_lost : (u : ℕ) → has_lost_door k u ≡ true → (has_lost_door m u ≡ true) × (own_pool k u ≡ own_pool m u)
  still_lost u e = go (u == t) refl
    where
      go : (b : Bool) → (u == t) ≡ b → (has_lost_door m u ≡ true) × (own_pool k u ≡ own_pool m u)
      go true f =
          let same : u ≡ t = grind (arith, nat_tests) in
          absurd (true≢false (sym e ∙ ap (has_lost_door k) same ∙ gone))
      go false f = (sym (lost_else u f) ∙ e, own_else u f)

  -- and those that wake in all are the same

  threads_same : (u : ℕ) → thread_of (fail_returns k) u ≡ thread_of (fail_returns m) u
  threads_same u = thread_of-fail_returns k u ∙ go (u == t) refl ∙ sym (thread_of-fail_returns m u)
    where
      go : (b : Bool) → (u == t) ≡ b → failed (has_lost_door k u) (thread_of k u) ≡ failed (has_lost_door m u) (thread_of m u)
      go true f =
          subst (λ v. failed (has_lost_door k v) (thread_of k v) ≡ failed (has_lost_door m v) (thread_of m v)) (here f)
          (ap (λ b. failed b (thread_of k t)) gone
          ∙ thread_there m.process_table t (thread_at_state is.FailedReturn)
          ∙ sym (ap (λ b. failed b (thread_of m t)) lost))
        where
          here : (u == t) ≡ true → t ≡ u
          here e = grind (arith, nat_tests)
      go false f = ap₂ failed (lost_else u f) (thread_else u f)

  bounds_same : (u : ℕ) → bound_of (fail_returns k) u ≡ bound_of (fail_returns m) u
  bounds_same u = bound_of-fail_returns k u ∙ go (u == t) refl ∙ sym (bound_of-fail_returns m u)
    where
      go : (b : Bool) → (u == t) ≡ b → unbound (has_lost_door k u) (bound_of k u) ≡ unbound (has_lost_door m u) (bound_of m u)
      go true f =
          subst (λ v. unbound (has_lost_door k v) (bound_of k v) ≡ unbound (has_lost_door m v) (bound_of m v)) (here f)
          (ap (λ b. unbound b (bound_of k t)) gone ∙ bound_here ∙ sym (ap (λ b. unbound b (bound_of m t)) lost))
        where
          here : (u == t) ≡ true → t ≡ u
          here e = grind (arith, nat_tests)
      go false f = ap₂ unbound (lost_else u f) (bound_else u f)

  processes_same : (fail_returns k).process_table.processes ≡ (fail_returns m).process_table.processes
  processes_same = kept k ∙ processes-change_thread m.process_table t (thread_at_state is.FailedReturn) ∙ sym (kept m)
    where
      kept : (n : State) → (fail_returns n).process_table.processes ≡ n.process_table.processes
      kept n =
          fail_returns-all (λ s. s.process_table.processes ≡ n.process_table.processes)
          (λ s u l e. processes-change_thread s.process_table u (thread_at_state is.FailedReturn) ∙ e) n refl

  tables_same : (fail_returns k).process_table ≡ (fail_returns m).process_table
  tables_same =
      ap₂ (λ ps ts. record { processes = ps; threads = ts }) processes_same
      (same_items (fail_returns k).process_table.threads (fail_returns m).process_table.threads
      (λ i.
      sym (at_number-suc (fail_returns k).process_table.threads i) ∙ threads_same (suc i) ∙ at_number-suc (fail_returns m).process_table.threads i))

  bindings_same : (fail_returns k).bindings ≡ (fail_returns m).bindings
  bindings_same =
      same_bindings (fail_returns k).bindings (fail_returns m).bindings
      (many k ∙ length-with_at_number m.bindings t None ∙ sym (many m))
      (λ i.
      ap bound_in (sym (at_number-suc (fail_returns k).bindings i)) ∙ bounds_same (suc i) ∙ ap bound_in (at_number-suc (fail_returns m).bindings i))
    where
      many : (n : State) → length (fail_returns n).bindings ≡ length n.bindings
      many n =
          fail_returns-all (λ s. length s.bindings ≡ length n.bindings)
          (λ s u l e. length-with_at_number s.bindings u None ∙ e) n refl

  pub fails_first : fail_returns k ≡ fail_returns m
  fails_first = fail_returns-alone k ∙ ap₂ (λ a b. with_threads m a b) tables_same bindings_same ∙ sym (fail_returns-alone m)
