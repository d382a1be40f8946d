-- Where the threads are that have lost their doors by the act of a turn: they park in the pool that it touches, or parked again by it since
-- their callers left.
use Rattle.std.proofs.Common.{◌≡◌, ◌⊎◌, inl, inr, ⊎_elim, ℕ, ◌==◌, ◌&&◌, Bool, true, false, not, if◌then◌else◌, find, Option, None, Some, option_map, refl, sym, subst, ap, ◌∙◌, true≢false, arith}
use Rattle.std.proofs.lemmas.Bool.Decides.{nat_tests}
use Rattle.dk_base.specs.ByNumber.{at_number}
use Rattle.dk_base.specs.declared.object.Item.TheVariants as item
use Rattle.spec_records.specs.declared.pool.Pool.TheVariants.{Private}
use Rattle.spec_records.specs.declared.pool.TheConstants.{LOST_DOOR}
use Rattle.spec_records.specs.declared.record.ThreadState.TheVariants as is
use Rattle.spec_records.specs.Words.{Leaving, ProcessTable, change_thread, deserted_in, ended_thread, idle_thread, interrupted_where, is_idle, is_owned_by, is_pool, is_served_by, is_valid_in, left_thread_of, left_threads, process_end, process_in, revoke_door, revoked_door, state_in, thread_at, thread_at_state, thread_in_invocation, with_ended, with_owner_ended}
use Rattle.spec_records.proofs.Lists.{at_number-map}
use Rattle.spec_kernel.specs.Types.{Door, Pool, Process, Request, Thread}
use Rattle.spec_kernel.specs.Words.{ActResult, State, act, bound_of, door_at, fork, has_invalid_door, has_lost_door, is_bound_to_invalid, leave, leave_process, now, process_of, revoke, state_of, thread_of}
use Rattle.spec_kernel.proofs.Doors.{at_number-change_door}
use Rattle.spec_kernel.proofs.Failing.{has_lost_door-same}
use Rattle.spec_kernel.proofs.Moves.{IsBinding, IsTurn, Moves, act_moves}
use Rattle.law_states.specs.Events.{is_leaving}
use Rattle.law_pools.specs.Words.{own_pool, pool_by}
use Rattle.law_pools.proofs.Readers.{is_pool-self, same_number}
use Rattle.law_pools.proofs.Stacks.{thread_elsewhere, thread_there}
use Rattle.kernel_store.specs.Words.{ArePlaced}
use Rattle.kernel_core.specs.Entries.{touched_by}
use Rattle.kernel_core.proofs.FirstRuns.{bound_or_runs}

abbrev pub may_lose : Option Request → Bool
may_lose None = true
may_lose (Some r) = is_leaving r

-- in the pool that is touched; by an entry it may be idle since then
abbrev pub IsFound : State → ℕ → Option Request → State → ℕ → Type 0
IsFound m t None n u = is_pool (own_pool m t) (own_pool n u) ≡ true
IsFound m t (Some r) n u = (is_pool (touched_by m t r) (own_pool n u) ≡ true) ⊎ (is_idle (state_of m u) ≡ false)

both_of : (a b : Bool) → (a && b) ≡ true → (a ≡ true) × (b ≡ true)
both_of a b e = (grind arith, grind arith)

and_both : (a b : Bool) → a ≡ true → b ≡ true → (a && b) ≡ true
and_both a b e f = grind arith

module _ (m : State) (none : (v : ℕ) → has_lost_door m v ≡ false) where
  -- its own thread changes, and stays in its process
  changed_loses :
      (t : ℕ) (change : Thread → Thread) (u : ℕ) → ((x : Thread) → (change x).process.0 ≡ x.process.0) →
      has_lost_door (record m { process_table = change_thread m.process_table t change }) u ≡ true →
      is_pool (own_pool m t) (own_pool (record m { process_table = change_thread m.process_table t change }) u) ≡ true
  changed_loses t change u keeps e = go (u == t) refl
    where
      n : State
      n = record m { process_table = change_thread m.process_table t change }

      process : (o : Option Thread) → process_in (option_map change o) ≡ process_in o
      process None = refl
      process (Some x) = keeps x

      go : (b : Bool) → (u == t) ≡ b → is_pool (own_pool m t) (own_pool (record m { process_table = change_thread m.process_table t change }) u) ≡ true
      go true f =
          subst (λ k. is_pool (own_pool m t) (own_pool (record m { process_table = change_thread m.process_table t change }) k) ≡ true) (sym (same_number u t f))
          (ap (λ p. is_pool (own_pool m t) (pool_by p (bound_of m t))) (ap process_in (thread_there m.process_table t change) ∙ process (thread_of m t))
          ∙ is_pool-self (own_pool m t))
      go false f =
          absurd
          (true≢false
          (sym e
          ∙ has_lost_door-same (record m { process_table = change_thread m.process_table t change }) m u (thread_elsewhere m.process_table t u change f) refl refl
          ∙ none u))

  -- who was idle before had a valid door
  was_valid : (u : ℕ) → is_idle (state_of m u) ≡ true → has_invalid_door m u ≡ false
  was_valid u e = go (has_invalid_door m u) refl
    where
      go : (b : Bool) → has_invalid_door m u ≡ b → b ≡ false
      go true f = absurd (true≢false (sym (and_both (is_idle (state_of m u)) (has_invalid_door m u) e f) ∙ none u))
      go false f = refl

  -- no door became invalid
  stays_valid : (n : State) (u : ℕ) (pool : Pool) → has_invalid_door n u ≡ has_invalid_door m u → has_lost_door n u ≡ true → (is_pool pool (own_pool n u) ≡ true) ⊎ (is_idle (state_of m u) ≡ false)
  stays_valid n u pool same e = go (is_idle (state_of m u)) refl
    where
      go : (b : Bool) → is_idle (state_of m u) ≡ b → (is_pool pool (own_pool n u) ≡ true) ⊎ (is_idle (state_of m u) ≡ false)
      go true f = absurd (true≢false (sym (both_of (is_idle (state_of n u)) (has_invalid_door n u) e).1 ∙ same ∙ was_valid u f))
      go false f = inr f

  -- a child begins
  fork_loses : (t p child u : ℕ) → has_lost_door (fork m t p child).state u ≡ true → is_idle (state_of m u) ≡ false
  fork_loses t p child u e = go (is_idle (state_of m u)) refl
    where
      n : State
      n = (fork m t p child).state

      invalid : (b : Option ℕ) → is_bound_to_invalid (fork m t p child).state b ≡ is_bound_to_invalid m b
      invalid None = refl
      invalid (Some d) = refl

      go : (b : Bool) → is_idle (state_of m u) ≡ b → b ≡ false
      go true f =
          let lost = both_of (is_idle (state_of n u)) (has_invalid_door n u) e in
          absurd
          (true≢false
          (⊎_elim (λ same. sym lost.1 ∙ invalid (bound_of n u) ∙ ap (is_bound_to_invalid m) same ∙ was_valid u f) (λ runs. sym lost.0 ∙ ap is_idle runs)
          (bound_or_runs m t p child u)))
      go false f = refl

  -- one door is revoked
  revoked_loses :
      (p : ℕ) (d : ℕ) (n : State) (u : ℕ) → n.doors ≡ revoke_door m.doors d → n.bindings ≡ m.bindings → has_lost_door n u ≡ true →
      (is_pool (Private d) (own_pool n u) ≡ true) ⊎ (is_idle (state_of m u) ≡ false)
  revoked_loses p d n u doors bindings e = go (is_idle (state_of m u)) refl
    where
      by_door : (b : Option ℕ) → is_bound_to_invalid m b ≡ false → is_bound_to_invalid n b ≡ true → is_pool (Private d) (pool_by (process_of n u) b) ≡ true
      by_door None f g = cc
      by_door (Some k) f g = by (k == d) refl
        where
          by : (c : Bool) → (k == d) ≡ c → (d == k) ≡ true
          by true h = grind (arith, nat_tests)
          by false h =
              let there : at_number n.doors k ≡ at_number m.doors k =
              ap (λ ds. at_number ds k) doors ∙ at_number-change_door m.doors d k revoked_door
              ∙ ap (λ c. if c then option_map revoked_door (at_number m.doors d) else at_number m.doors k) h in
              absurd (true≢false (sym g ∙ ap (λ o. not (is_valid_in o)) there ∙ f))

      bound : bound_of n u ≡ bound_of m u
      bound = ap (λ bs. bound_of (record m { bindings = bs }) u) bindings

      go : (b : Bool) → is_idle (state_of m u) ≡ b → (is_pool (Private d) (own_pool n u) ≡ true) ⊎ (is_idle (state_of m u) ≡ false)
      go true f =
          inl
          (ap (λ b. is_pool (Private d) (pool_by (process_of n u) b)) bound
          ∙ by_door (bound_of m u) (was_valid u f)
          (ap (is_bound_to_invalid n) (sym bound) ∙ (both_of (is_idle (state_of n u)) (has_invalid_door n u) e).1))
      go false f = inr f

  -- a process ends: threads that are bound to its doors are its own, and end
  module _ (placed : ArePlaced m) where
    ended_loses : (p u : ℕ) → has_lost_door (leave_process m p) u ≡ true → is_idle (state_of m u) ≡ false
    ended_loses p u e = go (is_idle (state_of m u)) refl
      where
        who : Leaving
        who = process_end m.process_table m.doors p

        n : State
        n = leave_process m p

        threads_kept : (o : Option Process) (table : ProcessTable) → thread_at (with_ended table p o) u ≡ thread_at table u
        threads_kept None table = refl
        threads_kept (Some x) table = refl

        thread_is : thread_of n u ≡ option_map (left_thread_of who (now m) m.call_tree.calls) (thread_of m u)
        thread_is =
            threads_kept (at_number m.process_table.processes p) (left_threads who (now m) m.call_tree.calls m.process_table)
            ∙ at_number-map (left_thread_of who (now m) m.call_tree.calls) m.process_table.threads u

        ends : (o : Option Thread) → thread_of m u ≡ o → (process_of m u == p) ≡ true → is_idle (state_in (option_map (left_thread_of who (now m) m.call_tree.calls) o)) ≡ false
        ends None f g = refl
        ends (Some x) f g =
            let number : x.number ≡ u = placed.thread_number u x f in
            let over : who.ends x.number ≡ true = ap (λ k. process_of m k == p) number ∙ g in
            ap (λ b. is_idle (if b then ended_thread x else deserted_in who (now m) (find (is_served_by x.number) m.call_tree.calls) (interrupted_where (who.interrupts x.number) x)).state) over

        by_door : (b : Option ℕ) → bound_of m u ≡ b → is_bound_to_invalid m b ≡ false → is_bound_to_invalid n b ≡ true → (process_of m u == p) ≡ true
        by_door None f g h = cc
        by_door (Some k) f g h =
            owner (at_number m.doors k) (placed.bound_own u k f (is_there (k == LOST_DOOR) refl)) g (ap (λ o. not (is_valid_in o)) (sym (at_number-map (with_owner_ended p) m.doors k)) ∙ h)
          where
            -- the lost door is not valid
            is_there : (c : Bool) → (k == LOST_DOOR) ≡ c → c ≡ false
            is_there true i =
                let lost : LOST_DOOR ≡ k = grind (arith, nat_tests) in absurd (true≢false (ap (λ j. is_bound_to_invalid m (Some j)) lost ∙ g))
            is_there false i = refl

            owner :
                (o : Option Door) → is_owned_by (process_of m u) o ≡ true → not (is_valid_in o) ≡ false → not (is_valid_in (option_map (with_owner_ended p) o)) ≡ true →
                (process_of m u == p) ≡ true
            owner None a b c = cc
            owner (Some x) a b c = grind (arith, nat_tests, a, b, c)

        go : (b : Bool) → is_idle (state_of m u) ≡ b → b ≡ false
        go true f =
            let h = both_of (is_idle (state_of n u)) (has_invalid_door n u) e in
            absurd
            (true≢false
            (sym h.0 ∙ ap (λ o. is_idle (state_in o)) thread_is ∙ ends (thread_of m u) refl (by_door (bound_of m u) refl (was_valid u f) h.1)))
        go false f = refl

    move_loses : (t : ℕ) (q : Option Request) (a : ActResult) (u : ℕ) → may_lose q ≡ true → Moves m t q a → has_lost_door a.state u ≡ true → IsFound m t q a.state u
    move_loses t q a u may (Moves.bound r o (IsBinding.binds fd f)) e = cc
    move_loses t q a u may (Moves.bound r o (IsBinding.unbinds f)) e = cc
    move_loses t q a u may (Moves.parameter fd x value f) e = cc
    move_loses t q a u may (Moves.makes entry cookie attrs f) e = cc
    move_loses t q a u may (Moves.turns s x w (IsTurn.awaits path i)) e = cc
    move_loses t q a u may (Moves.turns s x w (IsTurn.starts_work op input)) e = cc
    move_loses t q a u may (Moves.turns s x w (IsTurn.waits_for_one fd wait i j)) e = cc
    move_loses t q a u may (Moves.turns s x w (IsTurn.waits_for_many fd max nget wait i j k)) e = cc
    move_loses t None a u may (Moves.turns s x w i) e = changed_loses t (thread_at_state s) u (λ y. refl) e
    move_loses t q a u may (Moves.calls fd bytes pass rsize f) e = cc
    move_loses t q a u may (Moves.returns bytes pass f g) e = cc
    move_loses t q a u may (Moves.returns_unbound bytes pass f g) e = cc
    move_loses t None a u may (Moves.enters r i room) e = changed_loses t (thread_in_invocation (item.Call r.number)) u (λ x. refl) e
    move_loses t None a u may (Moves.fails r i full) e = changed_loses t (idle_thread (now m)) u (λ x. refl) e
    move_loses t None a u may (Moves.enters_notice x i) e = changed_loses t (thread_in_invocation (item.Notice x.number)) u (λ y. refl) e
    move_loses t None a u may (Moves.collects c i) e = changed_loses t (thread_at_state is.Running) u (λ x. refl) e
    move_loses t None a u may (Moves.retrieves port max nget one i) e = changed_loses t (thread_at_state is.Running) u (λ x. refl) e
    move_loses t q a u may (Moves.leaves r who i) e = stays_valid (leave m who) u (touched_by m t r) refl e
    move_loses t q a u may (Moves.revokes fd f) e =
        revoked_loses (process_of m t) (door_at m (process_of m t) fd) (revoke m (process_of m t) fd).state u refl refl e
    move_loses t q a u may (Moves.ends r p i) e = inr (ended_loses p u e)
    move_loses t q a u may (Moves.forks child f) e = inr (fork_loses t (process_of m t) child.0 u e)
    move_loses t q a u may _ e = absurd (true≢false (sym e ∙ none u))

    pub act_loses : (t : ℕ) (q : Option Request) → may_lose q ≡ true → (u : ℕ) → has_lost_door (act m t q).state u ≡ true → IsFound m t q (act m t q).state u
    act_loses t q may u e = move_loses t q (act m t q) u may (act_moves m t q) e
