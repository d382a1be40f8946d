-- The spares of a process that begins stay Dormant at that event: it has made no door, and none of its threads is idle, so it needs none.
use Rattle.std.specs.Prelude.{ℕ, ◌≡◌, ◌==◌, ◌&&◌, ◌||◌, Option, Bool, true, false, if◌then◌else◌, not, Some, None, is_none, is_some}
use Rattle.std.specs.Option.{option_map}
use Rattle.std.proofs.Common.{refl, sym, ap, ap₂, true≢false, ◌∙◌, ⊎_elim}
use native.Mathlib.Omega.{arith}
use Rattle.std.proofs.lemmas.Bool.Decides.{nat_tests}
use Rattle.spec_kernel.specs.Types.{Item, Parked, Pid, Thread, ThreadState}
use Rattle.dk_base.specs.declared.object.Item.TheVariants as item
use Rattle.dk_base.specs.declared.request.Request.TheVariants as request
use Rattle.spec_records.specs.declared.pool.Pool.TheVariants.{Common}
use Rattle.spec_records.specs.declared.record.ThreadState.TheVariants as is
use Rattle.spec_records.specs.Words.{ProcessTable, change_thread, forking, has_common_door, is_fellow_caller, is_idle, is_pool, is_spare_in, pid, process_in, state_in, thread_at, thread_at_state}
use Rattle.spec_kernel.specs.Words.{State, bound_of, fail_return, fail_returns, fork, give, give_one, is_unborn_process, leave, make_notices, needs_spare, pick, pool_of, process_of, settle, state_of, step, thread_of, unless_refused, with_state}
use Rattle.spec_kernel.proofs.Moves.{IsFree}
use Rattle.spec_kernel.proofs.Settling.{KeptByFailing, KeptByGiving, KeptByMaking, KeptByNeeded, fail_returns-all, give-all, make_notices-all, start_spares-needed}
use Rattle.spec_kernel.proofs.Threads.{thread_at-change_thread}
use Rattle.law_states.specs.Invariant.{Invariant}
use Rattle.law_states.proofs.Picks.{IsParked, IsPick, parked_is, pick_is, pool_by}
use Rattle.law_runs.proofs.Forking.{fork_process_of, fork_rests, fork_state, was_unborn}
use Rattle.law_runs.proofs.OneThread.{leave_state, state_where, state-step}
use Rattle.law_runs.proofs.Parked.{loses_idle, other_thread, picked_idle, state_elsewhere}

-- a thread that turns to a state

turned_process :
    (table : ProcessTable) (t v : ℕ) (s : ThreadState) →
    process_in (thread_at (change_thread table t (thread_at_state s)) v) ≡ process_in (thread_at table v)
turned_process table t v s = ap process_in (thread_at-change_thread table t v (thread_at_state s)) ∙ go (v == t) refl
  where
    turned : (o : Option Thread) → process_in (option_map (thread_at_state s) o) ≡ process_in o
    turned None = refl
    turned (Some x) = refl

    go :
        (b : Bool) → (v == t) ≡ b →
        process_in (if b then option_map (thread_at_state s) (thread_at table t) else thread_at table v) ≡ process_in (thread_at table v)
    go false e = refl
    go true e =
        let same : t ≡ v = grind (arith, nat_tests) in
        turned (thread_at table t) ∙ ap (λ w. process_in (thread_at table w)) same

turned_not_idle :
    (table : ProcessTable) (t v : ℕ) (s : ThreadState) → is_idle s ≡ false → is_idle (state_in (thread_at table v)) ≡ false →
    is_idle (state_in (thread_at (change_thread table t (thread_at_state s)) v)) ≡ false
turned_not_idle table t v s f g = ap (λ o. is_idle (state_in o)) (thread_at-change_thread table t v (thread_at_state s)) ∙ go (v == t)
  where
    turned : (o : Option Thread) → is_idle (state_in (option_map (thread_at_state s) o)) ≡ false
    turned None = refl
    turned (Some x) = f

    go : (b : Bool) → is_idle (state_in (if b then option_map (thread_at_state s) (thread_at table t) else thread_at table v)) ≡ false
    go true = turned (thread_at table t)
    go false = g

-- settling, of a process of which no thread is idle after the act, and that has the common doors that it had

module _ (before s : State) (child u : ℕ) where
  record Rests (n : State) : Type 0 where
    process : (v : ℕ) → process_of n v ≡ process_of s v
    doors : n.doors ≡ s.doors
    not_idle : (v : ℕ) → process_of s v ≡ child → is_idle (state_of n v) ≡ false
    dormant : state_of n u ≡ is.Dormant

  turns :
      (n : State) (t : ℕ) (r : ThreadState) (o : State) → o.process_table ≡ change_thread n.process_table t (thread_at_state r) →
      o.doors ≡ n.doors → is_idle r ≡ false → (u == t) ≡ false → Rests n → Rests o
  turns n t r o e d f apart h =
      record {
        process = λ v. ap (λ table. process_in (thread_at table v)) e ∙ turned_process n.process_table t v r ∙ h.process v;
        doors = d ∙ h.doors;
        not_idle = λ v own. ap (λ table. is_idle (state_in (thread_at table v))) e ∙ turned_not_idle n.process_table t v r f (h.not_idle v own);
        dormant = ap (λ table. state_in (thread_at table u)) e ∙ state_elsewhere n.process_table t u (thread_at_state r) apart ∙ h.dormant;
      }

  makes : KeptByMaking Rests before
  makes n d l h = record { process = h.process; doors = h.doors; not_idle = h.not_idle; dormant = h.dormant }

  fails : KeptByFailing Rests
  fails n t l h =
      let idle = loses_idle n t l in
      turns n t is.FailedReturn (fail_return n t) refl refl refl (other_thread n u t _ _ h.dormant idle.1 (λ z. cc)) h

  gives : KeptByGiving Rests
  gives n w x p h = go w.item (other_thread n u x.thread.0 _ _ h.dormant (picked_idle n (pool_of n w.door) x p) (λ z. cc))
    where
      go : (i : Item) → (u == x.thread.0) ≡ false → Rests (give_one n i x.thread.0)
      go (item.Call c) apart = turns n x.thread.0 (is.Given (item.Call c)) (give_one n (item.Call c) x.thread.0) refl refl refl apart h
      go (item.Notice c) apart = turns n x.thread.0 (is.Given (item.Notice c)) (give_one n (item.Notice c) x.thread.0) refl refl refl apart h

  none_picked : (n : State) → Rests n → is_some (pick n (Common (pid child))) ≡ false
  none_picked n h = go (pick n (Common (pid child))) refl
    where
      of_pool : {q : ℕ} (b : Option ℕ) → is_pool (Common (pid child)) (pool_by q b) ≡ true → q ≡ child
      of_pool {q} None g = grind (arith, nat_tests)
      of_pool {q} (Some d) g = absurd (grind arith)

      go : (o : Option Parked) → pick n (Common (pid child)) ≡ o → is_some o ≡ false
      go None e = refl
      go (Some y) e =
          let i : IsPick n (Common (pid child)) y = pick_is n (Common (pid child)) y e in
          let k : IsParked n y.thread.0 y = parked_is n y.thread.0 y i.parked in
          let own : process_of n y.thread.0 ≡ child =
          of_pool (bound_of n y.thread.0) (ap (is_pool (Common (pid child))) (sym k.pool) ∙ i.of_pool)
          in
          absurd (true≢false (ap is_idle (sym k.idle) ∙ h.not_idle y.thread.0 (sym (h.process y.thread.0) ∙ own)))

  module _ (same : s.doors ≡ before.doors) where
    needs_none : (ungiven given : State) → Rests ungiven → Rests given → needs_spare before ungiven given child ≡ false
    needs_none ungiven given h g =
        ap₂ (λ a b. (not (has_common_door before.doors child) && a) || (b && is_none (pick given (Common (pid child)))))
        (ap (λ ds. has_common_door ds child) (g.doors ∙ same))
        (none_picked ungiven h)
        ∙ neither (has_common_door before.doors child)
      where
        neither : (b : Bool) → ((not b && b) || false) ≡ false
        neither true = refl
        neither false = refl

    starts : (ungiven given : State) → Rests ungiven → Rests given → process_of s u ≡ child → KeptByNeeded Rests before ungiven given
    starts ungiven given h g own n t d needs k = go (u == t) refl
      where
        go : (b : Bool) → (u == t) ≡ b → Rests (with_state n t is.Running)
        go false apart = turns n t is.Running (with_state n t is.Running) refl refl refl apart k
        go true here =
            let it : t ≡ u = grind (arith, nat_tests) in
            absurd
            (true≢false
            (sym needs
            ∙ ap (needs_spare before ungiven given) (ap (process_of n) it ∙ k.process u ∙ own)
            ∙ needs_none ungiven given h g))

    settle_rests : process_of s u ≡ child → Rests s → state_of (settle before s) u ≡ is.Dormant
    settle_rests own h =
        (start_spares-needed Rests before ungiven (give ungiven) (starts ungiven (give ungiven) failed given own) given).dormant
      where
        ungiven : State
        ungiven = fail_returns (make_notices before s)

        failed : Rests ungiven
        failed = fail_returns-all Rests fails (make_notices before s) (make_notices-all Rests before makes s h)

        given : Rests (give ungiven)
        given = give-all Rests gives ungiven failed

-- the spares of a child

module _ (m : State) (t : ℕ) (child : Pid) (h : Invariant m) (f : IsFree m t (request.Fork child)) where
  abbrev after : State
  after = (fork m t (process_of m t) child.0).state

  was_dormant : (v : ℕ) → process_of m v ≡ child.0 → state_of m v ≡ is.Dormant
  was_dormant v own = h.consistent.coherent.processes.unborn_dormant v (ap (is_unborn_process m) own ∙ was_unborn m child.0 f)

  -- no call of a Dormant thread is left
  left_dormant : (v : ℕ) → state_of m v ≡ is.Dormant → state_of (leave m (forking m.process_table t)) v ≡ is.Dormant
  left_dormant v e =
      leave_state m h v (forking m.process_table t) is.Dormant e (λ d. absurd (cc d)) (λ c d. absurd (cc d))
      ∙ go (is_fellow_caller m.process_table t v)
    where
      go : (b : Bool) → state_where b is.Dormant ≡ is.Dormant
      go true = refl
      go false = refl

  none_idle : (v : ℕ) → process_of after v ≡ child.0 → is_idle (state_of after v) ≡ false
  none_idle v own =
      ⊎_elim (λ e. ap is_idle (e ∙ left_dormant v (was_dormant v was))) (λ g. ap is_idle g.1)
      (fork_state m t (process_of m t) child.0 v h (was_unborn m child.0 f))
    where
      was : process_of m v ≡ child.0
      was = sym (fork_process_of m t (process_of m t) child.0 v) ∙ own

  pub spare_rests :
      (u : ℕ) → process_of m u ≡ child.0 → is_spare_in (thread_of m u) ≡ true →
      state_of (step m t (Some (request.Fork child))).state u ≡ is.Dormant
  spare_rests u own spare =
      state-step m t u (Some (request.Fork child))
      ∙ ap (λ o. state_of (settle m (unless_refused m o (fork m t (process_of m t) child.0)).state) u) f
      ∙ settle_rests m after child.0 u refl (fork_process_of m t (process_of m t) child.0 u ∙ own)
      (record {
        process = λ v. refl;
        doors = refl;
        not_idle = none_idle;
        dormant = fork_rests m t (process_of m t) child.0 u spare ∙ left_dormant u (was_dormant u own);
      })
