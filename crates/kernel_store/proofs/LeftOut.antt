-- After callers, threads and doors left, only threads that parked again are parked where something waits.
use Rattle.std.proofs.Common.{◌≡◌, ⊎_elim, inl, inr, ℕ, ◌<◌, ◌≤◌, ◌==◌, ◌&&◌, ◌||◌, Bool, true, false, not, if◌then◌else◌, List, [], ◌∷◌, Option, None, Some, slice_get, filter, length, map, refl, sym, subst, ap, ap₂, ◌∙◌, true≢false, arith}
use Rattle.std.proofs.lemmas.Bool.Decides.{nat_tests}
use Rattle.std.specs.List.{All, list_any}
use Rattle.std.proofs.lemmas.List.Elements.{All-map}
use Rattle.dk_base.specs.ByNumber.{at_number}
use Rattle.dk_base.specs.declared.limits.TheConstants.{THREADS_MAX}
use Rattle.dk_base.specs.declared.number.Tid.{Tid}
use Rattle.spec_records.specs.Words.{CallTree, Leaving, NoticeList, ProcessTable, bound_at, is_idle, is_pool, is_queued, is_queued_in, is_waiting_stage, kept_notices, left_call, left_calls, left_notice, left_notices, left_threads, live_calls, numbers_where, pool_in, process_in, state_in, thread_at, tid, waiting_call, waiting_notice}
use Rattle.dk_base.proofs.NumbersWhere.{all-numbers_where, there-numbers_where}
use Rattle.spec_records.proofs.Lists.{numbered_within}
use Rattle.spec_kernel.specs.Types.{Call, Door, Notice, Parked, Pool, Thread, Waiting}
use Rattle.dk_base.specs.declared.thread_set.ThreadSet.{ThreadSet}
use Rattle.dk_base.specs.Words.{has}
use Rattle.server_pool.specs.Words.{PoolsValue, is_waiting_call, queue_in, stack_in}
use Rattle.spec_kernel.proofs.Giving.{same_pool}
use Rattle.law_pools.specs.Words.{Agrees, IsGivenOut, IsListed, IsParkedIn, is_notice_waiting, is_waiting_notice_in, leaves_queue, notice_leaves_queue, pool_by, waiting_in}
use Rattle.law_pools.proofs.LeavingPools.{IsParkedSomewhere, idle_is_parked}
use Rattle.law_pools.proofs.Noticed.{waiting_kept}
use Rattle.law_pools.proofs.Queues.{waiting_live}
use Rattle.law_pools.proofs.Stacks.{not_parked}
use Rattle.law_pools.proofs.Unparking.{parked_in_own}
use Rattle.exit_paths.specs.Words.{became_idle, is_idle_at, threads_where}
use Rattle.exit_paths.proofs.LeftThreads.{process_kept}
use Rattle.kernel_store.specs.Frames.{AreIn, IsGivenOutToOthers}

-- what waits then waited before

either : (a b c : Bool) → ((a && c) && b) ≡ true → (a && b) ≡ true
either a b c e = grind arith

call_door : (who : Leaving) (r : Call) → (left_call who r).door ≡ r.door
call_door who r = grind (arith, nat_tests)

call_waits : (who : Leaving) (r : Call) → is_queued (left_call who r).stage ≡ (is_queued r.stage && not (leaves_queue who r))
call_waits who r = grind (arith, nat_tests)

queued_before :
    (who : Leaving) (doors : List Door) (pool : Pool) (r : Call) → is_queued_in doors pool (left_call who r) ≡ true → is_queued_in doors pool r ≡ true
queued_before who doors pool r e =
    either (is_queued r.stage) (is_pool pool (pool_in (at_number doors r.door))) (not (leaves_queue who r))
    (sym (ap₂ (λ b d. b && is_pool pool (pool_in (at_number doors d))) (call_waits who r) (call_door who r)) ∙ e)

notice_door : (who : Leaving) (n : Notice) → (left_notice who n).door ≡ n.door
notice_door who n = grind (arith, nat_tests)

notice_waits : (who : Leaving) (n : Notice) → is_waiting_stage (left_notice who n).stage ≡ (is_waiting_stage n.stage && not (notice_leaves_queue who n))
notice_waits who n = grind (arith, nat_tests)

waiting_before :
    (who : Leaving) (doors : List Door) (pool : Pool) (n : Notice) → is_waiting_notice_in doors pool (left_notice who n) ≡ true →
    is_waiting_notice_in doors pool n ≡ true
waiting_before who doors pool n e =
    either (is_waiting_stage n.stage) (is_pool pool (pool_in (at_number doors n.door))) (not (notice_leaves_queue who n))
    (sym (ap₂ (λ b d. b && is_pool pool (pool_in (at_number doors d))) (notice_waits who n) (notice_door who n)) ∙ e)

-- where none passed, none passes

none_passes :
    {X : Type 0} (p : X → Bool) (f : X → X) (item : X → Waiting) → ((x : X) → p (f x) ≡ true → p x ≡ true) → (xs : List X) →
    map item (filter p xs) ≡ [] → map item (filter p (map f xs)) ≡ []
none_passes p f item before [] e = refl
none_passes p f item before (x ∷ xs) e = go (none_passes p f item before xs) (p x) refl e (p (f x)) refl
  where
    go :
        (map item (filter p xs) ≡ [] → map item (filter p (map f xs)) ≡ []) → (b : Bool) → p x ≡ b →
        map item (if b then x ∷ filter p xs else filter p xs) ≡ [] → (c : Bool) → p (f x) ≡ c →
        map item (if c then f x ∷ filter p (map f xs) else filter p (map f xs)) ≡ []
    go ih true g h c k = cc
    go ih false g h true k = absurd (true≢false (sym (before x k) ∙ g))
    go ih false g h false k = ih h

-- a queue is empty where it has neither calls nor notices
empty_queue : (queue : List Waiting) → filter is_waiting_call queue ≡ [] → filter is_notice_waiting queue ≡ [] → queue ≡ []
empty_queue [] e f = refl
empty_queue (w ∷ ws) e f = go (is_waiting_call w) e f
  where
    go :
        (b : Bool) → (if b then w ∷ filter is_waiting_call ws else filter is_waiting_call ws) ≡ [] →
        (if not b then w ∷ filter is_notice_waiting ws else filter is_notice_waiting ws) ≡ [] → w ∷ ws ≡ []
    go true e f = cc
    go false e f = cc

none_of : (p : Waiting → Bool) (queue : List Waiting) → queue ≡ [] → filter p queue ≡ []
none_of p queue e = ap (filter p) e

module _
    (who : Leaving) (n now : ℕ) (before after : ProcessTable) (doors : List Door) (tree later : CallTree) (list : NoticeList) (v w : PoolsValue)
    (h : Agrees n before doors tree list v)
    (k : Agrees n after doors later (kept_notices doors (left_notices who list)) w)
    (threads : after ≡ left_threads who now tree.calls before) (calls : later ≡ live_calls (left_calls who tree)) (bindings : w.bindings ≡ v.bindings) where
  queue_left : (pool : Pool) → queue_in v pool ≡ [] → queue_in w pool ≡ []
  queue_left pool e =
      empty_queue (queue_in w pool)
      ((k.queues pool).calls_wait
      ∙ ap (λ (t : CallTree). waiting_in doors t.calls pool) calls
      ∙ waiting_live doors (map (left_call who) tree.calls) pool
      ∙ none_passes (is_queued_in doors pool) (left_call who) waiting_call (queued_before who doors pool) tree.calls
      (sym (h.queues pool).calls_wait ∙ none_of is_waiting_call (queue_in v pool) e))
      ((k.queues pool).notices_wait
      ∙ waiting_kept doors (map (left_notice who) list.notices) pool
      ∙ none_passes (is_waiting_notice_in doors pool) (left_notice who) waiting_notice (waiting_before who doors pool) list.notices
      (sym (h.queues pool).notices_wait ∙ none_of is_notice_waiting (queue_in v pool) e))

  module _ (set : ThreadSet) (idle : (t : ℕ) → became_idle before after t ≡ true → has set t ≡ true) where
    new_there : (pool : Pool) → stack_in v pool ≡ [] → AreIn set (stack_in w pool)
    new_there pool e i x there = idle x.thread.0 (became (is_idle_at before x.thread.0) refl)
      where
        its : IsParkedIn after w.bindings n pool x
        its = (k.stacks pool).parked i x there

        t : ℕ
        t = x.thread.0

        its_own : pool_by (process_in (thread_at before t)) (bound_at v.bindings t) ≡ pool
        its_own =
            ap₂ (λ p bs. pool_by p (bound_at bs t)) (sym (ap (λ table. process_in (thread_at table t)) threads ∙ process_kept who now tree.calls before t)) (sym bindings)
            ∙ sym (parked_in_own after w.bindings t x its.parked)
            ∙ sym (same_pool pool x.pool its.same_pool)

        none_there : is_idle_at before t ≡ true → ⊥
        none_there f =
            let p : IsParkedSomewhere before v.bindings t = idle_is_parked before v.bindings t f in
            let l : IsListed (stack_in v pool) p.record_of =
            (h.stacks pool).all t p.record_of p.parked (subst (λ q. is_pool q p.record_of.pool ≡ true) its_own p.own) in
            no_place l.place (ap (λ stack. slice_get stack l.place) (sym e) ∙ l.there)
          where
            no_place : {y : Parked} (j : ℕ) → slice_get [] j ≡ Some y → ⊥
            no_place j f = cc

        idle_now : is_idle_at after t ≡ true
        idle_now = go (is_idle_at after t) refl
          where
            go : (b : Bool) → is_idle_at after t ≡ b → b ≡ true
            go true f = refl
            go false f = let none = not_parked after w.bindings t f in let p = its.parked in cc

        became : (b : Bool) → is_idle_at before t ≡ b → (not b && is_idle_at after t) ≡ true
        became true f = absurd (none_there f)
        became false f = idle_now

    pub left_out : IsGivenOut v → (pool : Pool) → IsGivenOutToOthers set w pool
    left_out out pool = ⊎_elim (λ e. inl (new_there pool e)) (λ e. inr (queue_left pool e)) (out pool)

-- the set of the threads that are told

pub told_within : (test : ℕ → Bool) → All (λ (t : Tid). (0 < t.0) × (t.0 ≤ THREADS_MAX)) (threads_where test)
told_within test =
    All-map (λ (t : Tid). (0 < t.0) × (t.0 ≤ THREADS_MAX)) tid (numbers_where test THREADS_MAX)
    (λ k d l. let h = all-numbers_where test THREADS_MAX k d l in (omega (arith, h.1), h.2))

pub told_has : (test : ℕ → Bool) (t : ℕ) → 1 ≤ t → t ≤ THREADS_MAX → test t ≡ true → list_any (λ (u : Tid). u.0 == t) (threads_where test) ≡ true
told_has test t low high e = numbers (numbers_where test THREADS_MAX) ∙ there-numbers_where test THREADS_MAX t low high e
  where
    numbers : (ds : List ℕ) → list_any (λ (u : Tid). u.0 == t) (map tid ds) ≡ list_any (λ d. d == t) ds
    numbers [] = refl
    numbers (d ∷ ds) = ap (λ b. (d == t) || b) (numbers ds)

-- that it has all that became idle
pub has_idle :
    (before after : ProcessTable) (set : ThreadSet) → length after.threads ≤ THREADS_MAX →
    ((t : ℕ) → has set t ≡ list_any (λ (u : Tid). u.0 == t) (threads_where (became_idle before after))) → (t : ℕ) → became_idle before after t ≡ true → has set t ≡ true
has_idle before after set few is t e =
    let w = within (thread_at after t) refl (second (not (is_idle_at before t)) (is_idle_at after t) e) in
    is t ∙ told_has (became_idle before after) t w.0 (omega (arith, w.1, few)) e
  where
    second : (a b : Bool) → (a && b) ≡ true → b ≡ true
    second a b f = grind arith

    within : (o : Option Thread) → thread_at after t ≡ o → is_idle (state_in o) ≡ true → (1 ≤ t) × (t ≤ length after.threads)
    within None f g = cc
    within (Some x) f g = numbered_within after.threads t x f
