-- The other threads of a process that wait for calls, as one of its threads forks: who they are, which items go, what becomes of threads,
-- and of the calls, one after the other.
use Rattle.std.proofs.Common.{◌≡◌, ℕ, zero, suc, ◌≤◌, ◌==◌, ◌&&◌, ◌||◌, not, Bool, true, false, if◌then◌else◌, List, [], ◌∷◌, ◌++◌, Option, Some, None, IfSome, find, flat_map, is_some, length, map, slice_get, refl, sym, ap, ap₂, ◌∙◌, true≢false, arith}
use Rattle.std.specs.List.{list_any}
use Rattle.std.proofs.lemmas.Bool.Decides.{nat_tests}
use Rattle.std.proofs.lemmas.List.Concat.{flat_map-cons}
use Rattle.std.proofs.lemmas.List.Folds.{list_any-append}
use Rattle.dk_base.specs.declared.limits.TheConstants.{THREADS_MAX}
use Rattle.dk_base.specs.declared.number.Tid.{Tid}
use Rattle.spec_records.specs.declared.record.CallStage.TheVariants as stage
use Rattle.spec_records.specs.declared.record.ThreadState.TheVariants as is
use Rattle.spec_records.specs.Words.{CallTree, ProcessTable, deserted_at, deserted_in, forking, interrupted_state, interrupted_where, is_calling, is_fellow_caller, is_queued_in, is_served_by, left_calls, left_thread_of, live_calls, numbers_where, process_in, state_in, thread_at, tid, waiting_call}
use Rattle.dk_base.proofs.NumbersWhere.{there-numbers_where}
use Rattle.spec_records.proofs.Lists.{numbered_within}
use Rattle.spec_kernel.specs.Types.{Call, CallStage, Door, Notice, Obj, Pool, Thread, ThreadState}
use Rattle.spec_kernel.specs.Words.{objects_in_call, objects_in_transit}
use Rattle.call_tree.specs.Words.{AreSound, PartsOfLeaving, and_one, calls_so_far, is_call, is_called_by, nothing_left, transit_at, transit_in}
use Rattle.call_tree.specs.declared.parts.Leave.TheVariants.{Interrupted}
use Rattle.fork_step.specs.Forking.{abandon_each, after_one, dropped_by_each}
use Rattle.law_pools.specs.Words.{leaves_queue}
use Rattle.law_pools.proofs.Readers.{same_number}
use Rattle.law_pools.proofs.WaitingLists.{both_true}
use Rattle.proc_table.specs.Words.{is_of}
use Rattle.dk_base.specs.declared.thread_set.ThreadSet.{ThreadSet}
use Rattle.dk_base.specs.Words.{has, with_thread}
use Rattle.exit_paths.specs.Words.{DropsTransit, deserted_in_call, is_call_of_any, transit}
use Rattle.exit_paths.proofs.CallersLeft.{or_false, stands}
use Rattle.exit_paths.proofs.DoorsLost.{no_notice, one_among}
use Rattle.exit_paths.proofs.QueuesLeft.{GoAs}
use Rattle.exit_paths.proofs.Transit.{abandoned_drops, drops_nothing, drops_then}
use Rattle.exit_paths.proofs.Walked.{untouched}

-- who they are

and_none : (a b : Bool) → (a && (b && false)) ≡ false
and_none true true = refl
and_none true false = refl
and_none false b = refl

and_false : (a : Bool) → (a && false) ≡ false
and_false true = refl
and_false false = refl

pub no_caller_zero : (table : ProcessTable) (t u : ℕ) → u ≡ 0 → is_fellow_caller table t u ≡ false
no_caller_zero table t zero e = and_none (not (0 == t)) (0 == process_in (thread_at table t))
no_caller_zero table t (suc u) e = absurd (omega arith)

-- none of another process is one
pub caller_of_own : (table : ProcessTable) (t u : ℕ) → is_of (process_in (thread_at table t)) (thread_at table u) ≡ false → is_fellow_caller table t u ≡ false
caller_of_own table t u e = go (thread_at table u) e
  where
    go : (o : Option Thread) → is_of (process_in (thread_at table t)) o ≡ false → (not (u == t) && ((process_in o == process_in (thread_at table t)) && is_calling (state_in o))) ≡ false
    go None f = and_none (not (u == t)) (0 == process_in (thread_at table t))
    go (Some x) f = ap (λ b. not (u == t) && (b && is_calling x.state)) f ∙ and_false (not (u == t))

calls_of : (table : ProcessTable) (t u : ℕ) → is_fellow_caller table t u ≡ true → is_calling (state_in (thread_at table u)) ≡ true
calls_of table t u e =
    (both_true (process_in (thread_at table u) == process_in (thread_at table t)) (is_calling (state_in (thread_at table u)))
    (both_true (not (u == t)) ((process_in (thread_at table u) == process_in (thread_at table t)) && is_calling (state_in (thread_at table u))) e).1).1

caller_within : (table : ProcessTable) (t u : ℕ) → is_fellow_caller table t u ≡ true → (1 ≤ u) × (u ≤ length table.threads)
caller_within table t u e = go (thread_at table u) refl (calls_of table t u e)
  where
    go : (o : Option Thread) → thread_at table u ≡ o → is_calling (state_in o) ≡ true → (1 ≤ u) × (u ≤ length table.threads)
    go None f g = cc
    go (Some x) f g = numbered_within table.threads u x f

-- one is put into a set

pub with_other : (set : ThreadSet) (t u : ℕ) (b : Bool) → (u ≡ t → ⊥) → with_thread set t b u ≡ has set u
with_other set t u b apart = go (u == t) refl
  where
    go : (c : Bool) → (u == t) ≡ c → (if c then b else has set u) ≡ has set u
    go true e = absurd (apart (same_number u t e))
    go false e = refl

pub with_here : (set : ThreadSet) (t u : ℕ) (b : Bool) → u ≡ t → with_thread set t b u ≡ b
with_here set t u b e = ap (λ c. if c then b else has set u) same
  where
    same : (u == t) ≡ true
    same = grind (arith, nat_tests)

-- the threads that are left so

calm : (s : ThreadState) → is_calling s ≡ true → interrupted_state s ≡ s
calm (is.Calling c) e = refl
calm _ e = cc

interrupted_same : (table : ProcessTable) (t : ℕ) (x : Thread) → thread_at table x.number ≡ Some x → interrupted_where (is_fellow_caller table t x.number) x ≡ x
interrupted_same table t x there = go (is_fellow_caller table t x.number) refl
  where
    go : (b : Bool) → is_fellow_caller table t x.number ≡ b → interrupted_where b x ≡ x
    go true e = ap (λ s. record x { state = s }) (calm x.state (sym (ap (λ o. is_calling (state_in o)) there) ∙ calls_of table t x.number e))
    go false e = refl

pub stays_forked :
    (touched : ThreadSet) (table : ProcessTable) (tree : CallTree) → AreSound tree → (t : ℕ) →
    ((u : ℕ) → is_fellow_caller table t u ≡ true →
    IfSome (deserted_in_call (find (is_called_by u) tree.calls)) (λ d. is_some (thread_at table d.server.0) ≡ true → has touched d.server.0 ≡ true)) →
    (now u : ℕ) (x : Thread) → x.number ≡ u → has touched u ≡ false → thread_at table u ≡ Some x → left_thread_of (forking table t) now tree.calls x ≡ x
stays_forked touched table tree sound t servers now u x n other there =
    ap (deserted_in (forking table t) now (find (is_served_by x.number) tree.calls)) (interrupted_same table t x (ap (thread_at table) n ∙ there))
    ∙ served (find (is_served_by x.number) tree.calls) refl
  where
    served : (o : Option Call) → find (is_served_by x.number) tree.calls ≡ o → deserted_in (forking table t) now o x ≡ x
    served None f = refl
    served (Some r) f = left (is_fellow_caller table t r.caller.0) refl
      where
        left : (b : Bool) → is_fellow_caller table t r.caller.0 ≡ b → deserted_in (forking table t) now (Some r) x ≡ x
        left false e = ap (λ b. if false || b then deserted_at now r.no_cancel r.stage x else x) e
        left true e =
            ap (λ b. if false || b then deserted_at now r.no_cancel r.stage x else x) e
            ∙ untouched touched table tree sound now u x n other there r f (servers r.caller.0 e)

-- the items that go

pub callers_go :
    (doors : List Door) (tree : CallTree) (notices : List Notice) → AreSound tree → (table : ProcessTable) (t : ℕ) (callers : ℕ → Bool) →
    ((u : ℕ) → callers u ≡ is_fellow_caller table t u) → GoAs (forking table t) doors tree.calls notices (is_call_of_any doors tree.calls callers THREADS_MAX)
callers_go doors tree notices sound table t callers those =
    record { calls_go = calls; notices_go = λ q i x at here. no_notice doors tree notices sound callers q x THREADS_MAX }
  where
    calls : (q : Pool) (i : ℕ) (r : Call) → slice_get tree.calls i ≡ Some r → is_queued_in doors q r ≡ true → is_call_of_any doors tree.calls callers THREADS_MAX q (waiting_call r) ≡ leaves_queue (forking table t) r
    calls q i r at here =
        let w = sound.thread (is_call r.number) r (stands 0 tree.made i tree.calls r sound.ascending at) in
        one_among doors tree notices sound callers q i r at here THREADS_MAX w.0 w.1 ∙ those r.caller.0 ∙ sym (or_false (is_fellow_caller table t r.caller.0))

-- the calls

abbrev after_all : (ℕ → Bool) → List Tid → ℕ → Bool
after_all test [] = test
after_all test (t ∷ ts) = after_all (and_one test t.0) ts

after_all_is : (test : ℕ → Bool) (ts : List Tid) (u : ℕ) → after_all test ts u ≡ (test u || list_any (λ t. u == t.0) ts)
after_all_is test [] u = sym (or_false (test u))
after_all_is test (t ∷ ts) u = after_all_is (and_one test t.0) ts u ∙ moved (u == t.0) (test u) (list_any (λ t. u == t.0) ts)
  where
    moved : (a b c : Bool) → ((a || b) || c) ≡ (b || (a || c))
    moved true true c = refl
    moved true false c = refl
    moved false b c = refl

any_number : (u : ℕ) (ds : List ℕ) → list_any (λ t. u == t.0) (map tid ds) ≡ list_any (λ e. e == u) ds
any_number u [] = refl
any_number u (d ∷ ds) = ap₂ (λ a b. a || b) (swap u d) (any_number u ds)
  where
    swap : (a b : ℕ) → (a == b) ≡ (b == a)
    swap a b = grind (arith, nat_tests)

none_where : (p : ℕ → Bool) (n u : ℕ) → p u ≡ false → list_any (λ e. e == u) (numbers_where p n) ≡ false
none_where p zero u e = refl
none_where p (suc n) u e =
    list_any-append (λ e. e == u) (numbers_where p n) (if p (suc n) then suc n ∷ [] else [])
    ∙ ap₂ (λ a b. a || b) (none_where p n u e) (last (p (suc n)) refl)
  where
    last : (b : Bool) → p (suc n) ≡ b → list_any (λ e. e == u) (if b then suc n ∷ [] else []) ≡ false
    last true f = by_number (suc n == u) refl
      where
        by_number : (c : Bool) → (suc n == u) ≡ c → (c || false) ≡ false
        by_number true g = absurd (true≢false (sym f ∙ ap p (same_number (suc n) u g) ∙ e))
        by_number false g = refl
    last false f = refl

any_where : (p : ℕ → Bool) (n u : ℕ) → (p u ≡ true → (1 ≤ u) × (u ≤ n)) → list_any (λ t. u == t.0) (map tid (numbers_where p n)) ≡ p u
any_where p n u within = any_number u (numbers_where p n) ∙ go (p u) refl
  where
    go : (b : Bool) → p u ≡ b → list_any (λ e. e == u) (numbers_where p n) ≡ b
    go true e = let w = within e in there-numbers_where p n u w.0 w.1 e
    go false e = none_where p n u e

module _ {tree : CallTree} (parts : PartsOfLeaving tree) where
  each_so_far :
      (test : ℕ → Bool) (ts : List Tid) →
      abandon_each (calls_so_far (record nothing_left { interrupted = test }) tree) ts ≡ calls_so_far (record nothing_left { interrupted = after_all test ts }) tree
  each_so_far test [] = refl
  each_so_far test (t ∷ ts) =
      ap (λ n. abandon_each n ts) (parts.interrupts (record nothing_left { interrupted = test }) t.0 (λ u. refl) (λ c. refl))
      ∙ each_so_far (and_one test t.0) ts

  pub forked_calls :
      (table : ProcessTable) (t : ℕ) (callers : ℕ → Bool) → ((u : ℕ) → callers u ≡ is_fellow_caller table t u) → length table.threads ≤ THREADS_MAX →
      abandon_each tree (map tid (numbers_where callers THREADS_MAX)) ≡ live_calls (left_calls (forking table t) tree)
  forked_calls table t callers those few =
      ap (λ n. abandon_each n ts) (sym parts.begins) ∙ each_so_far (λ u. false) ts
      ∙ parts.done (record nothing_left { interrupted = after_all (λ u. false) ts }) (forking table t) (λ u. refl) interrupted (λ u. refl) (λ p r e f. refl)
    where
      ts : List Tid
      ts = map tid (numbers_where callers THREADS_MAX)

      within : (u : ℕ) → callers u ≡ true → (1 ≤ u) × (u ≤ THREADS_MAX)
      within u e = let w = caller_within table t u (sym (those u) ∙ e) in (w.0, omega (arith, w.1, few))

      interrupted : (u : ℕ) → after_all (λ k. false) ts u ≡ is_fellow_caller table t u
      interrupted u = after_all_is (λ k. false) ts u ∙ any_where callers THREADS_MAX u (within u) ∙ those u

-- what leaves transit

pub each_drops : (tree : CallTree) (ts : List Tid) → DropsTransit tree.calls (abandon_each tree ts).calls (dropped_by_each tree ts)
each_drops tree [] = drops_nothing tree.calls
each_drops tree (t ∷ ts) = drops_then (abandoned_drops tree t.0 Interrupted (find (is_called_by t.0) tree.calls) refl) (each_drops (after_one tree t) ts)

pub as_in_transit : (rs : List Call) → flat_map transit_in rs ≡ transit rs
as_in_transit [] = refl
as_in_transit (r ∷ rs) =
    flat_map-cons transit_in r rs ∙ ap₂ (λ (xs ys : List Obj). xs ++ ys) (one r.stage) (as_in_transit rs) ∙ sym (flat_map-cons objects_in_call r rs)
  where
    one : (s : CallStage) → transit_at s r.objects ≡ objects_in_transit r s
    one stage.Queued = refl
    one (stage.Given u) = refl
    one (stage.Returned bytes objects) = refl
    one (stage.Entered u) = refl
    one (stage.Ended e) = refl
    one (stage.Answered k) = refl
    one stage.Gone = refl
