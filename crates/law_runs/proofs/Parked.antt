-- A thread whose accept fails is parked, and after the event is idle, was given another item, or, where its door is not valid,
-- was unbound and will be told so.
use Rattle.std.specs.Prelude.{ℕ, ◌≡◌, ◌==◌, ◌&&◌, List, Option, Bool, true, false, if◌then◌else◌, Some, None, is_some}
use Rattle.std.specs.Option.{option_map}
use Rattle.std.proofs.Common.{refl, sym, ap, subst, ◌∙◌}
use native.Mathlib.Omega.{arith}
use Rattle.std.proofs.lemmas.Bool.Decides.{nat_tests}
use Rattle.spec_kernel.specs.Types.{Call, Item, Parked, Pool, Request, Thread, ThreadState}
use Rattle.dk_base.specs.declared.object.Item.TheVariants as item
use Rattle.dk_base.specs.declared.answer.Answer.TheVariants as answer
use Rattle.dk_base.specs.ByNumber.{at_number}
use Rattle.spec_records.specs.declared.record.ThreadState.TheVariants as is
use Rattle.spec_records.specs.Words.{ProcessTable, bound_at, bound_in, change_thread, is_given_as, is_idle, state_in, thread_at, unbind_thread}
use Rattle.spec_kernel.specs.Words.{State, accept_call, act, begin_call, bound_of, fail_begin, fail_return, fail_returns, find_call, give_one, go_on, has_invalid_door, has_lost_door, has_room, is_bound_to_invalid, make_notices, now, pick, pool_of, process_of, settle, settle_pools, tell, state_of, step, thread_of, with_event_counted, with_state}
use Rattle.spec_records.proofs.Lists.{at_number-with_at_number}
use Rattle.spec_kernel.proofs.Failing.{bound_of-fail_returns, state_of-fail_returns}
use Rattle.spec_kernel.proofs.Settling.{KeptByFailing, KeptByGiving, KeptByMaking, KeptByStarting, give_and_start-all, has_lost_door-make_notices, settle-all, with_notice_of}
use Rattle.spec_kernel.proofs.Threads.{thread_at-change_thread}
use Rattle.law_states.proofs.Picks.{parked_is, pick_is}
use Rattle.law_places.proofs.ReturnRefusals.{not_both}

-- a change of one thread

pub state_elsewhere :
    (table : ProcessTable) (t u : ℕ) (change : Thread → Thread) → (u == t) ≡ false →
    state_in (thread_at (change_thread table t change) u) ≡ state_in (thread_at table u)
state_elsewhere table t u change e =
    ap state_in (thread_at-change_thread table t u change)
    ∙ ap (λ (b : Bool). state_in (if b then option_map change (thread_at table t) else thread_at table u)) e

pub state_there :
    (table : ProcessTable) (t u : ℕ) (change : Thread → Thread) (x : Thread) → (u == t) ≡ true → thread_at table t ≡ Some x →
    state_in (thread_at (change_thread table t change) u) ≡ (change x).state
state_there table t u change x e f =
    ap state_in (thread_at-change_thread table t u change)
    ∙ ap (λ (b : Bool). state_in (if b then option_map change (thread_at table t) else thread_at table u)) e
    ∙ ap (λ (o : Option Thread). state_in (option_map change o)) f

-- a thread that is not Done is there
pub record IsThread (m : State) (t : ℕ) : Type 0 where
  pub thread : Thread
  pub there : thread_of m t ≡ Some thread

pub is_thread : (m : State) (t : ℕ) → (state_of m t ≡ is.Done → ⊥) → IsThread m t
is_thread m t h = go (thread_of m t) refl
  where
    go : (o : Option Thread) → thread_of m t ≡ o → IsThread m t
    go None e = absurd (h (ap state_in e))
    go (Some x) e = record { thread = x; there = e }

-- a thread in another state than one that is picked, or starts, is another thread
pub other_thread : (m : State) (t u : ℕ) (s r : ThreadState) → state_of m t ≡ s → state_of m u ≡ r → (s ≡ r → ⊥) → (t == u) ≡ false
other_thread m t u s r e f h = go (t == u) refl
  where
    go : (b : Bool) → (t == u) ≡ b → b ≡ false
    go false g = refl
    go true g =
        let same : t ≡ u = grind (arith, nat_tests) in
        absurd (h (sym e ∙ ap (state_of m) same ∙ f))

pub given_state : (m : State) (i : Item) (u t : ℕ) → (t == u) ≡ false → state_of (give_one m i u) t ≡ state_of m t
given_state m (item.Call c) u t e = state_elsewhere m.process_table u t _ e
given_state m (item.Notice n) u t e = state_elsewhere m.process_table u t _ e

pub given_bound : (m : State) (i : Item) (u t : ℕ) → bound_of (give_one m i u) t ≡ bound_of m t
given_bound m (item.Call c) u t = refl
given_bound m (item.Notice n) u t = refl

given_here : (m : State) (i : Item) (u t : ℕ) → IsThread m u → (t == u) ≡ true → state_of (give_one m i u) t ≡ is.Given i
given_here m (item.Call c) u t h e = state_there m.process_table u t _ h.thread e h.there
given_here m (item.Notice n) u t h e = state_there m.process_table u t _ h.thread e h.there

given_door : (m : State) (i : Item) (u t : ℕ) → has_invalid_door (give_one m i u) t ≡ has_invalid_door m t
given_door m (item.Call c) u t = refl
given_door m (item.Notice n) u t = refl

-- a thread that is picked is idle
pub picked_idle : (m : State) (pool : Pool) (x : Parked) → pick m pool ≡ Some x → state_of m x.thread.0 ≡ is.Idle x.since
picked_idle m pool x e = (parked_is m x.thread.0 x (pick_is m pool x e).parked).idle

idle_is : (s : ThreadState) → is_idle s ≡ true → (since : ℕ) × (s ≡ is.Idle since)
idle_is (is.Idle since) e = (since, refl)
idle_is _ e = absurd (cc e)

both : (a b : Bool) → (a && b) ≡ true → (a ≡ true) × (b ≡ true)
both true true e = (refl, refl)
both true false e = absurd (cc e)
both false b e = absurd (cc e)

-- one that loses its door is idle, and its door is not valid
pub loses_idle : (m : State) (t : ℕ) → has_lost_door m t ≡ true → (since : ℕ) × (state_of m t ≡ is.Idle since)
loses_idle m t e = idle_is (state_of m t) (both (is_idle (state_of m t)) (has_invalid_door m t) e).0

pub loses_door : (m : State) (t : ℕ) → has_lost_door m t ≡ true → has_invalid_door m t ≡ true
loses_door m t e = (both (is_idle (state_of m t)) (has_invalid_door m t) e).1

-- failing, of another thread and of this one

pub bound_elsewhere : (bindings : List (Option ℕ)) (u t : ℕ) → (t == u) ≡ false → bound_at (unbind_thread bindings u) t ≡ bound_at bindings t
bound_elsewhere bindings u t e =
    ap bound_in
    (at_number-with_at_number bindings u t None
    ∙ ap (λ (b : Bool). if b && is_some (at_number bindings u) then Some None else at_number bindings t) e)

pub bound_here : (bindings : List (Option ℕ)) (u t : ℕ) → (t == u) ≡ true → bound_at (unbind_thread bindings u) t ≡ None
bound_here bindings u t e =
    ap bound_in
    (at_number-with_at_number bindings u t None
    ∙ ap (λ (b : Bool). if b && is_some (at_number bindings u) then Some None else at_number bindings t) e)
    ∙ go (at_number bindings u) refl
  where
    same : t ≡ u
    same = grind (arith, nat_tests)

    go : (o : Option (Option ℕ)) → at_number bindings u ≡ o → bound_in (if is_some o then Some None else at_number bindings t) ≡ None
    go None f = ap (λ n. bound_at bindings n) same ∙ ap bound_in f
    go (Some b) f = refl

failed_door : (m : State) (u t : ℕ) → (t == u) ≡ false → has_invalid_door (fail_return m u) t ≡ has_invalid_door m t
failed_door m u t e = ap (is_bound_to_invalid m) (bound_elsewhere m.bindings u t e)

-- a thread whose door is valid

data Stays (m n : State) (t since : ℕ) : Type 0 where
  still : has_invalid_door n t ≡ false → state_of n t ≡ is.Idle since → Stays m n t since
  got : has_invalid_door n t ≡ false → (i : Item) → state_of n t ≡ is.Given i → Stays m n t since

stays_with : (m n o : State) (t since : ℕ) → has_invalid_door o t ≡ has_invalid_door n t → state_of o t ≡ state_of n t → Stays m n t since → Stays m o t since
stays_with m n o t since v e (still f s) = still (v ∙ f) (e ∙ s)
stays_with m n o t since v e (got f i s) = got (v ∙ f) i (e ∙ s)

stays_valid : (m n : State) (t since : ℕ) → Stays m n t since → has_invalid_door n t ≡ false
stays_valid m n t since (still f s) = f
stays_valid m n t since (got f i s) = f

waits : (before m : State) (t since : ℕ) → has_invalid_door m t ≡ false → state_of m t ≡ is.Idle since → Stays m (settle before m) t since
waits before m t since v e =
    settle-all (λ n. Stays m n t since) before (record { makes = makes; fails = fails; gives = gives; starts = starts }) (λ n h. stays_with m n (tell n) t since refl refl h) m (still v e)
  where
    makes : KeptByMaking (λ n. Stays m n t since) before
    makes n d l h = stays_with m n (with_notice_of n d) t since refl refl h

    fails : KeptByFailing (λ n. Stays m n t since)
    fails n u l h = go (t == u) refl
      where
        go : (b : Bool) → (t == u) ≡ b → Stays m (fail_return n u) t since
        go false f = stays_with m n (fail_return n u) t since (failed_door n u t f) (state_elsewhere n.process_table u t _ f) h
        go true f =
            let same : u ≡ t = grind (arith, nat_tests) in
            absurd (not_both (has_invalid_door n t) (ap (has_invalid_door n) (sym same) ∙ loses_door n u l) (stays_valid m n t since h))

    gives : KeptByGiving (λ n. Stays m n t since)
    gives n w x p h = go (t == x.thread.0) refl
      where
        go : (b : Bool) → (t == x.thread.0) ≡ b → Stays m (give_one n w.item x.thread.0) t since
        go false f = stays_with m n (give_one n w.item x.thread.0) t since (given_door n w.item x.thread.0 t) (given_state n w.item x.thread.0 t f) h
        go true f =
            got (given_door n w.item x.thread.0 t ∙ stays_valid m n t since h) w.item
            (given_here n w.item x.thread.0 t
            (is_thread n x.thread.0 (λ d. absurd (cc (sym (picked_idle n (pool_of n w.door) x p) ∙ d)))) f)

    starts : KeptByStarting (λ n. Stays m n t since)
    starts n u d h = stays_with m n (with_state n u is.Running) t since refl (state_elsewhere n.process_table u t _ (other h)) h
      where
        other : Stays m n t since → (t == u) ≡ false
        other (still f s) = other_thread n t u _ _ s d (λ z. cc)
        other (got f i s) = other_thread n t u _ _ s d (λ z. cc)

-- a thread whose door is not valid fails, and stays so
pub record HasFailed (n : State) (t : ℕ) : Type 0 where
  pub state : state_of n t ≡ is.FailedReturn
  pub bound : bound_of n t ≡ None

pub fails_then : (before m : State) (t since : ℕ) → has_invalid_door m t ≡ true → state_of m t ≡ is.Idle since → HasFailed (settle before m) t
fails_then before m t since v e = record { state = failed.state; bound = failed.bound }
  where
    n : State
    n = make_notices before m

    loses : has_lost_door n t ≡ true
    loses = has_lost_door-make_notices before m t ∙ ap (λ s. is_idle s && has_invalid_door m t) e ∙ v

    gives : KeptByGiving (λ n. HasFailed n t)
    gives n w x p h =
        let apart : (t == x.thread.0) ≡ false = other_thread n t x.thread.0 _ _ h.state (picked_idle n (pool_of n w.door) x p) (λ z. cc) in
        record { state = given_state n w.item x.thread.0 t apart ∙ h.state; bound = given_bound n w.item x.thread.0 t ∙ h.bound }

    starts : KeptByStarting (λ n. HasFailed n t)
    starts n u d h =
        let apart : (t == u) ≡ false = other_thread n t u _ _ h.state d (λ z. cc) in
        record { state = state_elsewhere n.process_table u t _ apart ∙ h.state; bound = h.bound }

    failed : HasFailed (settle_pools before m) t
    failed =
        give_and_start-all (λ n. HasFailed n t) gives starts before (fail_returns n)
        (record {
          state = state_of-fail_returns n t ∙ ap (λ (b : Bool). if b then is.FailedReturn else state_of n t) loses;
          bound = bound_of-fail_returns n t ∙ ap (λ (b : Bool). if b then None else bound_of n t) loses;
        })

-- what becomes of a thread whose accept fails

pub data Parks (m n : State) (t : ℕ) : Type 0 where
  idle : has_invalid_door m t ≡ false → state_of n t ≡ is.Idle (now m) → Parks m n t
  given : has_invalid_door m t ≡ false → (i : Item) → state_of n t ≡ is.Given i → Parks m n t
  unbound : has_invalid_door m t ≡ true → state_of n t ≡ is.FailedReturn → bound_of n t ≡ None → Parks m n t

-- an act after which it is idle, and is bound as before
pub record IsParkedNow (m n : State) (t : ℕ) : Type 0 where
  pub state : state_of n t ≡ is.Idle (now m)
  pub door : has_invalid_door n t ≡ has_invalid_door m t

pub parks : (m n : State) (t : ℕ) → IsParkedNow m n t → Parks m (with_event_counted (settle m n)) t
parks m n t h = go (has_invalid_door m t) refl
  where
    stays : has_invalid_door m t ≡ false → Stays n (settle m n) t (now m) → Parks m (with_event_counted (settle m n)) t
    stays f (still v s) = idle f s
    stays f (got v i s) = given f i s

    failed : has_invalid_door m t ≡ true → HasFailed (settle m n) t → Parks m (with_event_counted (settle m n)) t
    failed f g = unbound f g.state g.bound

    go : (b : Bool) → has_invalid_door m t ≡ b → Parks m (with_event_counted (settle m n)) t
    go false f = stays f (waits m n t (now m) (h.door ∙ f) h.state)
    go true f = failed f (fails_then m n t (now m) (h.door ∙ f) h.state)

fails_to_begin :
    (m : State) (t p c d : ℕ) (o : Option Call) → IsThread m t → (accept_call m t p c o).answer ≡ answer.EnterFailed d →
    IsParkedNow m (accept_call m t p c o).state t
fails_to_begin m t p c d None h e = absurd (cc e)
fails_to_begin m t p c d (Some r) h e = go (has_room m p r.objects) e
  where
    go :
        (b : Bool) → (if b then begin_call m t p c r else fail_begin m t c r).answer ≡ answer.EnterFailed d →
        IsParkedNow m (if b then begin_call m t p c r else fail_begin m t c r).state t
    go true f = absurd (cc f)
    go false f =
        record { state = state_there m.process_table t t _ h.thread (grind (arith, nat_tests)) h.there; door = refl }

pub failed_accept_parks :
    (m : State) (t c d : ℕ) (q : Option Request) → q ≡ None → state_of m t ≡ is.Given (item.Call c) →
    (step m t q).answer ≡ answer.EnterFailed d → Parks m (step m t q).state t
unfolding step
failed_accept_parks m t c d q e s =
    subst (λ o. (act m t o).answer ≡ answer.EnterFailed d → Parks m (with_event_counted (settle m (act m t o).state)) t) (sym e)
    (subst
    (λ z. (go_on m t (process_of m t) z).answer ≡ answer.EnterFailed d →
    Parks m (with_event_counted (settle m (go_on m t (process_of m t) z).state)) t) (sym s)
    (λ a. parks m _ t
    (fails_to_begin m t (process_of m t) c d (find_call m (is_given_as c t)) (is_thread m t (λ f. absurd (cc (sym s ∙ f)))) a)))
