-- What the pools hold agrees with the records after an act on one thread.
use Rattle.std.proofs.Common.{◌≡◌, ℕ, ◌+◌, ◌<◌, ◌≤◌, ◌⊎◌, ◌&&◌, Bool, true, false, List, [], Option, Some, None, is_some, is_ok, Ok, Err, OnOk, Result, refl, sym, ap, ◌∙◌, subst, subst₂, arith}
use Rattle.std.proofs.lemmas.Bool.Decides.{nat_tests}
use Rattle.dk_base.specs.ByNumber.{with_at_number}
use Rattle.dk_base.specs.declared.object.Item.TheVariants as item
use Rattle.spec_records.specs.declared.pool.Pool.TheVariants.{Common, Private}
use Rattle.spec_records.specs.declared.pool.TheConstants.{LOST_DOOR}
use Rattle.spec_records.specs.declared.record.ThreadState.TheVariants as is
use Rattle.spec_records.specs.Words.{bound_at, end_thread, enter_call, enter_notice, enter_thread, is_dormant, is_done, is_idle, park_thread, process_in, set_thread_state, state_in, thread_at, tid}
use Rattle.spec_kernel.specs.Types.{Pool, Thread, ThreadState}
use Rattle.spec_kernel.specs.Words.{bound_of, is_running, is_running_state, state_of}
use Rattle.law_states.specs.Core.{is_outside}
use Rattle.server_pool.specs.Words.{AllParkedBefore, PoolValue, PoolsValue, change_pool, item_room_in, park_in, pool_at, stack_in, thread_room_in}
use Rattle.law_pools.specs.Words.{Agrees, IsGivenOut, IsGivenOutBut, own_pool, pool_by}
use Rattle.law_pools.proofs.Noticing.{agrees_enter_notice}
use Rattle.law_pools.proofs.Queues.{agrees_enter as agrees_enter_call}
use Rattle.law_pools.proofs.Readers.{queue-change_other, stack-change_other}
use Rattle.law_pools.proofs.Stacks.{agrees_bind, agrees_ended, agrees_enter, agrees_park, agrees_turn, own_pool_there, park_above}
use Rattle.kernel_store.specs.Frames.{FillsNoPool, KeepsPools}
use Rattle.kernel_store.specs.Stored.{ArePlaced, HasRoom, IsAgreed, StoreValue, stored_state}

-- in which pools something can be given

-- no other pool than the one that changed has both a thread and an item
pub given_out_but : (v : PoolsValue) (pool : Pool) (change : PoolValue → PoolValue) → IsGivenOut v → IsGivenOutBut pool (change_pool v pool change)
given_out_but v pool change given other e =
    subst₂ (λ xs ws. (xs ≡ []) ⊎ (ws ≡ [])) (sym (stack-change_other v pool other change e)) (sym (queue-change_other v pool other change e)) (given other)

-- bindings say nothing of what waits in a pool
pub given_out_bound :
    {s now : StoreValue} → s ≡ now → (bindings : List (Option ℕ)) → IsGivenOut now.pools → IsGivenOut (record s.pools { bindings = bindings })
given_out_bound {s} {now} same bindings given = go (subst (λ (v : StoreValue). IsGivenOut v.pools) (sym same) given)
  where
    go : IsGivenOut s.pools → IsGivenOut (record s.pools { bindings = bindings })
    go here (Common p) = here (Common p)
    go here (Private d) = here (Private d)

-- an act that puts nothing into a pool

pub fills :
    {a b : StoreValue} → (IsGivenOut a.pools → IsGivenOut b.pools) → b.latest ≡ a.latest → b.opening ≡ a.opening → a.notices.spare ≤ b.notices.spare →
    a.short_room ≤ b.short_room + 1 → ((pool : Pool) → item_room_in a.pools pool ≤ item_room_in b.pools pool) → FillsNoPool a b
fills given latest opening notices short items =
    record { given_out = given; latest = latest; opening = opening; notice_room = notices; short_room = short; items = items }

pub fills_same : {a b : StoreValue} → KeepsPools a b → FillsNoPool a b
fills_same {a} {b} k =
    record {
      given_out = subst IsGivenOut (sym k.pools);
      latest = k.latest;
      opening = k.opening;
      notice_room = k.notice_room;
      short_room = omega (arith, k.short_room);
      items = λ pool. subst (λ v. item_room_in a.pools pool ≤ item_room_in v pool) (sym k.pools) (omega arith);
    }

-- a thread that runs is neither Idle nor Dormant, and one that is not Done is there

pub running_not_idle : (s : ThreadState) → is_running_state s ≡ true → is_idle s ≡ false
running_not_idle is.Running e = refl
running_not_idle _ e = cc

pub running_not_done : (s : ThreadState) → is_running_state s ≡ true → is_done s ≡ false
running_not_done is.Running e = refl
running_not_done _ e = cc

pub running_not_dormant : (s : ThreadState) → is_running_state s ≡ true → is_dormant s ≡ false
running_not_dormant is.Running e = refl
running_not_dormant _ e = cc

pub lost_idle : (a b : Bool) → (a && b) ≡ true → a ≡ true
lost_idle true b e = refl
lost_idle false b e = cc

-- one that is where it can have an invocation, likewise

pub inside_idle : (s : ThreadState) → is_outside s ≡ false → is_idle s ≡ false
inside_idle s e = grind (arith, nat_tests)

pub inside_dormant : (s : ThreadState) → is_outside s ≡ false → is_dormant s ≡ false
inside_dormant s e = grind (arith, nat_tests)

thread_there : (o : Option Thread) → is_done (state_in o) ≡ false → (x : Thread) × (o ≡ Some x)
thread_there None e = cc
thread_there (Some x) e = (x, refl)

-- what holds of a result that is Ok
pub holds_ok : {X E P : Type 0} (r : Result X E) → is_ok r ≡ true → OnOk r P → P
holds_ok (Ok x) e p = p
holds_ok (Err x) e p = cc

-- a store `s` as its fields say, which is `now` in the clauses
module _ {s now : StoreValue} (h : IsAgreed s) (same : s ≡ now) where
  pub state_is : (t : ℕ) → state_in (thread_at s.processes t) ≡ state_of (stored_state now) t
  state_is t = ap (λ (v : StoreValue). state_in (thread_at v.processes t)) same

  pub turned :
      (t : ℕ) (x : ThreadState) → is_idle (state_of (stored_state now) t) ≡ false → is_dormant (state_of (stored_state now) t) ≡ false →
      is_idle x ≡ false → is_dormant x ≡ false → Agrees s.latest (set_thread_state s.processes t x) s.doors.items s.calls.tree s.notices.list s.pools
  turned t x idle dormant not_idle not_dormant =
      agrees_turn h t x (ap is_idle (state_is t) ∙ idle) (ap is_dormant (state_is t) ∙ dormant) not_idle not_dormant

  pub ended : (t : ℕ) → is_running (stored_state now) t ≡ true → Agrees s.latest (end_thread s.processes t) s.doors.items s.calls.tree s.notices.list s.pools
  ended t e =
      agrees_ended h t (ap is_idle (state_is t) ∙ running_not_idle (state_of (stored_state now) t) e)
      (ap is_dormant (state_is t) ∙ running_not_dormant (state_of (stored_state now) t) e)

  pub bound :
      (t : ℕ) (b : Option ℕ) → is_running (stored_state now) t ≡ true →
      Agrees s.latest s.processes s.doors.items s.calls.tree s.notices.list (record s.pools { bindings = with_at_number s.pools.bindings t b })
  bound t b e = agrees_bind h t b (ap is_idle (state_is t) ∙ running_not_idle (state_of (stored_state now) t) e)

  pub entered :
      (c t : ℕ) → state_of (stored_state now) t ≡ is.Given (item.Call c) →
      Agrees s.latest (enter_thread s.processes t (item.Call c)) s.doors.items (enter_call s.calls.tree c t) s.notices.list s.pools
  entered c t e =
      agrees_enter (agrees_enter_call h c t) t (item.Call c) (ap is_idle (state_is t ∙ e)) (ap is_dormant (state_is t ∙ e))

  pub entered_notice :
      (k t : ℕ) → state_of (stored_state now) t ≡ is.Given (item.Notice k) →
      Agrees s.latest (enter_thread s.processes t (item.Notice k)) s.doors.items s.calls.tree (enter_notice s.notices.list k t) s.pools
  entered_notice k t e =
      agrees_enter (agrees_enter_notice h k t) t (item.Notice k) (ap is_idle (state_is t ∙ e)) (ap is_dormant (state_is t ∙ e))

  -- a thread parks

  module _
      (t : ℕ) (placed : ArePlaced (stored_state now)) (there : is_done (state_of (stored_state now) t) ≡ false)
      (not_lost : bound_of (stored_state now) t ≡ Some LOST_DOOR → ⊥) where
    pub thread : (x : Thread) × (thread_at s.processes t ≡ Some x)
    thread = thread_there (thread_at s.processes t) (ap is_done (state_is t) ∙ there)

    placed_here : ArePlaced (stored_state s)
    placed_here = subst (λ (v : StoreValue). ArePlaced (stored_state v)) (sym same) placed

    not_lost_here : bound_at s.pools.bindings t ≡ Some LOST_DOOR → ⊥
    not_lost_here e = not_lost (ap (λ (v : StoreValue). bound_of (stored_state v) t) (sym same) ∙ e)

    abbrev pool : Pool
    pool = own_pool (stored_state now) t

    pub own : pool ≡ own_pool (stored_state s) t
    own = ap (λ (v : StoreValue). own_pool (stored_state v) t) (sym same)

    pool_there : is_some (pool_at s.pools pool) ≡ true
    pool_there =
        ap (λ p. is_some (pool_at s.pools p)) (own ∙ ap (λ o. pool_by (process_in o) (bound_at s.pools.bindings t)) thread.1)
        ∙ own_pool_there h placed_here t thread.0 thread.1 not_lost_here

    pub room_there : HasRoom now pool → 0 < thread_room_in s.pools pool
    room_there room =
        let here : HasRoom s pool = subst (λ (v : StoreValue). HasRoom v pool) (sym same) room in
        here.threads pool_there

    pub parked :
        is_idle (state_of (stored_state now) t) ≡ false → is_dormant (state_of (stored_state now) t) ≡ false → now.latest ≤ now.events →
        Agrees (s.events + 1) (park_thread s.processes t (s.events + 1)) s.doors.items s.calls.tree s.notices.list
        (change_pool s.pools pool (park_in (record { thread = tid t; pool = pool; since = s.events + 1 })))
    parked idle dormant first =
        let early : s.latest ≤ s.events = subst (λ (v : StoreValue). v.latest ≤ v.events) (sym same) first in
        let state : thread.0.state ≡ state_of (stored_state now) t = sym (ap state_in thread.1) ∙ state_is t in
        agrees_park h placed_here t (s.events + 1) thread.0 pool thread.1 (ap is_idle state ∙ idle) (ap is_dormant state ∙ dormant)
        (omega (arith, early)) own not_lost_here

  pub above :
      (t : ℕ) (pool : Pool) → now.latest ≤ now.events → AllParkedBefore (stack_in s.pools pool) (record { thread = tid t; pool = pool; since = s.events + 1 })
  above t pool first =
      let early : s.latest ≤ s.events = subst (λ (v : StoreValue). v.latest ≤ v.events) (sym same) first in
      park_above h t (s.events + 1) pool pool (omega (arith, early))
