-- A thread that parks at the present event, at which none parked yet.
use Rattle.std.proofs.Common.{◌≡◌, ◌<◌, ◌≤◌, ◌+◌, ℕ, Bool, true, false, Option, None, Some, option_map, is_some, refl, sym, subst, ap, ◌∙◌, arith}
use Rattle.spec_records.specs.declared.pool.TheConstants.{LOST_DOOR}
use Rattle.spec_records.specs.Words.{is_done, is_dormant, is_idle, is_pool, park_thread, tid}
use Rattle.spec_kernel.specs.Types.{Parked, Pool}
use Rattle.spec_kernel.specs.Words.{bound_of, state_of}
use Rattle.server_pool.specs.Words.{PoolValue, PoolsValue, change_pool, item_room_in, park_in, pool_at, pool_or_empty, thread_room_in}
use Rattle.law_pools.specs.Words.{Agrees, IsGivenOut, IsGivenOutBut, own_pool}
use Rattle.kernel_store.specs.Frames.{CanAct, FillsOnePool}
use Rattle.exit_paths.specs.Words.{CanParkAgain, own_pool_in}
use Rattle.kernel_store.specs.Stored.{IsAgreed, StoreValue, stored_state}
use Rattle.kernel_store.proofs.Acts.{above, given_out_but, own, parked, room_there, thread}
use Rattle.server_pool.proofs.Changed.{pool_changed, pool_kept}

pub items_parked : (v : PoolsValue) (pool : Pool) (y : Parked) (q : Pool) → item_room_in (change_pool v pool (park_in y)) q ≡ item_room_in v q
items_parked v pool y q = go (is_pool pool q) refl
  where
    there : (o : Option PoolValue) → (pool_or_empty (option_map (park_in y) o)).item_room ≡ (pool_or_empty o).item_room
    there None = refl
    there (Some x) = refl

    go : (b : Bool) → is_pool pool q ≡ b → item_room_in (change_pool v pool (park_in y)) q ≡ item_room_in v q
    go true e = ap (λ (o : Option PoolValue). (pool_or_empty o).item_room) (pool_changed v pool q (park_in y) e) ∙ there (pool_at v q)
    go false e = ap (λ (o : Option PoolValue). (pool_or_empty o).item_room) (pool_kept v pool q (park_in y) e)

-- a store `s` as its fields say, which is `now` in the clauses
module _ {s now : StoreValue} (h : IsAgreed s) (same : s ≡ now) (t : ℕ) (can : CanAct (own_pool (stored_state now) t) now) (there : is_done (state_of (stored_state now) t) ≡ false) (not_lost : bound_of (stored_state now) t ≡ Some LOST_DOOR → ⊥) where
  pub can_park : CanParkAgain s.processes s.pools t (s.events + 1)
  can_park =
      record {
        there = ap is_some (thread h same t can.placed there not_lost).1;
        room = subst (λ p. 0 < thread_room_in s.pools p) (own h same t can.placed there not_lost) (room_there h same t can.placed there not_lost can.room);
        later = above h same t (own_pool_in s.processes s.pools.bindings t) can.latest;
      }

  pub parked_here :
      is_idle (state_of (stored_state now) t) ≡ false → is_dormant (state_of (stored_state now) t) ≡ false →
      Agrees (s.events + 1) (park_thread s.processes t (s.events + 1)) s.doors.items s.calls.tree s.notices.list
      (change_pool s.pools (own_pool_in s.processes s.pools.bindings t)
      (park_in (record { thread = tid t; pool = own_pool_in s.processes s.pools.bindings t; since = s.events + 1 })))
  parked_here idle dormant =
      subst
      (λ pool. Agrees (s.events + 1) (park_thread s.processes t (s.events + 1)) s.doors.items s.calls.tree s.notices.list
      (change_pool s.pools pool (park_in (record { thread = tid t; pool = pool; since = s.events + 1 }))))
      (own h same t can.placed there not_lost) (parked h same t can.placed there not_lost idle dormant can.latest)

  -- what it leaves of the pools, and of all else what is said
  pub parked_keeps :
      (after : StoreValue) →
      after.pools
      ≡ change_pool s.pools (own_pool_in s.processes s.pools.bindings t)
      (park_in (record { thread = tid t; pool = own_pool_in s.processes s.pools.bindings t; since = s.events + 1 })) →
      after.latest ≡ s.events + 1 → after.opening ≡ s.opening → s.notices.spare ≤ after.notices.spare →
      after.short_room ≡ s.short_room → FillsOnePool (own_pool (stored_state now) t) now after
  parked_keeps after pools latest opening notices short =
      let place : Parked = record { thread = tid t; pool = own_pool_in s.processes s.pools.bindings t; since = s.events + 1 } in
      let events = ap (λ (v : StoreValue). v.events) same in
      let before = ap (λ (v : StoreValue). v.notices.spare) same in
      let listed = ap (λ (v : StoreValue). v.short_room) same in
      record {
        kept =
            record {
              latest = omega (arith, latest, events);
              opening = opening ∙ ap (λ (v : StoreValue). v.opening) same;
              notice_room = omega (arith, notices, before);
              short_room = omega (arith, short, listed);
              items =
                  λ pool.
                  let left = ap (λ (v : PoolsValue). item_room_in v pool) pools ∙ items_parked s.pools place.pool place pool in
                  let here = ap (λ (v : StoreValue). item_room_in v.pools pool) same in
                  omega (arith, left, here);
            };
        given_out =
            λ given.
            let here : IsGivenOut s.pools = subst (λ (v : StoreValue). IsGivenOut v.pools) (sym same) given in
            subst (λ pool. IsGivenOutBut pool after.pools) (sym (own h same t can.placed there not_lost))
            (subst (IsGivenOutBut place.pool) (sym pools) (given_out_but s.pools place.pool (park_in place) here));
      }

  -- and no item's place is taken
  pub parked_queues :
      (after : PoolsValue) →
      after
      ≡ change_pool s.pools (own_pool_in s.processes s.pools.bindings t)
      (park_in (record { thread = tid t; pool = own_pool_in s.processes s.pools.bindings t; since = s.events + 1 })) →
      (pool : Pool) → item_room_in now.pools pool ≤ item_room_in after pool
  parked_queues after pools pool =
      let place : Parked = record { thread = tid t; pool = own_pool_in s.processes s.pools.bindings t; since = s.events + 1 } in
      let left = ap (λ (v : PoolsValue). item_room_in v pool) pools ∙ items_parked s.pools place.pool place pool in
      let here = ap (λ (v : StoreValue). item_room_in v.pools pool) same in
      omega (arith, left, here)
