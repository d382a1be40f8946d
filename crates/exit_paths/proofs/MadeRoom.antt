-- Room that is made for threads.
use Rattle.std.proofs.Common.{◌≡◌, ℕ, ◌≤◌, Bool, true, false, List, Option, Some, None, option_map, is_some, length, refl, sym, ap, ◌∙◌, subst, le_refl, arith}
use Rattle.spec_records.specs.declared.pool.Pool.TheVariants.{Common, Private}
use Rattle.spec_records.specs.Words.{is_pool}
use Rattle.spec_kernel.specs.Types.{Pool}
use Rattle.dk_base.specs.ByNumber.{at_number}
use Rattle.spec_kernel.proofs.Giving.{same_pool}
use Rattle.spec_records.proofs.Lists.{numbered_within}
use Rattle.law_pools.proofs.Readers.{there_is}
use Rattle.server_pool.specs.Words.{PoolValue, PoolsValue, change_pool, item_room_in, pool_at, pool_or_empty, thread_room_in, with_room}
use Rattle.server_pool.proofs.Changed.{pool_changed, pool_kept}
use Rattle.exit_paths.specs.Words.{HasNoLessRoom, HoldsSame}
use Rattle.exit_paths.proofs.Alike.{same_in_room}

pub holds_self : (v : PoolsValue) → HoldsSame v v
holds_self v =
    record { bindings = refl; stacks = λ q. refl; queues = λ q. refl; spares = λ p. refl; common = refl; spare_lists = refl; private = refl }

pub room_self : (v : PoolsValue) → HasNoLessRoom v v
room_self v =
    record {
      doors = le_refl v.door_room;
      there = λ q. refl;
      threads = λ q. le_refl (thread_room_in v q);
      items = λ q. le_refl (item_room_in v q);
    }

pub holds_then : (u v w : PoolsValue) → HoldsSame u v → HoldsSame v w → HoldsSame u w
holds_then u v w h k =
    record {
      bindings = k.bindings ∙ h.bindings;
      stacks = λ q. k.stacks q ∙ h.stacks q;
      queues = λ q. k.queues q ∙ h.queues q;
      spares = λ p. k.spares p ∙ h.spares p;
      common = k.common ∙ h.common;
      spare_lists = k.spare_lists ∙ h.spare_lists;
      private = k.private ∙ h.private;
    }

pub room_then : (u v w : PoolsValue) → HasNoLessRoom u v → HasNoLessRoom v w → HasNoLessRoom u w
room_then u v w h k =
    record {
      doors = omega (arith, h.doors, k.doors);
      there = λ q. k.there q ∙ h.there q;
      threads = λ q. omega (arith, h.threads q, k.threads q);
      items = λ q. omega (arith, h.items q, k.items q);
    }

-- of one pool

pub holds_room : (v w : PoolsValue) (pool : Pool) (threads items : ℕ) → w ≡ change_pool v pool (with_room threads items) → HoldsSame v w
holds_room v w pool threads items e = same_in_room v v w v.door_room threads items pool refl e

pub room_made :
    (v w : PoolsValue) (pool : Pool) (threads items : ℕ) → w ≡ change_pool v pool (with_room threads items) →
    thread_room_in v pool ≤ thread_room_in w pool → item_room_in v pool ≤ item_room_in w pool → HasNoLessRoom v w
room_made v w pool threads items e more_threads more_items =
    record {
      doors = subst (λ k. v.door_room ≤ k) (sym (ap (λ (x : PoolsValue). x.door_room) e ∙ doors pool)) (le_refl v.door_room);
      there = λ q. ap (λ x. is_some (pool_at x q)) e ∙ there q (is_pool pool q) refl;
      threads = λ q. at_threads q (is_pool pool q) refl;
      items = λ q. at_items q (is_pool pool q) refl;
    }
  where
    change : PoolValue → PoolValue
    change = with_room threads items

    doors : (q : Pool) → (change_pool v q (with_room threads items)).door_room ≡ v.door_room
    doors (Common p) = refl
    doors (Private d) = refl

    kept : (o : Option PoolValue) → is_some (option_map (with_room threads items) o) ≡ is_some o
    kept None = refl
    kept (Some x) = refl

    there : (q : Pool) (b : Bool) → is_pool pool q ≡ b → is_some (pool_at (change_pool v pool (with_room threads items)) q) ≡ is_some (pool_at v q)
    there q true f = ap is_some (pool_changed v pool q (with_room threads items) f) ∙ kept (pool_at v q)
    there q false f = ap is_some (pool_kept v pool q (with_room threads items) f)

    other : (q : Pool) → is_pool pool q ≡ false → pool_at w q ≡ pool_at v q
    other q f = ap (λ x. pool_at x q) e ∙ pool_kept v pool q (with_room threads items) f

    at_threads : (q : Pool) (b : Bool) → is_pool pool q ≡ b → thread_room_in v q ≤ thread_room_in w q
    at_threads q true f = subst (λ p. thread_room_in v p ≤ thread_room_in w p) (same_pool pool q f) more_threads
    at_threads q false f =
        subst (λ (o : Option PoolValue). thread_room_in v q ≤ (pool_or_empty o).thread_room) (sym (other q f)) (le_refl (thread_room_in v q))

    at_items : (q : Pool) (b : Bool) → is_pool pool q ≡ b → item_room_in v q ≤ item_room_in w q
    at_items q true f = subst (λ p. item_room_in v p ≤ item_room_in w p) (same_pool pool q f) more_items
    at_items q false f =
        subst (λ (o : Option PoolValue). item_room_in v q ≤ (pool_or_empty o).item_room) (sym (other q f)) (le_refl (item_room_in v q))

-- a number that is there is not above the length
pub numbered_low : {X : Type 0} (xs : List X) (k : ℕ) → is_some (at_number xs k) ≡ true → k ≤ length xs
numbered_low xs k e =
    let x : (x : _) × (at_number xs k ≡ Some x) = there_is (at_number xs k) e in
    let within : (1 ≤ k) × (k ≤ length xs) = numbered_within xs k x.0 x.1 in within.1
