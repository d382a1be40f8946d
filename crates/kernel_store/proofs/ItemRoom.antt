-- Room for items: what a change of one pool leaves of it, and what notices take of it.
use Rattle.std.proofs.Common.{◌≡◌, ℕ, ◌+◌, ◌≤◌, Bool, true, false, if◌then◌else◌, List, [], ◌∷◌, Option, Some, None, option_map, is_some, length, length-append, count_by, filter, refl, sym, ap, ◌∙◌, subst, arith}
use Rattle.std.proofs.lemmas.List.Sums.{length-filter}
use Rattle.spec_records.specs.Words.{is_pool}
use Rattle.spec_kernel.specs.Types.{Pool, Waiting}
use Rattle.server_pool.specs.Words.{PoolValue, PoolsValue, change_pool, enqueue_in, item_room_in, pool_at, pool_or_empty}
use Rattle.server_pool.proofs.Changed.{pool_changed, pool_kept}

-- after a change of one pool

pub room_elsewhere :
    (v : PoolsValue) (pool q : Pool) (change : PoolValue → PoolValue) → is_pool pool q ≡ false →
    item_room_in (change_pool v pool change) q ≡ item_room_in v q
room_elsewhere v pool q change e = ap (λ o. (pool_or_empty o).item_room) (pool_kept v pool q change e)

-- the same pools are there
pub there_changed :
    (v : PoolsValue) (pool q : Pool) (change : PoolValue → PoolValue) → is_some (pool_at (change_pool v pool change) q) ≡ is_some (pool_at v q)
there_changed v pool q change = go (is_pool pool q) refl
  where
    kept : (o : Option PoolValue) → is_some (option_map change o) ≡ is_some o
    kept None = refl
    kept (Some x) = refl

    go : (b : Bool) → is_pool pool q ≡ b → is_some (pool_at (change_pool v pool change) q) ≡ is_some (pool_at v q)
    go true e = ap is_some (pool_changed v pool q change e) ∙ kept (pool_at v q)
    go false e = ap is_some (pool_kept v pool q change e)

-- one that takes no more than so much
pub room_left :
    (v : PoolsValue) (pool : Pool) (change : PoolValue → PoolValue) (k : ℕ) → ((x : PoolValue) → x.item_room ≤ (change x).item_room + k) →
    (q : Pool) → item_room_in v q ≤ item_room_in (change_pool v pool change) q + k
room_left v pool change k least q = go (is_pool pool q) refl
  where
    there : (o : Option PoolValue) → (pool_or_empty o).item_room ≤ (pool_or_empty (option_map change o)).item_room + k
    there None = omega arith
    there (Some x) = least x

    go : (b : Bool) → is_pool pool q ≡ b → item_room_in v q ≤ item_room_in (change_pool v pool change) q + k
    go true e =
        subst (λ (o : Option PoolValue). item_room_in v q ≤ (pool_or_empty o).item_room + k) (sym (pool_changed v pool q change e)) (there (pool_at v q))
    go false e = subst (λ n. item_room_in v q ≤ n + k) (sym (room_elsewhere v pool q change e)) (omega arith)

pub room_enqueued : (v : PoolsValue) (pool : Pool) (w : Waiting) (q : Pool) → item_room_in v q ≤ item_room_in (change_pool v pool (enqueue_in w)) q + 1
room_enqueued v pool w q = room_left v pool (enqueue_in w) 1 least q
  where
    least : (x : PoolValue) → x.item_room ≤ (enqueue_in w x).item_room + 1
    least x = grind (arith, length-append x.waiting (w ∷ []))

-- how many of some doors a pool serves

pub count_cons : {X : Type 0} (p : X → Bool) (x : X) (xs : List X) → count_by p (x ∷ xs) ≡ (if p x then 1 else 0) + count_by p xs
count_cons p x xs = sym (length-filter p (x ∷ xs)) ∙ go (p x) ∙ ap (λ k. (if p x then 1 else 0) + k) (length-filter p xs)
  where
    go : (b : Bool) → length (if b then x ∷ filter p xs else filter p xs) ≡ (if b then 1 else 0) + length (filter p xs)
    go true = omega arith
    go false = omega arith
