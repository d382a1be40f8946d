-- Which pools have the room that they keep for notices, after a change of the pools.
use Rattle.std.proofs.Common.{◌≡◌, ℕ, ◌+◌, ◌-◌, ◌≤◌, ◌||◌, ◌==◌, if◌then◌else◌, Bool, true, false, List, [], ◌∷◌, ◌++◌, Option, Some, None, drop, is_some, length, le_refl, refl, sym, ap, ap₂, ◌∙◌, subst, arith, true≢false}
use Rattle.std.proofs.lemmas.Bool.Decides.{nat_tests}
use Rattle.std.proofs.lemmas.List.Folds.{list_any-append}
use Rattle.dk_base.specs.ByNumber.{at_number}
use Rattle.dk_base.specs.declared.number.Pid.{Pid}
use Rattle.spec_records.specs.declared.pool.Pool.TheVariants.{Common, Private}
use Rattle.spec_records.specs.Words.{is_pool}
use Rattle.spec_records.proofs.Lists.{numbered_push, numbered_there, numbered_within}
use Rattle.spec_kernel.specs.Types.{Parked, Pool, Waiting}
use Rattle.server_pool.specs.Words.{PoolValue, PoolsValue, change_pool, empty_pool, enqueue_in, item_room_in, match_in, no_pools, park_in, pool_at}
use Rattle.spec_kernel.proofs.Giving.{same_pool}
use Rattle.exit_paths.specs.Words.{HasNoLessRoom}
use Rattle.kernel_store.specs.Noticing.{HaveItemRoomBut, is_listed, items_for}
use Rattle.kernel_store.proofs.Alike.{items_door, items_process}
use Rattle.kernel_store.proofs.ItemRoom.{room_elsewhere, room_left, there_changed}

pub none_short : HaveItemRoomBut [] no_pools
none_short (Common p) e there = grind arith
none_short (Private d) e there = grind arith

-- where no place is taken

pub no_less_items :
    (short : List Pool) (v w : PoolsValue) → HaveItemRoomBut short v → ((pool : Pool) → is_some (pool_at w pool) ≡ true → is_some (pool_at v pool) ≡ true) →
    ((pool : Pool) → item_room_in v pool ≤ item_room_in w pool) → HaveItemRoomBut short w
no_less_items short v w h there items pool e t = let l = h pool e (there pool t) in omega (arith, l, items pool)

pub no_less_room : (short : List Pool) (v w : PoolsValue) → HaveItemRoomBut short v → HasNoLessRoom v w → HaveItemRoomBut short w
no_less_room short v w h room = no_less_items short v w h (λ pool there. sym (room.there pool) ∙ there) room.items

pub room_changed :
    (short : List Pool) (v : PoolsValue) → HaveItemRoomBut short v → (pool : Pool) (change : PoolValue → PoolValue) →
    ((x : PoolValue) → x.item_room ≤ (change x).item_room) → HaveItemRoomBut short (change_pool v pool change)
room_changed short v h pool change least =
    no_less_items short v (change_pool v pool change) h (λ q there. sym (there_changed v pool q change) ∙ there)
    (λ q. let l = room_left v pool change 0 (λ x. let k = least x in omega (arith, k)) q in omega (arith, l))

-- a thread parks
pub parked_room : (short : List Pool) (v : PoolsValue) → HaveItemRoomBut short v → (pool : Pool) (x : Parked) → HaveItemRoomBut short (change_pool v pool (park_in x))
parked_room short v h pool x = room_changed short v h pool (park_in x) (λ y. le_refl y.item_room)

-- a thread and an item leave a pool
pub matched_room : (x : PoolValue) → x.item_room ≤ (match_in x).item_room
matched_room x = go x.waiting
  where
    go : (ws : List Waiting) → x.item_room ≤ (x.item_room + length ws) - length (drop 1 ws)
    go [] = omega arith
    go (w ∷ ws) = omega arith

pub room_bound : (short : List Pool) (v : PoolsValue) → HaveItemRoomBut short v → (bindings : List (Option ℕ)) → HaveItemRoomBut short (record v { bindings = bindings })
room_bound short v h bindings (Common p) = h (Common p)
room_bound short v h bindings (Private d) = h (Private d)

pub room_spares : (short : List Pool) (v : PoolsValue) → HaveItemRoomBut short v → (spares : List (List ℕ)) → HaveItemRoomBut short (record v { spares = spares })
room_spares short v h spares (Common p) = h (Common p)
room_spares short v h spares (Private d) = h (Private d)

pub room_doors : (short : List Pool) (v : PoolsValue) → HaveItemRoomBut short v → (n : ℕ) → HaveItemRoomBut short (record v { door_room = n })
room_doors short v h n (Common p) = h (Common p)
room_doors short v h n (Private d) = h (Private d)

-- where a pool is listed

not_listed : (pool q : Pool) (short : List Pool) → is_listed q (short ++ pool ∷ []) ≡ false → (is_listed q short ≡ false) × (is_pool pool q ≡ false)
not_listed pool q short e = both (is_listed q short) (is_pool pool q) (sym (list_any-append (λ other. is_pool other q) short (pool ∷ [])) ∙ e)
  where
    both : (a b : Bool) → (a || (b || false)) ≡ false → (a ≡ false) × (b ≡ false)
    both false false f = (refl, refl)
    both true b f = cc
    both false true f = cc

-- since an item was put into it
pub room_filled :
    (short : List Pool) (v : PoolsValue) → HaveItemRoomBut short v → (pool : Pool) (w : Waiting) →
    HaveItemRoomBut (short ++ pool ∷ []) (change_pool v pool (enqueue_in w))
room_filled short v h pool w q e there =
    let n = not_listed pool q short e in
    let l = h q n.0 (sym (there_changed v pool q (enqueue_in w)) ∙ there) in
    omega (arith, l, room_elsewhere v pool q (enqueue_in w) n.1)

-- since it was made

other_there : (xs : List PoolValue) (k : ℕ) (n : ℕ) → (n ≡ length xs + 1) → (n == k) ≡ false → is_some (at_number (xs ++ empty_pool ∷ []) k) ≡ true → is_some (at_number xs k) ≡ true
other_there xs k n e f there = go (k == length xs + 1) refl
  where
    go : (b : Bool) → (k == length xs + 1) ≡ b → is_some (at_number xs k) ≡ true
    go true g = absurd (true≢false (grind (arith, nat_tests)))
    go false g = ap is_some (sym (numbered_push xs empty_pool k ∙ ap (λ b. if b then Some empty_pool else at_number xs k) g)) ∙ there

pub room_door :
    (short : List Pool) (v : PoolsValue) → HaveItemRoomBut short v → (w : PoolsValue) (d : ℕ) → d ≡ length v.private + 1 → w.common ≡ v.common →
    w.private ≡ v.private ++ empty_pool ∷ [] → HaveItemRoomBut (short ++ Private d ∷ []) w
room_door short v h w d number common private q e there =
    let n = not_listed (Private d) q short e in
    let l = h q n.0 (go q n.1 there) in
    omega (arith, l, items_door v w common private q)
  where
    go : (q : Pool) → is_pool (Private d) q ≡ false → is_some (pool_at w q) ≡ true → is_some (pool_at v q) ≡ true
    go (Common p) f t = ap (λ xs. is_some (at_number xs p.0)) (sym common) ∙ t
    go (Private k) f t = other_there v.private k d number f (ap (λ xs. is_some (at_number xs k)) (sym private) ∙ t)

pub room_process :
    (short : List Pool) (v : PoolsValue) → HaveItemRoomBut short v → (w : PoolsValue) (p : Pid) → p.0 ≡ length v.common + 1 → w.private ≡ v.private →
    w.common ≡ v.common ++ empty_pool ∷ [] → HaveItemRoomBut (short ++ Common p ∷ []) w
room_process short v h w p number private common q e there =
    let n = not_listed (Common p) q short e in
    let l = h q n.0 (go q n.1 there) in
    omega (arith, l, items_process v w private common q)
  where
    go : (q : Pool) → is_pool (Common p) q ≡ false → is_some (pool_at w q) ≡ true → is_some (pool_at v q) ≡ true
    go (Private d) f t = ap (λ xs. is_some (at_number xs d)) (sym private) ∙ t
    go (Common k) f t = other_there v.common k.0 p.0 number f (ap (λ xs. is_some (at_number xs k.0)) (sym common) ∙ t)

-- one of them has it again
pub room_again :
    (short : List Pool) (v w : PoolsValue) (pool : Pool) → HaveItemRoomBut (pool ∷ short) v → HasNoLessRoom v w →
    (is_some (pool_at v pool) ≡ true → items_for pool ≤ item_room_in w pool) → HaveItemRoomBut short w
room_again short v w pool h more made q e there = go (is_pool pool q) refl
  where
    before : is_some (pool_at v q) ≡ true
    before = sym (more.there q) ∙ there

    go : (b : Bool) → is_pool pool q ≡ b → items_for q ≤ item_room_in w q
    go true f =
        let same = same_pool pool q f in
        subst (λ r. items_for r ≤ item_room_in w r) same (made (ap (λ r. is_some (pool_at v r)) same ∙ before))
    go false f = let l = h q (ap₂ (λ a b. a || b) f e) before in omega (arith, l, more.items q)

-- the same pools are there where as many processes and doors are

pub there_by_length : {X Y : Type 0} (xs : List X) (ys : List Y) (i : ℕ) → length ys ≡ length xs → is_some (at_number xs i) ≡ true → is_some (at_number ys i) ≡ true
there_by_length xs ys i same e = go (at_number xs i) refl e
  where
    go : (o : Option _) → at_number xs i ≡ o → is_some o ≡ true → is_some (at_number ys i) ≡ true
    go None f g = absurd (true≢false (sym g))
    go (Some x) f g = let w : (1 ≤ i) × (i ≤ length xs) = numbered_within xs i x f in numbered_there ys i w.0 (omega arith)

pub there_before :
    (v w : PoolsValue) → length w.common ≡ length v.common → length w.private ≡ length v.private → (q : Pool) → is_some (pool_at w q) ≡ true →
    is_some (pool_at v q) ≡ true
there_before v w common private (Common p) t = there_by_length w.common v.common p.0 (sym common) t
there_before v w common private (Private d) t = there_by_length w.private v.private d (sym private) t
