-- Items that leave their queues: one change of the pools after the other.
use Rattle.std.proofs.Common.{◌≡◌, ℕ, suc, ◌+◌, ◌≤◌, ◌&&◌, ◌||◌, not, Bool, true, false, if◌then◌else◌, List, [], ◌∷◌, Option, Some, None, option_map, is_some, length, count_by, filter, take, get_or, refl, sym, ap, ap₂, ◌∙◌, subst, subst₂, le_refl, ◌<◌, arith}
use Rattle.std.proofs.Math.Seq.{take-suc}
use Rattle.std.proofs.lemmas.List.Folds.{list_any-append}
use Rattle.std.proofs.lemmas.List.Sums.{count_by-le-length, length-filter, sum_by-cons}
use Rattle.spec_records.specs.declared.pool.Pool.TheVariants.{Common, Private}
use Rattle.spec_records.specs.Words.{is_pool}
use Rattle.spec_kernel.specs.Types.{Door, Pool, Waiting}
use Rattle.server_pool.specs.Words.{PoolValue, PoolsValue, change_pool, drop_door_in, is_waiting_at, items_waiting_at, pool_at, pool_or_empty, queue_in, with_waiting}
use Rattle.server_pool.proofs.Changed.{pool_changed, pool_kept}
use Rattle.law_pools.proofs.Leaving.{read_change, read_kept}
use Rattle.law_pools.proofs.Readers.{bindings-change_pool, common-change_pool, private-change_pool, spares-change_pool}
use Rattle.exit_paths.specs.Words.{HaveLeft, is_at_door, is_at_lost, kept_where, none_gone, pool_of_number, waiting_total}

-- lists

pub filter_alike : {X : Type 0} (p q : X → Bool) → ((x : X) → p x ≡ q x) → (xs : List X) → filter p xs ≡ filter q xs
filter_alike p q h [] = refl
filter_alike p q h (x ∷ xs) = ap₂ (λ b ys. if b then x ∷ ys else ys) (h x) (filter_alike p q h xs)

pub filter_all : {X : Type 0} (p : X → Bool) → ((x : X) → p x ≡ true) → (xs : List X) → filter p xs ≡ xs
filter_all p h [] = refl
filter_all p h (x ∷ xs) = ap₂ (λ b ys. if b then x ∷ ys else ys) (h x) (filter_all p h xs)

-- those that pass both
pub filter_both : {X : Type 0} (p q : X → Bool) (xs : List X) → filter q (filter p xs) ≡ filter (λ x. p x && q x) xs
filter_both p q [] = refl
filter_both p q (x ∷ xs) = go (p x) (filter_both p q xs)
  where
    go : (b : Bool) → filter q (filter p xs) ≡ filter (λ y. p y && q y) xs → filter q (if b then x ∷ filter p xs else filter p xs) ≡ (if b && q x then x ∷ filter (λ y. p y && q y) xs else filter (λ y. p y && q y) xs)
    go true h = ap (λ ys. if q x then x ∷ ys else ys) h
    go false h = h

-- no change

pub left_none : (v : PoolsValue) → HaveLeft none_gone v v
left_none v =
    record {
      bindings = refl;
      stacks = λ q. refl;
      queues = λ q. sym (filter_all (kept_where (none_gone q)) (λ x. refl) (queue_in v q));
      spares = refl;
      common = refl;
      private = refl;
      there = λ q. refl;
      threads = λ q. refl;
      items = λ q. le_refl _;
      doors = refl;
    }

-- one change after another

module _ {g h : Pool → Waiting → Bool} {u v w : PoolsValue} (a : HaveLeft g u v) (b : HaveLeft h v w) where
  pub left_then : HaveLeft (λ q x. g q x || h q x) u w
  left_then =
      record {
        bindings = b.bindings ∙ a.bindings;
        stacks = λ q. b.stacks q ∙ a.stacks q;
        queues =
            λ q. b.queues q ∙ ap (filter (kept_where (h q))) (a.queues q) ∙ filter_both (kept_where (g q)) (kept_where (h q)) (queue_in u q)
            ∙ filter_alike (λ x. kept_where (g q) x && kept_where (h q) x) (kept_where (λ x. g q x || h q x)) (λ x. both (g q x) (h q x)) (queue_in u q);
        spares = b.spares ∙ a.spares;
        common = b.common ∙ a.common;
        private = b.private ∙ a.private;
        there = λ q. b.there q ∙ a.there q;
        threads = λ q. b.threads q ∙ a.threads q;
        items = λ q. omega (arith, a.items q, b.items q);
        doors = b.doors ∙ a.doors;
      }
    where
      both : (x y : Bool) → (not x && not y) ≡ not (x || y)
      both true y = refl
      both false y = refl

pub left_as : {g h : Pool → Waiting → Bool} {v w : PoolsValue} → HaveLeft g v w → ((q : Pool) (x : Waiting) → g q x ≡ h q x) → HaveLeft h v w
left_as {g} {h} {v} {w} a same =
    record {
      bindings = a.bindings;
      stacks = a.stacks;
      queues = λ q. a.queues q ∙ filter_alike (kept_where (g q)) (kept_where (h q)) (λ x. ap not (same q x)) (queue_in v q);
      spares = a.spares;
      common = a.common;
      private = a.private;
      there = a.there;
      threads = a.threads;
      items = a.items;
      doors = a.doors;
    }

-- of one pool those leave that pass

module _ (v : PoolsValue) (pool : Pool) (leaves : Waiting → Bool) where
  abbrev change : PoolValue → PoolValue
  change x = with_waiting (filter (λ w. not (leaves w)) x.waiting) x

  kept_doors : (q : Pool) → (change_pool v q change).door_room ≡ v.door_room
  kept_doors (Common p) = refl
  kept_doors (Private d) = refl

  kept_there : (q : Pool) (b : Bool) → is_pool pool q ≡ b → is_some (pool_at (change_pool v pool change) q) ≡ is_some (pool_at v q)
  kept_there q true e = ap is_some (pool_changed v pool q change e) ∙ go (pool_at v q)
    where
      go : (o : Option PoolValue) → is_some (option_map change o) ≡ is_some o
      go None = refl
      go (Some x) = refl
  kept_there q false e = ap is_some (pool_kept v pool q change e)

  fewer : (xs : List Waiting) → length (filter (λ w. not (leaves w)) xs) ≤ length xs
  fewer xs = subst (λ n. n ≤ length xs) (sym (length-filter (λ w. not (leaves w)) xs)) (count_by-le-length (λ w. not (leaves w)) xs)

  more_items : (q : Pool) (b : Bool) → is_pool pool q ≡ b → (pool_or_empty (pool_at v q)).item_room ≤ (pool_or_empty (pool_at (change_pool v pool change) q)).item_room
  more_items q true e = subst (λ (o : Option PoolValue). (pool_or_empty (pool_at v q)).item_room ≤ (pool_or_empty o).item_room) (sym (pool_changed v pool q change e)) (go (pool_at v q))
    where
      go : (o : Option PoolValue) → (pool_or_empty o).item_room ≤ (pool_or_empty (option_map change o)).item_room
      go None = le_refl 0
      go (Some x) = omega (arith, fewer x.waiting)
  more_items q false e = subst (λ (o : Option PoolValue). (pool_or_empty (pool_at v q)).item_room ≤ (pool_or_empty o).item_room) (sym (pool_kept v pool q change e)) (le_refl _)

  pub left_pool : HaveLeft (λ q w. is_pool pool q && leaves w) v (change_pool v pool change)
  left_pool =
      record {
        bindings = bindings-change_pool v pool change;
        stacks = read_kept (λ (x : PoolValue). x.parked) change (λ x. refl) v pool;
        queues =
            λ q. read_change (λ (x : PoolValue). x.waiting) (filter (λ w. not (leaves w))) change (λ x. refl) refl v pool q ∙ queue (is_pool pool q) (queue_in v q);
        spares = spares-change_pool v pool change;
        common = common-change_pool v pool change;
        private = private-change_pool v pool change;
        there = λ q. kept_there q (is_pool pool q) refl;
        threads = read_kept (λ (x : PoolValue). x.thread_room) change (λ x. refl) v pool;
        items = λ q. more_items q (is_pool pool q) refl;
        doors = kept_doors pool;
      }
    where
      queue : (b : Bool) (xs : List Waiting) → (if b then filter (λ w. not (leaves w)) xs else xs) ≡ filter (kept_where (λ w. b && leaves w)) xs
      queue true xs = refl
      queue false xs = sym (filter_all (kept_where (λ w. false)) (λ x. refl) xs)

-- how much waits at doors is no more than before

pub count_cons : {X : Type 0} (p : X → Bool) (x : X) (xs : List X) → count_by p (x ∷ xs) ≡ (if p x then 1 else 0) + count_by p xs
count_cons p x xs = sym (length-filter p (x ∷ xs)) ∙ go (p x) ∙ ap (λ k. (if p x then 1 else 0) + k) (length-filter p xs)
  where
    go : (b : Bool) → length (if b then x ∷ filter p xs else filter p xs) ≡ (if b then 1 else 0) + length (filter p xs)
    go true = omega arith
    go false = omega arith

fewer_counted : {X : Type 0} (p q : X → Bool) (xs : List X) → count_by p (filter q xs) ≤ count_by p xs
fewer_counted p q [] = le_refl 0
fewer_counted p q (x ∷ xs) = go (q x) (fewer_counted p q xs)
  where
    go : (b : Bool) → count_by p (filter q xs) ≤ count_by p xs → count_by p (if b then x ∷ filter q xs else filter q xs) ≤ count_by p (x ∷ xs)
    go true h = subst₂ (λ m n. m ≤ n) (sym (count_cons p x (filter q xs))) (sym (count_cons p x xs)) (omega (arith, h))
    go false h = subst (λ n. count_by p (filter q xs) ≤ n) (sym (count_cons p x xs)) (omega (arith, h))

pub fewer_waiting : {gone : Pool → Waiting → Bool} {v w : PoolsValue} → HaveLeft gone v w → (d : ℕ) (q : Pool) → items_waiting_at d (queue_in w q) ≤ items_waiting_at d (queue_in v q)
fewer_waiting {gone} {v} {w} a d q =
    subst (λ xs. items_waiting_at d xs ≤ items_waiting_at d (queue_in v q)) (sym (a.queues q)) (fewer_counted (is_waiting_at d) (kept_where (gone q)) (queue_in v q))

pub total_cons : (doors : List Door) (v : PoolsValue) (d : ℕ) (ds : List ℕ) → waiting_total doors v (d ∷ ds) ≡ items_waiting_at d (queue_in v (pool_of_number doors d)) + waiting_total doors v ds
total_cons doors v d ds = sum_by-cons (λ e. items_waiting_at e (queue_in v (pool_of_number doors e))) d ds

pub fewer_in_all : {gone : Pool → Waiting → Bool} {v w : PoolsValue} → HaveLeft gone v w → (doors : List Door) (ds : List ℕ) → waiting_total doors w ds ≤ waiting_total doors v ds
fewer_in_all a doors [] = le_refl 0
fewer_in_all {gone} {v} {w} a doors (d ∷ ds) =
    subst₂ (λ m n. m ≤ n) (sym (total_cons doors w d ds)) (sym (total_cons doors v d ds))
    (omega (arith, fewer_waiting a d (pool_of_number doors d), fewer_in_all a doors ds))

-- the next door

pub next_lost :
    (doors : List Door) (lost : List ℕ) {v w u : PoolsValue} (i d : ℕ) → i < length lost → HaveLeft (is_at_lost doors (take i lost)) v w →
    u ≡ change_pool w (pool_of_number doors (get_or lost i d)) (drop_door_in (get_or lost i d)) → HaveLeft (is_at_lost doors (take (suc i) lost)) v u
next_lost doors lost {v} {w} {u} i d l a is =
    left_as (left_then a here) (λ q x. same q x)
  where
    e : ℕ
    e = get_or lost i d

    here : HaveLeft (λ q x. is_pool (pool_of_number doors e) q && is_waiting_at e x) w u
    here = subst (HaveLeft (λ q x. is_pool (pool_of_number doors e) q && is_waiting_at e x) w) (sym is) (left_pool w (pool_of_number doors e) (is_waiting_at e))

    or_none : (a b : Bool) → (a || b) ≡ (a || (b || false))
    or_none true b = refl
    or_none false true = refl
    or_none false false = refl

    same : (q : Pool) (x : Waiting) → (is_at_lost doors (take i lost) q x || is_at_door doors q x e) ≡ is_at_lost doors (take (suc i) lost) q x
    same q x =
        or_none (is_at_lost doors (take i lost) q x) (is_at_door doors q x e)
        ∙ sym (list_any-append (is_at_door doors q x) (take i lost) (e ∷ []))
        ∙ sym (ap (λ ds. is_at_lost doors ds q x) (take-suc lost i d l))
