-- Giving out of turn: the oldest item of one pool is given first, and then the others get what they would have got.
use Rattle.std.proofs.Common.{◌≡◌, ◌⊎◌, inl, inr, ℕ, zero, suc, ◌==◌, ◌&&◌, Bool, true, false, if◌then◌else◌, nat_le, List, [], ◌∷◌, ◌++◌, Option, None, Some, option_map, length, refl, sym, ap, ap₂, subst, true≢false, ⊎_elim, ◌∙◌, slice_set, arith}
use Rattle.std.specs.List.{AllByRecursion}
use Rattle.std.proofs.lemmas.Bool.Decides.{nat_tests}
use Rattle.dk_base.specs.ByNumber.{at_number, with_at_number}
use Rattle.dk_base.specs.declared.object.Item.TheVariants as item
use Rattle.spec_records.specs.declared.record.CallStage.TheVariants as stage
use Rattle.spec_records.specs.declared.record.NoticeStage.TheVariants as notice
use Rattle.spec_records.specs.declared.record.ThreadState.TheVariants as is
use Rattle.spec_records.specs.Words.{CallTree, NoticeList, ProcessTable, at_stage, better_parked, change_thread, change_thread_in, give_call, give_notice, give_thread, is_pool, is_queued, is_queued_as, is_waiting_notice_as, is_waiting_stage, later_parked, notice_at, parked_at, parked_thread, pick_among, pick_parked, pool_in, thread_at, thread_at_state, tid}
use Rattle.spec_records.proofs.NumberedLists.{change_first-swap}
use Rattle.spec_kernel.specs.Types.{Door, Item, Parked, Pool, Thread, Waiting}
use Rattle.spec_kernel.specs.Words.{State, give_each, give_one, give_to, pick, pool_of}
use Rattle.spec_kernel.proofs.Giving.{same_pool}
use Rattle.spec_records.proofs.Lists.{same_length, with_at_number-suc}
use Rattle.spec_kernel.proofs.Threads.{map-change_thread, thread_at-change_thread}
use Rattle.server_pool.specs.Words.{is_item}
use Rattle.law_pools.proofs.Merged.{is_served_in}
use Rattle.law_pools.proofs.Parked.{parked_number}
use Rattle.law_pools.proofs.Readers.{is_pool-sym}

-- the pick of a pool is parked in it

record IsPickOf (table : ProcessTable) (bindings : List (Option ℕ)) (pool : Pool) (x : Parked) : Type 0 where
  parked : parked_at table bindings x.thread.0 ≡ Some x
  of_pool : is_pool pool x.pool ≡ true

-- the better of two is the first of them, or the second, which is of the pool
better_either :
    (pool : Pool) (best o : Option Parked) (y : Parked) → better_parked pool best o ≡ Some y →
    (best ≡ Some y) ⊎ ((o ≡ Some y) × (is_pool pool y.pool ≡ true))
better_either pool best None y e = inl e
better_either pool best (Some x) y e = go (is_pool pool x.pool) refl e
  where
    by_time :
        (b : Bool) (z : Parked) → best ≡ Some z → is_pool pool x.pool ≡ true → (if b then Some x else Some z) ≡ Some y →
        (best ≡ Some y) ⊎ ((Some x ≡ Some y) × (is_pool pool y.pool ≡ true))
    by_time true z f k e = let same : x ≡ y = cc in inr (e, ap (λ (p : Parked). is_pool pool p.pool) (sym same) ∙ k)
    by_time false z f k e = inl (f ∙ e)

    later :
        (o : Option Parked) → best ≡ o → is_pool pool x.pool ≡ true → later_parked o x ≡ Some y →
        (best ≡ Some y) ⊎ ((Some x ≡ Some y) × (is_pool pool y.pool ≡ true))
    later None f k e = let same : x ≡ y = cc in inr (e, ap (λ (p : Parked). is_pool pool p.pool) (sym same) ∙ k)
    later (Some z) f k e = by_time (nat_le z.since x.since) z f k e

    go :
        (b : Bool) → is_pool pool x.pool ≡ b → (if b then later_parked best x else best) ≡ Some y →
        (best ≡ Some y) ⊎ ((Some x ≡ Some y) × (is_pool pool y.pool ≡ true))
    go true k e = later best refl k e
    go false k e = inl e

pick_among_is :
    (table : ProcessTable) (bindings : List (Option ℕ)) (pool : Pool) (n : ℕ) (y : Parked) →
    pick_among table bindings pool n ≡ Some y → IsPickOf table bindings pool y
pick_among_is table bindings pool zero y e = cc
pick_among_is table bindings pool (suc n) y e =
    ⊎_elim (pick_among_is table bindings pool n y) here
    (better_either pool (pick_among table bindings pool n) (parked_at table bindings (suc n)) y e)
  where
    here : (parked_at table bindings (suc n) ≡ Some y) × (is_pool pool y.pool ≡ true) → IsPickOf table bindings pool y
    here (f, k) = record { parked = ap (parked_at table bindings) (parked_number table bindings (suc n) y f) ∙ f; of_pool = k }

pick_is :
    (table : ProcessTable) (bindings : List (Option ℕ)) (pool : Pool) (y : Parked) → pick_parked table bindings pool ≡ Some y →
    IsPickOf table bindings pool y
pick_is table bindings pool y e = pick_among_is table bindings pool (length table.threads) y e

-- a thread of one pool is given an item: other pools have the pick that they had

given_parked :
    (table : ProcessTable) (bindings : List (Option ℕ)) (u : ℕ) (i : Item) (t : ℕ) →
    (parked_at (give_thread table u i) bindings t ≡ parked_at table bindings t)
    ⊎ ((t ≡ u) × (parked_at (give_thread table u i) bindings t ≡ None))
given_parked table bindings u i t = go (t == u) refl
  where
    none : (o : Option Thread) → parked_thread bindings t (option_map (thread_at_state (is.Given i)) o) ≡ None
    none None = refl
    none (Some x) = refl

    changed :
        (b : Bool) → (t == u) ≡ b →
        parked_at (give_thread table u i) bindings t
        ≡ parked_thread bindings t
        (if b then option_map (thread_at_state (is.Given i)) (thread_at table u) else thread_at table t)
    changed b e =
        ap (parked_thread bindings t)
        (thread_at-change_thread table u t (thread_at_state (is.Given i))
        ∙ ap (λ c. if c then option_map (thread_at_state (is.Given i)) (thread_at table u) else thread_at table t) e)

    go :
        (b : Bool) → (t == u) ≡ b →
        (parked_at (give_thread table u i) bindings t ≡ parked_at table bindings t)
        ⊎ ((t ≡ u) × (parked_at (give_thread table u i) bindings t ≡ None))
    go true e = inr (grind (arith, nat_tests), changed true e ∙ none (thread_at table u))
    go false e = inl (changed false e)

module _ (table : ProcessTable) (bindings : List (Option ℕ)) (pool : Pool) (x : Parked) (i : Item) where
  better_given :
      parked_at table bindings x.thread.0 ≡ Some x → is_pool pool x.pool ≡ false → (best : Option Parked) (t : ℕ) →
      better_parked pool best (parked_at (give_thread table x.thread.0 i) bindings t) ≡ better_parked pool best (parked_at table bindings t)
  better_given p k best t = ⊎_elim (ap (better_parked pool best)) gone (given_parked table bindings x.thread.0 i t)
    where
      gone :
          (t ≡ x.thread.0) × (parked_at (give_thread table x.thread.0 i) bindings t ≡ None) →
          better_parked pool best (parked_at (give_thread table x.thread.0 i) bindings t) ≡ better_parked pool best (parked_at table bindings t)
      gone (e, f) =
          ap (better_parked pool best) f
          ∙ sym
          (ap (better_parked pool best) (ap (parked_at table bindings) e ∙ p)
          ∙ ap (λ b. if b then later_parked best x else best) k)

  pick_among-given :
      parked_at table bindings x.thread.0 ≡ Some x → is_pool pool x.pool ≡ false → (n : ℕ) →
      pick_among (give_thread table x.thread.0 i) bindings pool n ≡ pick_among table bindings pool n
  pick_among-given p k zero = refl
  pick_among-given p k (suc n) =
      ap (λ best. better_parked pool best (parked_at (give_thread table x.thread.0 i) bindings (suc n))) (pick_among-given p k n)
      ∙ better_given p k (pick_among table bindings pool n) (suc n)

  pick-given :
      (from : Pool) → pick_parked table bindings from ≡ Some x → is_pool from pool ≡ false →
      pick_parked (give_thread table x.thread.0 i) bindings pool ≡ pick_parked table bindings pool
  pick-given from e f =
      ap (pick_among (give_thread table x.thread.0 i) bindings pool)
      (same_length (λ (y : Thread). y.number) (give_thread table x.thread.0 i).threads table.threads
      (map-change_thread (λ (y : Thread). y.number) table x.thread.0 (thread_at_state (is.Given i)) (λ y. refl)))
      ∙ pick_among-given here.parked (elsewhere (is_pool pool x.pool) refl) (length table.threads)
    where
      here : IsPickOf table bindings from x
      here = pick_is table bindings from x e

      elsewhere : (b : Bool) → is_pool pool x.pool ≡ b → b ≡ false
      elsewhere false k = refl
      elsewhere true k =
          absurd
          (true≢false
          (sym here.of_pool ∙ ap (is_pool from) (sym (same_pool pool x.pool k)) ∙ f))

pub give_one-doors : (m : State) (i : Item) (u : ℕ) → (give_one m i u).doors ≡ m.doors
give_one-doors m (item.Call c) u = refl
give_one-doors m (item.Notice n) u = refl

give_one-elsewhere :
    (m : State) (i : Item) (from pool : Pool) (x : Parked) → pick m from ≡ Some x → is_pool from pool ≡ false →
    pick (give_one m i x.thread.0) pool ≡ pick m pool
give_one-elsewhere m (item.Call c) from pool x e f = pick-given m.process_table m.bindings pool x (item.Call c) from e f
give_one-elsewhere m (item.Notice n) from pool x e f = pick-given m.process_table m.bindings pool x (item.Notice n) from e f

-- two givings of different items to different threads, in either order

two_places : {X : Type 0} (xs : List X) (i j : ℕ) (x y : X) → (i ≡ j → ⊥) → slice_set (slice_set xs i x) j y ≡ slice_set (slice_set xs j y) i x
two_places [] i j x y ne = refl
two_places (z ∷ zs) zero zero x y ne = absurd (ne refl)
two_places (z ∷ zs) zero (suc j) x y ne = refl
two_places (z ∷ zs) (suc i) zero x y ne = refl
two_places (z ∷ zs) (suc i) (suc j) x y ne = ap (λ us. z ∷ us) (two_places zs i j x y (λ e. ne (ap suc e)))

two_numbers :
    {X : Type 0} (xs : List X) (n k : ℕ) (x y : X) → (n ≡ k → ⊥) →
    with_at_number (with_at_number xs n x) k y ≡ with_at_number (with_at_number xs k y) n x
two_numbers xs zero k x y ne = refl
two_numbers xs (suc n) zero x y ne = refl
two_numbers xs (suc n) (suc k) x y ne =
    ap (λ ys. with_at_number ys (suc k) y) (with_at_number-suc xs n x)
    ∙ with_at_number-suc (slice_set xs n x) k y
    ∙ two_places xs n k x y (λ e. ne (ap suc e))
    ∙ sym (ap (λ ys. with_at_number ys (suc n) x) (with_at_number-suc xs k y) ∙ with_at_number-suc (slice_set xs k y) n x)

two_threads :
    (table : ProcessTable) (t u : ℕ) (f g : Thread → Thread) → (t ≡ u → ⊥) →
    change_thread (change_thread table t f) u g ≡ change_thread (change_thread table u g) t f
two_threads table t u f g ne =
    ap (change_thread_in (change_thread table t f) u g) (elsewhere t u f ne)
    ∙ go (thread_at table t) (thread_at table u)
    ∙ sym (ap (change_thread_in (change_thread table u g) t f) (elsewhere u t g (λ e. ne (sym e))))
  where
    elsewhere : (a b : ℕ) (h : Thread → Thread) → (a ≡ b → ⊥) → thread_at (change_thread table a h) b ≡ thread_at table b
    elsewhere a b h other = thread_at-change_thread table a b h ∙ at (b == a) refl
      where
        at : (c : Bool) → (b == a) ≡ c → (if c then option_map h (thread_at table a) else thread_at table b) ≡ thread_at table b
        at true e = absurd (other (grind (arith, nat_tests)))
        at false e = refl

    go :
        (o p : Option Thread) →
        change_thread_in (change_thread_in table t f o) u g p ≡ change_thread_in (change_thread_in table u g p) t f o
    go None None = refl
    go None (Some y) = refl
    go (Some x) None = refl
    go (Some x) (Some y) = ap (λ xs. record table { threads = xs }) (two_numbers table.threads t u (f x) (g y) ne)

and_false : (b : Bool) → b && false ≡ false
and_false true = refl
and_false false = refl

-- an item has one number
one_number : (n c d : ℕ) (rest : Bool) → (c == d) ≡ false → (n == c) && rest ≡ true → (n == d) && rest ≡ false
one_number n c d rest ne e = grind (arith, nat_tests)

two_calls_given :
    (tree : CallTree) (c d t u : ℕ) → (c == d) ≡ false → give_call (give_call tree c t) d u ≡ give_call (give_call tree d u) c t
two_calls_given tree c d t u ne =
    ap (λ rs. record tree { calls = rs })
    (change_first-swap (is_queued_as d) (is_queued_as c) (at_stage (stage.Given (tid u))) (at_stage (stage.Given (tid t)))
    (λ r e. one_number r.number d c (is_queued r.stage) (grind (arith, nat_tests)) e) (λ r e. and_false (r.number == c))
    (λ r e. and_false (r.number == d)) tree.calls)

two_notices_given :
    (list : NoticeList) (c d t u : ℕ) → (c == d) ≡ false → give_notice (give_notice list c t) d u ≡ give_notice (give_notice list d u) c t
two_notices_given list c d t u ne =
    ap (λ ns. record list { notices = ns })
    (change_first-swap (is_waiting_notice_as d) (is_waiting_notice_as c) (notice_at (notice.Given (tid u))) (notice_at (notice.Given (tid t)))
    (λ n e. one_number n.number d c (is_waiting_stage n.stage) (grind (arith, nat_tests)) e) (λ n e. and_false (n.number == c))
    (λ n e. and_false (n.number == d)) list.notices)

two_given :
    (m : State) (i j : Item) (t u : ℕ) → is_item i j ≡ false → (t ≡ u → ⊥) → give_one (give_one m i t) j u ≡ give_one (give_one m j u) i t
two_given m (item.Call c) (item.Call d) t u e ne =
    ap₂ (λ table tree. record m { process_table = table; call_tree = tree })
    (two_threads m.process_table t u (thread_at_state (is.Given (item.Call c))) (thread_at_state (is.Given (item.Call d))) ne)
    (two_calls_given m.call_tree c d t u e)
two_given m (item.Notice c) (item.Notice d) t u e ne =
    ap₂ (λ table list. record m { process_table = table; notice_list = list })
    (two_threads m.process_table t u (thread_at_state (is.Given (item.Notice c))) (thread_at_state (is.Given (item.Notice d))) ne)
    (two_notices_given m.notice_list c d t u e)
two_given m (item.Call c) (item.Notice d) t u e ne =
    ap (λ table. record m { process_table = table; call_tree = give_call m.call_tree c t; notice_list = give_notice m.notice_list d u })
    (two_threads m.process_table t u (thread_at_state (is.Given (item.Call c))) (thread_at_state (is.Given (item.Notice d))) ne)
two_given m (item.Notice c) (item.Call d) t u e ne =
    ap (λ table. record m { process_table = table; call_tree = give_call m.call_tree d u; notice_list = give_notice m.notice_list c t })
    (two_threads m.process_table t u (thread_at_state (is.Given (item.Notice c))) (thread_at_state (is.Given (item.Call d))) ne)

-- the picks of two pools are different threads
other_thread :
    (m : State) (a b : Pool) (x y : Parked) → pick m a ≡ Some x → pick m b ≡ Some y → is_pool a b ≡ false → x.thread.0 ≡ y.thread.0 → ⊥
other_thread m a b x y e f ne t =
    let h : IsPickOf m.process_table m.bindings a x = pick_is m.process_table m.bindings a x e in
    let k : IsPickOf m.process_table m.bindings b y = pick_is m.process_table m.bindings b y f in
    let both : Some x ≡ Some y = sym h.parked ∙ ap (parked_at m.process_table m.bindings) t ∙ k.parked in
    let same : x ≡ y = cc in
    true≢false (sym h.of_pool ∙ ap (λ (z : Parked). is_pool a z.pool) same ∙ ap (is_pool a) (sym (same_pool b y.pool k.of_pool)) ∙ ne)

-- the pick of a pool takes an item of it before those of other pools that are older

abbrev pub AreElsewhere : List Door → Pool → List Waiting → Type 0
AreElsewhere doors pool ws = AllByRecursion (λ v. is_served_in doors pool v ≡ false) ws

abbrev pub AreOthers : Item → List Waiting → Type 0
AreOthers i ws = AllByRecursion (λ v. is_item v.item i ≡ false) ws

-- the pool's pick takes its oldest item
given_to_pick :
    (m : State) (pool : Pool) (w : Waiting) (ws : List Waiting) (x : Parked) → is_served_in m.doors pool w ≡ true →
    pick m pool ≡ Some x → give_each m (w ∷ ws) ≡ give_each (give_one m w.item x.thread.0) ws
given_to_pick m pool w ws x k e =
    ap (λ o. give_each (give_to m w o) ws) (ap (pick m) (sym (same_pool pool (pool_of m w.door) k)) ∙ e)

pub give_out_of_turn :
    (m : State) (pool : Pool) (w : Waiting) (x : Parked) (earlier later : List Waiting) → pick m pool ≡ Some x →
    is_served_in m.doors pool w ≡ true → AreElsewhere m.doors pool earlier → AreOthers w.item earlier →
    give_each m (earlier ++ w ∷ later) ≡ give_each (give_one m w.item x.thread.0) (earlier ++ later)
give_out_of_turn m pool w x [] later e s a o = given_to_pick m pool w later x s e
give_out_of_turn m pool w x (v ∷ vs) later e s a o =
    go
    (λ k d p.
    give_out_of_turn k pool w x vs later p (subst (λ doors. is_served_in doors pool w ≡ true) (sym d) s)
    (subst (λ doors. AreElsewhere doors pool vs) (sym d) a.1) o.1)
    (pick m (pool_of m v.door)) refl
  where
    t : ℕ
    t = x.thread.0

    given : State
    given = give_one m w.item t

    -- v is of another pool, whose pick is the same after w is given
    same_pick : pick given (pool_of given v.door) ≡ pick m (pool_of m v.door)
    same_pick =
        ap (λ doors. pick given (pool_in (at_number doors v.door))) (give_one-doors m w.item t)
        ∙ give_one-elsewhere m w.item pool (pool_of m v.door) x e a.0

    Goes : Type 0
    Goes =
        (k : State) → k.doors ≡ m.doors → pick k pool ≡ Some x →
        give_each k (vs ++ w ∷ later) ≡ give_each (give_one k w.item t) (vs ++ later)

    go :
        Goes → (p : Option Parked) → pick m (pool_of m v.door) ≡ p → give_each m (v ∷ vs ++ w ∷ later) ≡ give_each given (v ∷ vs ++ later)
    go ih None f =
        ap (λ q. give_each (give_to m v q) (vs ++ w ∷ later)) f
        ∙ ih m refl e
        ∙ sym (ap (λ q. give_each (give_to given v q) (vs ++ later)) (same_pick ∙ f))
    go ih (Some y) f =
        ap (λ q. give_each (give_to m v q) (vs ++ w ∷ later)) f
        ∙ ih (give_one m v.item y.thread.0) (give_one-doors m v.item y.thread.0)
        (give_one-elsewhere m v.item (pool_of m v.door) pool y f (is_pool-sym (pool_of m v.door) pool ∙ a.0) ∙ e)
        ∙ ap (λ k. give_each k (vs ++ later))
        (two_given m v.item w.item y.thread.0 t o.0
        (λ same. other_thread m pool (pool_of m v.door) x y e f a.0 (sym same)))
        ∙ sym (ap (λ q. give_each (give_to given v q) (vs ++ later)) (same_pick ∙ f))
