-- What becomes of one thread and of its pool, where callers leave and threads end.
use Rattle.std.proofs.Common.{◌≡◌, ℕ, zero, suc, ◌+◌, ◌≤◌, ◌==◌, ◌&&◌, Bool, true, false, if◌then◌else◌, List, [], ◌∷◌, Option, Some, None, option_map, is_some, length, filter, slice_get, slice_set, refl, sym, ap, ◌∙◌, subst, le_refl, le_trans, length-append, arith}
use Rattle.std.specs.List.{AllByRecursion}
use Rattle.dk_base.specs.ByNumber.{at_number, with_at_number}
use Rattle.spec_records.specs.declared.pool.Pool.TheVariants.{Common, Private}
use Rattle.spec_records.specs.declared.record.ThreadState.TheVariants as is
use Rattle.spec_records.specs.Words.{CallTree, NoticeList, ProcessTable, bound_at, cancelled_thread, change_thread, change_thread_in, end_thread, ended_thread, idle_thread, interrupted_state, interrupted_where, is_dormant, is_idle, is_pool, is_spare_of, park_thread, parked_in, pool_of_thread, process_in, thread_at, tid}
use Rattle.spec_kernel.specs.Types.{Door, Parked, Pool, Thread, ThreadState}
use Rattle.spec_records.proofs.Lists.{at_number-suc, with_at_number-suc}
use Rattle.server_pool.specs.Words.{AllParkedBefore, ParkedBefore, PoolValue, PoolsValue, change_pool, change_spares, is_another_thread, park_in, pool_at, pool_or_empty, stack_in, thread_room_in, unpark_in, with_parked, without_thread, item_room_in}
use Rattle.server_pool.proofs.Changed.{pool_changed, pool_kept}
use Rattle.law_pools.specs.Words.{Agrees, pool_by}
use Rattle.law_pools.proofs.Leaving.{read_change}
use Rattle.law_pools.proofs.Readers.{bindings-change_pool}
use Rattle.law_pools.proofs.Stacks.{state_changed, thread_there}
use Rattle.law_pools.proofs.Unparking.{agrees_alike, agrees_park_after, change_twice}
use Rattle.exit_paths.specs.Words.{KeepsItems, own_pool_in, places_in}

-- the record of one thread

written_same : {X : Type 0} (xs : List X) (k : ℕ) (x : X) → at_number xs k ≡ Some x → with_at_number xs k x ≡ xs
written_same xs zero x e = refl
written_same xs (suc k) x e = with_at_number-suc xs k x ∙ go xs k (sym (at_number-suc xs k) ∙ e)
  where
    go : (ys : List _) (j : ℕ) → slice_get ys j ≡ Some x → slice_set ys j x ≡ ys
    go [] j f = cc
    go (y ∷ ys) zero f = let same : y ≡ x = cc in ap (λ z. z ∷ ys) (sym same)
    go (y ∷ ys) (suc j) f = ap (λ zs. y ∷ zs) (go ys j f)

pub change_nothing : (table : ProcessTable) (t : ℕ) → change_thread table t (λ x. x) ≡ table
change_nothing table t = go (thread_at table t) refl
  where
    go : (o : Option Thread) → thread_at table t ≡ o → change_thread_in table t (λ x. x) o ≡ table
    go None e = refl
    go (Some x) e = ap (λ xs. record table { threads = xs }) (written_same table.threads t x e)

pub there_changed : (table : ProcessTable) (t : ℕ) (change : Thread → Thread) → is_some (thread_at table t) ≡ true → is_some (thread_at (change_thread table t change) t) ≡ true
there_changed table t change there = ap is_some (thread_there table t change) ∙ go (thread_at table t) there
  where
    go : (o : Option Thread) → is_some o ≡ true → is_some (option_map change o) ≡ true
    go None e = cc
    go (Some x) e = refl

pub own_pool_changed :
    (table : ProcessTable) (bindings : List (Option ℕ)) (t : ℕ) (change : Thread → Thread) → ((x : Thread) → (change x).process.0 ≡ x.process.0) →
    own_pool_in (change_thread table t change) bindings t ≡ own_pool_in table bindings t
own_pool_changed table bindings t change same =
    ap (λ p. pool_by p (bound_at bindings t)) (ap process_in (thread_there table t change) ∙ go (thread_at table t))
  where
    go : (o : Option Thread) → process_in (option_map change o) ≡ process_in o
    go None = refl
    go (Some x) = same x

-- an interrupt and a flag of an invocation leave threads as parked

interrupted_process : (b : Bool) (x : Thread) → (interrupted_where b x).process.0 ≡ x.process.0
interrupted_process true x = refl
interrupted_process false x = refl

pub own_pool_interrupted :
    (table : ProcessTable) (bindings : List (Option ℕ)) (t : ℕ) (b : Bool) →
    own_pool_in (change_thread table t (interrupted_where b)) bindings t ≡ own_pool_in table bindings t
own_pool_interrupted table bindings t b = own_pool_changed table bindings t (interrupted_where b) (interrupted_process b)

module _ {n : ℕ} {table : ProcessTable} {doors : List Door} {tree : CallTree} {list : NoticeList} {v : PoolsValue} (h : Agrees n table doors tree list v) (t : ℕ) where
  pub agrees_cancelled : Agrees n (change_thread table t cancelled_thread) doors tree list v
  agrees_cancelled = agrees_alike h t cancelled_thread (λ x b. refl) (λ x p. refl)

  pub agrees_interrupted : (b : Bool) → Agrees n (change_thread table t (interrupted_where b)) doors tree list v
  agrees_interrupted b = agrees_alike h t (interrupted_where b) (parked b) (spare b)
    where
      at_state : (pool : Pool) (s : ThreadState) → parked_in t pool (interrupted_state s) ≡ parked_in t pool s
      at_state pool (is.Getting port max nget one interrupted) = refl
      at_state pool _ = refl

      dormant : (s : ThreadState) → is_dormant (interrupted_state s) ≡ is_dormant s
      dormant (is.Getting port max nget one interrupted) = refl
      dormant _ = refl

      parked :
          (b : Bool) (x : Thread) (d : Option ℕ) →
          parked_in t (pool_of_thread (interrupted_where b x) d) (interrupted_where b x).state ≡ parked_in t (pool_of_thread x d) x.state
      parked true x d = at_state (pool_of_thread x d) x.state
      parked false x d = refl

      spare : (b : Bool) (x : Thread) (p : ℕ) → is_spare_of p (interrupted_where b x) ≡ is_spare_of p x
      spare true x p = ap (λ c. (x.process.0 == p) && c) (dormant x.state)
      spare false x p = refl

  -- a thread that was taken out of its pool is as one that ended, until it parks
  pub parked_again :
      (w : PoolsValue) (pool : Pool) → Agrees n (end_thread table t) doors tree list w → is_some (thread_at table t) ≡ true →
      pool ≡ own_pool_in table v.bindings t → w.bindings ≡ v.bindings → is_some (pool_at w pool) ≡ true →
      AllParkedBefore (stack_in w pool) (record { thread = tid t; pool = pool; since = n }) →
      Agrees n (park_thread table t n) doors tree list (change_pool w pool (park_in (record { thread = tid t; pool = pool; since = n })))
  parked_again w pool taken there own bindings pool_there above =
      subst (λ (x : ProcessTable). Agrees n x doors tree list (change_pool w pool (park_in (record { thread = tid t; pool = pool; since = n }))))
      (change_twice table t ended_thread (idle_thread n))
      (agrees_park_after taken t pool (there_changed table t ended_thread there)
      (state_changed table t ended_thread is_idle refl (λ x. refl)) (state_changed table t ended_thread is_dormant refl (λ x. refl))
      (own ∙ sym (own_pool_changed table v.bindings t ended_thread (λ x. refl))
      ∙ ap (λ bs. own_pool_in (end_thread table t) bs t) (sym bindings))
      pool_there above)

-- room

fewer : {X : Type 0} (p : X → Bool) (xs : List X) → length (filter p xs) ≤ length xs
fewer p [] = omega arith
fewer p (x ∷ xs) = go (p x) (fewer p xs)
  where
    go : (b : Bool) → length (filter p xs) ≤ length xs → length (if b then x ∷ filter p xs else filter p xs) ≤ length (x ∷ xs)
    go true h = omega (arith, h)
    go false h = omega (arith, h)

pub room_unparked : (v : PoolsValue) (pool : Pool) (t : ℕ) (q : Pool) → thread_room_in v q ≤ thread_room_in (change_pool v pool (unpark_in t)) q
room_unparked v pool t q = go (is_pool pool q) refl
  where
    there : (o : Option PoolValue) → (pool_or_empty o).thread_room ≤ (pool_or_empty (option_map (unpark_in t) o)).thread_room
    there None = le_refl 0
    there (Some x) = let l : length (without_thread t x.parked) ≤ length x.parked = fewer (is_another_thread t) x.parked in omega arith

    go : (b : Bool) → is_pool pool q ≡ b → thread_room_in v q ≤ thread_room_in (change_pool v pool (unpark_in t)) q
    go true e = subst (λ (o : Option PoolValue). thread_room_in v q ≤ (pool_or_empty o).thread_room) (sym (pool_changed v pool q (unpark_in t) e)) (there (pool_at v q))
    go false e = subst (λ (o : Option PoolValue). thread_room_in v q ≤ (pool_or_empty o).thread_room) (sym (pool_kept v pool q (unpark_in t) e)) (le_refl (thread_room_in v q))

pub room_parked : (v : PoolsValue) (pool : Pool) (y : Parked) (q : Pool) → thread_room_in v q ≤ thread_room_in (change_pool v pool (park_in y)) q + 1
room_parked v pool y q = go (is_pool pool q) refl
  where
    there : (o : Option PoolValue) → (pool_or_empty o).thread_room ≤ (pool_or_empty (option_map (park_in y) o)).thread_room + 1
    there None = omega arith
    there (Some x) = grind (arith, length-append x.parked (y ∷ []))

    go : (b : Bool) → is_pool pool q ≡ b → thread_room_in v q ≤ thread_room_in (change_pool v pool (park_in y)) q + 1
    go true e = subst (λ (o : Option PoolValue). thread_room_in v q ≤ (pool_or_empty o).thread_room + 1) (sym (pool_changed v pool q (park_in y) e)) (there (pool_at v q))
    go false e = subst (λ (o : Option PoolValue). thread_room_in v q ≤ (pool_or_empty o).thread_room + 1) (sym (pool_kept v pool q (park_in y) e)) (omega arith)

-- places stay

module _ (v : PoolsValue) (pool : Pool) (threads : List Parked → List Parked) where
  abbrev with_threads : PoolValue → PoolValue
  with_threads x = with_parked (threads x.parked) x

  places_kept : (q : Pool) → places_in v q ≤ places_in (change_pool v pool with_threads) q
  places_kept q = go (is_pool pool q) refl
    where
      places : Option PoolValue → ℕ
      places o = (pool_or_empty o).thread_room + length (pool_or_empty o).parked

      there : (o : Option PoolValue) → places o ≤ places (option_map with_threads o)
      there None = le_refl 0
      there (Some x) = omega arith

      go : (b : Bool) → is_pool pool q ≡ b → places_in v q ≤ places_in (change_pool v pool with_threads) q
      go true e = subst (λ (o : Option PoolValue). places_in v q ≤ places o) (sym (pool_changed v pool q with_threads e)) (there (pool_at v q))
      go false e = subst (λ (o : Option PoolValue). places_in v q ≤ places o) (sym (pool_kept v pool q with_threads e)) (le_refl (places_in v q))

  doors_kept : (change_pool v pool with_threads).door_room ≡ v.door_room
  doors_kept = go pool
    where
      go : (q : Pool) → (change_pool v q with_threads).door_room ≡ v.door_room
      go (Common p) = refl
      go (Private d) = refl

  items_kept : (q : Pool) → item_room_in (change_pool v pool with_threads) q ≡ item_room_in v q
  items_kept q = read_change (λ (x : PoolValue). x.item_room) (λ n. n) with_threads (λ x. refl) refl v pool q ∙ go (is_pool pool q)
    where
      go : (b : Bool) → (if b then item_room_in v q else item_room_in v q) ≡ item_room_in v q
      go true = refl
      go false = refl

  pub keeps_threads : (w : PoolsValue) → w ≡ change_pool v pool with_threads → KeepsItems v w
  keeps_threads w e =
      subst (KeepsItems v) (sym e) (record { bindings = bindings-change_pool v pool with_threads; items = items_kept; places = places_kept; doors = doors_kept })

pub keeps_self : (v : PoolsValue) → KeepsItems v v
keeps_self v = record { bindings = refl; items = λ q. refl; places = λ q. le_refl (places_in v q); doors = refl }

pub keeps_then : (u v w : PoolsValue) → KeepsItems u v → KeepsItems v w → KeepsItems u w
keeps_then u v w h k =
    record {
      bindings = k.bindings ∙ h.bindings;
      items = λ q. k.items q ∙ h.items q;
      places = λ q. le_trans (h.places q) (k.places q);
      doors = k.doors ∙ h.doors;
    }

pub keeps_spares : (v w : PoolsValue) (p : ℕ) (change : List ℕ → List ℕ) → w ≡ change_spares v p change → KeepsItems v w
keeps_spares v w p change e = subst (KeepsItems v) (sym e) (record { bindings = refl; items = items; places = places; doors = refl })
  where
    items : (q : Pool) → item_room_in (change_spares v p change) q ≡ item_room_in v q
    items (Common k) = refl
    items (Private d) = refl

    places : (q : Pool) → places_in v q ≤ places_in (change_spares v p change) q
    places (Common k) = le_refl (places_in v (Common k))
    places (Private d) = le_refl (places_in v (Private d))

pub all_kept : {X : Type 0} (P : X → Type 0) (p : X → Bool) (xs : List X) → AllByRecursion P xs → AllByRecursion P (filter p xs)
all_kept P p [] a = tt
all_kept P p (x ∷ xs) a = go (p x) (all_kept P p xs a.1)
  where
    go : (b : Bool) → AllByRecursion P (filter p xs) → AllByRecursion P (if b then x ∷ filter p xs else filter p xs)
    go true rest = (a.0, rest)
    go false rest = rest

pub above_unparked :
    (v : PoolsValue) (pool : Pool) (t : ℕ) (q : Pool) (x : Parked) → AllParkedBefore (stack_in v q) x →
    AllParkedBefore (stack_in (change_pool v pool (unpark_in t)) q) x
above_unparked v pool t q x a =
    subst (λ ys. AllParkedBefore ys x) (sym (read_change (λ (y : PoolValue). y.parked) (without_thread t) (unpark_in t) (λ y. refl) refl v pool q))
    (go (is_pool pool q))
  where
    go : (b : Bool) → AllParkedBefore (if b then without_thread t (stack_in v q) else stack_in v q) x
    go true = all_kept (λ y. ParkedBefore y x) (is_another_thread t) (stack_in v q) a
    go false = a

-- what a state is not

pub not_idle : (s : ThreadState) → ((since : ℕ) → s ≡ is.Idle since → ⊥) → is_idle s ≡ false
not_idle (is.Idle since) h = absurd (h since refl)
not_idle _ h = refl

pub not_dormant : (s : ThreadState) → (s ≡ is.Dormant → ⊥) → is_dormant s ≡ false
not_dormant is.Dormant h = absurd (h refl)
not_dormant _ h = refl
