-- The room for notices that was taken before an act suffices after it.
use Rattle.std.proofs.Common.{◌≡◌, ℕ, zero, suc, ◌+◌, ◌<◌, ◌≤◌, Bool, true, false, if◌then◌else◌, List, [], ◌∷◌, ◌++◌, Option, None, Some, cond, filter, is_some, length, min, refl, sym, subst, ap, ap₂, ◌∙◌, arith, true≢false}
use Rattle.std.specs.List.{AllByRecursion}
use Rattle.std.proofs.lemmas.Bool.Decides.{nat_tests}
use Rattle.std.proofs.Math.Nat.{le-min}
use Rattle.std.proofs.lemmas.List.Sums.{count_by-le-length, length-filter, sum_by-cons}
use Rattle.dk_base.specs.declared.object.Obj.TheVariants as obj
use Rattle.spec_records.specs.declared.pool.Pool.TheVariants.{Common, Private}
use Rattle.spec_kernel.proofs.Moves.{Moves, act_moves}
use Rattle.spec_kernel.specs.Types.{Door, Pool, Request}
use Rattle.spec_records.specs.Words.{AreNumbered, is_pool, is_private, notice_doors, numbers_where, pool_in, takes_notices_in}
use Rattle.spec_kernel.specs.Words.{ActResult, State, act, door_of, pool_of}
use Rattle.server_pool.specs.Words.{IsAscending, item_room_in, pool_at}
use Rattle.server_pool.proofs.Order.{ordered_filter}
use Rattle.unref_notice.specs.Words.{count_of}
use Rattle.kernel_store.specs.Words.{CanMake, IsAgreed, HasBegun, StoreValue, count_served, items_for, stored_state}
use Rattle.kernel_store.proofs.Short.{there_by_length}
use Rattle.kernel_core.specs.Watched.{HadRoomForNotices, IsKeptDoor, KeepsDoors, fallen, is_watched, watched}
use Rattle.spec_records.proofs.DoorNumbers.{notice_doors_numbered}
use Rattle.kernel_core.proofs.Fallen.{fallen_watched, has_one}
use Rattle.kernel_core.proofs.Served.{few_served, noticed_ascend}

-- an act makes no notice

abbrev pub made : State → ℕ
made m = m.notice_list.made

made-move : (m : State) (t : ℕ) (q : Option Request) (a : ActResult) → Moves m t q a → made a.state ≡ made m
made-move m t q a (Moves.nothing x _) = refl
made-move m t q a _ = refl

pub made-act : (m : State) (t : ℕ) (q : Option Request) → made (act m t q).state ≡ made m
made-act m t q = made-move m t q (act m t q) (act_moves m t q)

-- nor does it change the counts at its beginning
pub opened_kept : (b n : StoreValue) (m : State) → n.opening ≡ b.opening → HasBegun b m → HasBegun n m
opened_kept b n m same h = record { counts = λ d. ap (λ os. count_of os (obj.Door d)) same ∙ h.counts d; all = λ o. ap (λ os. count_of os o) same ∙ h.all o; none = λ d e. ap (λ os. count_of os (obj.Door d)) same ∙ h.none d e }

-- the doors that are watched are there

all_numbers_where : (p : ℕ → Bool) (n : ℕ) → AllByRecursion (λ d. p d ≡ true) (numbers_where p n)
all_numbers_where p zero = tt
all_numbers_where p (suc n) = go (p (suc n)) refl (numbers_where p n) (all_numbers_where p n)
  where
    go :
        (b : Bool) → p (suc n) ≡ b → (ds : List ℕ) → AllByRecursion (λ d. p d ≡ true) ds →
        AllByRecursion (λ d. p d ≡ true) (ds ++ (if b then suc n ∷ [] else []))
    go true e [] h = (e, tt)
    go false e [] h = tt
    go b e (d ∷ ds) h = (h.0, go b e ds h.1)

all_filter : (P : ℕ → Type 0) (q : ℕ → Bool) (ds : List ℕ) → AllByRecursion P ds → AllByRecursion P (filter q ds)
all_filter P q [] h = tt
all_filter P q (d ∷ ds) h = go (q d) (all_filter P q ds h.1)
  where
    go : (b : Bool) → AllByRecursion P (filter q ds) → AllByRecursion P (cond b (d ∷ filter q ds) (filter q ds))
    go true k = (h.0, k)
    go false k = k

watched_there : (m : State) → AreNumbered m.doors → AllByRecursion (λ d. takes_notices_in (door_of m d) ≡ true) (watched m)
watched_there m numbered =
    all_filter (λ d. takes_notices_in (door_of m d) ≡ true) (is_watched m) (notice_doors m.doors)
    (subst (AllByRecursion (λ d. takes_notices_in (door_of m d) ≡ true)) (sym (notice_doors_numbered m.doors numbered))
    (all_numbers_where (λ d. takes_notices_in (door_of m d)) (length m.doors)))

-- the same pools serve them

same_pool : (x y : Door) → y.attrs ≡ x.attrs → y.number ≡ x.number → y.owner ≡ x.owner → pool_in (Some y) ≡ pool_in (Some x)
same_pool x y e f g =
    ap (λ b. if b then Private y.number else Common y.owner) (ap is_private e)
    ∙ ap₂ (λ n p. if is_private x.attrs then Private n else Common p) f g

kept_pool : (m n : State) (d : ℕ) → KeepsDoors m n → takes_notices_in (door_of m d) ≡ true → pool_of n d ≡ pool_of m d
kept_pool m n d h e = go (door_of m d) refl e
  where
    go : (o : Option Door) → door_of m d ≡ o → takes_notices_in o ≡ true → pool_in (door_of n d) ≡ pool_in (door_of m d)
    go None f g = absurd (true≢false (sym g))
    go (Some x) f g =
        let k : IsKeptDoor x (door_of n d) = h.kept d x f in
        ap pool_in k.there ∙ same_pool x k.door k.same.attrs k.same.number k.same.owner ∙ sym (ap pool_in f)

served_first :
    (m : State) (pool : Pool) (d : ℕ) (ds : List ℕ) →
    count_served m pool (d ∷ ds) ≡ cond (is_pool pool (pool_of m d)) 1 0 + count_served m pool ds
served_first m pool d ds = sum_by-cons (λ e. cond (is_pool pool (pool_of m e)) 1 0) d ds

same_count :
    (m n : State) (pool : Pool) (ds : List ℕ) → KeepsDoors m n → AllByRecursion (λ d. takes_notices_in (door_of m d) ≡ true) ds →
    count_served n pool ds ≡ count_served m pool ds
same_count m n pool [] h k = refl
same_count m n pool (d ∷ ds) h k =
    served_first n pool d ds
    ∙ ap₂ (λ (p : Pool) (j : ℕ). cond (is_pool pool p) 1 0 + j) (kept_pool m n d h k.0) (same_count m n pool ds h k.1)
    ∙ sym (served_first m pool d ds)

-- a private pool that serves one of these doors is that of a door that was there
served_there :
    (m : State) (e : ℕ) (ds : List ℕ) → AreNumbered m.doors → AllByRecursion (λ d. takes_notices_in (door_of m d) ≡ true) ds →
    0 < count_served m (Private e) ds → is_some (door_of m e) ≡ true
served_there m e [] numbered k c = absurd (omega arith)
served_there m e (d ∷ ds) numbered k c =
    go (is_pool (Private e) (pool_of m d)) refl (subst (λ k. 0 < k) (served_first m (Private e) d ds) c) (λ l. served_there m e ds numbered k.1 l)
  where
    number_is : (x : Door) (b : Bool) → is_pool (Private e) (if b then Private x.number else Common x.owner) ≡ true → e ≡ x.number
    number_is x true f = grind (arith, nat_tests)
    number_is x false f = cc

    at : (o : Option Door) → door_of m d ≡ o → takes_notices_in o ≡ true → is_pool (Private e) (pool_in o) ≡ true → is_some (door_of m e) ≡ true
    at None f g i = absurd (true≢false (sym g))
    at (Some x) f g i =
        let same : e ≡ d = number_is x (is_private x.attrs) i ∙ numbered d x f in
        ap (λ j. is_some (door_of m j)) same ∙ ap is_some f

    go :
        (b : Bool) → is_pool (Private e) (pool_of m d) ≡ b → 0 < cond b 1 0 + count_served m (Private e) ds →
        (0 < count_served m (Private e) ds → is_some (door_of m e) ≡ true) → is_some (door_of m e) ≡ true
    go true f l ih = at (door_of m d) refl k.0 f
    go false f l ih = ih (omega arith)

pool_before :
    (b n : StoreValue) (ds : List ℕ) (pool : Pool) → HadRoomForNotices b n → IsAgreed n →
    AllByRecursion (λ d. takes_notices_in (door_of (stored_state b) d) ≡ true) ds → is_some (pool_at n.pools pool) ≡ true →
    0 < count_served (stored_state b) pool ds → is_some (pool_at b.pools pool) ≡ true
pool_before b n ds (Common p) h a k there c =
    there_by_length n.pools.common b.pools.common p.0 (h.agreed.common ∙ sym h.processes ∙ sym a.common) there
pool_before b n ds (Private e) h a k there c =
    there_by_length b.doors.items b.pools.private e h.agreed.private (served_there (stored_state b) e ds h.began.doors.numbered k c)

-- so notices can be made of those that fell

all_fallen : (b n : StoreValue) → HadRoomForNotices b n → AllByRecursion (λ d. takes_notices_in (door_of (stored_state b) d) ≡ true) (filter (has_one (stored_state n)) (watched (stored_state b)))
all_fallen b n h =
    all_filter (λ d. takes_notices_in (door_of (stored_state b) d) ≡ true) (has_one (stored_state n)) (watched (stored_state b))
    (watched_there (stored_state b) h.began.doors.numbered)

fewer_fallen : (b n : StoreValue) → length (filter (has_one (stored_state n)) (watched (stored_state b))) ≤ length (notice_doors b.doors.items)
fewer_fallen b n =
    omega (
      arith,
      length-filter (has_one (stored_state n)) (watched (stored_state b)),
      count_by-le-length (has_one (stored_state n)) (watched (stored_state b)),
      length-filter (is_watched (stored_state b)) (notice_doors b.doors.items),
      count_by-le-length (is_watched (stored_state b)) (notice_doors b.doors.items),
    )

can_make : (b n : StoreValue) (ds : List ℕ) → ds ≡ filter (has_one (stored_state n)) (watched (stored_state b)) → HadRoomForNotices b n → IsAgreed n → length ds ≤ 1280 → CanMake n ds
can_make b n ds is h a few =
    let l : length ds ≤ min (length (notice_doors b.doors.items)) 1280 = le-min (omega (arith, ap length is, fewer_fallen b n)) few in
    record {
      records = omega (arith, l, h.room.records, h.keeps.notice_room);
      numbers = omega (arith, few, h.room.numbers, h.made);
      short = omega (arith, few, h.room.short, h.keeps.short_room);
      items = λ pool there. enough pool there;
    }
  where
    m : State
    m = stored_state b

    all : AllByRecursion (λ d. takes_notices_in (door_of m d) ≡ true) ds
    all = subst (AllByRecursion (λ d. takes_notices_in (door_of m d) ≡ true)) (sym is) (all_fallen b n h)

    ascends : IsAscending ds
    ascends =
        subst IsAscending (sym is)
        (ordered_filter _ (has_one (stored_state n)) (watched m)
        (ordered_filter _ (is_watched m) (notice_doors m.doors) (noticed_ascend m.doors h.began.doors.numbered)))

    fits : (pool : Pool) (c : ℕ) → c < items_for pool → (0 < c → items_for pool ≤ item_room_in b.pools pool) → c ≤ item_room_in n.pools pool
    fits pool zero l f = omega arith
    fits pool (suc c) l f = let r = f (omega arith) in omega (arith, l, r, h.keeps.items pool)

    enough : (pool : Pool) → is_some (pool_at n.pools pool) ≡ true → count_served (stored_state n) pool ds ≤ item_room_in n.pools pool
    enough pool there =
        subst (λ c. c ≤ item_room_in n.pools pool) (sym (same_count m (stored_state n) pool ds h.began.doors all))
        (fits pool (count_served m pool ds) (few_served m.doors h.began.doors.numbered pool ds ascends few)
        (λ l. h.room.items pool refl (pool_before b n ds pool h a all there l)))

pub can_make_fallen :
    (b n : StoreValue) → HadRoomForNotices b n → IsAgreed n → AreNumbered n.doors.items → length (fallen (stored_state b) (stored_state n)) ≤ 1280 →
    CanMake n (fallen (stored_state b) (stored_state n))
can_make_fallen b n h a numbered few = can_make b n (fallen (stored_state b) (stored_state n)) (fallen_watched h.began numbered) h a few
