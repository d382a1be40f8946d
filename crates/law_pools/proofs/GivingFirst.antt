-- To give the oldest item of any pool first leaves what giving leaves in all, and where no pool has both an item and an idle thread
-- nothing is given.
use Rattle.std.proofs.Common.{◌≡◌, ℕ, ◌<◌, ◌≤◌, ◌==◌, ◌&&◌, not, Bool, true, false, if◌then◌else◌, nat_le, List, [], ◌∷◌, ◌++◌, None, Some, filter, map, refl, sym, ap, ap₂, subst, ⊎_elim, ◌∙◌, arith}
use Rattle.std.specs.List.{AllByRecursion}
use Rattle.std.proofs.lemmas.Bool.Decides.{nat_tests}
use Rattle.dk_base.specs.declared.object.Item.TheVariants as item
use Rattle.spec_records.specs.declared.record.CallStage.TheVariants as stage
use Rattle.spec_records.specs.declared.record.NoticeStage.TheVariants as notice
use Rattle.spec_records.specs.Words.{CallTree, IsAscending, NoticeList, at_stage, call_number, change_first, give_call, give_notice, is_queued_as, is_queued_call, is_waiting_notice, is_waiting_notice_as, items_in_order, notice_at, notice_number, pick_parked, tid, waiting_call, waiting_notice, with_notice, with_notices}
use Rattle.spec_kernel.specs.Types.{Call, Item, Notice, Parked, Pool, Waiting}
use Rattle.spec_kernel.specs.Words.{State, give, give_each, give_one, give_to, pick, pool_of, waiting_items}
use Rattle.spec_records.proofs.Places.{map-change_first}
use Rattle.spec_kernel.proofs.Places.{IsIn}
use Rattle.server_pool.specs.Words.{IsOrderedBy, PoolsValue, is_item, is_waiting_call, is_waiting_otherwise, pick_of, queue_in, stack_in, without_item}
use Rattle.server_pool.proofs.Order.{ordered_filter}
use Rattle.law_pools.specs.Words.{Agrees, AreDated, IsGivenOut, WaitsBefore, date_of_call, date_of_notice, is_notice_waiting}
use Rattle.law_pools.proofs.Merged.{all_map, all_with_notice, calls_in_order, filter_both, is_served_in, notices_in_order, queue_in_order, queue_is, same_queue, waiting_calls, waiting_notices}
use Rattle.law_pools.proofs.Parked.{all_in, pick_of_stack}
use Rattle.law_pools.proofs.Parking.{to_filter}
use Rattle.law_pools.proofs.Readers.{is_pool-self}
use Rattle.law_pools.proofs.Swaps.{AreOthers, give_out_of_turn}
use Rattle.law_pools.proofs.WaitingLists.{Kind, call_kind, every_waiting, notice_kind, waiting, waits_as}

-- lists

all_zip :
    {X : Type 0} (P Q R : X → Type 0) → ((x : X) → P x → Q x → R x) → (xs : List X) → AllByRecursion P xs → AllByRecursion Q xs →
    AllByRecursion R xs
all_zip P Q R f [] a b = tt
all_zip P Q R f (x ∷ xs) a b = (f x a.0 b.0, all_zip P Q R f xs a.1 b.1)

filter_none_left : {X : Type 0} (p : X → Bool) (xs : List X) → AllByRecursion (λ x. p x ≡ true) xs → filter p xs ≡ xs
filter_none_left p [] a = refl
filter_none_left p (x ∷ xs) a = ap₂ (λ b ys. if b then x ∷ ys else ys) a.0 (filter_none_left p xs a.1)

-- the first item that meets a test
record IsFirst {X : Type 0} (p : X → Bool) (xs : List X) (x : X) : Type 0 where
  earlier : List X
  later : List X
  same : xs ≡ earlier ++ x ∷ later
  passes : p x ≡ true
  none : AllByRecursion (λ y. p y ≡ false) earlier

first_is : {X : Type 0} (p : X → Bool) (xs : List X) (x : X) (rest : List X) → filter p xs ≡ x ∷ rest → IsFirst p xs x
first_is p [] x rest e = cc
first_is p (y ∷ ys) x rest e = go (p y) refl (first_is p ys x rest) e
  where
    more : p y ≡ false → IsFirst p ys x → IsFirst p (y ∷ ys) x
    more f k =
        record { earlier = y ∷ k.earlier; later = k.later; same = ap (λ zs. y ∷ zs) k.same; passes = k.passes; none = (f, k.none) }

    go :
        (b : Bool) → p y ≡ b → (filter p ys ≡ x ∷ rest → IsFirst p ys x) → (if b then y ∷ filter p ys else filter p ys) ≡ x ∷ rest →
        IsFirst p (y ∷ ys) x
    go true f ih k =
        let same : y ≡ x = cc in
        record { earlier = []; later = ys; same = ap (λ z. z ∷ ys) same; passes = ap p (sym same) ∙ f; none = tt }
    go false f ih k = more f (ih k)

-- items that wait are different

abbrev IsApart : Waiting → Waiting → Type 0
IsApart w v = is_item w.item v.item ≡ false

is_item-sym : (i j : Item) → is_item i j ≡ is_item j i
is_item-sym (item.Call c) (item.Call d) = grind (arith, nat_tests)
is_item-sym (item.Notice c) (item.Notice d) = grind (arith, nat_tests)
is_item-sym (item.Call c) (item.Notice d) = refl
is_item-sym (item.Notice c) (item.Call d) = refl

apart_both : (w v : Waiting) → IsApart w v → IsApart v w
apart_both w v a = is_item-sym v.item w.item ∙ a

apart-with_notice :
    (n : Waiting) (ws : List Waiting) → IsOrderedBy IsApart ws → AllByRecursion (λ w. IsApart w n) ws → IsOrderedBy IsApart (with_notice ws n)
apart-with_notice n [] o a = (tt, tt)
apart-with_notice n (w ∷ ws) o a = go (nat_le w.made n.made) (apart-with_notice n ws o.1 a.1)
  where
    go : (b : Bool) → IsOrderedBy IsApart (with_notice ws n) → IsOrderedBy IsApart (if b then w ∷ with_notice ws n else n ∷ w ∷ ws)
    go true rest = (all_with_notice (IsApart w) n ws a.0 o.0, rest)
    go false rest = (all_map (λ v. IsApart v n) (IsApart n) (λ v k. apart_both v n k) (w ∷ ws) a, o)

apart-with_notices :
    (ns ws : List Waiting) → IsOrderedBy IsApart ns → IsOrderedBy IsApart ws → AllByRecursion (λ n. AllByRecursion (λ w. IsApart w n) ws) ns →
    IsOrderedBy IsApart (with_notices ws ns)
apart-with_notices [] ws p o a = o
apart-with_notices (n ∷ ns) ws p o a =
    apart-with_notices ns (with_notice ws n) p.1 (apart-with_notice n ws o a.0)
    (all_zip (IsApart n) (λ k. AllByRecursion (λ w. IsApart w k) ws) (λ k. AllByRecursion (λ w. IsApart w k) (with_notice ws n))
    (λ k e b. all_with_notice (λ w. IsApart w k) n ws e b) ns p.0 a.1)

-- records of numbers that go up

module _ {X : Type 0} (kind : Kind X) (made : ℕ) where
  above :
      (c low : ℕ) (xs : List X) → IsAscending kind.number low made xs → c ≤ low →
      AllByRecursion (λ v. is_item (kind.item c) v.item ≡ false) (every_waiting kind xs)
  above c low [] o h = tt
  above c low (x ∷ xs) o h =
      let more : low < kind.number x = o.0 in
      go (kind.waits x) (kind.same_item c (kind.number x) ∙ grind (arith, nat_tests)) (above c (kind.number x) xs o.2 (omega arith))
    where
      go :
          (b : Bool) → is_item (kind.item c) (kind.item (kind.number x)) ≡ false →
          AllByRecursion (λ v. is_item (kind.item c) v.item ≡ false) (every_waiting kind xs) →
          AllByRecursion (λ v. is_item (kind.item c) v.item ≡ false) (map (waiting kind) (if b then x ∷ filter kind.waits xs else filter kind.waits xs))
      go true e rest = (e, rest)
      go false e rest = rest

  apart : (low : ℕ) (xs : List X) → IsAscending kind.number low made xs → IsOrderedBy IsApart (every_waiting kind xs)
  apart low [] o = tt
  apart low (x ∷ xs) o = go (kind.waits x) (above (kind.number x) (kind.number x) xs o.2 (omega arith)) (apart (kind.number x) xs o.2)
    where
      go :
          (b : Bool) → AllByRecursion (λ v. is_item (kind.item (kind.number x)) v.item ≡ false) (every_waiting kind xs) →
          IsOrderedBy IsApart (every_waiting kind xs) →
          IsOrderedBy IsApart (map (waiting kind) (if b then x ∷ filter kind.waits xs else filter kind.waits xs))
      go true a rest = (a, rest)
      go false a rest = rest

notice_from_calls : (n : Notice) (rs : List Call) → AllByRecursion (λ w. IsApart w (waiting_notice n)) (map waiting_call rs)
notice_from_calls n [] = tt
notice_from_calls n (r ∷ rs) = (refl, notice_from_calls n rs)

notices_from_calls : (rs : List Call) (ns : List Notice) → AllByRecursion (λ n. AllByRecursion (λ w. IsApart w n) (map waiting_call rs)) (map waiting_notice ns)
notices_from_calls rs [] = tt
notices_from_calls rs (n ∷ ns) = (notice_from_calls n rs, notices_from_calls rs ns)

apart_in_order :
    (tree : CallTree) (list : NoticeList) → IsAscending call_number 0 tree.made tree.calls → IsAscending notice_number 0 list.made list.notices →
    IsOrderedBy IsApart (items_in_order tree.calls list.notices)
apart_in_order tree list o p =
    apart-with_notices (waiting_notices list.notices) (waiting_calls tree.calls) (apart notice_kind list.made 0 list.notices p)
    (apart call_kind tree.made 0 tree.calls o) (notices_from_calls (filter is_queued_call tree.calls) (filter is_waiting_notice list.notices))

-- an item in the midst of those that wait: no other is the same, so without it all others are left

apart_earlier : (earlier later : List Waiting) (w : Waiting) → IsOrderedBy IsApart (earlier ++ w ∷ later) → AreOthers w.item earlier
apart_earlier [] later w o = tt
apart_earlier (v ∷ vs) later w o = (at vs o.0, apart_earlier vs later w o.1)
  where
    at : (us : List Waiting) → AllByRecursion (IsApart v) (us ++ w ∷ later) → IsApart v w
    at [] a = a.0
    at (u ∷ us) a = at us a.1

is_item-self : (i : Item) → is_item i i ≡ true
is_item-self (item.Call c) = grind (arith, nat_tests)
is_item-self (item.Notice n) = grind (arith, nat_tests)

otherwise : (w v : Waiting) → IsApart w v → is_waiting_otherwise w.item v ≡ true
otherwise w v a = ap not a

without_one : (earlier later : List Waiting) (w : Waiting) → IsOrderedBy IsApart (earlier ++ w ∷ later) → without_item w.item (earlier ++ w ∷ later) ≡ earlier ++ later
without_one [] later w o =
    ap (λ b. if not b then w ∷ without_item w.item later else without_item w.item later) (is_item-self w.item)
    ∙ filter_none_left (is_waiting_otherwise w.item) later (all_map (IsApart w) (λ v. is_waiting_otherwise w.item v ≡ true) (otherwise w) later o.0)
without_one (v ∷ vs) later w o =
    ap₂ (λ b us. if b then v ∷ us else us)
    (otherwise w v (apart_both v w (apart_earlier (v ∷ vs) later w o).0))
    (without_one vs later w o.1)

-- what waits after an item was given: all others

-- a record that was given waits no more, and those of other numbers do
module _ {X : Type 0} (kind : Kind X) (give : X → X) (over : (x : X) → kind.waits (give x) ≡ false) (c made : ℕ) where
  those_given :
      (low : ℕ) (xs : List X) → IsAscending kind.number low made xs →
      every_waiting kind (change_first (waits_as kind c) give xs) ≡ without_item (kind.item c) (every_waiting kind xs)
  those_given low [] o = refl
  those_given low (x ∷ xs) o = go (kind.number x == c) refl (kind.waits x) refl (those_given (kind.number x) xs o.2)
    where
      after : List X
      after = change_first (waits_as kind c) give xs

      left : List Waiting
      left = without_item (kind.item c) (every_waiting kind xs)

      none : (kind.number x == c) ≡ true → every_waiting kind xs ≡ left
      none e =
          sym
          (filter_none_left (is_waiting_otherwise (kind.item c)) (every_waiting kind xs)
          (all_map (λ v. is_item (kind.item c) v.item ≡ false) (λ v. is_waiting_otherwise (kind.item c) v ≡ true) (λ v a. ap not a)
          (every_waiting kind xs) (above kind made c (kind.number x) xs o.2 (grind (arith, nat_tests)))))

      same_test : (b : Bool) → (kind.number x == c) ≡ b → is_item (kind.item c) (kind.item (kind.number x)) ≡ b
      same_test b e = kind.same_item c (kind.number x) ∙ grind (arith, nat_tests)

      go :
          (b : Bool) → (kind.number x == c) ≡ b → (q : Bool) → kind.waits x ≡ q → every_waiting kind after ≡ left →
          every_waiting kind (if b && q then give x ∷ xs else x ∷ after)
          ≡ without_item (kind.item c) (map (waiting kind) (if q then x ∷ filter kind.waits xs else filter kind.waits xs))
      go true e true f ih =
          ap (λ b. map (waiting kind) (if b then give x ∷ filter kind.waits xs else filter kind.waits xs)) (over x)
          ∙ none e ∙ sym (ap (λ b. if not b then waiting kind x ∷ left else left) (same_test true e))
      go false e true f ih =
          ap (λ b. map (waiting kind) (if b then x ∷ filter kind.waits after else filter kind.waits after)) f
          ∙ ap (λ ws. waiting kind x ∷ ws) ih
          ∙ sym (ap (λ b. if not b then waiting kind x ∷ left else left) (same_test false e))
      go true e false f ih = ap (λ b. map (waiting kind) (if b then x ∷ filter kind.waits after else filter kind.waits after)) f ∙ ih
      go false e false f ih = ap (λ b. map (waiting kind) (if b then x ∷ filter kind.waits after else filter kind.waits after)) f ∙ ih

calls_stay : (c : ℕ) (ns : List Notice) → without_item (item.Call c) (map waiting_notice ns) ≡ map waiting_notice ns
calls_stay c [] = refl
calls_stay c (n ∷ ns) = ap (λ ws. waiting_notice n ∷ ws) (calls_stay c ns)

notices_stay : (c : ℕ) (rs : List Call) → without_item (item.Notice c) (map waiting_call rs) ≡ map waiting_call rs
notices_stay c [] = refl
notices_stay c (r ∷ rs) = ap (λ ws. waiting_call r ∷ ws) (notices_stay c rs)

module _
    (latest : ℕ) (tree : CallTree) (list : NoticeList) (o : IsAscending call_number 0 tree.made tree.calls) (p : IsAscending notice_number 0 list.made list.notices)
    (d : AreDated 0 latest (map date_of_call tree.calls)) (e : AreDated 0 latest (map date_of_notice list.notices)) where
  abbrev items : List Waiting
  items = items_in_order tree.calls list.notices

  -- items whose calls and notices are those of all but one are all but that one
  all_but :
      (i : Item) (calls : List Call) (notices : List Notice) → map date_of_call calls ≡ map date_of_call tree.calls →
      map date_of_notice notices ≡ map date_of_notice list.notices → waiting_calls calls ≡ without_item i (waiting_calls tree.calls) →
      waiting_notices notices ≡ without_item i (waiting_notices list.notices) → items_in_order calls notices ≡ without_item i items
  all_but i calls notices f g c n =
      same_queue (items_in_order calls notices) (without_item i items)
      (queue_in_order calls notices latest (subst (AreDated 0 latest) (sym f) d) (subst (AreDated 0 latest) (sym g) e))
      (ordered_filter WaitsBefore (is_waiting_otherwise i) items (queue_in_order tree.calls list.notices latest d e))
      (calls_in_order calls notices
      ∙ c
      ∙ ap (without_item i) (sym (calls_in_order tree.calls list.notices))
      ∙ filter_both (is_waiting_otherwise i) is_waiting_call items)
      (notices_in_order calls notices latest (subst (AreDated 0 latest) (sym f) d) (subst (AreDated 0 latest) (sym g) e)
      ∙ n
      ∙ ap (without_item i) (sym (notices_in_order tree.calls list.notices latest d e))
      ∙ filter_both (is_waiting_otherwise i) is_notice_waiting items)

  without_call : (c t : ℕ) → items_in_order (give_call tree c t).calls list.notices ≡ without_item (item.Call c) items
  without_call c t =
      all_but (item.Call c) (give_call tree c t).calls list.notices
      (map-change_first date_of_call (is_queued_as c) (at_stage (stage.Given (tid t))) (λ r. refl) tree.calls) refl
      (those_given call_kind (at_stage (stage.Given (tid t))) (λ r. refl) c tree.made 0 tree.calls o) (sym (calls_stay c (filter is_waiting_notice list.notices)))

  without_notice : (c t : ℕ) → items_in_order tree.calls (give_notice list c t).notices ≡ without_item (item.Notice c) items
  without_notice c t =
      all_but (item.Notice c) tree.calls (give_notice list c t).notices refl
      (map-change_first date_of_notice (is_waiting_notice_as c) (notice_at (notice.Given (tid t))) (λ n. refl) list.notices)
      (sym (notices_stay c (filter is_queued_call tree.calls))) (those_given notice_kind (notice_at (notice.Given (tid t))) (λ n. refl) c list.made 0 list.notices p)

-- where pools agree with the state

pub pick_agrees_in :
    (n : ℕ) (m : State) (v : PoolsValue) → m.bindings ≡ v.bindings → Agrees n m.process_table m.doors m.call_tree m.notice_list v →
    (pool : Pool) → pick m pool ≡ pick_of (stack_in v pool)
pick_agrees_in n m v b h pool =
    ap (λ bindings. pick_parked m.process_table bindings pool) b
    ∙ pick_of_stack m.process_table v.bindings n pool (stack_in v pool) (h.stacks pool)

module _
    (n : ℕ) (m : State) (v : PoolsValue) (b : m.bindings ≡ v.bindings)
    (h : Agrees n m.process_table m.doors m.call_tree m.notice_list v) where
  waiting_given : (i : Item) (t : ℕ) → waiting_items (give_one m i t) ≡ without_item i (waiting_items m)
  waiting_given (item.Call c) t = without_call n m.call_tree m.notice_list h.calls h.notices h.call_dates h.notice_dates c t
  waiting_given (item.Notice c) t = without_notice n m.call_tree m.notice_list h.calls h.notices h.call_dates h.notice_dates c t

  -- the pick of a pool takes its oldest item, and then all others are given
  pub give_first :
      (pool : Pool) (w : Waiting) (ws : List Waiting) (x : Parked) → queue_in v pool ≡ w ∷ ws → pick_of (stack_in v pool) ≡ Some x →
      give m ≡ give (give_one m w.item x.thread.0)
  give_first pool w ws x e f =
      ap (give_each m) k.same
      ∙ give_out_of_turn m pool w x k.earlier k.later (pick_agrees_in n m v b h pool ∙ f) k.passes k.none
      (apart_earlier k.earlier k.later w are_apart)
      ∙ ap (give_each (give_one m w.item x.thread.0)) (sym left)
    where
      k : IsFirst (is_served_in m.doors pool) (waiting_items m) w
      k = first_is (is_served_in m.doors pool) (waiting_items m) w ws (queue_is h pool ∙ e)

      are_apart : IsOrderedBy IsApart (k.earlier ++ w ∷ k.later)
      are_apart = subst (IsOrderedBy IsApart) k.same (apart_in_order m.call_tree m.notice_list h.calls h.notices)

      left : waiting_items (give_one m w.item x.thread.0) ≡ k.earlier ++ k.later
      left = waiting_given w.item x.thread.0 ∙ ap (without_item w.item) k.same ∙ without_one k.earlier k.later w are_apart

  -- where no pool has both, nothing is given
  pub given_out_gives_nothing : IsGivenOut v → give m ≡ m
  given_out_gives_nothing out = nothing (waiting_items m) (all_in (λ w. pick m (pool_of m w.door) ≡ None) (waiting_items m) none)
    where
      nothing : (ws : List Waiting) → AllByRecursion (λ w. pick m (pool_of m w.door) ≡ None) ws → give_each m ws ≡ m
      nothing [] a = refl
      nothing (w ∷ ws) a = ap (λ o. give_each (give_to m w o) ws) a.0 ∙ nothing ws a.1

      none : (w : Waiting) → IsIn w (waiting_items m) → pick m (pool_of m w.door) ≡ None
      none w i = ⊎_elim idle waits (out pool)
        where
          pool : Pool
          pool = pool_of m w.door

          idle : stack_in v pool ≡ [] → pick m pool ≡ None
          idle e = pick_agrees_in n m v b h pool ∙ ap pick_of e

          there : IsIn w (queue_in v pool)
          there =
              subst (IsIn w) (queue_is h pool)
              (to_filter (is_served_in m.doors pool) (waiting_items m) w i (is_pool-self pool))

          waits : queue_in v pool ≡ [] → pick m pool ≡ None
          waits e = absurd (subst (IsIn w) e there)
