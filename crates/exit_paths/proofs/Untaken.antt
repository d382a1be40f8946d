-- What waited at doors that are lost, as it is told: a notice is among it exactly where it waited at one of them.
use Rattle.std.proofs.Common.{◌≡◌, ℕ, zero, suc, ◌<◌, ◌≤◌, ◌==◌, ◌&&◌, ◌||◌, not, Bool, true, false, if◌then◌else◌, List, [], ◌∷◌, ◌++◌, Some, filter, find, map, slice_get, refl, sym, ap, ap₂, ◌∙◌, subst, arith}
use Rattle.std.specs.List.{AllByRecursion, list_any}
use Rattle.std.proofs.lemmas.Bool.Decides.{nat_tests}
use Rattle.std.proofs.lemmas.List.Folds.{list_any-append}
use Rattle.dk_base.specs.ByNumber.{at_number}
use Rattle.dk_base.specs.declared.object.Item.TheVariants as item
use Rattle.spec_records.specs.Words.{CallTree, IsAscending, Leaving, NoticeList, ProcessTable, call_number, is_pool, is_queued, is_queued_in, is_waiting_stage, notice_number, pool_in, revocation, waiting_call, waiting_notice}
use Rattle.spec_kernel.specs.Types.{Call, Door, Item, Notice, Pool, Waiting}
use Rattle.spec_kernel.proofs.Giving.{same_pool}
use Rattle.server_pool.specs.Words.{PoolsValue, change_pool, drop_door_in, is_call, is_item, is_waiting_at, is_waiting_call, items_at, queue_in}
use Rattle.law_pools.specs.Words.{Agrees, is_notice_waiting, is_waiting_notice_in}
use Rattle.law_pools.proofs.Readers.{is_pool-self, same_number}
use Rattle.exit_paths.specs.Words.{AreLost, AreTold, HoldsSame, IsUntaken, TellsUntaken, dropped_items, kept_where, pool_of_number}
use Rattle.exit_paths.proofs.CallersLeft.{or_false}
use Rattle.exit_paths.proofs.DoorsLost.{call_listed, notice_listed}
use Rattle.exit_paths.proofs.ItemsLeft.{left_pool}

-- an item waits at a door

abbrev is_as : Item → ℕ → Waiting → Bool
is_as x d w = is_waiting_at d w && is_item x w.item

abbrev has : PoolsValue → Pool → Item → ℕ → Bool
has v q x d = list_any (is_as x d) (queue_in v q)

in_items : (x : Item) (d : ℕ) (ws : List Waiting) → list_any (is_item x) (items_at d ws) ≡ list_any (is_as x d) ws
in_items x d [] = refl
in_items x d (w ∷ ws) = go (is_waiting_at d w) (in_items x d ws)
  where
    go :
        (b : Bool) → list_any (is_item x) (items_at d ws) ≡ list_any (is_as x d) ws →
        list_any (is_item x) (map (λ y. y.item) (if b then w ∷ filter (is_waiting_at d) ws else filter (is_waiting_at d) ws)) ≡ ((b && is_item x w.item) || list_any (is_as x d) ws)
    go true h = ap (λ b. is_item x w.item || b) h
    go false h = h

-- what leaves with another door
still_has :
    (x : Item) (b : Bool) (d e : ℕ) (ws : List Waiting) → (b ≡ true → list_any (is_as x d) ws ≡ false) →
    list_any (is_as x e) (filter (kept_where (λ w. b && is_waiting_at d w)) ws) ≡ list_any (is_as x e) ws
still_has x b d e [] h = refl
still_has x false d e (w ∷ ws) h = ap (λ c. is_as x e w || c) (still_has x false d e ws (λ k. cc))
still_has x true d e (w ∷ ws) h = go (is_waiting_at d w) (is_item x w.item) refl (h refl) (λ k. still_has x true d e ws (λ l. k))
  where
    none : (c : Bool) → (c && false) ≡ false
    none true = refl
    none false = refl

    go :
        (a b : Bool) → is_item x w.item ≡ b → ((a && is_item x w.item) || list_any (is_as x d) ws) ≡ false →
        (list_any (is_as x d) ws ≡ false → list_any (is_as x e) (filter (kept_where (λ y. true && is_waiting_at d y)) ws) ≡ list_any (is_as x e) ws) →
        list_any (is_as x e) (if not a then w ∷ filter (kept_where (λ y. true && is_waiting_at d y)) ws else filter (kept_where (λ y. true && is_waiting_at d y)) ws)
        ≡ ((is_waiting_at e w && is_item x w.item) || list_any (is_as x e) ws)
    go true true i k rest = let f : true ≡ false = ap (λ c. c || list_any (is_as x d) ws) (sym i) ∙ k in cc
    go true false i k rest =
        rest (ap (λ c. c || list_any (is_as x d) ws) (sym i) ∙ k)
        ∙ sym (ap (λ c. c || list_any (is_as x e) ws) (ap (λ c. is_waiting_at e w && c) i ∙ none (is_waiting_at e w)))
    go false b i k rest = ap (λ c. (is_waiting_at e w && is_item x w.item) || c) (rest k)

-- the doors one after the other
in_dropped : (doors : List Door) (x : Item) (lost : List ℕ) (v : PoolsValue) → list_any (is_item x) (dropped_items doors lost v) ≡ list_any (λ d. has v (pool_of_number doors d) x d) lost
in_dropped doors x [] v = refl
in_dropped doors x (d ∷ ds) v =
    list_any-append (is_item x) (items_at d (queue_in v pool)) (dropped_items doors ds w)
    ∙ ap₂ (λ a b. a || b) (in_items x d (queue_in v pool)) (in_dropped doors x ds w)
    ∙ go (has v pool x d) refl
  where
    pool : Pool
    pool = pool_of_number doors d

    w : PoolsValue
    w = change_pool v pool (drop_door_in d)

    same_any : {X : Type 0} (f g : X → Bool) (xs : List X) → ((y : X) → f y ≡ g y) → list_any f xs ≡ list_any g xs
    same_any f g [] h = refl
    same_any f g (y ∷ ys) h = ap₂ (λ a b. a || b) (h y) (same_any f g ys h)

    go : (b : Bool) → has v pool x d ≡ b → (b || list_any (λ e. has w (pool_of_number doors e) x e) ds) ≡ (b || list_any (λ e. has v (pool_of_number doors e) x e) ds)
    go true h = refl
    go false h =
        same_any (λ e. has w (pool_of_number doors e) x e) (λ e. has v (pool_of_number doors e) x e) ds
        (λ e. ap (list_any (is_as x e)) ((left_pool v pool (is_waiting_at d)).queues (pool_of_number doors e))
        ∙ still_has x (is_pool pool (pool_of_number doors e)) d e (queue_in v (pool_of_number doors e))
        (λ k. subst (λ p. list_any (is_as x d) (queue_in v p) ≡ false) (same_pool pool (pool_of_number doors e) k) h))

-- of records in order of number one has a number
module _ {X : Type 0} (number : X → ℕ) (test : X → Bool) where
  none_later : (c low made : ℕ) (xs : List X) → IsAscending number low made xs → c ≤ low → list_any (λ y. test y && (c == number y)) xs ≡ false
  none_later c low made [] a l = refl
  none_later c low made (y ∷ ys) a l =
      ap₂ (λ b e. (test y && b) || e) (apart c (number y) (omega (arith, a.0))) (none_later c (number y) made ys a.2 (omega (arith, a.0))) ∙ none (test y)
    where
      apart : (j k : ℕ) → j < k → (j == k) ≡ false
      apart j k m = grind (arith, nat_tests)

      none : (b : Bool) → ((b && false) || false) ≡ false
      none true = refl
      none false = refl

  only_one : (low made i : ℕ) (xs : List X) (x : X) → IsAscending number low made xs → slice_get xs i ≡ Some x → (list_any (λ y. test y && (number x == number y)) xs ≡ test x) × (low < number x)
  only_one low made i [] x a e = cc
  only_one low made zero (y ∷ ys) x a e =
      let same : y ≡ x = cc in
      subst (λ z. (list_any (λ w. test w && (number z == number w)) (y ∷ ys) ≡ test z) × (low < number z)) same
      (ap₂ (λ b e. (test y && b) || e) (equal (number y)) (none_later (number y) (number y) made ys a.2 (omega arith)) ∙ last (test y), a.0)
    where
      equal : (k : ℕ) → (k == k) ≡ true
      equal k = grind (arith, nat_tests)

      last : (b : Bool) → ((b && true) || false) ≡ b
      last true = refl
      last false = refl
  only_one low made (suc i) (y ∷ ys) x a e =
      let r = only_one (number y) made i ys x a.2 e in
      (ap₂ (λ b e. (test y && b) || e) (apart (number y) (number x) r.1) r.0 ∙ none (test y) (test x), omega (arith, a.0, r.1))
    where
      apart : (j k : ℕ) → j < k → (k == j) ≡ false
      apart j k m = grind (arith, nat_tests)

      none : (b c : Bool) → ((b && false) || c) ≡ c
      none true c = refl
      none false c = refl

-- a notice waits at a door as its record says

module _ {n : ℕ} {table : ProcessTable} {doors : List Door} {tree : CallTree} {list : NoticeList} {v : PoolsValue} (h : Agrees n table doors tree list v) where
  -- calls are no notices
  notices_alone : (k d : ℕ) (ws : List Waiting) → list_any (is_as (item.Notice k) d) ws ≡ list_any (is_as (item.Notice k) d) (filter is_notice_waiting ws)
  notices_alone k d [] = refl
  notices_alone k d (w ∷ ws) = go w.item refl (notices_alone k d ws)
    where
      none : (b c : Bool) → ((b && false) || c) ≡ c
      none true c = refl
      none false c = refl

      go :
          (x : Item) → w.item ≡ x → list_any (is_as (item.Notice k) d) ws ≡ list_any (is_as (item.Notice k) d) (filter is_notice_waiting ws) →
          list_any (is_as (item.Notice k) d) (w ∷ ws) ≡ list_any (is_as (item.Notice k) d) (filter is_notice_waiting (w ∷ ws))
      go (item.Call c) e ih =
          ap (λ y. (is_waiting_at d w && is_item (item.Notice k) y) || list_any (is_as (item.Notice k) d) ws) e ∙ none (is_waiting_at d w) (list_any (is_as (item.Notice k) d) ws) ∙ ih
          ∙ sym (ap (λ y. list_any (is_as (item.Notice k) d) (if not (is_call y) then w ∷ filter is_notice_waiting ws else filter is_notice_waiting ws)) e)
      go (item.Notice c) e ih =
          ap (λ b. is_as (item.Notice k) d w || b) ih
          ∙ sym (ap (λ y. list_any (is_as (item.Notice k) d) (if not (is_call y) then w ∷ filter is_notice_waiting ws else filter is_notice_waiting ws)) e)

  as_records : (q : Pool) (k d : ℕ) (ns : List Notice) → list_any (is_as (item.Notice k) d) (map waiting_notice (filter (is_waiting_notice_in doors q) ns)) ≡ list_any (λ m. (is_waiting_notice_in doors q m && (m.door == d)) && (k == m.number)) ns
  as_records q k d [] = refl
  as_records q k d (m ∷ ns) = go (is_waiting_notice_in doors q m) (as_records q k d ns)
    where
      go :
          (b : Bool) → list_any (is_as (item.Notice k) d) (map waiting_notice (filter (is_waiting_notice_in doors q) ns)) ≡ list_any (λ y. (is_waiting_notice_in doors q y && (y.door == d)) && (k == y.number)) ns →
          list_any (is_as (item.Notice k) d) (map waiting_notice (if b then m ∷ filter (is_waiting_notice_in doors q) ns else filter (is_waiting_notice_in doors q) ns))
          ≡ (((b && (m.door == d)) && (k == m.number)) || list_any (λ y. (is_waiting_notice_in doors q y && (y.door == d)) && (k == y.number)) ns)
      go true ih = ap (λ b. ((m.door == d) && (k == m.number)) || b) ih
      go false ih = ih

  has_notice : (i : ℕ) (x : Notice) → slice_get list.notices i ≡ Some x → (d : ℕ) → has v (pool_of_number doors d) (item.Notice x.number) d ≡ (is_waiting_stage x.stage && (x.door == d))
  has_notice i x at d =
      notices_alone x.number d (queue_in v q) ∙ ap (list_any (is_as (item.Notice x.number) d)) (h.queues q).notices_wait ∙ as_records q x.number d list.notices
      ∙ (only_one notice_number (λ m. is_waiting_notice_in doors q m && (m.door == d)) 0 list.made i list.notices x h.notices at).0
      ∙ go (x.door == d) refl
    where
      q : Pool
      q = pool_of_number doors d

      none : (a b : Bool) → ((a && b) && false) ≡ (a && false)
      none true true = refl
      none true false = refl
      none false b = refl

      last : (a : Bool) → ((a && true) && true) ≡ (a && true)
      last true = refl
      last false = refl

      go : (b : Bool) → (x.door == d) ≡ b → (is_waiting_notice_in doors q x && (x.door == d)) ≡ (is_waiting_stage x.stage && (x.door == d))
      go false e =
          ap (λ b. is_waiting_notice_in doors q x && b) e ∙ none (is_waiting_stage x.stage) (is_pool q (pool_in (at_number doors x.door)))
          ∙ sym (ap (λ b. is_waiting_stage x.stage && b) e)
      go true e =
          ap₂ (λ a b. (is_waiting_stage x.stage && a) && b)
          (subst (λ k. is_pool (pool_of_number doors k) (pool_in (at_number doors x.door)) ≡ true) (same_number x.door d e) (is_pool-self (pool_in (at_number doors x.door)))) e
          ∙ last (is_waiting_stage x.stage) ∙ sym (ap (λ b. is_waiting_stage x.stage && b) e)

  pub tells_dropped : (who : Leaving) (lost : List ℕ) → AreLost who lost v → (untaken : List Item) → untaken ≡ dropped_items doors lost v → TellsUntaken who list.notices untaken
  tells_dropped who lost listed untaken is i x at =
      ap (list_any (is_item (item.Notice x.number))) is ∙ in_dropped doors (item.Notice x.number) lost v
      ∙ all_doors lost
      ∙ go (is_waiting_stage x.stage) refl
    where
      all_doors : (ds : List ℕ) → list_any (λ d. has v (pool_of_number doors d) (item.Notice x.number) d) ds ≡ (is_waiting_stage x.stage && list_any (λ d. x.door == d) ds)
      all_doors [] = sym (none (is_waiting_stage x.stage))
        where
          none : (b : Bool) → (b && false) ≡ false
          none true = refl
          none false = refl
      all_doors (d ∷ ds) = ap₂ (λ a b. a || b) (has_notice i x at d) (all_doors ds) ∙ share (is_waiting_stage x.stage) (x.door == d) (list_any (λ e. x.door == e) ds)
        where
          share : (a b c : Bool) → ((a && b) || (a && c)) ≡ (a && (b || c))
          share true b c = refl
          share false b c = refl

      go : (b : Bool) → is_waiting_stage x.stage ≡ b → (is_waiting_stage x.stage && list_any (λ d. x.door == d) lost) ≡ (is_waiting_stage x.stage && who.loses x.door)
      go true e =
          ap (λ b. is_waiting_stage x.stage && b)
          (notice_listed h who lost listed (pool_in (at_number doors x.door)) i x at (ap₂ (λ a b. a && b) e (is_pool-self (pool_in (at_number doors x.door)))))
      go false e = ap (λ b. b && list_any (λ d. x.door == d) lost) e ∙ sym (ap (λ b. b && who.loses x.door) e)

-- a call waits at a door as its record says

pub found_place : {X : Type 0} (p : X → Bool) (xs : List X) (x : X) → find p xs ≡ Some x → (i : ℕ) × (slice_get xs i ≡ Some x)
found_place p [] x e = cc
found_place p (y ∷ ys) x e = go (p y) e (λ k. found_place p ys x k)
  where
    go : (b : Bool) → (if b then Some y else find p ys) ≡ Some x → (find p ys ≡ Some x → (i : ℕ) × (slice_get ys i ≡ Some x)) → (i : ℕ) × (slice_get (y ∷ ys) i ≡ Some x)
    go true f rest = (0, f)
    go false f rest = let w = rest f in (suc w.0, w.1)

module _ {n : ℕ} {table : ProcessTable} {doors : List Door} {tree : CallTree} {list : NoticeList} {v : PoolsValue} (h : Agrees n table doors tree list v) where
  -- notices are no calls
  calls_alone : (k d : ℕ) (ws : List Waiting) → list_any (is_as (item.Call k) d) ws ≡ list_any (is_as (item.Call k) d) (filter is_waiting_call ws)
  calls_alone k d [] = refl
  calls_alone k d (w ∷ ws) = go w.item refl (calls_alone k d ws)
    where
      none : (b c : Bool) → ((b && false) || c) ≡ c
      none true c = refl
      none false c = refl

      go :
          (x : Item) → w.item ≡ x → list_any (is_as (item.Call k) d) ws ≡ list_any (is_as (item.Call k) d) (filter is_waiting_call ws) →
          list_any (is_as (item.Call k) d) (w ∷ ws) ≡ list_any (is_as (item.Call k) d) (filter is_waiting_call (w ∷ ws))
      go (item.Notice c) e ih =
          ap (λ y. (is_waiting_at d w && is_item (item.Call k) y) || list_any (is_as (item.Call k) d) ws) e ∙ none (is_waiting_at d w) (list_any (is_as (item.Call k) d) ws) ∙ ih
          ∙ sym (ap (λ y. list_any (is_as (item.Call k) d) (if is_call y then w ∷ filter is_waiting_call ws else filter is_waiting_call ws)) e)
      go (item.Call c) e ih =
          ap (λ b. is_as (item.Call k) d w || b) ih
          ∙ sym (ap (λ y. list_any (is_as (item.Call k) d) (if is_call y then w ∷ filter is_waiting_call ws else filter is_waiting_call ws)) e)

  as_calls : (q : Pool) (k d : ℕ) (rs : List Call) → list_any (is_as (item.Call k) d) (map waiting_call (filter (is_queued_in doors q) rs)) ≡ list_any (λ m. (is_queued_in doors q m && (m.door == d)) && (k == m.number)) rs
  as_calls q k d [] = refl
  as_calls q k d (m ∷ rs) = go (is_queued_in doors q m) (as_calls q k d rs)
    where
      go :
          (b : Bool) → list_any (is_as (item.Call k) d) (map waiting_call (filter (is_queued_in doors q) rs)) ≡ list_any (λ y. (is_queued_in doors q y && (y.door == d)) && (k == y.number)) rs →
          list_any (is_as (item.Call k) d) (map waiting_call (if b then m ∷ filter (is_queued_in doors q) rs else filter (is_queued_in doors q) rs))
          ≡ (((b && (m.door == d)) && (k == m.number)) || list_any (λ y. (is_queued_in doors q y && (y.door == d)) && (k == y.number)) rs)
      go true ih = ap (λ b. ((m.door == d) && (k == m.number)) || b) ih
      go false ih = ih

  has_call : (i : ℕ) (x : Call) → slice_get tree.calls i ≡ Some x → (d : ℕ) → has v (pool_of_number doors d) (item.Call x.number) d ≡ (is_queued x.stage && (x.door == d))
  has_call i x at d =
      calls_alone x.number d (queue_in v q) ∙ ap (list_any (is_as (item.Call x.number) d)) (h.queues q).calls_wait ∙ as_calls q x.number d tree.calls
      ∙ (only_one call_number (λ m. is_queued_in doors q m && (m.door == d)) 0 tree.made i tree.calls x h.calls at).0
      ∙ go (x.door == d) refl
    where
      q : Pool
      q = pool_of_number doors d

      none : (a b : Bool) → ((a && b) && false) ≡ (a && false)
      none true true = refl
      none true false = refl
      none false b = refl

      last : (a : Bool) → ((a && true) && true) ≡ (a && true)
      last true = refl
      last false = refl

      go : (b : Bool) → (x.door == d) ≡ b → (is_queued_in doors q x && (x.door == d)) ≡ (is_queued x.stage && (x.door == d))
      go false e =
          ap (λ b. is_queued_in doors q x && b) e ∙ none (is_queued x.stage) (is_pool q (pool_in (at_number doors x.door)))
          ∙ sym (ap (λ b. is_queued x.stage && b) e)
      go true e =
          ap₂ (λ a b. (is_queued x.stage && a) && b)
          (subst (λ k. is_pool (pool_of_number doors k) (pool_in (at_number doors x.door)) ≡ true) (same_number x.door d e) (is_pool-self (pool_in (at_number doors x.door)))) e
          ∙ last (is_queued x.stage) ∙ sym (ap (λ b. is_queued x.stage && b) e)

  pub tells_calls : (who : Leaving) (lost : List ℕ) → AreLost who lost v → (untaken : List Item) → untaken ≡ dropped_items doors lost v → AreTold who.loses tree.calls untaken
  tells_calls who lost listed untaken is p r e q l =
      ap (list_any (is_item (item.Call r.number))) is ∙ in_dropped doors (item.Call r.number) lost v
      ∙ all_doors lost
      ∙ ap₂ (λ a b. a && b) (ap is_queued q)
      (call_listed h who lost listed (pool_in (at_number doors r.door)) (found_place p tree.calls r e).0 r (found_place p tree.calls r e).1
      (ap₂ (λ a b. a && b) (ap is_queued q) (is_pool-self (pool_in (at_number doors r.door)))) ∙ l)
    where
      all_doors : (ds : List ℕ) → list_any (λ d. has v (pool_of_number doors d) (item.Call r.number) d) ds ≡ (is_queued r.stage && list_any (λ d. r.door == d) ds)
      all_doors [] = sym (none (is_queued r.stage))
        where
          none : (b : Bool) → (b && false) ≡ false
          none true = refl
          none false = refl
      all_doors (d ∷ ds) =
          ap₂ (λ a b. a || b) (has_call (found_place p tree.calls r e).0 r (found_place p tree.calls r e).1 d) (all_doors ds)
          ∙ share (is_queued r.stage) (r.door == d) (list_any (λ k. r.door == k) ds)
        where
          share : (a b c : Bool) → ((a && b) || (a && c)) ≡ (a && (b || c))
          share true b c = refl
          share false b c = refl

-- in pools that hold the same
pub lost_same : (who : Leaving) (lost : List ℕ) {v w : PoolsValue} → HoldsSame v w → AreLost who lost v → AreLost who lost w
lost_same who lost {v} {w} same listed = λ q. subst (AllByRecursion (λ x. list_any (λ d. is_waiting_at d x) lost ≡ who.loses x.door)) (sym (same.queues q)) (listed q)

-- one door
pub lost_alone : (d : ℕ) (v : PoolsValue) → AreLost (revocation d) (d ∷ []) v
lost_alone d v = λ q. go (queue_in v q)
  where
    go : (ws : List Waiting) → AllByRecursion (λ w. list_any (λ e. is_waiting_at e w) (d ∷ []) ≡ (w.door == d)) ws
    go [] = tt
    go (w ∷ ws) = (or_false (w.door == d), go ws)

-- all of it

-- from pools with the same queues the same is dropped
dropped_same : (doors : List Door) (ds : List ℕ) (v w : PoolsValue) → ((q : Pool) → queue_in w q ≡ queue_in v q) → dropped_items doors ds w ≡ dropped_items doors ds v
dropped_same doors [] v w same = refl
dropped_same doors (d ∷ ds) v w same =
    ap₂ (λ xs ys. items_at d xs ++ ys) (same pool)
    (dropped_same doors ds (change_pool v pool (drop_door_in d)) (change_pool w pool (drop_door_in d))
    (λ q.
    (left_pool w pool (is_waiting_at d)).queues q ∙ ap (filter (kept_where (λ x. is_pool pool q && is_waiting_at d x))) (same q)
    ∙ sym ((left_pool v pool (is_waiting_at d)).queues q)))
  where
    pool : Pool
    pool = pool_of_number doors d

pub untaken_there :
    {who : Leaving} (lost : List ℕ) (doors : List Door) {v w : PoolsValue} → HoldsSame v w → AreLost who lost v → (untaken : List Item) →
    untaken ≡ dropped_items doors lost w → IsUntaken who doors v untaken
untaken_there lost doors {v} {w} same listed untaken is = record { lost = lost; those = listed; told = is ∙ dropped_same doors lost v w same.queues }

-- no door is lost
pub none_untaken : (who : Leaving) (doors : List Door) (v : PoolsValue) → ((d : ℕ) → who.loses d ≡ false) → (untaken : List Item) → untaken ≡ [] → IsUntaken who doors v untaken
none_untaken who doors v none untaken is = record { lost = []; those = λ q. go (queue_in v q); told = is }
  where
    go : (ws : List Waiting) → AllByRecursion (λ w. false ≡ who.loses w.door) ws
    go [] = tt
    go (w ∷ ws) = (sym (none w.door), go ws)
