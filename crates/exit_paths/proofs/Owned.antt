-- The valid doors of a process are those that are lost with it, as far as anything waits: what waits is at a valid door.
use Rattle.std.proofs.Common.{◌≡◌, ℕ, zero, suc, ◌+◌, ◌<◌, ◌≤◌, ◌==◌, ◌&&◌, ◌||◌, not, Bool, true, false, if◌then◌else◌, List, [], ◌∷◌, Option, Some, None, filter, map, slice_get, refl, sym, ap, ap₂, ◌∙◌, subst, arith}
use Rattle.std.specs.List.{AllByRecursion, list_any}
use Rattle.std.proofs.lemmas.Bool.Decides.{nat_tests}
use Rattle.dk_base.specs.ByNumber.{at_number}
use Rattle.spec_records.specs.Words.{CallTree, NoticeList, ProcessTable, is_owned_by, is_pool, is_queued, is_queued_in, is_valid_in, is_valid_of, is_waiting_stage, number_of_door, pool_in, process_end, valid_doors_of, waiting_call, waiting_notice}
use Rattle.spec_records.proofs.Lists.{at_number-suc}
use Rattle.spec_kernel.specs.Types.{Call, Door, Notice, Waiting}
use Rattle.server_pool.specs.Words.{PoolsValue, is_waiting_at, is_waiting_call, queue_in}
use Rattle.law_pools.specs.Words.{Agrees, is_waiting_notice_in}
use Rattle.law_pools.proofs.WaitingLists.{both_true}
use Rattle.exit_paths.specs.Words.{AreLost}

-- doors that pass, by their numbers

abbrev passes : (Door → Bool) → Option Door → Bool
passes test None = false
passes test (Some x) = test x

module _ (test : Door → Bool) where
  listed : ℕ → List Door → Bool
  listed d ds = list_any (λ e. d == e) (map number_of_door (filter test ds))

  none_later : (d n : ℕ) (ds : List Door) → ((i : ℕ) (x : Door) → slice_get ds i ≡ Some x → x.number ≡ n + 1 + i) → d ≤ n → list_any (λ e. d == e) (map number_of_door (filter test ds)) ≡ false
  none_later d n [] h l = refl
  none_later d n (x ∷ xs) h l = go (test x) (none_later d (n + 1) xs (λ i y e. h (suc i) y e ∙ omega arith) (omega arith))
    where
      apart : (j k : ℕ) → j < k → (j == k) ≡ false
      apart j k m = grind (arith, nat_tests)

      other : (d == x.number) ≡ false
      other = apart d x.number (let m = h zero x refl in omega (arith, m))

      go :
          (b : Bool) → list_any (λ e. d == e) (map number_of_door (filter test xs)) ≡ false →
          list_any (λ e. d == e) (map number_of_door (if b then x ∷ filter test xs else filter test xs)) ≡ false
      go true ih = ap₂ (λ a c. a || c) other ih
      go false ih = ih

  listed_is :
      (d n k : ℕ) (ds : List Door) → ((i : ℕ) (x : Door) → slice_get ds i ≡ Some x → x.number ≡ n + 1 + i) → d ≡ n + 1 + k →
      list_any (λ e. d == e) (map number_of_door (filter test ds)) ≡ passes test (slice_get ds k)
  listed_is d n k [] h e = refl
  listed_is d n zero (x ∷ xs) h e = go (test x) refl
    where
      equal : (i j : ℕ) → i ≡ j → (i == j) ≡ true
      equal i j m = grind (arith, nat_tests)

      rest : list_any (λ c. d == c) (map number_of_door (filter test xs)) ≡ false
      rest = none_later d (n + 1) xs (λ i y f. h (suc i) y f ∙ omega arith) (omega (arith, e))

      go : (b : Bool) → test x ≡ b → list_any (λ c. d == c) (map number_of_door (if b then x ∷ filter test xs else filter test xs)) ≡ test x
      go true f = ap (λ a. a || list_any (λ c. d == c) (map number_of_door (filter test xs))) (equal d x.number (let m = h zero x refl in omega (arith, m, e))) ∙ sym f
      go false f = rest ∙ sym f
  listed_is d n (suc k) (x ∷ xs) h e = go (test x) (listed_is d (n + 1) k xs (λ i y f. h (suc i) y f ∙ omega arith) (omega (arith, e)))
    where
      apart : (j i : ℕ) → i < j → (j == i) ≡ false
      apart j i m = grind (arith, nat_tests)

      other : (d == x.number) ≡ false
      other = apart d x.number (let m = h zero x refl in omega (arith, m, e))

      go :
          (b : Bool) → list_any (λ c. d == c) (map number_of_door (filter test xs)) ≡ passes test (slice_get xs k) →
          list_any (λ c. d == c) (map number_of_door (if b then x ∷ filter test xs else filter test xs)) ≡ passes test (slice_get xs k)
      go true ih = ap (λ a. a || list_any (λ c. d == c) (map number_of_door (filter test xs))) other ∙ ih
      go false ih = ih

valid_listed :
    (p : ℕ) (doors : List Door) → ((d : ℕ) (x : Door) → at_number doors d ≡ Some x → x.number ≡ d) → (d : ℕ) → is_valid_in (at_number doors d) ≡ true →
    list_any (λ e. d == e) (valid_doors_of p doors) ≡ is_owned_by p (at_number doors d)
valid_listed p doors numbered zero v = cc
valid_listed p doors numbered (suc k) v =
    listed_is (is_valid_of p) (suc k) 0 k doors (λ i x e. numbered (suc i) x (at_number-suc doors i ∙ e) ∙ omega arith) (omega arith)
    ∙ go (at_number doors (suc k)) (sym (at_number-suc doors k)) v
  where
    go : (o : Option Door) → slice_get doors k ≡ o → is_valid_in o ≡ true → passes (is_valid_of p) (slice_get doors k) ≡ is_owned_by p o
    go None e f = cc
    go (Some x) e f = ap (passes (is_valid_of p)) e ∙ ap (λ b. (x.owner.0 == p) && b) f ∙ and_true (x.owner.0 == p)
      where
        and_true : (b : Bool) → (b && true) ≡ b
        and_true true = refl
        and_true false = refl

-- queues

module _ (P : Waiting → Type 0) where
  of_both : (test : Waiting → Bool) (ws : List Waiting) → AllByRecursion P (filter test ws) → AllByRecursion P (filter (λ w. not (test w)) ws) → AllByRecursion P ws
  of_both test [] a b = tt
  of_both test (w ∷ ws) a b = go (test w) a b (of_both test ws)
    where
      go :
          (c : Bool) → AllByRecursion P (if c then w ∷ filter test ws else filter test ws) →
          AllByRecursion P (if not c then w ∷ filter (λ y. not (test y)) ws else filter (λ y. not (test y)) ws) →
          (AllByRecursion P (filter test ws) → AllByRecursion P (filter (λ y. not (test y)) ws) → AllByRecursion P ws) → AllByRecursion P (w ∷ ws)
      go true x y rest = (x.0, rest x.1 y)
      go false x y rest = (y.0, rest x y.1)

  of_records : {X : Type 0} (item : X → Waiting) (here : X → Bool) (xs : List X) → ((i : ℕ) (x : X) → slice_get xs i ≡ Some x → here x ≡ true → P (item x)) → AllByRecursion P (map item (filter here xs))
  of_records item here [] h = tt
  of_records item here (x ∷ xs) h = go (here x) refl (of_records item here xs (λ i y e. h (suc i) y e))
    where
      go : (b : Bool) → here x ≡ b → AllByRecursion P (map item (filter here xs)) → AllByRecursion P (map item (if b then x ∷ filter here xs else filter here xs))
      go true e rest = (h zero x refl e, rest)
      go false e rest = rest

-- what a kernel passes of the doors of a process that ends
pub owned_lost :
    {n : ℕ} {table : ProcessTable} {doors : List Door} {tree : CallTree} {list : NoticeList} {v : PoolsValue} → Agrees n table doors tree list v →
    ((d : ℕ) (x : Door) → at_number doors d ≡ Some x → x.number ≡ d) →
    ((i : ℕ) (r : Call) → slice_get tree.calls i ≡ Some r → is_queued r.stage ≡ true → is_valid_in (at_number doors r.door) ≡ true) →
    ((i : ℕ) (x : Notice) → slice_get list.notices i ≡ Some x → is_waiting_stage x.stage ≡ true → is_valid_in (at_number doors x.door) ≡ true) →
    (p : ℕ) → AreLost (process_end table doors p) (valid_doors_of p doors) v
owned_lost {n} {table} {doors} {tree} {list} {v} h numbered calls notices p = λ q.
    of_both (λ w. list_any (λ d. is_waiting_at d w) (valid_doors_of p doors) ≡ is_owned_by p (at_number doors w.door)) is_waiting_call (queue_in v q)
    (subst (AllByRecursion (λ w. list_any (λ d. is_waiting_at d w) (valid_doors_of p doors) ≡ is_owned_by p (at_number doors w.door))) (sym (h.queues q).calls_wait)
    (of_records (λ w. list_any (λ d. is_waiting_at d w) (valid_doors_of p doors) ≡ is_owned_by p (at_number doors w.door)) waiting_call (is_queued_in doors q) tree.calls
    (λ i r e k. valid_listed p doors numbered r.door (calls i r e (both_true (is_queued r.stage) (is_pool q (pool_in (at_number doors r.door))) k).0))))
    (subst (AllByRecursion (λ w. list_any (λ d. is_waiting_at d w) (valid_doors_of p doors) ≡ is_owned_by p (at_number doors w.door))) (sym (h.queues q).notices_wait)
    (of_records (λ w. list_any (λ d. is_waiting_at d w) (valid_doors_of p doors) ≡ is_owned_by p (at_number doors w.door)) waiting_notice (is_waiting_notice_in doors q) list.notices
    (λ i x e k. valid_listed p doors numbered x.door (notices i x e (both_true (is_waiting_stage x.stage) (is_pool q (pool_in (at_number doors x.door))) k).0))))
