-- Doors that are lost, and a process that ends: which items go, and what becomes of the calls.
use Rattle.std.proofs.Common.{◌≡◌, ⊎_elim, ℕ, zero, suc, ◌<◌, ◌≤◌, ◌==◌, ◌&&◌, ◌||◌, Bool, true, false, if◌then◌else◌, List, [], ◌∷◌, Option, Some, None, is_some, find, filter, length, map, slice_get, refl, sym, ap, ap₂, ◌∙◌, subst, eq-or-lt_of_le, arith}
use Rattle.std.specs.List.{AllByRecursion, list_any}
use Rattle.std.proofs.lemmas.Bool.Decides.{nat_tests}
use Rattle.dk_base.specs.ByNumber.{at_number}
use Rattle.dk_base.specs.declared.object.Item.TheVariants as item
use Rattle.spec_records.specs.declared.record.CallStage.TheVariants as stage
use Rattle.spec_records.specs.Words.{CallTree, Leaving, NoticeList, ProcessTable, interruption, is_owned_by, is_pool, is_queued, is_queued_in, is_waiting_stage, left_calls, live_calls, pool_in, process_end, process_in, revocation, waiting_call, waiting_notice}
use Rattle.spec_records.proofs.Lists.{numbered_past}
use Rattle.spec_kernel.specs.Types.{Call, Door, Item, Notice, Pool, Waiting}
use Rattle.server_pool.specs.Words.{PoolsValue, is_item, is_waiting_at, is_waiting_call, queue_in}
use Rattle.call_tree.specs.Words.{AreSound, PartsOfLeaving, is_call, is_called_by}
use Rattle.law_pools.specs.Words.{Agrees, is_notice_waiting, is_waiting_notice_in, leaves_queue}
use Rattle.law_pools.proofs.Readers.{is_pool-sym, same_number}
use Rattle.law_pools.proofs.WaitingLists.{both_true}
use Rattle.exit_paths.specs.Words.{AreLost, AreRefused, AreTold, HaveEnded, is_at_door, is_at_lost, is_call_of, is_call_of_any, is_thread_of, pool_of_number}
use Rattle.exit_paths.proofs.CallersLeft.{caller_goes, or_false, stands}
use Rattle.exit_paths.proofs.Fated.{all_kept}
use Rattle.exit_paths.proofs.LeftThreads.{or_later}
use Rattle.exit_paths.proofs.QueuesLeft.{GoAs}

-- what waits at a door that is listed

module _ (doors : List Door) (q : Pool) (w : Waiting) (own : is_pool q (pool_in (at_number doors w.door)) ≡ true) where
  at_door_is : (d : ℕ) → is_at_door doors q w d ≡ is_waiting_at d w
  at_door_is d = go (w.door == d) refl
    where
      none : (b : Bool) → (b && false) ≡ false
      none true = refl
      none false = refl

      go : (b : Bool) → (w.door == d) ≡ b → is_at_door doors q w d ≡ is_waiting_at d w
      go true e =
          ap (λ b. b && (w.door == d)) (subst (λ k. is_pool (pool_of_number doors k) q ≡ true) (same_number w.door d e) (is_pool-sym (pool_of_number doors w.door) q ∙ own))
      go false e = ap (λ b. is_pool (pool_of_number doors d) q && b) e ∙ none (is_pool (pool_of_number doors d) q) ∙ sym e

  pub at_lost_is : (lost : List ℕ) → is_at_lost doors lost q w ≡ list_any (λ d. is_waiting_at d w) lost
  at_lost_is [] = refl
  at_lost_is (d ∷ ds) = ap₂ (λ a b. a || b) (at_door_is d) (at_lost_is ds)

-- one door

pub door_goes : (doors : List Door) (calls : List Call) (notices : List Notice) (d : ℕ) → GoAs (revocation d) doors calls notices (is_at_lost doors (d ∷ []))
door_goes doors calls notices d =
    record {
      calls_go =
          λ q i r at here.
          at_lost_is doors q (waiting_call r) (both_true (is_queued r.stage) (is_pool q (pool_in (at_number doors r.door))) here).1 (d ∷ []) ∙ or_false (r.door == d);
      notices_go =
          λ q i n at here.
          at_lost_is doors q (waiting_notice n) (both_true (is_waiting_stage n.stage) (is_pool q (pool_in (at_number doors n.door))) here).1 (d ∷ []) ∙ or_false (n.door == d);
    }

-- the calls that are refused are those that wait at doors that are lost
refused_as :
    {loses : ℕ → Bool} {tree now : CallTree} {items : List Item} (h : AreRefused loses items tree now) → AreTold loses tree.calls items →
    (p : Call → Bool) (r : Call) → find p tree.calls ≡ Some r → r.stage ≡ stage.Queued → h.refused r.number ≡ loses r.door
refused_as {loses} {tree} {now} {items} h told p r e q = h.those p r e q ∙ go (loses r.door) refl
  where
    go : (b : Bool) → loses r.door ≡ b → (b && list_any (is_item (item.Call r.number)) items) ≡ b
    go true f = told p r e q f
    go false f = refl

pub revoked_calls :
    {tree now : CallTree} {items : List Item} → PartsOfLeaving tree → (d : ℕ) → AreRefused (λ e. e == d) items tree now → AreTold (λ e. e == d) tree.calls items →
    now ≡ live_calls (left_calls (revocation d) tree)
revoked_calls {tree} {now} parts d h told = h.so_far ∙ parts.done _ (revocation d) (λ t. refl) (λ t. refl) (λ t. refl) (refused_as h told)

-- a process that ends

all_at :
    {X : Type 0} (P : Waiting → Type 0) (f : X → Waiting) (here : X → Bool) (xs : List X) (i : ℕ) (x : X) → AllByRecursion P (map f (filter here xs)) →
    slice_get xs i ≡ Some x → here x ≡ true → P (f x)
all_at P f here [] i x a e h = cc
all_at P f here (y ∷ ys) zero x a e h =
    let same : y ≡ x = cc in
    let first : AllByRecursion P (map f (if true then y ∷ filter here ys else filter here ys)) =
    subst (λ b. AllByRecursion P (map f (if b then y ∷ filter here ys else filter here ys))) (ap here same ∙ h) a in
    subst (λ z. P (f z)) same first.0
all_at P f here (y ∷ ys) (suc i) x a e h = go (here y) a (λ k. all_at P f here ys i x k e h)
  where
    go : (b : Bool) → AllByRecursion P (map f (if b then y ∷ filter here ys else filter here ys)) → (AllByRecursion P (map f (filter here ys)) → P (f x)) → P (f x)
    go true k rest = rest k.1
    go false k rest = rest k

module _
    {n : ℕ} {table : ProcessTable} {doors : List Door} {tree : CallTree} {list : NoticeList} {v : PoolsValue} (h : Agrees n table doors tree list v) (who : Leaving)
    (lost : List ℕ) (listed : AreLost who lost v) where
  pub call_listed : (q : Pool) (i : ℕ) (r : Call) → slice_get tree.calls i ≡ Some r → is_queued_in doors q r ≡ true → list_any (λ d. is_waiting_at d (waiting_call r)) lost ≡ who.loses r.door
  call_listed q i r at here =
      all_at (λ w. list_any (λ d. is_waiting_at d w) lost ≡ who.loses w.door) waiting_call (is_queued_in doors q) tree.calls i r
      (subst (AllByRecursion (λ w. list_any (λ d. is_waiting_at d w) lost ≡ who.loses w.door)) (h.queues q).calls_wait
      (all_kept (λ w. list_any (λ d. is_waiting_at d w) lost ≡ who.loses w.door) is_waiting_call (queue_in v q) (listed q)))
      at here

  pub notice_listed :
      (q : Pool) (i : ℕ) (x : Notice) → slice_get list.notices i ≡ Some x → is_waiting_notice_in doors q x ≡ true →
      list_any (λ d. is_waiting_at d (waiting_notice x)) lost ≡ who.loses x.door
  notice_listed q i x at here =
      all_at (λ w. list_any (λ d. is_waiting_at d w) lost ≡ who.loses w.door) waiting_notice (is_waiting_notice_in doors q) list.notices i x
      (subst (AllByRecursion (λ w. list_any (λ d. is_waiting_at d w) lost ≡ who.loses w.door)) (h.queues q).notices_wait
      (all_kept (λ w. list_any (λ d. is_waiting_at d w) lost ≡ who.loses w.door) is_notice_waiting (queue_in v q) (listed q)))
      at here

-- the callers among the first n threads

module _ (doors : List Door) (tree : CallTree) (notices : List Notice) (sound : AreSound tree) (test : ℕ → Bool) (q : Pool) where
  module _ (i : ℕ) (r : Call) (at : slice_get tree.calls i ≡ Some r) (here : is_queued_in doors q r ≡ true) where
    one_caller : (t : ℕ) → is_call_of doors (find (is_called_by t) tree.calls) q (waiting_call r) ≡ (r.caller.0 == t)
    one_caller t =
        (caller_goes doors tree notices (interruption t) sound t (λ x. or_false (x.caller.0 == t)) (λ d. refl)).calls_go q i r at here ∙ or_false (r.caller.0 == t)

    none_before : (n : ℕ) → n < r.caller.0 → is_call_of_any doors tree.calls test n q (waiting_call r) ≡ false
    none_before zero l = refl
    none_before (suc n) l =
        ap₂ (λ a b. a || (test (suc n) && b)) (none_before n (omega arith)) (one_caller (suc n) ∙ apart r.caller.0 (suc n) l) ∙ none (test (suc n))
      where
        apart : (j k : ℕ) → k < j → (j == k) ≡ false
        apart j k m = grind (arith, nat_tests)

        none : (b : Bool) → (b && false) ≡ false
        none true = refl
        none false = refl

    pub one_among : (n : ℕ) → 0 < r.caller.0 → r.caller.0 ≤ n → is_call_of_any doors tree.calls test n q (waiting_call r) ≡ test r.caller.0
    one_among zero p l = absurd (omega arith)
    one_among (suc n) p l = ⊎_elim here_is (λ m. before m (one_among n p (omega arith))) (eq-or-lt_of_le l)
      where
        equal : (j k : ℕ) → j ≡ k → (j == k) ≡ true
        equal j k e = grind (arith, nat_tests)

        apart : (j k : ℕ) → j < k → (j == k) ≡ false
        apart j k m = grind (arith, nat_tests)

        last : (b : Bool) → (b && true) ≡ b
        last true = refl
        last false = refl

        none : (a b : Bool) → (a || (b && false)) ≡ a
        none true b = refl
        none false true = refl
        none false false = refl

        here_is : r.caller.0 ≡ suc n → is_call_of_any doors tree.calls test (suc n) q (waiting_call r) ≡ test r.caller.0
        here_is e =
            ap₂ (λ a b. a || (test (suc n) && b)) (none_before n (omega (arith, e))) (one_caller (suc n) ∙ equal r.caller.0 (suc n) e) ∙ last (test (suc n))
            ∙ ap test (sym e)

        before :
            r.caller.0 < suc n → is_call_of_any doors tree.calls test n q (waiting_call r) ≡ test r.caller.0 →
            is_call_of_any doors tree.calls test (suc n) q (waiting_call r) ≡ test r.caller.0
        before m ih =
            ap₂ (λ a b. a || (test (suc n) && b)) ih (one_caller (suc n) ∙ apart r.caller.0 (suc n) m)
            ∙ none (test r.caller.0) (test (suc n))

  pub no_notice : (x : Notice) (n : ℕ) → is_call_of_any doors tree.calls test n q (waiting_notice x) ≡ false
  no_notice x zero = refl
  no_notice x (suc n) = ap₂ (λ a b. a || (test (suc n) && b)) (no_notice x n) (go (find (is_called_by (suc n)) tree.calls)) ∙ none (test (suc n))
    where
      none : (b : Bool) → (b && false) ≡ false
      none true = refl
      none false = refl

      both : (a b : Bool) → (a && (b && false)) ≡ false
      both true true = refl
      both true false = refl
      both false b = refl

      go : (o : Option Call) → is_call_of doors o q (waiting_notice x) ≡ false
      go None = refl
      go (Some r) = both (is_queued r.stage) (is_pool (pool_of_number doors r.door) q)

-- a number that no thread has is of no process that is there
no_thread : (table : ProcessTable) (p t : ℕ) → is_some (at_number table.processes p) ≡ true → length table.threads < t → is_thread_of table p t ≡ false
no_thread table p t there l = ap (λ o. process_in o == p) (numbered_past table.threads t l) ∙ go p there
  where
    go : (k : ℕ) → is_some (at_number table.processes k) ≡ true → (0 == k) ≡ false
    go zero e = cc
    go (suc k) e = grind (arith, nat_tests)

pub process_goes :
    {n : ℕ} {table : ProcessTable} {doors : List Door} {tree : CallTree} {list : NoticeList} {v : PoolsValue} → Agrees n table doors tree list v → AreSound tree →
    (p : ℕ) (lost : List ℕ) → is_some (at_number table.processes p) ≡ true → AreLost (process_end table doors p) lost v →
    GoAs (process_end table doors p) doors tree.calls list.notices
    (λ q w. is_at_lost doors lost q w || is_call_of_any doors tree.calls (is_thread_of table p) (length table.threads) q w)
process_goes {n} {table} {doors} {tree} {list} {v} h sound p lost there listed = record { calls_go = calls; notices_go = notices }
  where
    who : Leaving
    who = process_end table doors p

    swap : (a b : Bool) → (a || b) ≡ (b || (false || a))
    swap true true = refl
    swap true false = refl
    swap false true = refl
    swap false false = refl

    calls :
        (q : Pool) (i : ℕ) (r : Call) → slice_get tree.calls i ≡ Some r → is_queued_in doors q r ≡ true →
        (is_at_lost doors lost q (waiting_call r) || is_call_of_any doors tree.calls (is_thread_of table p) (length table.threads) q (waiting_call r))
        ≡ leaves_queue (process_end table doors p) r
    calls q i r at here =
        ap₂ (λ a b. a || b)
        (at_lost_is doors q (waiting_call r) (both_true (is_queued r.stage) (is_pool q (pool_in (at_number doors r.door))) here).1 lost
        ∙ call_listed h (process_end table doors p) lost listed q i r at here)
        (⊎_elim low high (or_later r.caller.0 (length table.threads)))
        ∙ swap (is_owned_by p (at_number doors r.door)) (is_thread_of table p r.caller.0)
      where
        is : find (is_call r.number) tree.calls ≡ Some r
        is = stands 0 tree.made i tree.calls r sound.ascending at

        low : r.caller.0 ≤ length table.threads → is_call_of_any doors tree.calls (is_thread_of table p) (length table.threads) q (waiting_call r) ≡ is_thread_of table p r.caller.0
        low l = one_among doors tree list.notices sound (is_thread_of table p) q i r at here (length table.threads) (let w = sound.thread (is_call r.number) r is in w.0) l

        high : length table.threads < r.caller.0 → is_call_of_any doors tree.calls (is_thread_of table p) (length table.threads) q (waiting_call r) ≡ is_thread_of table p r.caller.0
        high l =
            none_before doors tree list.notices sound (is_thread_of table p) q i r at here (length table.threads) l ∙ sym (no_thread table p r.caller.0 there l)

    notices :
        (q : Pool) (i : ℕ) (x : Notice) → slice_get list.notices i ≡ Some x → is_waiting_notice_in doors q x ≡ true →
        (is_at_lost doors lost q (waiting_notice x) || is_call_of_any doors tree.calls (is_thread_of table p) (length table.threads) q (waiting_notice x))
        ≡ is_owned_by p (at_number doors x.door)
    notices q i x at here =
        ap₂ (λ a b. a || b)
        (at_lost_is doors q (waiting_notice x) (both_true (is_waiting_stage x.stage) (is_pool q (pool_in (at_number doors x.door))) here).1 lost
        ∙ notice_listed h (process_end table doors p) lost listed q i x at here)
        (no_notice doors tree list.notices sound (is_thread_of table p) q x (length table.threads))
        ∙ or_false (is_owned_by p (at_number doors x.door))

-- the calls of a process that ends, with its threads as they are after it
pub process_calls :
    {tree mid now : CallTree} {items : List Item} (table after : ProcessTable) (doors : List Door) (p : ℕ) → PartsOfLeaving tree → is_some (at_number table.processes p) ≡ true →
    ((t : ℕ) → is_thread_of after p t ≡ is_thread_of table p t) → length after.threads ≡ length table.threads →
    (h : AreRefused (process_end table doors p).loses items tree mid) → AreTold (process_end table doors p).loses tree.calls items →
    HaveEnded (is_thread_of after p) h.refused (length after.threads) tree now → now ≡ live_calls (left_calls (process_end table doors p) tree)
process_calls {tree} {mid} {now} table after doors p parts there same long h told e =
    e.so_far ∙ parts.done _ (process_end table doors p) ends (λ t. refl) ends (refused_as h told)
  where
    none_is : (k : ℕ) → is_some (at_number table.processes k) ≡ true → (0 == k) ≡ false
    none_is zero f = cc
    none_is (suc k) f = grind (arith, nat_tests)

    ends : (t : ℕ) → e.ended t ≡ is_thread_of table p t
    ends zero = e.none ∙ sym (none_is p there)
    ends (suc t) = ⊎_elim low high (or_later (suc t) (length after.threads))
      where
        low : suc t ≤ length after.threads → e.ended (suc t) ≡ is_thread_of table p (suc t)
        low l = e.those (suc t) (omega arith) l ∙ same (suc t)

        high : length after.threads < suc t → e.ended (suc t) ≡ is_thread_of table p (suc t)
        high l = e.others (suc t) l ∙ sym (no_thread table p (suc t) there (omega (arith, long)))
