-- The queues once the items that wait no longer have left them: they are of the calls and the notices after the event.
use Rattle.std.proofs.Common.{◌≡◌, ℕ, zero, suc, ◌<◌, ◌≤◌, ◌&&◌, not, Bool, true, false, if◌then◌else◌, List, [], ◌∷◌, Some, length, map, filter, slice_get, refl, sym, ap, ap₂, ◌∙◌, subst}
use Rattle.std.proofs.lemmas.Bool.Decides.{nat_tests}
use Rattle.std.proofs.Common.{arith}
use Rattle.dk_base.specs.ByNumber.{at_number}
use Rattle.spec_records.specs.Words.{CallTree, IsAscending, Leaving, NoticeList, ProcessTable, call_number, is_kept_notice, is_live_call, is_queued, is_pool, is_queued_in, is_waiting_stage, kept_notices, left_call, left_calls, left_notice, left_notices, live_calls, notice_number, pool_in, waiting_call, waiting_notice}
use Rattle.spec_records.proofs.NumberedLists.{ascending-filter}
use Rattle.spec_kernel.specs.Types.{Call, Door, Notice, Pool, Waiting}
use Rattle.server_pool.specs.Words.{PoolsValue, is_waiting_call, queue_in, spares_or_none, stack_in}
use Rattle.server_pool.proofs.Order.{ordered_filter}
use Rattle.law_pools.specs.Words.{Agrees, AreDated, IsQueueOf, WaitsBefore, date_of_call, date_of_notice, is_notice_waiting, is_waiting_notice_in, leaves_queue}
use Rattle.law_pools.proofs.Dated.{dated_filter}
use Rattle.law_pools.proofs.Noticed.{kept_filter, waiting_kept}
use Rattle.law_pools.proofs.Queues.{stack_same, waiting_live}
use Rattle.exit_paths.specs.Words.{HaveLeft, kept_where}
use Rattle.exit_paths.proofs.ItemsLeft.{filter_alike, filter_both}

-- lists

filter_swap : {X : Type 0} (p q : X → Bool) (xs : List X) → filter p (filter q xs) ≡ filter q (filter p xs)
filter_swap p q xs = filter_both q p xs ∙ filter_alike (λ x. q x && p x) (λ x. p x && q x) (λ x. swap (q x) (p x)) xs ∙ sym (filter_both p q xs)
  where
    swap : (a b : Bool) → (a && b) ≡ (b && a)
    swap true true = refl
    swap true false = refl
    swap false true = refl
    swap false false = refl

-- of the records that wait here, those that go leave their items behind
module _
    {X : Type 0} (here : X → Bool) (item : X → Waiting) (change : X → X) (goes : X → Bool) (gone : Waiting → Bool)
    (same : (x : X) → item (change x) ≡ item x) (stays : (x : X) → here (change x) ≡ (here x && not (goes x))) where
  those_left :
      (xs : List X) → ((i : ℕ) (x : X) → slice_get xs i ≡ Some x → here x ≡ true → gone (item x) ≡ goes x) →
      filter (kept_where gone) (map item (filter here xs)) ≡ map item (filter here (map change xs))
  those_left [] h = refl
  those_left (x ∷ xs) h = go (here x) refl (goes x) refl (those_left xs (λ i y e. h (suc i) y e))
    where
      rest : List Waiting
      rest = map item (filter here (map change xs))

      next : (b : Bool) → here (change x) ≡ b → (if b then item x ∷ rest else rest) ≡ map item (filter here (map change (x ∷ xs)))
      next true e = ap (λ w. w ∷ rest) (sym (same x)) ∙ sym (ap (λ b. map item (if b then change x ∷ filter here (map change xs) else filter here (map change xs))) e)
      next false e = sym (ap (λ b. map item (if b then change x ∷ filter here (map change xs) else filter here (map change xs))) e)

      go :
          (b : Bool) → here x ≡ b → (c : Bool) → goes x ≡ c → filter (kept_where gone) (map item (filter here xs)) ≡ rest →
          filter (kept_where gone) (map item (if b then x ∷ filter here xs else filter here xs)) ≡ map item (filter here (map change (x ∷ xs)))
      go true e true f ih =
          ap (λ k. if not k then item x ∷ filter (kept_where gone) (map item (filter here xs)) else filter (kept_where gone) (map item (filter here xs))) (h zero x refl e ∙ f)
          ∙ ih ∙ next false (stays x ∙ ap₂ (λ a k. a && not k) e f)
      go true e false f ih =
          ap (λ k. if not k then item x ∷ filter (kept_where gone) (map item (filter here xs)) else filter (kept_where gone) (map item (filter here xs))) (h zero x refl e ∙ f)
          ∙ ap (λ ws. item x ∷ ws) ih ∙ next true (stays x ∙ ap₂ (λ a k. a && not k) e f)
      go false e c f ih = ih ∙ next false (stays x ∙ ap (λ a. a && not (goes x)) e)

both : (a b c : Bool) → ((a && not c) && b) ≡ ((a && b) && not c)
both true true true = refl
both true true false = refl
both true false true = refl
both true false false = refl
both false b c = refl

-- one call and one notice

module _ (who : Leaving) where
  pub call_item : (r : Call) → waiting_call (left_call who r) ≡ waiting_call r
  call_item r = grind (arith, nat_tests)

  pub call_number_kept : (r : Call) → (left_call who r).number ≡ r.number
  call_number_kept r = grind (arith, nat_tests)

  call_door : (r : Call) → (left_call who r).door ≡ r.door
  call_door r = grind (arith, nat_tests)

  call_date : (r : Call) → (left_call who r).made ≡ r.made
  call_date r = grind (arith, nat_tests)

  call_waits : (r : Call) → is_queued (left_call who r).stage ≡ (is_queued r.stage && not (leaves_queue who r))
  call_waits r = grind (arith, nat_tests)

  notice_item : (n : Notice) → waiting_notice (left_notice who n) ≡ waiting_notice n
  notice_item n = grind (arith, nat_tests)

  notice_number_kept : (n : Notice) → (left_notice who n).number ≡ n.number
  notice_number_kept n = grind (arith, nat_tests)

  notice_door : (n : Notice) → (left_notice who n).door ≡ n.door
  notice_door n = grind (arith, nat_tests)

  notice_date : (n : Notice) → (left_notice who n).made ≡ n.made
  notice_date n = grind (arith, nat_tests)

  notice_waits : (n : Notice) → is_waiting_stage (left_notice who n).stage ≡ (is_waiting_stage n.stage && not (who.loses n.door))
  notice_waits n = grind (arith, nat_tests)

  -- in the pools of doors

  call_waits_in : (doors : List Door) (q : Pool) (r : Call) → is_queued_in doors q (left_call who r) ≡ (is_queued_in doors q r && not (leaves_queue who r))
  call_waits_in doors q r =
      ap₂ (λ b d. b && is_pool q (pool_in (at_number doors d))) (call_waits r) (call_door r)
      ∙ both (is_queued r.stage) (is_pool q (pool_in (at_number doors r.door))) (leaves_queue who r)

  notice_waits_in :
      (doors : List Door) (q : Pool) (n : Notice) → is_waiting_notice_in doors q (left_notice who n) ≡ (is_waiting_notice_in doors q n && not (who.loses n.door))
  notice_waits_in doors q n =
      ap₂ (λ b d. b && is_pool q (pool_in (at_number doors d))) (notice_waits n) (notice_door n)
      ∙ both (is_waiting_stage n.stage) (is_pool q (pool_in (at_number doors n.door))) (who.loses n.door)

  same_map : {X Y : Type 0} (f : X → Y) (change : X → X) → ((x : X) → f (change x) ≡ f x) → (xs : List X) → map f (map change xs) ≡ map f xs
  same_map f change h [] = refl
  same_map f change h (x ∷ xs) = ap₂ (λ y ys. y ∷ ys) (h x) (same_map f change h xs)

  rising : {X : Type 0} (number : X → ℕ) (change : X → X) → ((x : X) → number (change x) ≡ number x) → (low made : ℕ) (xs : List X) → IsAscending number low made xs → IsAscending number low made (map change xs)
  rising number change h low made [] a = tt
  rising number change h low made (x ∷ xs) a =
      subst (λ k. (low < k) × (k ≤ made) × IsAscending number k made (map change xs)) (sym (h x)) (a.0, a.1, rising number change h (number x) made xs a.2)

-- which items go, as the records have it
pub record GoAs (who : Leaving) (doors : List Door) (calls : List Call) (notices : List Notice) (gone : Pool → Waiting → Bool) : Type 0 where
  pub calls_go : (q : Pool) (i : ℕ) (r : Call) → slice_get calls i ≡ Some r → is_queued_in doors q r ≡ true → gone q (waiting_call r) ≡ leaves_queue who r
  pub notices_go :
      (q : Pool) (i : ℕ) (n : Notice) → slice_get notices i ≡ Some n → is_waiting_notice_in doors q n ≡ true → gone q (waiting_notice n) ≡ who.loses n.door

module _
    {n : ℕ} {table : ProcessTable} {doors : List Door} {tree : CallTree} {list : NoticeList} {v w : PoolsValue} {gone : Pool → Waiting → Bool} {who : Leaving}
    (h : Agrees n table doors tree list v) (a : HaveLeft gone v w) (goes : GoAs who doors tree.calls list.notices gone) where
  abbrev calls_after : List Call
  calls_after = map (left_call who) tree.calls

  abbrev notices_after : List Notice
  notices_after = map (left_notice who) list.notices

  queue : (q : Pool) → IsQueueOf doors (filter is_live_call calls_after) (filter (is_kept_notice doors) notices_after) q (queue_in w q)
  queue q =
      subst (IsQueueOf doors (filter is_live_call calls_after) (filter (is_kept_notice doors) notices_after) q) (sym (a.queues q))
      (record {
        calls_wait =
            filter_swap is_waiting_call (kept_where (gone q)) (queue_in v q) ∙ ap (filter (kept_where (gone q))) (h.queues q).calls_wait
            ∙ those_left (is_queued_in doors q) waiting_call (left_call who) (leaves_queue who) (gone q) (call_item who) (call_waits_in who doors q) tree.calls (goes.calls_go q)
            ∙ sym (waiting_live doors calls_after q);
        notices_wait =
            filter_swap is_notice_waiting (kept_where (gone q)) (queue_in v q) ∙ ap (filter (kept_where (gone q))) (h.queues q).notices_wait
            ∙ those_left (is_waiting_notice_in doors q) waiting_notice (left_notice who) (λ x. who.loses x.door) (gone q) (notice_item who) (notice_waits_in who doors q) list.notices (goes.notices_go q)
            ∙ sym (waiting_kept doors notices_after q);
        in_order = ordered_filter WaitsBefore (kept_where (gone q)) (queue_in v q) (h.queues q).in_order;
      })

  pub agrees_gone : Agrees n table doors (live_calls (left_calls who tree)) (kept_notices doors (left_notices who list)) w
  agrees_gone =
      record {
        stacks = λ q. stack_same table n q v.bindings w.bindings (stack_in v q) (stack_in w q) a.bindings (a.stacks q) (h.stacks q);
        queues = queue;
        spares = λ p. ap (λ xs. spares_or_none (at_number xs p)) a.spares ∙ h.spares p;
        calls = ascending-filter call_number is_live_call calls_after 0 tree.made (rising who call_number (left_call who) (call_number_kept who) 0 tree.made tree.calls h.calls);
        call_dates = dated_filter date_of_call is_live_call calls_after 0 n (subst (AreDated 0 n) (sym (same_map who date_of_call (left_call who) (call_date who) tree.calls)) h.call_dates);
        notices =
            ascending-filter notice_number (is_kept_notice doors) notices_after 0 list.made
            (rising who notice_number (left_notice who) (notice_number_kept who) 0 list.made list.notices h.notices);
        notice_dates =
            dated_filter date_of_notice (is_kept_notice doors) notices_after 0 n
            (subst (AreDated 0 n) (sym (same_map who date_of_notice (left_notice who) (notice_date who) list.notices)) h.notice_dates);
        kept = kept_filter doors notices_after;
        common = a.common ∙ h.common;
        spare_lists = ap length a.spares ∙ h.spare_lists;
        private = a.private ∙ h.private;
      }
