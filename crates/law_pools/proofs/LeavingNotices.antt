-- The queues where notices leave them, as their doors become invalid.
use Rattle.std.proofs.Common.{◌≡◌, ℕ, suc, ◌&&◌, Bool, true, false, not, if◌then◌else◌, List, length, map, filter, refl, sym, subst, ap, ap₂, ◌∙◌}
use Rattle.dk_base.specs.ByNumber.{at_number}
use Rattle.spec_records.specs.declared.record.NoticeStage.TheVariants as notice
use Rattle.spec_records.specs.Words.{CallTree, IsAscending, Leaving, NoticeList, ProcessTable, is_kept_notice, is_pool, is_waiting_stage, kept_notices, left_notice, left_notice_at, notice_number, pool_in, waiting_notice}
use Rattle.spec_records.proofs.NumberedLists.{ascending-filter, ascending-map_first, map-map_first, map_first}
use Rattle.spec_kernel.specs.Types.{Door, Notice, NoticeStage, Pool}
use Rattle.server_pool.specs.Words.{PoolsValue, queue_in, spares_or_none, stack_in}
use Rattle.law_pools.specs.Words.{Agrees, AreDated, IsQueueOf, date_of_notice, is_waiting_notice_in, notice_leaves_queue}
use Rattle.law_pools.proofs.Dated.{dated_filter}
use Rattle.law_pools.proofs.Noticed.{kept_filter, waiting_kept}
use Rattle.law_pools.proofs.Noticing.{list_is_kept}
use Rattle.law_pools.proofs.Queues.{stack_same}
use Rattle.law_pools.proofs.Waits.{queue_kept}

-- one notice

module _ (who : Leaving) where
  -- what is not read of its stage stays
  left_reads : {Y : Type 0} (f : Notice → Y) → ((s : NoticeStage) (n : Notice) → f (record n { stage = s }) ≡ f n) → (n : Notice) → f (left_notice who n) ≡ f n
  left_reads f same n = go n.stage
    where
      either : (b : Bool) (s : NoticeStage) → f (if b then record n { stage = s } else n) ≡ f n
      either true s = same s n
      either false s = refl

      go : (s : NoticeStage) → f (left_notice_at who s n) ≡ f n
      go notice.Waiting = either (who.loses n.door) notice.Dropped
      go (notice.Given u) = either (who.ends u.0) notice.Over
      go (notice.Entered u) = either (who.ends u.0) notice.Over
      go _ = refl

  left_notice_number : (n : Notice) → (left_notice who n).number ≡ n.number
  left_notice_number n = left_reads (λ (x : Notice). x.number) (λ s x. refl) n

  left_waiting : (n : Notice) → waiting_notice (left_notice who n) ≡ waiting_notice n
  left_waiting n = left_reads waiting_notice (λ s x. refl) n

  -- it waits as long as its door is valid
  left_waits : (n : Notice) → is_waiting_stage (left_notice who n).stage ≡ (is_waiting_stage n.stage && not (notice_leaves_queue who n))
  left_waits n = go n.stage refl
    where
      lost : (b : Bool) → is_waiting_stage n.stage ≡ true → is_waiting_stage (if b then record n { stage = notice.Dropped } else n).stage ≡ not b
      lost true e = refl
      lost false e = e

      over : (b : Bool) → is_waiting_stage n.stage ≡ false → is_waiting_stage (if b then record n { stage = notice.Over } else n).stage ≡ false
      over true e = refl
      over false e = e

      go :
          (s : NoticeStage) → n.stage ≡ s →
          is_waiting_stage (left_notice_at who s n).stage ≡ (is_waiting_stage s && not (is_waiting_stage s && who.loses n.door))
      go notice.Waiting e = lost (who.loses n.door) (ap is_waiting_stage e)
      go (notice.Given u) e = over (who.ends u.0) (ap is_waiting_stage e)
      go (notice.Entered u) e = over (who.ends u.0) (ap is_waiting_stage e)
      go notice.Over e = ap is_waiting_stage e
      go notice.Dropped e = ap is_waiting_stage e

  left_waits_in :
      (doors : List Door) (pool : Pool) (n : Notice) →
      is_waiting_notice_in doors pool (left_notice who n) ≡ (is_waiting_notice_in doors pool n && not (notice_leaves_queue who n))
  left_waits_in doors pool n =
      ap₂ (λ b d. b && is_pool pool (pool_in (at_number doors d))) (left_waits n) (left_reads (λ (x : Notice). x.door) (λ s x. refl) n)
      ∙ go (is_waiting_stage n.stage) (is_pool pool (pool_in (at_number doors n.door))) (notice_leaves_queue who n)
    where
      go : (a b c : Bool) → ((a && not c) && b) ≡ ((a && b) && not c)
      go true true true = refl
      go true true false = refl
      go true false true = refl
      go true false false = refl
      go false b c = refl

-- the pools, after the first so many notices were left

abbrev pub notices_left : List Door → Leaving → ℕ → NoticeList → NoticeList
notices_left doors who i list = kept_notices doors (record list { notices = map_first (left_notice who) i list.notices })

module _
    {n : ℕ} {table : ProcessTable} {doors : List Door} {tree : CallTree} {v : PoolsValue} (list : NoticeList) (who : Leaving) (i : ℕ) where
  pub none_left : Agrees n table doors tree list v → Agrees n table doors tree (notices_left doors who 0 list) v
  none_left h = subst (λ l. Agrees n table doors tree l v) (sym (list_is_kept h)) h

  -- all but the queues, with the next notice left
  with_next :
      (w : PoolsValue) → IsAscending notice_number 0 list.made list.notices → AreDated 0 n (map date_of_notice list.notices) →
      Agrees n table doors tree (notices_left doors who i list) v → w.bindings ≡ v.bindings → ((q : Pool) → stack_in w q ≡ stack_in v q) →
      w.spares ≡ v.spares → length w.common ≡ length v.common → length w.private ≡ length v.private →
      ((q : Pool) → IsQueueOf doors tree.calls (map_first (left_notice who) (suc i) list.notices) q (queue_in w q)) →
      Agrees n table doors tree (notices_left doors who (suc i) list) w
  with_next w order dates h bindings stacks spares common private queues =
      record {
        stacks = λ q. stack_same table n q v.bindings w.bindings (stack_in v q) (stack_in w q) bindings (stacks q) (h.stacks q);
        queues =
            λ q. queue_kept doors tree.calls (filter (is_kept_notice doors) (map_first (left_notice who) (suc i) list.notices)) refl
            (waiting_kept doors (map_first (left_notice who) (suc i) list.notices) q) (queues q);
        spares = λ p. ap (λ xs. spares_or_none (at_number xs p)) spares ∙ h.spares p;
        calls = h.calls;
        call_dates = h.call_dates;
        notices =
            ascending-filter notice_number (is_kept_notice doors) (map_first (left_notice who) (suc i) list.notices) 0 list.made
            (ascending-map_first notice_number (left_notice who) (left_notice_number who) (suc i) list.notices 0 list.made order);
        notice_dates =
            dated_filter date_of_notice (is_kept_notice doors) (map_first (left_notice who) (suc i) list.notices) 0 n
            (subst (AreDated 0 n) (sym (map-map_first date_of_notice (left_notice who) (left_reads who date_of_notice (λ s x. refl)) (suc i) list.notices)) dates);
        kept = kept_filter doors (map_first (left_notice who) (suc i) list.notices);
        common = common ∙ h.common;
        spare_lists = ap length spares ∙ h.spare_lists;
        private = private ∙ h.private;
      }

  -- a queue, of the notices of which those are kept that rules ask for again
  all_of : (q : Pool) → Agrees n table doors tree (notices_left doors who i list) v → IsQueueOf doors tree.calls (map_first (left_notice who) i list.notices) q (queue_in v q)
  all_of q h =
      queue_kept doors tree.calls (map_first (left_notice who) i list.notices) refl (sym (waiting_kept doors (map_first (left_notice who) i list.notices) q)) (h.queues q)
