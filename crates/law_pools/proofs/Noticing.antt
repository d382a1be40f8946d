-- What waits in the pools is what the notices say: where notices are made, given, entered and over.
use Rattle.std.proofs.Common.{◌≡◌, ℕ, ◌+◌, ◌≤◌, ◌==◌, Bool, true, false, List, [], ◌∷◌, ◌++◌, Some, is_some, length, map, filter, refl, sym, subst, ap, ◌∙◌, arith}
use Rattle.std.proofs.lemmas.List.{map-append}
use Rattle.dk_base.specs.ByNumber.{at_number}
use Rattle.dk_base.specs.declared.object.Item.TheVariants as item
use Rattle.spec_records.specs.declared.record.NoticeStage.TheVariants as notice
use Rattle.spec_records.specs.declared.record.ThreadState.TheVariants as is
use Rattle.spec_records.specs.Words.{CallTree, IsAscending, NoticeList, ProcessTable, change_first, end_notice, enter_notice, give_notice, give_thread, is_entered_stage, is_given_notice_as, is_given_stage, is_kept_notice, is_notice_entered_by, is_pool, is_waiting_notice_as, is_waiting_stage, kept_notices, make_notice, new_notice, notice_at, notice_number, pool_in, thread_at_state, tid, waiting_notice}
use Rattle.spec_records.proofs.NumberedLists.{ascending-change_first, ascending-filter, ascending-push}
use Rattle.spec_kernel.specs.Types.{Door, Notice, NoticeStage, Parked, Pool, Thread, Waiting}
use Rattle.spec_records.proofs.Places.{map-change_first}
use Rattle.spec_kernel.proofs.Threads.{processes-change_thread}
use Rattle.server_pool.specs.Words.{PoolValue, PoolsValue, change_pool, enqueue_in, match_in, pick_of, pool_at, queue_in, spares_or_none, stack_in}
use Rattle.law_pools.specs.Words.{Agrees, AreDated, AreKept, IsQueueOf, date_of_call, date_of_notice, notices_waiting_in, spares_among}
use Rattle.law_pools.proofs.Dated.{dated_filter, dated_later, dated_push}
use Rattle.law_pools.proofs.Noticed.{all_kept, kept_changed, kept_filter, kept_push, waiting_kept}
use Rattle.law_pools.proofs.Parking.{stack_later}
use Rattle.law_pools.proofs.Queues.{queues_matched, read_changed, same_both, stack_same}
use Rattle.law_pools.proofs.Readers.{bindings-change_pool, common-change_pool, is_pool-sym, private-change_pool, spares-change_pool}
use Rattle.law_pools.proofs.Stacks.{length-change_thread, spares_given, stack_given}
use Rattle.law_pools.proofs.Waits.{notice_left, notice_left_elsewhere, notice_pushed, queue_kept}
use Rattle.law_pools.proofs.WaitingLists.{both_true, filter-changed, notice_kind}

-- stages that are not that of a notice that waits

given_stage : (t : ℕ) (s : NoticeStage) → is_given_stage t s ≡ true → is_waiting_stage s ≡ false
given_stage t notice.Waiting e = cc
given_stage t _ e = refl

entered_stage : (t : ℕ) (s : NoticeStage) → is_entered_stage t s ≡ true → is_waiting_stage s ≡ false
entered_stage t notice.Waiting e = cc
entered_stage t _ e = refl

given_not_waiting : (c t : ℕ) (n : Notice) → is_given_notice_as c t n ≡ true → is_waiting_stage n.stage ≡ false
given_not_waiting c t n e = given_stage t n.stage (both_true (n.number == c) (is_given_stage t n.stage) e).1

module _
    {n : ℕ} {table : ProcessTable} {doors : List Door} {tree : CallTree} {list : NoticeList} {v : PoolsValue}
    (h : Agrees n table doors tree list v) where
  -- all notices of the list are kept
  pub list_is_kept : kept_notices doors list ≡ list
  list_is_kept = ap (λ ns. record list { notices = ns }) (all_kept doors list.notices h.kept)

  -- a notice waits, behind all else of its pool
  pub agrees_make :
      (now d : ℕ) (pool : Pool) → n ≤ now → pool ≡ pool_in (at_number doors d) → is_some (pool_at v pool) ≡ true →
      Agrees now table doors tree (make_notice list now d)
      (change_pool v pool (enqueue_in (waiting_notice (new_notice (list.made + 1) now d))))
  agrees_make now d pool later served there =
      record {
        stacks =
            λ q.
            stack_same table now q v.bindings w.bindings (stack_in v q) (stack_in w q) (bindings-change_pool v pool enter)
            (read_changed (λ (x : PoolValue). x.parked) (λ xs. xs) enter (λ x. refl) v pool q there ∙ same_both (is_pool pool q) (stack_in v q))
            (stack_later table v.bindings n now q (stack_in v q) later (h.stacks q));
        queues =
            λ q.
            subst (IsQueueOf doors tree.calls (list.notices ++ made ∷ []) q)
            (sym
            (read_changed (λ (x : PoolValue). x.waiting) (λ (ws : List Waiting). ws ++ waiting_notice made ∷ []) enter (λ x. refl) v pool q there))
            (notice_pushed (h.queues q) made n h.call_dates h.notice_dates later refl (is_pool pool q)
            (sym (is_pool-sym pool q ∙ ap (is_pool q) served)));
        spares = λ p. ap (λ xs. spares_or_none (at_number xs p)) (spares-change_pool v pool enter) ∙ h.spares p;
        calls = h.calls;
        call_dates = dated_later (map date_of_call tree.calls) 0 n now later h.call_dates;
        notices = ascending-push notice_number list.notices 0 list.made made (omega arith) refl h.notices;
        notice_dates =
            subst (AreDated 0 now) (sym (map-append date_of_notice list.notices (made ∷ [])))
            (dated_push (map date_of_notice list.notices) 0 n now (omega arith) later h.notice_dates);
        kept = kept_push doors list.notices made refl h.kept;
        common = common-change_pool v pool enter ∙ h.common;
        spare_lists = ap length (spares-change_pool v pool enter) ∙ h.spare_lists;
        private = private-change_pool v pool enter ∙ h.private;
      }
    where
      made : Notice
      made = new_notice (list.made + 1) now d

      enter : PoolValue → PoolValue
      enter = enqueue_in (waiting_notice made)

      w : PoolsValue
      w = change_pool v pool enter

  -- other notices, of which the same wait
  with_notices :
      (notices : List Notice) → IsAscending notice_number 0 list.made notices → AreDated 0 n (map date_of_notice notices) → AreKept doors notices →
      ((pool : Pool) → notices_waiting_in doors notices pool ≡ notices_waiting_in doors list.notices pool) →
      Agrees n table doors tree (record list { notices = notices }) v
  with_notices notices order dates kept same =
      record {
        stacks = h.stacks;
        queues = λ pool. queue_kept doors tree.calls notices refl (same pool) (h.queues pool);
        spares = h.spares;
        calls = h.calls;
        call_dates = h.call_dates;
        notices = order;
        notice_dates = dates;
        kept = kept;
        common = h.common;
        spare_lists = h.spare_lists;
        private = h.private;
      }

  changed_dates :
      (test : Notice → Bool) (s : NoticeStage) → AreDated 0 n (map date_of_notice (change_first test (notice_at s) list.notices))
  changed_dates test s =
      subst (AreDated 0 n) (sym (map-change_first date_of_notice test (notice_at s) (λ x. refl) list.notices)) h.notice_dates

  -- a thread enters the notice that it was given
  pub agrees_enter_notice : (c t : ℕ) → Agrees n table doors tree (enter_notice list c t) v
  agrees_enter_notice c t =
      with_notices (change_first (is_given_notice_as c t) (notice_at entered) list.notices)
      (ascending-change_first notice_number (notice_at entered) (λ x. refl) (is_given_notice_as c t) list.notices 0 list.made h.notices)
      (changed_dates (is_given_notice_as c t) entered)
      (kept_changed (is_given_notice_as c t) (notice_at entered) doors (λ x. refl) list.notices h.kept)
      (λ pool.
      ap (map waiting_notice)
      (filter-changed notice_kind doors pool (is_given_notice_as c t) (notice_at entered) (given_not_waiting c t) (λ x. refl) list.notices))
    where
      entered : NoticeStage
      entered = notice.Entered (tid t)

  -- the notice that a thread has entered is over, and is kept where its door has at most one
  pub agrees_end_notice : (t : ℕ) → Agrees n table doors tree (kept_notices doors (end_notice list t)) v
  agrees_end_notice t =
      with_notices (filter (is_kept_notice doors) ended)
      (ascending-filter notice_number (is_kept_notice doors) ended 0 list.made
      (ascending-change_first notice_number (notice_at notice.Over) (λ x. refl) (is_notice_entered_by t) list.notices 0 list.made h.notices))
      (dated_filter date_of_notice (is_kept_notice doors) ended 0 n (changed_dates (is_notice_entered_by t) notice.Over))
      (kept_filter doors ended)
      (λ pool.
      waiting_kept doors ended pool
      ∙ ap (map waiting_notice)
      (filter-changed notice_kind doors pool (is_notice_entered_by t) (notice_at notice.Over) (λ x e. entered_stage t x.stage e) (λ x. refl) list.notices))
    where
      ended : List Notice
      ended = change_first (is_notice_entered_by t) (notice_at notice.Over) list.notices

  -- the thread on top of a pool is given the oldest item of the pool, a notice
  pub agrees_give_notice :
      (pool : Pool) (x : Parked) (w : Waiting) (ws : List Waiting) (c : ℕ) → pick_of (stack_in v pool) ≡ Some x →
      queue_in v pool ≡ w ∷ ws → w.item ≡ item.Notice c →
      Agrees n (give_thread table x.thread.0 (item.Notice c)) doors tree (give_notice list c x.thread.0) (change_pool v pool match_in)
  agrees_give_notice pool x w ws c picked e is_notice =
      record {
        stacks =
            λ q.
            stack_same after n q v.bindings rest.bindings (stack_in rest q) (stack_in rest q) (bindings-change_pool v pool match_in) refl
            (stack_given h pool x picked (item.Notice c) q);
        queues =
            queues_matched h tree.calls (give_notice list c x.thread.0).notices pool w ws e
            (notice_left (h.queues pool) w ws e c is_notice x.thread.0 list.made h.notices)
            (λ other f.
            queue_kept doors tree.calls (give_notice list c x.thread.0).notices refl
            (notice_left_elsewhere (h.queues pool) w ws e c is_notice x.thread.0 list.made other h.notices f) (h.queues other));
        spares =
            λ p.
            ap (λ xs. spares_or_none (at_number xs p)) (spares-change_pool v pool match_in)
            ∙ h.spares p
            ∙ sym (spares_given h pool x picked (item.Notice c) p (length table.threads))
            ∙ ap (spares_among after p) (sym (length-change_thread table x.thread.0 turn));
        calls = h.calls;
        call_dates = h.call_dates;
        notices = ascending-change_first notice_number (notice_at given) (λ y. refl) (is_waiting_notice_as c) list.notices 0 list.made h.notices;
        notice_dates = changed_dates (is_waiting_notice_as c) given;
        kept = kept_changed (is_waiting_notice_as c) (notice_at given) doors (λ y. refl) list.notices h.kept;
        common = common-change_pool v pool match_in ∙ h.common ∙ processes;
        spare_lists = ap length (spares-change_pool v pool match_in) ∙ h.spare_lists ∙ processes;
        private = private-change_pool v pool match_in ∙ h.private;
      }
    where
      given : NoticeStage
      given = notice.Given (tid x.thread.0)

      turn : Thread → Thread
      turn = thread_at_state (is.Given (item.Notice c))

      after : ProcessTable
      after = give_thread table x.thread.0 (item.Notice c)

      rest : PoolsValue
      rest = change_pool v pool match_in

      processes : length table.processes ≡ length after.processes
      processes = ap length (sym (processes-change_thread table x.thread.0 turn))
