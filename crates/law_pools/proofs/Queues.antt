-- What waits in the pools is what the calls and notices say: where calls are opened, given, entered, returned and collected, and where
-- doors are made and changed.
use Rattle.std.proofs.Common.{◌≡◌, ℕ, ◌+◌, ◌<◌, ◌≤◌, ◌&&◌, ◌==◌, Bool, true, false, not, nat_le, if◌then◌else◌, List, [], ◌∷◌, ◌++◌, Option, Some, None, option_map, is_some, length, map, filter, drop, slice_get, refl, sym, subst, subst₂, ap, ap₂, ◌∙◌, length-append, arith}
use Rattle.std.proofs.lemmas.List.{length-map, map-append}
use Rattle.std.proofs.lemmas.List.Sums.{length-filter}
use Rattle.dk_base.specs.ByNumber.{at_number}
use Rattle.dk_base.specs.declared.error.Errno.TheVariants.{EMFILE}
use Rattle.dk_base.specs.declared.object.Item.TheVariants as item
use Rattle.dk_base.specs.declared.request.Param.TheVariants as param
use Rattle.spec_records.specs.declared.pool.Pool.TheVariants.{Common, Private}
use Rattle.spec_records.specs.declared.record.CallStage.TheVariants as stage
use Rattle.spec_records.specs.declared.record.ThreadState.TheVariants as is
use Rattle.spec_records.specs.Words.{CallTree, IsAscending, NoticeList, ProcessTable, at_stage, call_number, change_first, collect_call, enter_call, fail_call, give_call, give_thread, has_many, has_unref_multi, is_client_call_of, is_entered_by, is_given_as, is_given_to, is_live_call, is_pool, is_private, is_queued, is_queued_as, is_queued_in, is_to_collect, is_to_collect_as, is_valid_door, live_calls, open_call, pool_in, queue_length, return_call, set_param, thread_at_state, tid, waiting_call, with_param, without_arguments_at}
use Rattle.spec_records.proofs.NumberedLists.{ascending-change_first, ascending-filter, ascending-push}
use Rattle.spec_records.proofs.KeptLists.{filter-kept}
use Rattle.spec_kernel.specs.Types.{Call, CallStage, Door, Notice, Obj, Param, Parked, Pool, Thread, Waiting}
use Rattle.spec_kernel.proofs.Doors.{at_number-change_door, map-change_door}
use Rattle.spec_kernel.proofs.Giving.{same_pool}
use Rattle.spec_records.proofs.Lists.{is_some-at_number, numbered_front, numbered_past, numbered_push, numbered_there, numbered_within, same_length}
use Rattle.spec_records.proofs.Places.{map-change_first}
use Rattle.spec_kernel.proofs.Threads.{processes-change_thread}
use Rattle.server_pool.specs.Words.{PoolValue, PoolsValue, change_pool, count_calls, empty_pool, enqueue_in, is_waiting_call, match_in, pick_of, pool_at, pool_or_empty, queue_in, spares_or_none, stack_in}
use Rattle.law_pools.specs.Words.{Agrees, AreDated, HasPlaces, IsQueueOf, IsStackOf, date_of_call, date_of_notice, spares_among, waiting_in}
use Rattle.law_pools.proofs.Dated.{dated_filter, dated_later, dated_push}
use Rattle.law_pools.proofs.Noticed.{kept_doors}
use Rattle.law_pools.proofs.Readers.{bindings-change_pool, common-change_pool, is_pool-sym, pool-change_other, pool-change_same, pool_there-queue, private-change_pool, same_number, spares-change_pool, there_is}
use Rattle.law_pools.proofs.Parking.{stack_later}
use Rattle.law_pools.proofs.Stacks.{length-change_thread, spares_given, stack_given}
use Rattle.law_pools.proofs.Waits.{call_left, call_left_elsewhere, call_pushed, queue_kept}
use Rattle.law_pools.proofs.WaitingLists.{both_true, call_kind, filter-changed, notice_kind, waiting_doors}
use Rattle.spec_kernel.proofs.CallLists.{queued_in_is_live}

-- calls that wait are live
pub waiting_live : (doors : List Door) (calls : List Call) (pool : Pool) → waiting_in doors (filter is_live_call calls) pool ≡ waiting_in doors calls pool
waiting_live doors calls pool = ap (map waiting_call) (filter-kept is_live_call (is_queued_in doors pool) (queued_in_is_live doors pool) calls)

-- a field of the pools, read after a pool that is there changed
module _ {Y : Type 0} (read : PoolValue → Y) (next : Y → Y) (change : PoolValue → PoolValue) (reads : (x : PoolValue) → read (change x) ≡ next (read x)) where
  pub read_changed :
      (v : PoolsValue) (pool other : Pool) → is_some (pool_at v pool) ≡ true →
      read (pool_or_empty (pool_at (change_pool v pool change) other))
      ≡ (if is_pool pool other then next (read (pool_or_empty (pool_at v other))) else read (pool_or_empty (pool_at v other)))
  read_changed v pool other there = go (is_pool pool other) refl
    where
      go :
          (b : Bool) → is_pool pool other ≡ b →
          read (pool_or_empty (pool_at (change_pool v pool change) other))
          ≡ (if b then next (read (pool_or_empty (pool_at v other))) else read (pool_or_empty (pool_at v other)))
      go true e =
          ap (λ o. read (pool_or_empty o)) (pool-change_same v pool other change e there)
          ∙ reads (pool_or_empty (pool_at v pool))
          ∙ ap (λ q. next (read (pool_or_empty (pool_at v q)))) (same_pool pool other e)
      go false e = ap (λ o. read (pool_or_empty o)) (pool-change_other v pool other change e)

pub same_both : {Y : Type 0} (b : Bool) (y : Y) → (if b then y else y) ≡ y
same_both true y = refl
same_both false y = refl

pub stack_same :
    (table : ProcessTable) (n : ℕ) (pool : Pool) (b c : List (Option ℕ)) (s u : List Parked) → c ≡ b → u ≡ s → IsStackOf table b n pool s →
    IsStackOf table c n pool u
stack_same table n pool b c s u e f h = subst₂ (λ x y. IsStackOf table x n pool y) (sym e) (sym f) h

-- stages that are not that of a call that waits

collected_stage : (s : CallStage) → is_to_collect s ≡ true → is_queued s ≡ false
collected_stage stage.Queued e = cc
collected_stage _ e = refl

given_stage : (t : ℕ) (s : CallStage) → is_given_to t s ≡ true → is_queued s ≡ false
given_stage t stage.Queued e = cc
given_stage t _ e = refl

entered_stage : (t : ℕ) (s : CallStage) → is_entered_by t s ≡ true → is_queued s ≡ false
entered_stage t stage.Queued e = cc
entered_stage t _ e = refl

collected_not_queued : (c : ℕ) (r : Call) → is_to_collect_as c r ≡ true → is_queued r.stage ≡ false
collected_not_queued c r e = collected_stage r.stage (both_true (r.number == c) (is_to_collect r.stage) e).1

given_not_queued : (c t : ℕ) (r : Call) → is_given_as c t r ≡ true → is_queued r.stage ≡ false
given_not_queued c t r e = given_stage t r.stage (both_true (r.number == c) (is_given_to t r.stage) e).1

client_not_queued : (t : ℕ) (r : Call) → is_client_call_of t r ≡ true → is_queued r.stage ≡ false
client_not_queued t r e = entered_stage t r.stage (both_true (not r.abandoned) (is_entered_by t r.stage) e).1

-- doors that changed in their parameters alone

-- a door number reads as the same pool, which as many notices may wait for
pub record ServesAlike (others doors : List Door) (k : ℕ) : Type 0 where
  pub same_pool : pool_in (at_number others k) ≡ pool_in (at_number doors k)
  pub same_many : has_many (at_number others k) ≡ has_many (at_number doors k)

-- what is read of none of its parameters
param_reads :
    {Y : Type 0} (read : Option Door → Y) → ((f : Door → Door) (d : Door) → (f d).attrs ≡ d.attrs → (f d).number ≡ d.number → (f d).owner ≡ d.owner → read (Some (f d)) ≡ read (Some d)) →
    (doors : List Door) (d : ℕ) (x : Param) (value k : ℕ) → read (at_number (set_param doors d x value) k) ≡ read (at_number doors k)
param_reads read same doors d x value k = ap read (at_number-change_door doors d k (with_param x value)) ∙ go (k == d) refl
  where
    kept : (x : Param) (o : Option Door) → read (option_map (with_param x value) o) ≡ read o
    kept x None = refl
    kept param.DataMax (Some d) = same (with_param param.DataMax value) d refl refl refl
    kept param.DataMin (Some d) = same (with_param param.DataMin value) d refl refl refl
    kept param.DescMax (Some d) = same (with_param param.DescMax value) d refl refl refl

    go :
        (b : Bool) → (k == d) ≡ b →
        read (if b then option_map (with_param x value) (at_number doors d) else at_number doors k) ≡ read (at_number doors k)
    go true e = kept x (at_number doors d) ∙ ap (λ j. read (at_number doors j)) (sym (same_number k d e))
    go false e = refl

param_serves : (doors : List Door) (d : ℕ) (x : Param) (value k : ℕ) → ServesAlike (set_param doors d x value) doors k
param_serves doors d x value k =
    record {
      same_pool = param_reads pool_in pool doors d x value k;
      same_many = param_reads has_many (λ f y a b c. ap has_unref_multi a) doors d x value k;
    }
  where
    pool : (f : Door → Door) (y : Door) → (f y).attrs ≡ y.attrs → (f y).number ≡ y.number → (f y).owner ≡ y.owner → pool_in (Some (f y)) ≡ pool_in (Some y)
    pool f y a b c =
        ap (λ z. if is_private z then Private (f y).number else Common (f y).owner) a
        ∙ ap₂ (λ k p. if is_private y.attrs then Private k else Common p) b c

module _ {n : ℕ} {table : ProcessTable} {doors : List Door} {tree : CallTree} {list : NoticeList} {v : PoolsValue} (h : Agrees n table doors tree list v) where
  -- as many calls wait in a pool as the pool counts
  pub queue_length_agrees : (pool : Pool) → queue_length doors tree.calls pool ≡ count_calls (queue_in v pool)
  queue_length_agrees pool =
      sym (length-filter (is_queued_in doors pool) tree.calls)
      ∙ sym (length-map (filter (is_queued_in doors pool) tree.calls) waiting_call)
      ∙ ap length (sym (h.queues pool).calls_wait)
      ∙ length-filter is_waiting_call (queue_in v pool)

  -- the pool of a valid door is there
  pub door_pool_there :
      HasPlaces table v.bindings doors tree.calls list.notices → (d : ℕ) (x : Door) → at_number doors d ≡ Some x → is_valid_door x ≡ true →
      is_some (pool_at v (pool_in (at_number doors d))) ≡ true
  door_pool_there places d x e valid = ap (λ o. is_some (pool_at v (pool_in o))) e ∙ go (is_private x.attrs)
    where
      go : (b : Bool) → is_some (pool_at v (if b then Private x.number else Common x.owner)) ≡ true
      go true =
          let within : (1 ≤ d) × (d ≤ length doors) = numbered_within doors d x e in
          ap (λ k. is_some (at_number v.private k)) (places.door_number d x e)
          ∙ numbered_there v.private d within.0 (rw h.private within.1)
      go false =
          is_some-at_number v.common x.owner.0
          ∙ ap (λ k. nat_le 1 x.owner.0 && nat_le x.owner.0 k) h.common
          ∙ sym (is_some-at_number table.processes x.owner.0)
          ∙ places.owner_there d x e valid

  -- a call waits, behind the others of its pool
  pub agrees_open :
      (r : Call) (pool : Pool) → r.number ≡ tree.made + 1 → n < r.made → is_queued r.stage ≡ true → pool ≡ pool_in (at_number doors r.door) →
      is_some (pool_at v pool) ≡ true →
      Agrees r.made table doors (open_call tree r) list (change_pool v pool (enqueue_in (waiting_call r)))
  agrees_open r pool number later queued served there =
      record {
        stacks =
            λ q.
            stack_same table r.made q v.bindings w.bindings (stack_in v q) (stack_in w q) (bindings-change_pool v pool enter)
            (read_changed (λ (x : PoolValue). x.parked) (λ xs. xs) enter (λ x. refl) v pool q there ∙ same_both (is_pool pool q) (stack_in v q))
            (stack_later table v.bindings n r.made q (stack_in v q) (omega arith) (h.stacks q));
        queues =
            λ q.
            subst (IsQueueOf doors (tree.calls ++ r ∷ []) list.notices q)
            (sym
            (read_changed (λ (x : PoolValue). x.waiting) (λ (ws : List Waiting). ws ++ waiting_call r ∷ []) enter (λ x. refl) v pool q there))
            (call_pushed (h.queues q) r n h.call_dates h.notice_dates later queued (is_pool pool q)
            (sym (is_pool-sym pool q ∙ ap (is_pool q) served)));
        spares = λ p. ap (λ xs. spares_or_none (at_number xs p)) (spares-change_pool v pool enter) ∙ h.spares p;
        calls = ascending-push call_number tree.calls 0 tree.made r (omega arith) number h.calls;
        call_dates =
            subst (AreDated 0 r.made) (sym (map-append date_of_call tree.calls (r ∷ [])))
            (dated_push (map date_of_call tree.calls) 0 n r.made (omega arith) (omega arith) h.call_dates);
        notices = h.notices;
        notice_dates = dated_later (map date_of_notice list.notices) 0 n r.made (omega arith) h.notice_dates;
        kept = h.kept;
        common = common-change_pool v pool enter ∙ h.common;
        spare_lists = ap length (spares-change_pool v pool enter) ∙ h.spare_lists;
        private = private-change_pool v pool enter ∙ h.private;
      }
    where
      enter : PoolValue → PoolValue
      enter = enqueue_in (waiting_call r)

      w : PoolsValue
      w = change_pool v pool enter

  -- other calls, of which the same wait
  with_calls :
      (calls : List Call) → IsAscending call_number 0 tree.made calls → AreDated 0 n (map date_of_call calls) → ((pool : Pool) → waiting_in doors calls pool ≡ waiting_in doors tree.calls pool) →
      Agrees n table doors (record tree { calls = calls }) list v
  with_calls calls order dates same =
      record {
        stacks = h.stacks;
        queues = λ pool. queue_kept doors calls list.notices (same pool) refl (h.queues pool);
        spares = h.spares;
        calls = order;
        call_dates = dates;
        notices = h.notices;
        notice_dates = h.notice_dates;
        kept = h.kept;
        common = h.common;
        spare_lists = h.spare_lists;
        private = h.private;
      }

  pub agrees_stage :
      (test : Call → Bool) (change : Call → Call) → ((r : Call) → test r ≡ true → is_queued r.stage ≡ false) →
      ((r : Call) → is_queued (change r).stage ≡ false) → ((r : Call) → (change r).number ≡ r.number) →
      ((r : Call) → (change r).made ≡ r.made) → Agrees n table doors (record tree { calls = change_first test change tree.calls }) list v
  agrees_stage test change before after same same_date =
      with_calls (change_first test change tree.calls) (ascending-change_first call_number change same test tree.calls 0 tree.made h.calls)
      (subst (AreDated 0 n) (sym (map-change_first date_of_call test change same_date tree.calls)) h.call_dates)
      (λ pool.
      ap (map waiting_call)
      (filter-changed call_kind doors pool test change before after tree.calls))

  -- a thread enters the call that it was given, has no room for its descriptors, or returns it

  pub agrees_enter : (c t : ℕ) → Agrees n table doors (enter_call tree c t) list v
  agrees_enter c t =
      agrees_stage (is_given_as c t) (without_arguments_at (stage.Entered (tid t))) (given_not_queued c t) (λ r. refl) (λ r. refl) (λ r. refl)

  pub agrees_fail : (c t : ℕ) → Agrees n table doors (fail_call tree c t) list v
  agrees_fail c t =
      agrees_stage (is_given_as c t) (without_arguments_at (stage.Ended EMFILE)) (given_not_queued c t) (λ r. refl) (λ r. refl) (λ r. refl)

  pub agrees_return :
      (t : ℕ) (bytes : List ℕ) (objects : List Obj) →
      Agrees n table doors (return_call tree t bytes objects) list v
  agrees_return t bytes objects =
      agrees_stage (is_client_call_of t) (without_arguments_at (stage.Returned bytes objects)) (client_not_queued t) (λ r. refl) (λ r. refl) (λ r. refl)

  -- an answer is collected, and calls that are over leave the list
  pub agrees_collect : (c at : ℕ) → Agrees n table doors (live_calls (collect_call tree c at)) list v
  agrees_collect c at =
      with_calls (filter is_live_call (change_first collected answered tree.calls))
      (ascending-filter call_number is_live_call (change_first collected answered tree.calls) 0 tree.made
      (ascending-change_first call_number answered (λ r. refl) collected tree.calls 0 tree.made h.calls))
      (dated_filter date_of_call is_live_call (change_first collected answered tree.calls) 0 n
      (subst (AreDated 0 n) (sym (map-change_first date_of_call collected answered (λ r. refl) tree.calls)) h.call_dates))
      (λ pool.
      waiting_live doors (change_first collected answered tree.calls) pool
      ∙ ap (map waiting_call) (filter-changed call_kind doors pool collected answered (collected_not_queued c) (λ r. refl) tree.calls))
    where
      collected : Call → Bool
      collected = is_to_collect_as c

      answered : Call → Call
      answered = without_arguments_at (stage.Answered at)

  -- doors that serve what waits alike

  pub queue_doors :
      (others : List Door) →
      ((i : ℕ) (r : Call) → slice_get tree.calls i ≡ Some r → is_queued r.stage ≡ true → pool_in (at_number others r.door) ≡ pool_in (at_number doors r.door)) →
      ((i : ℕ) (x : Notice) → slice_get list.notices i ≡ Some x → ServesAlike others doors x.door) → (pool : Pool) →
      IsQueueOf others tree.calls list.notices pool (queue_in v pool)
  queue_doors others same alike pool =
      queue_kept others tree.calls list.notices (waiting_doors call_kind doors others pool tree.calls same)
      (waiting_doors notice_kind doors others pool list.notices (λ i x e q. (alike i x e).same_pool)) (h.queues pool)

  with_doors :
      (others : List Door) → length others ≡ length doors →
      ((i : ℕ) (r : Call) → slice_get tree.calls i ≡ Some r → is_queued r.stage ≡ true → pool_in (at_number others r.door) ≡ pool_in (at_number doors r.door)) →
      ((i : ℕ) (x : Notice) → slice_get list.notices i ≡ Some x → ServesAlike others doors x.door) → Agrees n table others tree list v
  with_doors others lengths same alike =
      record {
        stacks = h.stacks;
        queues = λ pool. queue_doors others same alike pool;
        spares = h.spares;
        calls = h.calls;
        call_dates = h.call_dates;
        notices = h.notices;
        notice_dates = h.notice_dates;
        kept = kept_doors doors others list.notices (λ i x e. (alike i x e).same_many) h.kept;
        common = h.common;
        spare_lists = h.spare_lists;
        private = h.private ∙ sym lengths;
      }

  -- a parameter of a door changes
  pub agrees_param : (d : ℕ) (x : Param) (value : ℕ) → Agrees n table (set_param doors d x value) tree list v
  agrees_param d x value =
      with_doors (set_param doors d x value)
      (same_length nothing (set_param doors d x value) doors (map-change_door nothing doors d (with_param x value) (λ y. refl)))
      (λ i r e q. (param_serves doors d x value r.door).same_pool)
      (λ i y e. param_serves doors d x value y.door)
    where
      nothing : Door → ℕ
      nothing y = 0

  -- a door is made, with an empty pool
  pub agrees_door :
      (d : Door) (w : PoolsValue) → HasPlaces table v.bindings doors tree.calls list.notices → w.bindings ≡ v.bindings → w.common ≡ v.common →
      w.spares ≡ v.spares → w.private ≡ v.private ++ empty_pool ∷ [] →
      Agrees n table (doors ++ d ∷ []) tree list w
  agrees_door d w places bindings common spares private =
      record {
        stacks =
            λ q.
            stack_same table n q v.bindings w.bindings (stack_in v q) (stack_in w q) bindings (ap (λ (x : PoolValue). x.parked) (pool q)) (h.stacks q);
        queues =
            λ q.
            subst (IsQueueOf (doors ++ d ∷ []) tree.calls list.notices q) (sym (ap (λ (x : PoolValue). x.waiting) (pool q)))
            (queue_doors (doors ++ d ∷ [])
            (λ i r e queued. (there r.door (places.queued_door i r e queued)).same_pool)
            (λ i x e. there x.door (places.notice_door i x e)) q);
        spares = λ p. ap (λ xs. spares_or_none (at_number xs p)) spares ∙ h.spares p;
        calls = h.calls;
        call_dates = h.call_dates;
        notices = h.notices;
        notice_dates = h.notice_dates;
        kept = kept_doors doors (doors ++ d ∷ []) list.notices (λ i x e. (there x.door (places.notice_door i x e)).same_many) h.kept;
        common = ap length common ∙ h.common;
        spare_lists = ap length spares ∙ h.spare_lists;
        private =
            ap length private ∙ length-append v.private (empty_pool ∷ []) ∙ ap (λ k. k + 1) h.private ∙ sym (length-append doors (d ∷ []));
      }
    where
      numbered : (k : ℕ) → pool_or_empty (at_number (v.private ++ empty_pool ∷ []) k) ≡ pool_or_empty (at_number v.private k)
      numbered k = ap pool_or_empty (numbered_push v.private empty_pool k) ∙ go (k == length v.private + 1) refl
        where
          go :
              (b : Bool) → (k == length v.private + 1) ≡ b →
              pool_or_empty (if b then Some empty_pool else at_number v.private k) ≡ pool_or_empty (at_number v.private k)
          go true e =
              let past : k ≡ length v.private + 1 = same_number k (length v.private + 1) e in
              sym (ap pool_or_empty (numbered_past v.private k (omega arith)))
          go false e = refl

      pool : (q : Pool) → pool_or_empty (pool_at w q) ≡ pool_or_empty (pool_at v q)
      pool (Common p) = ap (λ xs. pool_or_empty (at_number xs p.0)) common
      pool (Private k) = ap (λ xs. pool_or_empty (at_number xs k)) private ∙ numbered k

      there : (k : ℕ) → is_some (at_number doors k) ≡ true → ServesAlike (doors ++ d ∷ []) doors k
      there k e =
          let x : (x : Door) × (at_number doors k ≡ Some x) = there_is (at_number doors k) e in
          let same : at_number (doors ++ d ∷ []) k ≡ at_number doors k = numbered_front doors (d ∷ []) k x.0 x.1 ∙ sym x.1 in
          record { same_pool = ap pool_in same; same_many = ap has_many same }

  -- the oldest item of a pool

  -- it leaves the queue of its pool, and every other queue stays
  pub queues_matched :
      (calls : List Call) (notices : List Notice) (pool : Pool) (w : Waiting) (ws : List Waiting) → queue_in v pool ≡ w ∷ ws →
      IsQueueOf doors calls notices pool ws →
      ((other : Pool) → is_pool pool other ≡ false → IsQueueOf doors calls notices other (queue_in v other)) → (other : Pool) →
      IsQueueOf doors calls notices other (queue_in (change_pool v pool match_in) other)
  queues_matched calls notices pool w ws e here others other =
      subst (IsQueueOf doors calls notices other)
      (sym
      (read_changed (λ (x : PoolValue). x.waiting) (λ (xs : List Waiting). drop 1 xs) match_in (λ x. refl) v pool other
      (pool_there-queue v pool w ws e)))
      (go (is_pool pool other) refl)
    where
      own : IsQueueOf doors calls notices pool (drop 1 (queue_in v pool))
      own = subst (IsQueueOf doors calls notices pool) (sym (ap (drop 1) e)) here

      go : (b : Bool) → is_pool pool other ≡ b → IsQueueOf doors calls notices other (if b then drop 1 (queue_in v other) else queue_in v other)
      go true f = subst (λ q. IsQueueOf doors calls notices q (drop 1 (queue_in v q))) (same_pool pool other f) own
      go false f = others other f

  -- the thread on top is given it
  pub agrees_give :
      (pool : Pool) (x : Parked) (w : Waiting) (ws : List Waiting) (c : ℕ) → pick_of (stack_in v pool) ≡ Some x →
      queue_in v pool ≡ w ∷ ws → w.item ≡ item.Call c →
      Agrees n (give_thread table x.thread.0 (item.Call c)) doors (give_call tree c x.thread.0) list (change_pool v pool match_in)
  agrees_give pool x w ws c picked e is_call =
      record {
        stacks =
            λ q.
            stack_same after n q v.bindings rest.bindings (stack_in rest q) (stack_in rest q) (bindings-change_pool v pool match_in) refl
            (stack_given h pool x picked (item.Call c) q);
        queues =
            queues_matched (give_call tree c x.thread.0).calls list.notices pool w ws e
            (call_left (h.queues pool) w ws e c is_call x.thread.0 tree.made h.calls)
            (λ other f.
            queue_kept doors (give_call tree c x.thread.0).calls list.notices
            (call_left_elsewhere (h.queues pool) w ws e c is_call x.thread.0 tree.made other h.calls f) refl (h.queues other));
        spares =
            λ p.
            ap (λ xs. spares_or_none (at_number xs p)) (spares-change_pool v pool match_in)
            ∙ h.spares p
            ∙ sym (spares_given h pool x picked (item.Call c) p (length table.threads))
            ∙ ap (spares_among after p) (sym (length-change_thread table x.thread.0 turn));
        calls =
            ascending-change_first call_number (at_stage (stage.Given (tid x.thread.0))) (λ r. refl) (is_queued_as c) tree.calls 0 tree.made h.calls;
        call_dates =
            subst (AreDated 0 n)
            (sym (map-change_first date_of_call (is_queued_as c) (at_stage (stage.Given (tid x.thread.0))) (λ r. refl) tree.calls)) h.call_dates;
        notices = h.notices;
        notice_dates = h.notice_dates;
        kept = h.kept;
        common = common-change_pool v pool match_in ∙ h.common ∙ processes;
        spare_lists = ap length (spares-change_pool v pool match_in) ∙ h.spare_lists ∙ processes;
        private = private-change_pool v pool match_in ∙ h.private;
      }
    where
      turn : Thread → Thread
      turn = thread_at_state (is.Given (item.Call c))

      after : ProcessTable
      after = give_thread table x.thread.0 (item.Call c)

      rest : PoolsValue
      rest = change_pool v pool match_in

      processes : length table.processes ≡ length after.processes
      processes = ap length (sym (processes-change_thread table x.thread.0 turn))
