-- The queues where calls leave them, and what waits where a process ends or a door is revoked.
use Rattle.std.proofs.Common.{◌≡◌, ℕ, zero, suc, ◌≤◌, ◌&&◌, ◌||◌, ◌==◌, Bool, true, false, not, if◌then◌else◌, List, ◌++◌, Option, Some, None, option_map, length, map, filter, refl, sym, subst, ap, ap₂, ◌∙◌}
use Rattle.std.proofs.lemmas.List.{length-map}
use Rattle.dk_base.specs.ByNumber.{at_number}
use Rattle.dk_base.specs.declared.error.Errno.TheVariants.{EBADF, EINTR}
use Rattle.spec_records.specs.declared.record.CallStage.TheVariants as stage
use Rattle.spec_records.specs.Words.{CallTree, IsAscending, Leaving, NoticeList, ProcessTable, abandoned_at, broken_call_at, call_number, end_owner, end_process, ended_process, ended_where, gone_call_at, has_many, is_live_call, is_pool, is_queued, is_queued_in, left_call, left_calls, live_calls, pool_in, revoke_door, revoked_door, waiting_call, with_ended, with_owner_ended, without_arguments_at}
use Rattle.spec_records.proofs.NumberedLists.{ascending-filter, map_first, map_first-all}
use Rattle.spec_kernel.specs.Types.{Call, CallStage, Door, Errno, Pool, Process}
use Rattle.spec_kernel.proofs.Doors.{at_number-change_door, map-change_door}
use Rattle.spec_records.proofs.Lists.{at_number-map, length-with_at_number, same_length}
use Rattle.server_pool.specs.Words.{PoolValue, PoolsValue, change_pool, empty_pool, pool_at, pool_or_empty}
use Rattle.server_pool.proofs.Changed.{pool_changed, pool_kept}
use Rattle.law_pools.specs.Words.{Agrees, AreDated, date_of_call, leaves_queue, spare_at, spares_among, waiting_in}
use Rattle.law_pools.proofs.Dated.{dated_filter}
use Rattle.law_pools.proofs.Noticed.{kept_doors}
use Rattle.law_pools.proofs.Queues.{ServesAlike, queue_doors, waiting_live}
use Rattle.law_pools.proofs.Readers.{same_number}
use Rattle.law_pools.proofs.Waits.{queue_kept}

-- a field of the pools, read after one of them changed, which may not be there
module _
    {Y : Type 0} (read : PoolValue → Y) (next : Y → Y) (change : PoolValue → PoolValue) (reads : (x : PoolValue) → read (change x) ≡ next (read x))
    (none : next (read empty_pool) ≡ read empty_pool) where
  pub read_change :
      (v : PoolsValue) (pool q : Pool) →
      read (pool_or_empty (pool_at (change_pool v pool change) q))
      ≡ (if is_pool pool q then next (read (pool_or_empty (pool_at v q))) else read (pool_or_empty (pool_at v q)))
  read_change v pool q = go (is_pool pool q) refl
    where
      there : (o : Option PoolValue) → read (pool_or_empty (option_map change o)) ≡ next (read (pool_or_empty o))
      there None = sym none
      there (Some x) = reads x

      go :
          (b : Bool) → is_pool pool q ≡ b →
          read (pool_or_empty (pool_at (change_pool v pool change) q))
          ≡ (if b then next (read (pool_or_empty (pool_at v q))) else read (pool_or_empty (pool_at v q)))
      go true e = ap (λ o. read (pool_or_empty o)) (pool_changed v pool q change e) ∙ there (pool_at v q)
      go false e = ap (λ o. read (pool_or_empty o)) (pool_kept v pool q change e)

-- a field that the change leaves
pub read_kept :
    {Y : Type 0} (read : PoolValue → Y) (change : PoolValue → PoolValue) → ((x : PoolValue) → read (change x) ≡ read x) →
    (v : PoolsValue) (pool q : Pool) →
    read (pool_or_empty (pool_at (change_pool v pool change) q)) ≡ read (pool_or_empty (pool_at v q))
read_kept read change same v pool q =
    read_change read (λ y. y) change same refl v pool q ∙ go (is_pool pool q) (read (pool_or_empty (pool_at v q)))
  where
    go : {Y : Type 0} (b : Bool) (y : Y) → (if b then y else y) ≡ y
    go true y = refl
    go false y = refl

-- one call

module _ (who : Leaving) where
  -- what is read of neither its stage nor its arguments stays
  left_reads :
      {Y : Type 0} (f : Call → Y) → ((s : CallStage) (r : Call) → f (without_arguments_at s r) ≡ f r) →
      ((s : CallStage) (r : Call) → f (abandoned_at s r) ≡ f r) → (r : Call) → f (left_call who r) ≡ f r
  left_reads f same too r = go (who.ends r.caller.0)
    where
      gone : (s : CallStage) → f (gone_call_at s r) ≡ f r
      gone (stage.Entered u) = too stage.Gone r
      gone (stage.Answered k) = refl
      gone stage.Gone = refl
      gone _ = same stage.Gone r

      ended : (b : Bool) (e : Errno) → f (ended_where b e r) ≡ f r
      ended true e = same (stage.Ended e) r
      ended false e = refl

      queued : (b : Bool) → f (if b then without_arguments_at (stage.Ended EINTR) r else ended_where (who.loses r.door) EBADF r) ≡ f r
      queued true = same (stage.Ended EINTR) r
      queued false = ended (who.loses r.door) EBADF

      entered : (b c : Bool) → f (if b then abandoned_at (stage.Ended EINTR) r else ended_where c EINTR r) ≡ f r
      entered true c = too (stage.Ended EINTR) r
      entered false c = ended c EINTR

      broken : (s : CallStage) → f (broken_call_at who s r) ≡ f r
      broken stage.Queued = queued (who.interrupts r.caller.0)
      broken (stage.Given u) = ended (who.interrupts r.caller.0 || who.ends u.0) EINTR
      broken (stage.Entered u) = entered (who.interrupts r.caller.0) (who.ends u.0)
      broken _ = refl

      go : (b : Bool) → f (if b then gone_call_at r.stage r else broken_call_at who r.stage r) ≡ f r
      go true = gone r.stage
      go false = broken r.stage

  pub left_number : (r : Call) → (left_call who r).number ≡ r.number
  left_number r = left_reads (λ (x : Call). x.number) (λ s x. refl) (λ s x. refl) r

  left_waiting : (r : Call) → waiting_call (left_call who r) ≡ waiting_call r
  left_waiting r = left_reads waiting_call (λ s x. refl) (λ s x. refl) r

  left_door : (r : Call) → (left_call who r).door ≡ r.door
  left_door r = left_reads (λ (x : Call). x.door) (λ s x. refl) (λ s x. refl) r

  -- it waits as long as it does not leave
  left_queued : (r : Call) → is_queued (left_call who r).stage ≡ (is_queued r.stage && not (leaves_queue who r))
  left_queued r = go (who.ends r.caller.0) r.stage refl
    where
      ended : (b : Bool) (e : Errno) → is_queued r.stage ≡ false → is_queued (ended_where b e r).stage ≡ false
      ended true e k = refl
      ended false e k = k

      broken :
          (b c : Bool) (s : CallStage) → is_queued r.stage ≡ false → is_queued s ≡ false →
          is_queued (if b then abandoned_at s r else ended_where c EINTR r).stage ≡ false
      broken true c s k l = l
      broken false c s k l = ended c EINTR k

      waits :
          (b c : Bool) → is_queued r.stage ≡ true →
          is_queued (if b then without_arguments_at (stage.Ended EINTR) r else ended_where c EBADF r).stage ≡ not (b || c)
      waits true c k = refl
      waits false true k = refl
      waits false false k = k

      go :
          (b : Bool) (s : CallStage) → r.stage ≡ s →
          is_queued (if b then gone_call_at s r else broken_call_at who s r).stage
          ≡ (is_queued s && not (b || (who.interrupts r.caller.0 || who.loses r.door)))
      go true (stage.Answered k) e = ap is_queued e
      go true stage.Gone e = ap is_queued e
      go true _ e = refl
      go false stage.Queued e = waits (who.interrupts r.caller.0) (who.loses r.door) (ap is_queued e)
      go false (stage.Given u) e = ended (who.interrupts r.caller.0 || who.ends u.0) EINTR (ap is_queued e)
      go false (stage.Entered u) e = broken (who.interrupts r.caller.0) (who.ends u.0) (stage.Ended EINTR) (ap is_queued e) refl
      go false (stage.Returned bytes objects) e = ap is_queued e
      go false (stage.Ended k) e = ap is_queued e
      go false (stage.Answered k) e = ap is_queued e
      go false stage.Gone e = ap is_queued e

  left_queued_in :
      (doors : List Door) (pool : Pool) (r : Call) →
      is_queued_in doors pool (left_call who r) ≡ (is_queued_in doors pool r && not (leaves_queue who r))
  left_queued_in doors pool r =
      ap₂ (λ b d. b && is_pool pool (pool_in (at_number doors d))) (left_queued r) (left_door r)
      ∙ go (is_queued r.stage) (is_pool pool (pool_in (at_number doors r.door))) (leaves_queue who r)
    where
      go : (a b c : Bool) → ((a && not c) && b) ≡ ((a && b) && not c)
      go true true true = refl
      go true true false = refl
      go true false true = refl
      go true false false = refl
      go false b c = refl

-- the pools, after the first so many calls were left

abbrev pub tree_left : Leaving → ℕ → CallTree → CallTree
tree_left who i tree = record tree { calls = map_first (left_call who) i tree.calls }

module _
    {n : ℕ} {table : ProcessTable} {doors : List Door} {list : NoticeList} {v : PoolsValue} (tree : CallTree) (who : Leaving) (i : ℕ) where
  -- after all of them those that are live are kept
  pub agrees_left :
      length tree.calls ≤ i → Agrees n table doors (tree_left who i tree) list v → Agrees n table doors (live_calls (left_calls who tree)) list v
  agrees_left l h =
      record {
        stacks = h.stacks;
        queues =
            λ q. queue_kept doors (filter is_live_call (map (left_call who) tree.calls)) list.notices
            (waiting_live doors (map (left_call who) tree.calls) q ∙ ap (λ rs. waiting_in doors rs q) (sym all)) refl (h.queues q);
        spares = h.spares;
        calls =
            ascending-filter call_number is_live_call (map (left_call who) tree.calls) 0 tree.made (subst (IsAscending call_number 0 tree.made) all h.calls);
        call_dates =
            dated_filter date_of_call is_live_call (map (left_call who) tree.calls) 0 n
            (subst (λ rs. AreDated 0 n (map date_of_call rs)) all h.call_dates);
        notices = h.notices;
        notice_dates = h.notice_dates;
        kept = h.kept;
        common = h.common;
        spare_lists = h.spare_lists;
        private = h.private;
      }
    where
      all : map_first (left_call who) i tree.calls ≡ map (left_call who) tree.calls
      all = map_first-all (left_call who) i tree.calls l

-- doors that are invalid serve what they served

module _ {Y : Type 0} (read : Option Door → Y) where
  read_ended :
      ((d : Door) → read (Some (record d { owner_ended = true })) ≡ read (Some d)) → (doors : List Door) (p k : ℕ) →
      read (at_number (end_owner doors p) k) ≡ read (at_number doors k)
  read_ended same doors p k = ap read (at_number-map (with_owner_ended p) doors k) ∙ go (at_number doors k)
    where
      kept : (d : Door) (b : Bool) → read (Some (if b then record d { owner_ended = true } else d)) ≡ read (Some d)
      kept d true = same d
      kept d false = refl

      go : (o : Option Door) → read (option_map (with_owner_ended p) o) ≡ read o
      go None = refl
      go (Some d) = kept d (d.owner.0 == p)

  read_revoked :
      ((d : Door) → read (Some (revoked_door d)) ≡ read (Some d)) → (doors : List Door) (d k : ℕ) →
      read (at_number (revoke_door doors d) k) ≡ read (at_number doors k)
  read_revoked same doors d k = ap read (at_number-change_door doors d k revoked_door) ∙ go (k == d) refl
    where
      kept : (o : Option Door) → read (option_map revoked_door o) ≡ read o
      kept None = refl
      kept (Some x) = same x

      go : (b : Bool) → (k == d) ≡ b → read (if b then option_map revoked_door (at_number doors d) else at_number doors k) ≡ read (at_number doors k)
      go true e = kept (at_number doors d) ∙ ap (λ j. read (at_number doors j)) (sym (same_number k d e))
      go false e = refl

ended_serves : (doors : List Door) (p k : ℕ) → ServesAlike (end_owner doors p) doors k
ended_serves doors p k =
    record { same_pool = read_ended pool_in (λ d. refl) doors p k; same_many = read_ended has_many (λ d. refl) doors p k }

revoked_serves : (doors : List Door) (d k : ℕ) → ServesAlike (revoke_door doors d) doors k
revoked_serves doors d k =
    record { same_pool = read_revoked pool_in (λ x. refl) doors d k; same_many = read_revoked has_many (λ x. refl) doors d k }

-- so they keep the same notices

processes-end_process : (table : ProcessTable) (p : ℕ) → length (end_process table p).processes ≡ length table.processes
processes-end_process table p = go (at_number table.processes p)
  where
    go : (o : Option Process) → length (with_ended table p o).processes ≡ length table.processes
    go None = refl
    go (Some x) = length-with_at_number table.processes p (ended_process x)

threads-end_process : (table : ProcessTable) (p : ℕ) → (end_process table p).threads ≡ table.threads
threads-end_process table p = go (at_number table.processes p)
  where
    go : (o : Option Process) → (with_ended table p o).threads ≡ table.threads
    go None = refl
    go (Some x) = refl

module _ {n : ℕ} {table : ProcessTable} {doors : List Door} {tree : CallTree} {list : NoticeList} {v : PoolsValue} (h : Agrees n table doors tree list v) where
  -- other records of processes and doors, of as many, with the same threads and with doors that serve alike
  with_others :
      (after : ProcessTable) (others : List Door) → after.threads ≡ table.threads → length after.processes ≡ length table.processes →
      length others ≡ length doors → ((k : ℕ) → ServesAlike others doors k) → Agrees n after others tree list v
  with_others after others threads processes lengths same =
      subst (λ (t : ProcessTable). Agrees n t others tree list v) (ap (λ ts. record after { threads = ts }) (sym threads))
      (record {
        stacks = λ q. let s = h.stacks q in record {
          parked = λ i x e. let k = s.parked i x e in record { parked = k.parked; same_pool = k.same_pool; since = k.since };
          all = s.all;
          in_order = s.in_order;
        };
        queues = λ q. queue_doors h others (λ i r e k. (same r.door).same_pool) (λ i x e. same x.door) q;
        spares = λ p. h.spares p ∙ spares p (length table.threads);
        calls = h.calls;
        call_dates = h.call_dates;
        notices = h.notices;
        notice_dates = h.notice_dates;
        kept = kept_doors doors others list.notices (λ i x e. (same x.door).same_many) h.kept;
        common = h.common ∙ sym processes;
        spare_lists = h.spare_lists ∙ sym processes;
        private = h.private ∙ sym lengths;
      })
    where
      placed : ProcessTable
      placed = record after { threads = table.threads }

      spares : (p k : ℕ) → spares_among table p k ≡ spares_among placed p k
      spares p zero = refl
      spares p (suc k) = ap (λ us. us ++ spare_at table p (suc k)) (spares p k)

  -- a process ends that has no thread left
  pub agrees_end : (p : ℕ) → Agrees n (end_process table p) (end_owner doors p) tree list v
  agrees_end p =
      with_others (end_process table p) (end_owner doors p) (threads-end_process table p) (processes-end_process table p)
      (length-map doors (with_owner_ended p)) (ended_serves doors p)

  -- a door is revoked
  pub agrees_revoke : (d : ℕ) → Agrees n table (revoke_door doors d) tree list v
  agrees_revoke d =
      with_others table (revoke_door doors d) refl refl
      (same_length nothing (revoke_door doors d) doors (map-change_door nothing doors d revoked_door (λ y. refl))) (revoked_serves doors d)
    where
      nothing : Door → ℕ
      nothing y = 0
