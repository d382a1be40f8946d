-- A kernel may forget the calls that were answered or whose callers ended, and the notices that are past of doors that may have more
-- of them: what a step gives is the same.
use Rattle.std.proofs.Common.{◌≡◌, ℕ, zero, suc, Bool, true, false, if◌then◌else◌, List, [], ◌∷◌, Option, None, Some, is_some, ◌++◌, flat_map, length, map, filter, unwrap_or, not, nat_lt, ◌==◌, ◌&&◌, ◌||◌, refl, sym, subst, true≢false, ap, ap₂, ◌∙◌}
use Rattle.std.specs.Option.{option_map_or}
use Rattle.spec_records.proofs.KeptLists.{count_by-kept, filter-kept, find-kept}
use Rattle.spec_kernel.specs.Types.{Answer, Call, Door, Errno, Fd, Item, Name, Notice, Obj, Parked, Pass, PathId, Pool, Request, Stepped, Thread, ThreadState, Waiting}
use Rattle.dk_base.specs.ByNumber.{at_number}
use Rattle.dk_base.specs.declared.answer.Answer.TheVariants as answer
use Rattle.dk_base.specs.declared.error.Errno.TheVariants.{EBADF, EINTR}
use Rattle.dk_base.specs.declared.object.Item.TheVariants as item
use Rattle.dk_base.specs.declared.object.Obj.TheVariants as obj
use Rattle.dk_base.specs.declared.request.Request.TheVariants as request
use Rattle.spec_records.specs.declared.record.ThreadState.TheVariants as is
use Rattle.spec_records.specs.Words.{CallTree, Leaving, NoticeList, ProcessTable, begin_process, collect_call, end_process, first_refusal, forking, give_call, give_notice, has_many, has_notice, has_unref_multi, info_in, interruption, is_client_call_of, is_given_as, is_given_notice_as, is_kept_notice, is_last, is_live_call, is_object, is_queued_call, is_queued_in, is_ready_for, is_served_by, is_to_collect_as, is_valid_door, is_waiting_notice, kept_notices, left_calls, left_notices, left_thread, left_thread_of, left_threads, live_calls, objects_of, objects_passed, pid, process_end, read_tests, refused_where, revocation, set_thread_state, takes_notices, thread_end, waiting_call, waiting_notice, with_notices, write_tests}
use Rattle.spec_kernel.specs.Step.{step}
use Rattle.spec_records.specs.Words.{all_fired, fire_all, post_fired, ready_object}
use Rattle.spec_kernel.specs.Words.{ActResult, IsStep, StandsFor, State, Step, accept, accept_call, accept_notice, act, associations_in, await, await_name, begin_call, begin_notice, bound_of, call, caller_in, caller_of, calls_waiting, can_go_on, client_call, client_process, collect, collect_answer_in, create, credentials, door_at, door_named, door_of, effect, end_getting, end_lost, end_timers, enter, exit, fail_begin, fail_each, fail_one, fail_return, fail_returns, falls_to_one, find_call, find_notice, fire, forget, fork, get_from, give, give_and_start, give_each, give_one, give_to, go_on, has_invalid_door, has_lost_door, has_port_references, has_room, held_in, holdings, information_of, interrupt, is_due, is_live_process, is_reading_end, is_runnable, is_writing_end, kill, leave, leave_process, leave_thread, make_each, make_notices, make_one, may_have_notice, name_of, named_object, needs_spare, new_call, no_act, now, object_at, objects_collected_in, pick, pipe_at, pool_of, port, port_at, process_of, reference_count, references_of, refs, refusal_of, retrieve, return, return_parked, return_unbound, revoke, root, served_by, set_parameter, settle, settle_pools, start_each, start_one, start_spares, state_of, step_after, table_of, tables_after_collect, tell, tell_queued, tests_of, unless_refused, wait_for, waiting_items, walk, with_channels, with_event_counted, with_state, woken_among, woken_threads}
use Rattle.spec_kernel.proofs.CallLists.{HaveSameLive, IsOfLiveCalls, client_is_live, collect_call-live, enter_call-live, fail_call-live, give_call-live, given_as_is_live, left_calls-live, live_calls-live, objects-live, open_call-live, queued_call_is_live, queued_in_is_live, ready_as_is_live, return_call-live, served_is_live}
use Rattle.spec_records.proofs.Lists.{Extends, map-same}
use Rattle.spec_kernel.proofs.NoticeLists.{HaveSameKept, IsOfPresentNotices, KeepsMany, end_notice-kept, enter_notice-kept, give_notice-kept, given_notice_is_present, has_notice-kept, keeps_many_same, kept_notices-kept, kept_notices-later, left_notices-kept, make_notice-kept, present_is_kept, waiting_is_present}
use Rattle.spec_kernel.proofs.Moves.{act_result}
use Rattle.spec_kernel.proofs.Settling.{with_notice_of}
use Rattle.spec_kernel.proofs.Steps.{DoorIdentity, IsSameDoor, create-keeps, door-extends, door_identity, leave_process-keeps, revoke-keeps, set_param-keeps}

-- The readers of calls. What reads none is the same by its form.

pub find_call-forget : (m : State) (test : Call → Bool) → IsOfLiveCalls test → find_call (forget m) test ≡ find_call m test
find_call-forget m test only_live = find-kept is_live_call test only_live m.call_tree.calls

pub client_call-forget : (m : State) (t : ℕ) → client_call (forget m) t ≡ client_call m t
client_call-forget m t = find_call-forget m (is_client_call_of t) (client_is_live t)

pub served_by-forget : (m : State) (t : ℕ) → served_by (forget m) t ≡ served_by m t
served_by-forget m t = find_call-forget m (is_served_by t) (served_is_live t)

pub calls_waiting-forget : (m : State) (pool : Pool) → calls_waiting (forget m) pool ≡ calls_waiting m pool
calls_waiting-forget m pool = count_by-kept is_live_call (is_queued_in m.doors pool) (queued_in_is_live m.doors pool) m.call_tree.calls

pub find_notice-forget : (m : State) (test : Notice → Bool) → IsOfPresentNotices test → find_notice (forget m) test ≡ find_notice m test
find_notice-forget m test only = find-kept (is_kept_notice m.doors) test (present_is_kept m.doors test only) m.notice_list.notices

pub waiting_items-forget : (m : State) → waiting_items (forget m) ≡ waiting_items m
waiting_items-forget m =
    ap₂
    (λ xs ns. with_notices (map waiting_call xs) (map waiting_notice ns))
    (filter-kept is_live_call is_queued_call queued_call_is_live m.call_tree.calls)
    (filter-kept (is_kept_notice m.doors) is_waiting_notice (present_is_kept m.doors is_waiting_notice waiting_is_present) m.notice_list.notices)

-- a call that is forgotten held no object

holdings-forget : (m : State) → holdings (forget m) ≡ holdings m
holdings-forget m = ap (λ os. flat_map objects_of m.tables ++ map named_object m.names ++ os) (objects-live m.call_tree.calls)

pub refs-forget : (m : State) (o : Obj) → refs (forget m) o ≡ refs m o
refs-forget m o = ap (filter _) (holdings-forget m)

pub references_of-forget : (m : State) (o : Obj) → references_of (forget m) o ≡ references_of m o
references_of-forget m o = ap length (refs-forget m o)

has_port_references-forget : (m : State) (q : ℕ) → has_port_references (forget m) q ≡ has_port_references m q
has_port_references-forget m q = ap (λ n. not (n == 0)) (references_of-forget m (obj.Port q))

client_process-forget : (m : State) (o : Option Call) → client_process (forget m) o ≡ client_process m o
client_process-forget m None = refl
client_process-forget m (Some r) = refl

-- turns

can_go_on-forget : (m : State) (s : ThreadState) → can_go_on (forget m) s ≡ can_go_on m s
can_go_on-forget m (is.Calling c) = ap is_some (find_call-forget m (is_to_collect_as c) (ready_as_is_live c))
can_go_on-forget m (is.Getting q max nget one interrupted) =
    ap (λ b. interrupted || (not b || is_ready_for nget (port m q))) (has_port_references-forget m q)
can_go_on-forget m _ = refl

pub is_runnable-forget : (m : State) (t : ℕ) → is_runnable (forget m) t ≡ is_runnable m t
is_runnable-forget m t = can_go_on-forget m (state_of m t)

woken_among-forget : (m n : State) (k : ℕ) → woken_among (forget m) (forget n) k ≡ woken_among m n k
woken_among-forget m n zero = refl
woken_among-forget m n (suc k) = rw (woken_among-forget m n k, is_runnable-forget m (suc k), is_runnable-forget n (suc k))

woken_among-after : (m n : State) (k : ℕ) → woken_among m (forget n) k ≡ woken_among m n k
woken_among-after m n zero = refl
woken_among-after m n (suc k) = rw (woken_among-after m n k, is_runnable-forget n (suc k))

woken_threads-after : (m n : State) → woken_threads m (forget n) ≡ woken_threads m n
woken_threads-after m n = woken_among-after m n (length n.process_table.threads)

pub woken_threads-forget : (m n : State) → woken_threads (forget m) (forget n) ≡ woken_threads m n
woken_threads-forget m n = woken_among-forget m n (length n.process_table.threads)

-- walks

walk-forget : (n : ℕ) (m : State) (t : ℕ) → walk n (forget m) t ≡ walk n m t
walk-forget zero m t = refl
walk-forget (suc n) m t =
    ap (λ o. option_map_or (walk n (forget m)) (caller_in o) t) (served_by-forget m t) ∙ go (λ u. walk-forget n m u) (caller_of m t)
  where
    go :
        ((u : ℕ) → walk n (forget m) u ≡ walk n m u) → (o : Option ℕ) →
        option_map_or (walk n (forget m)) o t ≡ option_map_or (walk n m) o t
    go h None = refl
    go h (Some u) = h u

pub root-forget : (m : State) (t : ℕ) → root (forget m) t ≡ root m t
root-forget m t = walk-forget m.call_tree.made m t

-- states that are the same but for what may be forgotten

abbrev pub AreAlike : State → State → Type 0
AreAlike m n = forget m ≡ forget n

alike_lists :
    (n : State) (tree : CallTree) (list : NoticeList) → HaveSameLive tree n.call_tree → HaveSameKept n.doors list n.notice_list →
    AreAlike (record n { call_tree = tree; notice_list = list }) n
alike_lists n tree list e f =
    ap₂ {A = CallTree} {B = NoticeList} {C = State} (λ calls notices. record n { call_tree = calls; notice_list = notices }) e f

pub forget-forget : (m : State) → AreAlike (forget m) m
forget-forget m =
    alike_lists m (live_calls m.call_tree) (kept_notices m.doors m.notice_list) (live_calls-live m.call_tree)
    (kept_notices-kept m.doors m.notice_list)

-- acts

pub record SameAct (a b : ActResult) : Type 0 where
  pub state : AreAlike a.state b.state
  pub answer : a.answer ≡ b.answer

-- an act that differs from another in its calls, of which the same are live, and in its notices, of which the same are kept
same_act :
    (b : ActResult) {tree : CallTree} {list : NoticeList} {a : Answer} → HaveSameLive tree b.state.call_tree →
    HaveSameKept b.state.doors list b.state.notice_list → a ≡ b.answer →
    SameAct (record { state = record b.state { call_tree = tree; notice_list = list }; answer = a }) b
same_act b {tree} {list} e g f = record { state = alike_lists b.state tree list e g; answer = f }

-- an act that touches neither calls nor notices
kept_act : (b : ActResult) → SameAct (record { state = forget b.state; answer = b.answer }) b
kept_act b = record { state = forget-forget b.state; answer = refl }

-- nor one that changes doors, all of which can have as many notices as before
kept_doors_act :
    (b : ActResult) (doors : List Door) → KeepsMany doors b.state.doors →
    SameAct
    (record {
      state = record b.state { call_tree = live_calls b.state.call_tree; notice_list = kept_notices doors b.state.notice_list };
      answer = b.answer;
    })
    b
kept_doors_act b doors h =
    record {
      state =
          alike_lists b.state (live_calls b.state.call_tree) (kept_notices doors b.state.notice_list) (live_calls-live b.state.call_tree)
          (kept_notices-later doors b.state.notice_list b.state.doors h);
      answer = refl;
    }

-- what a door was made as says how many notices it can have
pub keeps_many-extends :
    (doors later : List Door) → Extends (map door_identity doors) (map door_identity later) → KeepsMany doors later
keeps_many-extends doors later h d e = go (at_number doors d) refl e
  where
    go : (o : Option Door) → at_number doors d ≡ o → has_many o ≡ true → has_many (at_number later d) ≡ true
    go None f e = absurd (true≢false (sym e))
    go (Some x) f e =
        let y : IsSameDoor x (at_number later d) = door-extends doors later d x h f in
        ap has_many y.there ∙ ap (λ (i : DoorIdentity). has_unref_multi i.attrs) y.identity ∙ e

-- what is kept of the notices of a state
same_notices : (m : State) → HaveSameKept m.doors (forget m).notice_list m.notice_list
same_notices m = kept_notices-kept m.doors m.notice_list

await-forget : (m : State) (t : ℕ) (path : PathId) → SameAct (await (forget m) t path) (await m t path)
await-forget m t path = go (name_of m path)
  where
    go : (o : Option Name) → SameAct (await_name (forget m) t path o) (await_name m t path o)
    go (Some n) = kept_act (await_name m t path (Some n))
    go None = kept_act (await_name m t path None)

-- what threads, calls and notices become depends on live calls alone

pub left_thread_of-forget :
    (m : State) (who : Leaving) (n : ℕ) (x : Thread) →
    left_thread_of who n (forget m).call_tree.calls x ≡ left_thread_of who n m.call_tree.calls x
left_thread_of-forget m who n x =
    ap (λ served. left_thread who n served x) (find-kept is_live_call (is_served_by x.number) (served_is_live x.number) m.call_tree.calls)

pub left_threads-forget :
    (m : State) (who : Leaving) (n : ℕ) (table : ProcessTable) →
    left_threads who n (forget m).call_tree.calls table ≡ left_threads who n m.call_tree.calls table
left_threads-forget m who n table =
    ap (λ xs. record table { threads = xs })
    (map-same
    (left_thread_of who n (forget m).call_tree.calls)
    (left_thread_of who n m.call_tree.calls)
    (left_thread_of-forget m who n)
    table.threads)

-- with the doors as they are after that
leaving-forget :
    (m : State) (who : Leaving) (later : State) → KeepsMany m.doors later.doors → (tables : ProcessTable → ProcessTable) →
    AreAlike
    (record later {
      process_table = tables (left_threads who (now m) (forget m).call_tree.calls m.process_table);
      call_tree = left_calls who (live_calls m.call_tree);
      notice_list = left_notices who (kept_notices m.doors m.notice_list);
    })
    (record later {
      process_table = tables (left_threads who (now m) m.call_tree.calls m.process_table);
      call_tree = left_calls who m.call_tree;
      notice_list = left_notices who m.notice_list;
    })
leaving-forget m who later h tables =
    ap₂ {A = ProcessTable} {B = CallTree} {C = State}
    (λ table calls.
    record later {
      process_table = tables table;
      call_tree = calls;
      notice_list = kept_notices later.doors (left_notices who (kept_notices m.doors m.notice_list));
    })
    (left_threads-forget m who (now m) m.process_table)
    (left_calls-live m.call_tree who)
    ∙ ap {A = NoticeList} {B = State}
    (λ notices.
    record later {
      process_table = tables (left_threads who (now m) m.call_tree.calls m.process_table);
      call_tree = live_calls (left_calls who m.call_tree);
      notice_list = notices;
    })
    (left_notices-kept m.doors m.notice_list who later.doors h)

pub leave-forget : (m : State) (who : Leaving) → AreAlike (leave (forget m) who) (leave m who)
leave-forget m who = leaving-forget m who m (keeps_many_same m.doors) (λ table. table)

pub leave_process-forget : (m : State) (p : ℕ) → AreAlike (leave_process (forget m) p) (leave_process m p)
leave_process-forget m p =
    leaving-forget m (process_end m.process_table m.doors p) (leave_process m p)
    (keeps_many-extends m.doors (leave_process m p).doors (leave_process-keeps m p).doors)
    (λ table. end_process table p)

revoke-forget : (m : State) (p : ℕ) (fd : Fd) → SameAct (revoke (forget m) p fd) (revoke m p fd)
revoke-forget m p fd =
    record {
      state =
          leaving-forget m (revocation (door_at m p fd)) (revoke m p fd).state
          (keeps_many-extends m.doors (revoke m p fd).state.doors (revoke-keeps m p fd).doors)
          (λ table. table);
      answer = refl;
    }

interrupt-forget : (m : State) (t : ℕ) → SameAct (interrupt (forget m) t) (interrupt m t)
interrupt-forget m t = record { state = leave-forget m (interruption t); answer = refl }

kill-forget : (m : State) (p : ℕ) → SameAct (kill (forget m) p) (kill m p)
kill-forget m p = record { state = go (is_live_process m p); answer = refl }
  where
    go : (b : Bool) → AreAlike (if b then leave_process (forget m) p else forget m) (if b then leave_process m p else m)
    go true = leave_process-forget m p
    go false = forget-forget m

exit-forget : (m : State) (t p : ℕ) → SameAct (exit (forget m) t p) (exit m t p)
exit-forget m t p = record { state = go (is_last m.process_table t p); answer = refl }
  where
    go :
        (b : Bool) →
        AreAlike
        (if b then leave_process (forget m) p else leave_thread (forget m) t)
        (if b then leave_process m p else leave_thread m t)
    go true = leave_process-forget m p
    go false = leave-forget m (thread_end t)

-- no call is read of the child that begins
fork-forget : (m : State) (t p child : ℕ) → SameAct (fork (forget m) t p child) (fork m t p child)
fork-forget m t p child =
    record {
      state =
          leaving-forget m (forking m.process_table t) (fork m t p child).state (keeps_many_same m.doors)
          (λ table. begin_process table child);
      answer = refl;
    }

return-forget :
    (m : State) (t p : ℕ) (bytes : List ℕ) (pass : List Pass) → SameAct (return (forget m) t p bytes pass) (return m t p bytes pass)
return-forget m t p bytes pass = go (has_invalid_door m t)
  where
    go :
        (b : Bool) →
        SameAct
        (if b then return_unbound (forget m) t p bytes pass else return_parked (forget m) t p bytes pass)
        (if b then return_unbound m t p bytes pass else return_parked m t p bytes pass)
    go true =
        same_act (return_unbound m t p bytes pass) (return_call-live m.call_tree t bytes (objects_passed (table_of m p) pass))
        (end_notice-kept m.doors m.notice_list t) refl
    go false =
        same_act (return_parked m t p bytes pass) (return_call-live m.call_tree t bytes (objects_passed (table_of m p) pass))
        (end_notice-kept m.doors m.notice_list t) refl

information_of-forget : (m : State) (p d : ℕ) → SameAct (information_of (forget m) p d) (information_of m p d)
information_of-forget m p d =
    record {
      state = forget-forget m;
      answer = ap (λ os. answer.Info (info_in p (length os) (door_of m d))) (refs-forget m (obj.Door d));
    }

credentials-forget : (m : State) (t : ℕ) → SameAct (credentials (forget m) t) (credentials m t)
credentials-forget m t =
    record {
      state = forget-forget m;
      answer =
          ap (λ o. answer.Client (pid (client_process (forget m) o))) (client_call-forget m t)
          ∙ ap (λ p. answer.Client (pid p)) (client_process-forget m (client_call m t));
    }

accept-forget : (m : State) (t p : ℕ) (i : Item) → SameAct (accept (forget m) t p i) (accept m t p i)
accept-forget m t p (item.Call c) =
    subst
    (λ o. SameAct (accept_call (forget m) t p c o) (accept m t p (item.Call c)))
    (sym (find_call-forget m (is_given_as c t) (given_as_is_live c t)))
    (go (find_call m (is_given_as c t)))
  where
    begins :
        (r : Call) (b : Bool) →
        SameAct
        (if b then begin_call (forget m) t p c r else fail_begin (forget m) t c r)
        (if b then begin_call m t p c r else fail_begin m t c r)
    begins r true = same_act (begin_call m t p c r) (enter_call-live m.call_tree c t) (same_notices m) refl
    begins r false = same_act (fail_begin m t c r) (fail_call-live m.call_tree c t) (same_notices m) refl

    go : (o : Option Call) → SameAct (accept_call (forget m) t p c o) (accept_call m t p c o)
    go None = kept_act (no_act m)
    go (Some r) = begins r (has_room m p r.objects)
accept-forget m t p (item.Notice c) =
    subst
    (λ o. SameAct (accept_notice (forget m) t c o) (accept m t p (item.Notice c)))
    (sym (find_notice-forget m (is_given_notice_as c t) (given_notice_is_present c t)))
    (go (find_notice m (is_given_notice_as c t)))
  where
    go : (o : Option Notice) → SameAct (accept_notice (forget m) t c o) (accept_notice m t c o)
    go None = kept_act (no_act m)
    go (Some n) =
        same_act (begin_notice m t c n) (live_calls-live m.call_tree) (enter_notice-kept m.doors m.notice_list c t) refl

-- a collect, with the call that is collected
abbrev collected : State → ℕ → ℕ → ℕ → Option Call → ActResult
collected m t p c o =
    record {
      state =
          record m {
            process_table = set_thread_state m.process_table t is.Running;
            tables = tables_after_collect m p (objects_collected_in o);
            call_tree = collect_call m.call_tree c (now m);
          };
      answer = collect_answer_in m p o;
    }

collect-forget : (m : State) (t p c : ℕ) → SameAct (collect (forget m) t p c) (collect m t p c)
collect-forget m t p c =
    subst
    (λ o. SameAct (collected (forget m) t p c o) (collect m t p c))
    (sym (find_call-forget m (is_to_collect_as c) (ready_as_is_live c)))
    (same_act (collect m t p c) (collect_call-live m.call_tree c (now m)) (same_notices m) refl)

-- gets at ports

get_from-forget :
    (m : State) (t q max nget : ℕ) (one : Bool) → SameAct (get_from (forget m) t q max nget one) (get_from m t q max nget one)
get_from-forget m t q max nget one = go (is_ready_for nget (port m q))
  where
    go :
        (b : Bool) →
        SameAct
        (if b then retrieve (forget m) q max one else wait_for (forget m) t q max nget one)
        (if b then retrieve m q max one else wait_for m t q max nget one)
    go true = kept_act (retrieve m q max one)
    go false = kept_act (wait_for m t q max nget one)

end_getting-forget :
    (m : State) (t q max : ℕ) (one interrupted : Bool) →
    SameAct (end_getting (forget m) t q max one interrupted) (end_getting m t q max one interrupted)
end_getting-forget m t q max one true = kept_act (act_result (with_state m t is.Running) (answer.Failure EINTR))
end_getting-forget m t q max one false =
    subst
    (λ b. SameAct (ended b (forget m)) (end_getting m t q max one false))
    (sym (has_port_references-forget m q))
    (go (has_port_references m q))
  where
    ended : Bool → State → ActResult
    ended b n =
        if b then retrieve (with_state n t is.Running) q max one else act_result (with_state n t is.Running) (answer.Failure EBADF)

    go : (b : Bool) → SameAct (ended b (forget m)) (ended b m)
    go true = kept_act (retrieve (with_state m t is.Running) q max one)
    go false = kept_act (act_result (with_state m t is.Running) (answer.Failure EBADF))

-- entries: one that reads or changes calls has a line in these, the others are the same by their form

pub tests_of-forget : (m : State) (t p : ℕ) (r : Request) → tests_of (forget m) t p r ≡ tests_of m t p r
tests_of-forget m t p (request.Call fd bytes pass rsize) =
    rw (calls_waiting-forget m (pool_of m (door_named (object_at m p fd))))
tests_of-forget m t p (request.Return bytes pass) = rw (client_call-forget m t)
tests_of-forget m t p request.Cred = rw (client_call-forget m t)
tests_of-forget m t p (request.Write fd bytes) =
    ap
    (λ n. refused_where (not (is_writing_end (object_at m p fd))) EBADF ∷ write_tests (held_in m (pipe_at m p fd)) bytes n)
    (references_of-forget m (obj.PipeIn (pipe_at m p fd)))
tests_of-forget m t p (request.Read fd max) =
    ap
    (λ n. refused_where (not (is_reading_end (object_at m p fd))) EBADF ∷ read_tests (held_in m (pipe_at m p fd)) n)
    (references_of-forget m (obj.PipeOut (pipe_at m p fd)))
tests_of-forget m t p _ = refl

pub refusal_of-forget : (m : State) (t p : ℕ) (r : Request) → refusal_of (forget m) t p r ≡ refusal_of m t p r
refusal_of-forget m t p r = ap first_refusal (tests_of-forget m t p r)

pub effect-forget : (m : State) (t p : ℕ) (r : Request) → SameAct (effect (forget m) t p r) (effect m t p r)
effect-forget m t p (request.Create entry cookie attrs) =
    kept_doors_act (create m p entry cookie attrs) m.doors
    (keeps_many-extends m.doors (create m p entry cookie attrs).state.doors (create-keeps m p entry cookie attrs).doors)
effect-forget m t p (request.SetParam fd x value) =
    kept_doors_act (set_parameter m p fd x value) m.doors
    (keeps_many-extends m.doors (set_parameter m p fd x value).state.doors (set_param-keeps m (door_at m p fd) x value).doors)
effect-forget m t p (request.Call fd bytes pass rsize) =
    same_act
    (call m t p fd bytes pass rsize)
    (open_call-live m.call_tree (new_call m t (door_named (object_at m p fd)) bytes (objects_passed (table_of m p) pass) rsize))
    (same_notices m)
    refl
effect-forget m t p (request.Return bytes pass) = return-forget m t p bytes pass
effect-forget m t p (request.Revoke fd) = revoke-forget m p fd
effect-forget m t p (request.Info fd) = information_of-forget m p (door_at m p fd)
effect-forget m t p request.InfoQuery = information_of-forget m p (unwrap_or (bound_of m t) 0)
effect-forget m t p request.Cred = credentials-forget m t
effect-forget m t p (request.Await path) = await-forget m t path
effect-forget m t p (request.Interrupt thread) = interrupt-forget m thread.0
effect-forget m t p (request.Kill process) = kill-forget m process.0
effect-forget m t p request.Exit = exit-forget m t p
effect-forget m t p (request.Fork child) = fork-forget m t p child.0
effect-forget m t p (request.Get fd wait) = get_from-forget m t (port_at m p fd) 1 1 true
effect-forget m t p (request.GetN fd max nget wait) = go (max == 0)
  where
    go :
        (b : Bool) →
        SameAct
        (if b then tell_queued (forget m) (port_at m p fd) else get_from (forget m) t (port_at m p fd) max nget false)
        (if b then tell_queued m (port_at m p fd) else get_from m t (port_at m p fd) max nget false)
    go true = kept_act (tell_queued m (port_at m p fd))
    go false = get_from-forget m t (port_at m p fd) max nget false
effect-forget m t p r = kept_act (effect m t p r)

unless_refused-forget :
    (m : State) (o : Option Errno) (a b : ActResult) → SameAct a b → SameAct (unless_refused (forget m) o a) (unless_refused m o b)
unless_refused-forget m (Some e) a b h = kept_act (unless_refused m (Some e) b)
unless_refused-forget m None a b h = h

pub enter-forget : (m : State) (t p : ℕ) (r : Request) → SameAct (enter (forget m) t p r) (enter m t p r)
enter-forget m t p r =
    rw (refusal_of-forget m t p r)
    (unless_refused-forget m (refusal_of m t p r) (effect (forget m) t p r) (effect m t p r) (effect-forget m t p r))

-- ends of waits, in the same way

pub go_on-forget : (m : State) (t p : ℕ) (s : ThreadState) → SameAct (go_on (forget m) t p s) (go_on m t p s)
go_on-forget m t p (is.Given i) = accept-forget m t p i
go_on-forget m t p (is.Calling c) = collect-forget m t p c
go_on-forget m t p (is.Getting port max nget one interrupted) = end_getting-forget m t port max one interrupted
go_on-forget m t p s = kept_act (go_on m t p s)

pub act-forget : (m : State) (t : ℕ) (r : Option Request) → SameAct (act (forget m) t r) (act m t r)
act-forget m t (Some r) = enter-forget m t (process_of m t) r
act-forget m t None = go_on-forget m t (process_of m t) (state_of m t)

-- settling: the same on states that are alike

abbrev Absorbs : (State → State) → Type 0
Absorbs f = (m : State) → AreAlike (f (forget m)) (f m)

respects : (f : State → State) → Absorbs f → (m n : State) → AreAlike m n → AreAlike (f m) (f n)
respects f h m n e = sym (h m) ∙ ap (λ s. forget (f s)) e ∙ h n

give_one-forget : (i : Item) (u : ℕ) → Absorbs (λ m. give_one m i u)
give_one-forget (item.Call c) u m =
    alike_lists (give_one m (item.Call c) u) (give_call (live_calls m.call_tree) c u) (forget m).notice_list
    (give_call-live m.call_tree c u)
    (same_notices m)
give_one-forget (item.Notice c) u m =
    alike_lists (give_one m (item.Notice c) u) (live_calls m.call_tree) (give_notice (forget m).notice_list c u)
    (live_calls-live m.call_tree)
    (give_notice-kept m.doors m.notice_list c u)

give_to-forget : (w : Waiting) (o : Option Parked) → Absorbs (λ m. give_to m w o)
give_to-forget w None m = forget-forget m
give_to-forget w (Some x) m = give_one-forget w.item x.thread.0 m

give_each-forget : (ws : List Waiting) → Absorbs (λ m. give_each m ws)
give_each-forget [] m = forget-forget m
give_each-forget (w ∷ ws) m =
    respects
    (λ n. give_each n ws)
    (give_each-forget ws)
    (give_to (forget m) w (pick m (pool_of m w.door)))
    (give_to m w (pick m (pool_of m w.door)))
    (give_to-forget w (pick m (pool_of m w.door)) m)

give-forget : Absorbs give
give-forget m = ap (λ ws. forget (give_each (forget m) ws)) (waiting_items-forget m) ∙ give_each-forget (waiting_items m) m

-- the same doors are due

pub reference_count-forget : (m : State) (d : ℕ) → reference_count (forget m) d ≡ reference_count m d
reference_count-forget m d = references_of-forget m (obj.Door d)

pub falls_to_one-forget : (before m : State) (d : ℕ) → falls_to_one (forget before) (forget m) d ≡ falls_to_one before m d
falls_to_one-forget before m d =
    ap₂ (λ b a. nat_lt 1 b && (a == 1)) (reference_count-forget before d) (reference_count-forget m d)

pub may_have_notice-forget :
    (m : State) (d : ℕ) (x : Door) → door_of m d ≡ Some x → may_have_notice (forget m) d x ≡ may_have_notice m d x
may_have_notice-forget m d x e =
    ap (λ b. takes_notices x.attrs && is_valid_door x && b) (go (has_unref_multi x.attrs) refl)
  where
    go :
        (b : Bool) → has_unref_multi x.attrs ≡ b →
        (b || not (has_notice (forget m).notice_list d)) ≡ (b || not (has_notice m.notice_list d))
    go true f = refl
    go false f = ap not (has_notice-kept m.doors m.notice_list d (ap has_many e ∙ f))

pub is_due-forget :
    (before m : State) (d : ℕ) → is_due (forget before) (forget m) d (door_of m d) ≡ is_due before m d (door_of m d)
is_due-forget before m d = go (door_of m d) refl
  where
    go : (o : Option Door) → door_of m d ≡ o → is_due (forget before) (forget m) d o ≡ is_due before m d o
    go None e = refl
    go (Some x) e = ap₂ (λ b c. b && c) (may_have_notice-forget m d x e) (falls_to_one-forget before m d)

-- and what is made is kept

pub with_notice_of-forget : (m : State) (d : ℕ) → with_notice_of (forget m) d ≡ forget (with_notice_of m d)
with_notice_of-forget m d =
    ap {A = NoticeList} {B = State} (λ list. record (forget m) { notice_list = list })
    (sym (make_notice-kept m.doors m.notice_list (now m) d))

pub make_one-forget : (before m : State) (d : ℕ) → make_one (forget before) (forget m) d ≡ forget (make_one before m d)
make_one-forget before m d =
    ap (λ b. if b then with_notice_of (forget m) d else forget m) (is_due-forget before m d)
    ∙ go (is_due before m d (door_of m d))
  where
    go : (b : Bool) → (if b then with_notice_of (forget m) d else forget m) ≡ forget (if b then with_notice_of m d else m)
    go true = with_notice_of-forget m d
    go false = refl

pub make_each-forget : (before m : State) (n : ℕ) → make_each (forget before) (forget m) n ≡ forget (make_each before m n)
make_each-forget before m zero = refl
make_each-forget before m (suc n) =
    ap (λ k. make_one (forget before) k (suc n)) (make_each-forget before m n) ∙ make_one-forget before (make_each before m n) (suc n)

pub make_notices-forget : (before m : State) → make_notices (forget before) (forget m) ≡ forget (make_notices before m)
make_notices-forget before m = make_each-forget before m (length m.doors)

-- failing and starting read no calls and no notices

fail_each-forget : (m : State) (n : ℕ) → fail_each (forget m) n ≡ forget (fail_each m n)
fail_each-forget m zero = refl
fail_each-forget m (suc n) =
    ap (λ k. fail_one k (suc n)) (fail_each-forget m n) ∙ go (fail_each m n) (has_lost_door (fail_each m n) (suc n))
  where
    go :
        (k : State) (b : Bool) →
        (if b then fail_return (forget k) (suc n) else forget k) ≡ forget (if b then fail_return k (suc n) else k)
    go k true = refl
    go k false = refl

pub fail_returns-forget : (m : State) → fail_returns (forget m) ≡ forget (fail_returns m)
fail_returns-forget m = fail_each-forget m (length m.process_table.threads)

start_one-forget : (m : State) (p : ℕ) (b : Bool) → start_one (forget m) p b ≡ forget (start_one m p b)
start_one-forget m p false = refl
start_one-forget m p true = refl

start_each-forget :
    (before ungiven given : State) (n : ℕ) →
    start_each (forget before) (forget ungiven) (forget given) n ≡ forget (start_each before ungiven given n)
start_each-forget before ungiven given zero = refl
start_each-forget before ungiven given (suc n) =
    ap (λ k. start_one k (suc n) (needs_spare before ungiven given (suc n))) (start_each-forget before ungiven given n)
    ∙ start_one-forget (start_each before ungiven given n) (suc n) (needs_spare before ungiven given (suc n))

pub start_spares-forget :
    (before ungiven given : State) →
    start_spares (forget before) (forget ungiven) (forget given) ≡ forget (start_spares before ungiven given)
start_spares-forget before ungiven given = start_each-forget before ungiven given (length given.process_table.processes)

pub give_and_start-forget :
    (before a b : State) → AreAlike a b → AreAlike (give_and_start (forget before) a) (give_and_start before b)
give_and_start-forget before a b e =
    sym (start_spares-forget (forget before) a (give a))
    ∙ ap (λ k. start_spares k (forget a) (forget (give a))) (forget-forget before)
    ∙ ap₂ (start_spares (forget before)) e (respects give give-forget a b e)
    ∙ start_spares-forget before b (give b)

-- what ports are told is by the tables, the objects that are held and the channels alone

fire-forget : (m : State) → AreAlike (fire (forget m)) (fire m)
fire-forget m = forget-forget (fired (holdings (forget m))) ∙ ap (λ os. forget (fired os)) (holdings-forget m)
  where
    fired : List Obj → State
    fired os =
        with_channels m
        (record m.channels {
          ports = post_fired m.channels.ports (all_fired (ready_object m.channels.pipes (λ o. length (filter (is_object o) os))) (associations_in m));
          associations = fire_all m.channels.associations (ready_object m.channels.pipes (λ o. length (filter (is_object o) os)));
        })

tell-forget : Absorbs tell
tell-forget m = fire-forget (end_timers (end_lost m))

settle_pools-forget : (before a b : State) → AreAlike a b → AreAlike (settle_pools (forget before) a) (settle_pools before b)
settle_pools-forget before a b e =
    give_and_start-forget before (fail_returns (make_notices (forget before) a)) (fail_returns (make_notices before b))
    (sym (fail_returns-forget (make_notices (forget before) a)) ∙ ap fail_returns made ∙ fail_returns-forget (make_notices before b))
  where
    made : AreAlike (make_notices (forget before) a) (make_notices before b)
    made =
        sym (make_notices-forget (forget before) a)
        ∙ ap₂ make_notices (forget-forget before) e
        ∙ make_notices-forget before b

pub settle-forget : (before a b : State) → AreAlike a b → AreAlike (settle (forget before) a) (settle before b)
settle-forget before a b e =
    respects tell tell-forget (settle_pools (forget before) a) (settle_pools before b) (settle_pools-forget before a b e)

-- steps

pub record SameStep (s n : Step) : Type 0 where
  pub state : forget s.state ≡ forget n.state
  pub answer : s.answer ≡ n.answer
  pub woken : s.woken ≡ n.woken

step_after-forget : (m : State) (a b : ActResult) → SameAct a b → SameStep (step_after (forget m) a) (step_after m b)
step_after-forget m a b h =
    record {
      state = settled;
      answer = h.answer;
      woken =
          sym (woken_threads-after (forget m) (with_event_counted (settle (forget m) a.state)))
          ∙ ap (woken_threads (forget m)) settled
          ∙ woken_threads-forget m (with_event_counted (settle m b.state));
    }
  where
    settled : AreAlike (with_event_counted (settle (forget m) a.state)) (with_event_counted (settle m b.state))
    settled = ap with_event_counted (settle-forget m a.state b.state h.state)

pub step-forget : (m : State) (t : ℕ) (r : Option Request) → SameStep (step (forget m) t r) (step m t r)
unfolding step
step-forget m t r = step_after-forget m (act (forget m) t r) (act m t r) (act-forget m t r)

-- what is kept of a state takes the same steps, so a kernel that does them does those of the state
pub IsStep-forget :
    (m : State) (t : ℕ) (r : Option Request) (new : State) (stepped : Stepped) →
    IsStep (step (forget m) t r) new stepped → IsStep (step m t r) new stepped
IsStep-forget m t r new stepped h =
    record {
      state = h.state ∙ (step-forget m t r).state;
      answer = h.answer ∙ (step-forget m t r).answer;
      woken = h.woken ∙ (step-forget m t r).woken;
    }

pub IsStep-stands_for :
    (kept m : State) (t : ℕ) (r : Option Request) (new : State) (stepped : Stepped) → StandsFor kept m →
    IsStep (step kept t r) new stepped → IsStep (step m t r) new stepped
IsStep-stands_for kept m t r new stepped e h =
    IsStep-forget m t r new stepped (subst (λ n. IsStep (step n t r) new stepped) e h)
