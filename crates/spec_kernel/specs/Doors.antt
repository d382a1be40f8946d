-- The acts of doors: door_create(3C), door_call(3C), door_return(3C), and the ends of the waits that a door call and a
-- return begin. An act's record update names the parts of the state that it changes. `p` is the process of the thread
-- `t`.
use Rattle.std.specs.Prelude.{ℕ, ◌+◌, ◌++◌, ◌&&◌, ◌||◌, List, ◌∷◌, [], Option, Bool, false, Some, None, if◌then◌else◌, is_none, is_some, length, nat_le, nat_lt}
use Rattle.spec_kernel.specs.Types.{Answer, Attrs, Call, CallStage, Fd, Item, Notice, Obj, Pass, Request}
use Rattle.dk_base.specs.declared.error.Errno.TheVariants.{E2BIG, EAGAIN, EINVAL, EMFILE}
use Rattle.dk_base.specs.declared.object.Obj.TheVariants as obj
use Rattle.dk_base.specs.declared.object.Item.TheVariants as item
use Rattle.dk_base.specs.declared.request.Request.TheVariants as request
use Rattle.dk_base.specs.declared.answer.Answer.TheVariants as answer
use Rattle.spec_records.specs.declared.record.ThreadState.TheVariants as is
use Rattle.spec_records.specs.declared.record.CallStage.TheVariants as stage
use Rattle.dk_base.specs.declared.limits.TheConstants.{DATA_MAX, PASS_MAX, QUEUE_MAX}
use Rattle.spec_records.specs.Words.{Test, collect_call, cookie_of, end_invocation, end_notice, enter_call, enter_notice, enter_thread, entry_of, fail_call, free_rows, has_told_attributes, insert_rows, is_bad_pass, is_given_as, is_given_notice_as, is_to_collect_as, limit_tests, lowest_free, new_descriptors, no_cancel_of, objects_passed, open_call, park_thread, refused_where, release_rows, return_call, set_thread_state, tid, unbind_thread, with_door, with_table}
use Rattle.spec_kernel.specs.State.{State, calls_waiting, client_call, door_of, find_call, find_notice, has_invalid_door, now, object_at, pool_of, table_of}
use Rattle.spec_kernel.specs.Acts.{ActResult, no_act}
use Rattle.spec_kernel.specs.Descriptors.{door_named, insert_object}

-- door_create: EINVAL, EMFILE; a door of the process under the next number, at the lowest descriptor that is free

abbrev pub create_tests : State → ℕ → Attrs → List Test
create_tests m p attrs =
    refused_where (has_told_attributes attrs) EINVAL ∷ refused_where (is_none (lowest_free (table_of m p))) EMFILE ∷ []

abbrev pub create : State → ℕ → ℕ → ℕ → Attrs → ActResult
create m p entry cookie attrs =
    insert_object (record m { doors = with_door m.doors p entry cookie attrs }) p (obj.Door (length m.doors + 1))

-- descriptors that are passed: EINVAL. What they name goes with the message, in order, and those with release are closed.

abbrev pub pass_tests : State → ℕ → List Pass → List Test
pass_tests m p pass = refused_where (is_bad_pass (table_of m p) pass) EINVAL ∷ []

abbrev pub tables_after_pass : State → ℕ → List Pass → List (List (Option Obj))
tables_after_pass m p pass = with_table m.tables p (release_rows (table_of m p) pass)

-- objects that come with a message get the lowest descriptors that are free, all of them or none

abbrev pub has_room : State → ℕ → List Obj → Bool
has_room m p objects = nat_le (length objects) (free_rows (table_of m p))

abbrev pub tables_with : State → ℕ → List Obj → List (List (Option Obj))
tables_with m p objects = with_table m.tables p (insert_rows (table_of m p) objects)

-- door_call: the door and its limits, then its descriptors, then its pool; a call that waits for a server thread

-- EAGAIN for a full pool
abbrev pub pool_tests : State → ℕ → List Test
pool_tests m d = refused_where (nat_le QUEUE_MAX (calls_waiting m (pool_of m d))) EAGAIN ∷ []

abbrev pub call_tests : State → ℕ → Fd → List ℕ → List Pass → List Test
call_tests m p fd bytes pass =
    limit_tests (door_of m (door_named (object_at m p fd))) (length bytes) (length pass)
    ++ pass_tests m p pass
    ++ pool_tests m (door_named (object_at m p fd))

abbrev pub new_call : State → ℕ → ℕ → List ℕ → List Obj → ℕ → Call
new_call m t d bytes objects rsize =
    record {
      number = m.call_tree.made + 1;
      made = now m;
      caller = tid t;
      door = d;
      bytes = bytes;
      objects = objects;
      rsize = rsize;
      no_cancel = no_cancel_of (door_of m d);
      abandoned = false;
      stage = stage.Queued;
    }

abbrev pub make_call : State → ℕ → ℕ → List Pass → Call → ActResult
make_call m t p pass r =
    record {
      state =
          record m {
            process_table = set_thread_state m.process_table t (is.Calling r.number);
            tables = tables_after_pass m p pass;
            call_tree = open_call m.call_tree r;
          };
      answer = answer.WaitCall r.number;
    }

abbrev pub call : State → ℕ → ℕ → Fd → List ℕ → List Pass → ℕ → ActResult
call m t p fd bytes pass rsize =
    make_call m t p pass (new_call m t (door_named (object_at m p fd)) bytes (objects_passed (table_of m p) pass) rsize)

-- door_return: E2BIG with a client, EINVAL; the client's call is Returned with the results, the invocation ends, and the
-- thread is parked. Results without a client are dropped, and a notice that the thread has entered is over. In either case
-- descriptors with release are closed. A thread that is bound to an invalid door does all this too, but is not parked: it is
-- unbound, goes on, and is told EINVAL.

abbrev pub return_tests : State → ℕ → ℕ → List ℕ → List Pass → List Test
return_tests m t p bytes pass =
    refused_where (is_some (client_call m t) && (nat_lt DATA_MAX (length bytes) || nat_lt PASS_MAX (length pass))) E2BIG
    ∷ pass_tests m p pass

abbrev pub return_answer : State → ℕ → Answer
return_answer m t = if has_invalid_door m t then answer.Failure EINVAL else answer.Wait

abbrev pub return_parked : State → ℕ → ℕ → List ℕ → List Pass → ActResult
return_parked m t p bytes pass =
    record {
      state =
          record m {
            process_table = park_thread m.process_table t (now m);
            tables = tables_after_pass m p pass;
            call_tree = return_call m.call_tree t bytes (objects_passed (table_of m p) pass);
            notice_list = end_notice m.notice_list t;
          };
      answer = answer.Wait;
    }

abbrev pub return_unbound : State → ℕ → ℕ → List ℕ → List Pass → ActResult
return_unbound m t p bytes pass =
    record {
      state =
          record m {
            process_table = end_invocation m.process_table t;
            bindings = unbind_thread m.bindings t;
            tables = tables_after_pass m p pass;
            call_tree = return_call m.call_tree t bytes (objects_passed (table_of m p) pass);
            notice_list = end_notice m.notice_list t;
          };
      answer = answer.Failure EINVAL;
    }

abbrev pub return : State → ℕ → ℕ → List ℕ → List Pass → ActResult
return m t p bytes pass =
    if has_invalid_door m t then return_unbound m t p bytes pass else return_parked m t p bytes pass

-- the end of the wait of a thread that was given a call: the invocation begins, where there is such a call

-- with descriptors for its objects
abbrev pub begin_call : State → ℕ → ℕ → ℕ → Call → ActResult
begin_call m t p c r =
    record {
      state =
          record m {
            process_table = enter_thread m.process_table t (item.Call c);
            tables = tables_with m p r.objects;
            call_tree = enter_call m.call_tree c t;
          };
      answer = answer.Entered r.number (entry_of (door_of m r.door)) (cookie_of (door_of m r.door)) r.bytes (new_descriptors (table_of m p) r.objects);
    }

-- too few descriptors are free: the call ends EMFILE, its objects are dropped, and the thread is parked again
abbrev pub fail_begin : State → ℕ → ℕ → Call → ActResult
fail_begin m t c r =
    record {
      state = record m { process_table = park_thread m.process_table t (now m); call_tree = fail_call m.call_tree c t };
      answer = answer.EnterFailed r.number;
    }

abbrev pub accept_call : State → ℕ → ℕ → ℕ → Option Call → ActResult
accept_call m t p c None = no_act m
accept_call m t p c (Some r) = if has_room m p r.objects then begin_call m t p c r else fail_begin m t c r

-- the same of a thread that was given a notice, which brings no bytes and no descriptors
abbrev pub begin_notice : State → ℕ → ℕ → Notice → ActResult
begin_notice m t c n =
    record {
      state =
          record m {
            process_table = enter_thread m.process_table t (item.Notice c);
            notice_list = enter_notice m.notice_list c t;
          };
      answer = answer.EnteredNotice n.number (entry_of (door_of m n.door)) (cookie_of (door_of m n.door));
    }

abbrev pub accept_notice : State → ℕ → ℕ → Option Notice → ActResult
accept_notice m t c None = no_act m
accept_notice m t c (Some n) = begin_notice m t c n

abbrev pub accept : State → ℕ → ℕ → Item → ActResult
accept m t p (item.Call c) = accept_call m t p c (find_call m (is_given_as c t))
accept m t p (item.Notice c) = accept_notice m t c (find_notice m (is_given_notice_as c t))

-- the end of the wait of a caller: the results, with descriptors for their objects, or the error that its call ended with

-- too few descriptors are free: EMFILE, and the objects are dropped
abbrev pub results_answer : State → ℕ → Call → List ℕ → List Obj → Answer
results_answer m p r bytes objects =
    if has_room m p objects
    then answer.Results bytes (new_descriptors (table_of m p) objects) (nat_lt r.rsize (length bytes))
    else answer.Failure EMFILE

abbrev pub collect_answer : State → ℕ → Call → CallStage → Answer
collect_answer m p r (stage.Returned bytes objects) = results_answer m p r bytes objects
collect_answer m p r (stage.Ended e) = answer.Failure e
collect_answer m p r _ = answer.Done

abbrev pub collect_answer_in : State → ℕ → Option Call → Answer
collect_answer_in m p None = answer.Done
collect_answer_in m p (Some r) = collect_answer m p r r.stage

-- the objects that come with results
abbrev pub objects_collected : CallStage → List Obj
objects_collected (stage.Returned bytes objects) = objects
objects_collected _ = []

abbrev pub objects_collected_in : Option Call → List Obj
objects_collected_in None = []
objects_collected_in (Some r) = objects_collected r.stage

abbrev pub tables_after_collect : State → ℕ → List Obj → List (List (Option Obj))
tables_after_collect m p objects = if has_room m p objects then tables_with m p objects else m.tables

abbrev pub collect : State → ℕ → ℕ → ℕ → ActResult
collect m t p c =
    record {
      state =
          record m {
            process_table = set_thread_state m.process_table t is.Running;
            tables = tables_after_collect m p (objects_collected_in (find_call m (is_to_collect_as c)));
            call_tree = collect_call m.call_tree c (now m);
          };
      answer = collect_answer_in m p (find_call m (is_to_collect_as c));
    }

-- the tests and the effect of an entry of this file

abbrev pub tests_of_doors : State → ℕ → ℕ → Request → List Test
tests_of_doors m t p (request.Create entry cookie attrs) = create_tests m p attrs
tests_of_doors m t p (request.Call fd bytes pass rsize) = call_tests m p fd bytes pass
tests_of_doors m t p (request.Return bytes pass) = return_tests m t p bytes pass
tests_of_doors m t p _ = []

abbrev pub effect_of_doors : State → ℕ → ℕ → Request → ActResult
effect_of_doors m t p (request.Create entry cookie attrs) = create m p entry cookie attrs
effect_of_doors m t p (request.Call fd bytes pass rsize) = call m t p fd bytes pass rsize
effect_of_doors m t p (request.Return bytes pass) = return m t p bytes pass
effect_of_doors m t p _ = no_act m
