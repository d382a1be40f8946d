-- What an act and what follows it add to a state: a door and a call at most, and calls of few bytes and objects.
use Rattle.std.proofs.Common.{◌≡◌, ℕ, suc, ◌+◌, ◌≤◌, ◌&&◌, ◌++◌, Bool, true, false, if◌then◌else◌, not, nat_lt, is_some, List, [], ◌∷◌, Option, Some, None, length, map, find, filter, refl, ap, ◌∙◌, subst, sym, arith, length-append, lit≤, inl, inr, ◌||◌}
use Rattle.std.specs.List.{cons_option}
use Rattle.std.proofs.lemmas.Bool.{ltb-false, or_parts}
use Rattle.std.proofs.lemmas.List.{length-map, length-take}
use Rattle.spec_kernel.proofs.Moves.{IsPassing, Moves, act_moves, act_result}
use Rattle.spec_kernel.proofs.Moves.IsMaking.{makes_pipe, makes_port}
use Rattle.spec_kernel.proofs.Moves.IsPassing.{advances, alerts, associates, creates_timer, deletes_timer, dissociates, gets, gets_many, reads, sends, sends_each, sets_timer, writes}
use Rattle.spec_kernel.proofs.Moves.IsSaid.{refused, replies}
use Rattle.spec_kernel.proofs.Moves.IsRow.{closes}
use Rattle.spec_kernel.proofs.Moves.IsTurn.{awaits, starts_work, works}
use Rattle.spec_kernel.specs.Types.{Answer, Attrs, Call, CallStage, Door, Errno, Fd, Item, Obj, Parked, Pass, Queued, Request, Thread, ThreadState, Waiting, Param}
use Rattle.dk_base.specs.declared.limits.TheConstants.{ANSWER_ITEMS_MAX}
use Rattle.dk_base.specs.declared.error.Errno.TheVariants.{EBADF, E2BIG, EMFILE, ENFILE, ENOBUFS, ENOTSUP}
use Rattle.dk_base.specs.declared.object.Item.TheVariants as item
use Rattle.dk_base.specs.declared.answer.Answer.TheVariants as answer
use Rattle.spec_records.specs.declared.record.ThreadState.TheVariants as is
use Rattle.spec_records.specs.declared.record.CallStage.TheVariants as stage
use Rattle.spec_records.specs.declared.port.Alert.{Alert}
use Rattle.dk_base.specs.ByNumber.{at_number}
use Rattle.spec_records.specs.Words.{CallTree, NoticeList, Port, ProcessTable, events_found, first_found, found_at, record_of, records_of, at_stage, change_first, change_thread, change_thread_in, end_notice, begin_process, begun_thread, enter_notice, first_refusal, forking, idle_thread, insert_row, is_client_call_of, is_given_as, is_live_call, is_queued_as, is_to_collect_as, left_call, new_descriptors, object_passed, objects_passed, process_end, return_call, revocation, revoked_door, thread_at, thread_at_state, thread_in_invocation, thread_outside, tid, unbind_thread, with_owner_ended, without_arguments_at, Leaving, Test, change_door, change_door_in, refused_where, with_param, has_refused_size, has_too_many, is_valid_in, refuses_descriptors_in}
use Rattle.spec_kernel.specs.Words.{ActResult, Channels, IsFit, StandsFor, State, after_sending, errors_of_sending, event_answer, fork, found_answer, held_in, pipe_at, port, port_at, act, call, call_tests, client_call, collect, collect_answer, collect_answer_in, create, door_named, find_call, fail_return, give_one, has_lost_door, has_room, is_due, leave, leave_process, new_call, now, object_at, objects_collected_in, pass_tests, pick, pool_of, process_of, return_tests, revoke, settle, state_of, table_of, tables_after_collect, tables_after_pass, tables_with, tell, with_state, set_parameter, door_at, door_of, pool_tests}
use Rattle.spec_records.proofs.Lists.{length-with_at_number}
use Rattle.spec_records.proofs.Places.{length-change_first}
use Rattle.spec_kernel.proofs.CallLists.{IsOver, left_call-over}
use Rattle.spec_kernel.proofs.Threads.{threads-begin_process}
use Rattle.spec_kernel.proofs.Leaving.{calls-leave, threads-leave, threads_of-leave_process}
use Rattle.spec_kernel.proofs.Settling.{settle-all, with_notice_of}
use Rattle.law_channels.specs.Channels.{IsAmong, Made, WaitsAtMade, made_in}
use Rattle.spec_kernel.specs.Small.{IsSmall}
use Rattle.kernel_core.specs.Within.{IsSmallStage, IsSmallCall, AreSmall}

pub record Grows (k : ℕ) (m n : State) : Type 0 where
  pub threads : length n.process_table.threads ≡ length m.process_table.threads
  pub calls : length n.call_tree.calls ≤ length m.call_tree.calls + k
  pub doors : length n.doors ≤ length m.doors + k
  pub calls_made : n.call_tree.made ≤ m.call_tree.made + k
  pub events : n.events ≡ m.events
  pub small : AreSmall m.call_tree.calls → AreSmall n.call_tree.calls

pub grows_same : (k : ℕ) (m : State) → Grows k m m
grows_same k m =
    record { threads = refl; calls = omega arith; doors = omega arith; calls_made = omega arith; events = refl; small = λ h. h }

pub grows_then : (k j i : ℕ) (m n o : State) → k ≡ j + i → Grows j m n → Grows i n o → Grows k m o
grows_then k j i m n o e g h =
    record {
      threads = h.threads ∙ g.threads;
      calls = omega (arith, g.calls, h.calls);
      doors = omega (arith, g.doors, h.doors);
      calls_made = omega (arith, g.calls_made, h.calls_made);
      events = h.events ∙ g.events;
      small = λ s. h.small (g.small s);
    }

-- threads

pub length-change_thread : (table : ProcessTable) (t : ℕ) (change : Thread → Thread) → length (change_thread table t change).threads ≡ length table.threads
length-change_thread table t change = go (thread_at table t)
  where
    go : (o : Option Thread) → length (change_thread_in table t change o).threads ≡ length table.threads
    go None = refl
    go (Some x) = length-with_at_number table.threads t (change x)

-- an act that changes one thread, and no door and no call
thread-grows : (k : ℕ) (m : State) (t : ℕ) (change : Thread → Thread) → Grows k m (record m { process_table = change_thread m.process_table t change })
thread-grows k m t change =
    record {
      threads = length-change_thread m.process_table t change;
      calls = omega arith;
      doors = omega arith;
      calls_made = omega arith;
      events = refl;
      small = λ h. h;
    }

-- calls

change_first-small :
    (test : Call → Bool) (change : Call → Call) → ((r : Call) → IsSmallCall r → IsSmallCall (change r)) → (rs : List Call) →
    AreSmall rs → AreSmall (change_first test change rs)
change_first-small test change s [] h = h
change_first-small test change s (r ∷ rs) h =
    elim (test r) as (λ b. AreSmall (if b then change r ∷ rs else r ∷ change_first test change rs))
    [ true ↦ (s r h.0, h.1) | false ↦ (h.0, change_first-small test change s rs h.1) ]

-- the same where the change is small if it happens at all
change_found-small :
    (test : Call → Bool) (change : Call → Call) (rs : List Call) →
    (is_some (find test rs) ≡ true → (r : Call) → IsSmallCall r → IsSmallCall (change r)) → AreSmall rs →
    AreSmall (change_first test change rs)
change_found-small test change [] s h = h
change_found-small test change (r ∷ rs) s h =
    elim (test r) as (λ b. (is_some (if b then Some r else find test rs) ≡ true → (x : Call) → IsSmallCall x → IsSmallCall (change x)) → AreSmall (if b then change r ∷ rs else r ∷ change_first test change rs))
    [ true ↦ λ z. (z refl r h.0, h.1) | false ↦ λ z. (h.0, change_found-small test change rs z h.1) ] s

push-small : (rs : List Call) (r : Call) → IsSmallCall r → AreSmall rs → AreSmall (rs ++ r ∷ [])
push-small [] r s h = (s, tt)
push-small (x ∷ rs) r s h = (h.0, push-small rs r s h.1)

find-small : (p : Call → Bool) (rs : List Call) (r : Call) → find p rs ≡ Some r → AreSmall rs → IsSmallCall r
find-small p [] r e h = cc
find-small p (x ∷ rs) r e h =
    elim (p x) as (λ b. (if b then Some x else find p rs) ≡ Some r → IsSmallCall r)
    [ true ↦ λ q. let same : x ≡ r = cc in subst IsSmallCall same h.0 | false ↦ λ q. find-small p rs r q h.1 ] e

pub filter-small : (p : Call → Bool) (rs : List Call) → AreSmall rs → AreSmall (filter p rs)
filter-small p [] h = h
filter-small p (x ∷ rs) h =
    elim (p x) as (λ b. AreSmall (if b then x ∷ filter p rs else filter p rs))
    [ true ↦ (h.0, filter-small p rs h.1) | false ↦ filter-small p rs h.1 ]

length-filter : (p : Call → Bool) (rs : List Call) → length (filter p rs) ≤ length rs
length-filter p [] = omega arith
length-filter p (x ∷ rs) =
    elim (p x) as (λ b. length (if b then x ∷ filter p rs else filter p rs) ≤ suc (length rs))
    [ true ↦ let e = length-filter p rs in omega arith | false ↦ let e = length-filter p rs in omega arith ]

-- what is forgotten adds nothing
pub grows_kept : (k : ℕ) (m n o : State) → Grows k m n → StandsFor o n → Grows k m o
grows_kept k m n o g e = subst (Grows k m) (sym e) (record {
  threads = g.threads;
  calls = omega (arith, g.calls, length-filter is_live_call n.call_tree.calls);
  doors = g.doors;
  calls_made = g.calls_made;
  events = g.events;
  small = λ h. filter-small is_live_call n.call_tree.calls (g.small h);
})

without_arguments_at-small : (r : Call) (s : CallStage) → IsSmallStage s → IsSmallCall (without_arguments_at s r)
without_arguments_at-small r s h = record { arguments = omega arith; objects = omega arith; results = h }

-- an act that changes one thread, tables and one call
call-grows :
    (m : State) (t : ℕ) (turn : Thread → Thread) (tables : List (List (Option Obj))) (test : Call → Bool) (change : Call → Call) →
    (AreSmall m.call_tree.calls → AreSmall (change_first test change m.call_tree.calls)) →
    Grows 1 m (record m { process_table = change_thread m.process_table t turn; tables = tables; call_tree = record m.call_tree { calls = change_first test change m.call_tree.calls } })
call-grows m t turn tables test change s =
    record {
      threads = length-change_thread m.process_table t turn;
      calls = omega (arith, length-change_first test change m.call_tree.calls);
      doors = omega arith;
      calls_made = omega arith;
      events = refl;
      small = s;
    }

-- acts: what they add, and answers of few bytes and descriptors

-- the counts of a turn are in range: of a request, or of a wait at a port
abbrev pub IsFitTurn : State → ℕ → Option Request → Type 0
IsFitTurn m t (Some r) = IsFit m t r
IsFitTurn m t None = WaitsAtMade (made_in m) (state_of m t)

pub record IsTidy (m : State) (t : ℕ) (q : Option Request) (a : ActResult) : Type 0 where
  pub grows : Grows 1 m a.state
  pub small : AreSmall m.call_tree.calls → IsFitTurn m t q → IsSmall q a.answer

-- an act that changes no thread, no call and no event, and adds a door at most
door-tidy : (m n : State) (t : ℕ) (q : Option Request) (a : ActResult) → a.state ≡ n → n.process_table ≡ m.process_table → n.call_tree ≡ m.call_tree → n.events ≡ m.events → length n.doors ≤ length m.doors + 1 → IsSmall q a.answer → IsTidy m t q a
door-tidy m n t q a e threads calls events doors small =
    record {
      grows =
          subst (Grows 1 m) (let back : n ≡ a.state = cc in back)
          (record {
            threads = ap (λ (table : ProcessTable). length table.threads) threads;
            calls = let same = ap (λ (tree : CallTree). length tree.calls) calls in omega arith;
            doors = doors;
            calls_made = let same = ap (λ (tree : CallTree). tree.made) calls in omega arith;
            events = events;
            small = λ h. subst AreSmall (ap (λ (tree : CallTree). tree.calls) (let back : m.call_tree ≡ n.call_tree = cc in back)) h;
          });
      small = λ h fit. small;
    }

create-tidy : (m : State) (t : ℕ) (q : Option Request) (p entry cookie : ℕ) (attrs : Attrs) → IsTidy m t q (create m p entry cookie attrs)
create-tidy m t q p entry cookie attrs =
    door-tidy m (create m p entry cookie attrs).state t q (create m p entry cookie attrs) refl refl refl refl
    (omega (arith, length-append m.doors ((Rattle.spec_records.specs.Doors.new_door (length m.doors + 1) p entry cookie attrs) ∷ [])))
    tt

length-change_door : (doors : List Door) (d : ℕ) (change : Door → Door) → length (change_door doors d change) ≡ length doors
length-change_door doors d change = go (at_number doors d)
  where
    go : (o : Option Door) → length (change_door_in doors d change o) ≡ length doors
    go None = refl
    go (Some x) = length-with_at_number doors d (change x)

set_parameter-tidy : (m : State) (t : ℕ) (q : Option Request) (p : ℕ) (fd : Fd) (x : Param) (value : ℕ) → IsTidy m t q (set_parameter m p fd x value)
set_parameter-tidy m t q p fd x value =
    door-tidy m (set_parameter m p fd x value).state t q (set_parameter m p fd x value) refl refl refl refl
    (omega (arith, length-change_door m.doors (door_at m p fd) (with_param x value)))
    tt

-- the act of a test that did not hold
passes : (b : Bool) (e : Errno) (xs : List Test) → first_refusal (refused_where b e ∷ xs) ≡ None → (b ≡ false) × (first_refusal xs ≡ None)
passes true e xs h = absurd (grind arith)
passes false e xs h = (refl, h)

-- few of these bytes and descriptors
abbrev pub IsFew : List ℕ → List Pass → Type 0
IsFew bytes pass = (length bytes ≤ 4096) × (length pass ≤ 16)

few_of : (bytes : List ℕ) (pass : List Pass) → (nat_lt 4096 (length bytes) || nat_lt 16 (length pass)) ≡ false → IsFew bytes pass
few_of bytes pass h =
    let parts = or_parts (nat_lt 4096 (length bytes)) (nat_lt 16 (length pass)) h in (
      ltb-false 4096 (length bytes) parts.0,
      ltb-false 16 (length pass) parts.1,
    )

few_more : (n : ℕ) (o : Option Obj) (os : List Obj) → length os ≤ n → length (cons_option o os) ≤ suc n
few_more n None os h = omega arith
few_more n (Some p) os h = omega arith

pub few_passed : (table : List (Option Obj)) (pass : List Pass) → length (objects_passed table pass) ≤ length pass
few_passed table [] = omega arith
few_passed table (x ∷ xs) = few_more (length xs) (object_passed table x) (objects_passed table xs) (few_passed table xs)

-- what goes with a call that is not refused
pub few_arguments :
    (m : State) (p : ℕ) (fd : Fd) (bytes : List ℕ) (pass : List Pass) → first_refusal (call_tests m p fd bytes pass) ≡ None → IsFew bytes pass
few_arguments m p fd bytes pass e =
    let valid = passes (not (is_valid_in o)) EBADF from_size e in
    let size = passes (has_refused_size n o) ENOBUFS from_refusing valid.1 in
    let refusing = passes (nat_lt 0 k && refuses_descriptors_in o) ENOTSUP from_many size.1 in
    let many = passes (has_too_many k o) ENFILE from_long refusing.1 in
    few_of bytes pass (passes (nat_lt 4096 n || nat_lt 16 k) E2BIG (pass_tests m p pass ++ pool_tests m d) many.1).0
  where
    d : ℕ
    d = door_named (object_at m p fd)

    o : Option Door
    o = door_of m d

    n : ℕ
    n = length bytes

    k : ℕ
    k = length pass

    from_long : List Test
    from_long = refused_where (nat_lt 4096 n || nat_lt 16 k) E2BIG ∷ pass_tests m p pass ++ pool_tests m d

    from_many : List Test
    from_many = refused_where (has_too_many k o) ENFILE ∷ from_long

    from_refusing : List Test
    from_refusing = refused_where (nat_lt 0 k && refuses_descriptors_in o) ENOTSUP ∷ from_many

    from_size : List Test
    from_size = refused_where (has_refused_size n o) ENOBUFS ∷ from_refusing

call-tidy :
    (m : State) (t : ℕ) (q : Option Request) (p : ℕ) (fd : Fd) (bytes : List ℕ) (pass : List Pass) (rsize : ℕ) → IsFew bytes pass →
    IsTidy m t q (call m t p fd bytes pass rsize)
call-tidy m t q p fd bytes pass rsize few =
    let objects = objects_passed (table_of m p) pass in
    let r = new_call m t (door_named (object_at m p fd)) bytes objects rsize in
    record {
      grows =
          record {
            threads = length-change_thread m.process_table t (thread_at_state (is.Calling r.number));
            calls = omega (arith, length-append m.call_tree.calls (r ∷ []));
            doors = omega arith;
            calls_made = omega arith;
            events = refl;
            small = λ h. push-small m.call_tree.calls r (record { arguments = few.0; objects = omega (arith, few.1, few_passed (table_of m p) pass); results = tt }) h;
          };
      small = λ h fit. tt;
    }

-- the results of a return that is not refused go to a client only where they are few
pub few_results :
    (m : State) (t p : ℕ) (bytes : List ℕ) (pass : List Pass) → first_refusal (return_tests m t p bytes pass) ≡ None →
    is_some (client_call m t) ≡ true → IsFew bytes pass
few_results m t p bytes pass e h =
    few_of bytes pass
    (with_client (is_some (client_call m t)) (nat_lt 4096 (length bytes) || nat_lt 16 (length pass)) h
    (passes (is_some (client_call m t) && (nat_lt 4096 (length bytes) || nat_lt 16 (length pass))) E2BIG (pass_tests m p pass) e).0)
  where
    with_client : (there many : Bool) → there ≡ true → (there && many) ≡ false → many ≡ false
    with_client true many f g = g
    with_client false many f g = cc

-- a thread that returns, whatever becomes of its own record and binding
returned-grows :
    (m : State) (t p : ℕ) (bytes : List ℕ) (pass : List Pass) (turn : Thread → Thread) → first_refusal (return_tests m t p bytes pass) ≡ None →
    Grows
    1
    m
    (record m {
      process_table = change_thread m.process_table t turn;
      tables = tables_after_pass m p pass;
      call_tree = return_call m.call_tree t bytes (objects_passed (table_of m p) pass);
    })
returned-grows m t p bytes pass turn e =
    let returned = stage.Returned bytes (objects_passed (table_of m p) pass) in
    call-grows m t turn (tables_after_pass m p pass) (is_client_call_of t) (without_arguments_at returned)
    (change_found-small (is_client_call_of t) (without_arguments_at returned) m.call_tree.calls
    (λ f r h.
    let few = few_results m t p bytes pass e f in
    without_arguments_at-small r returned (few.0, omega (arith, few.1, few_passed (table_of m p) pass))))

bound_otherwise-grows : (k : ℕ) (m n : State) (bindings : List (Option ℕ)) → Grows k m n → Grows k m (record n { bindings = bindings })
bound_otherwise-grows k m n bindings g =
    record { threads = g.threads; calls = g.calls; doors = g.doors; calls_made = g.calls_made; events = g.events; small = g.small }

-- nor does it count what notices there are
noticed_otherwise-grows : (k : ℕ) (m n : State) (list : NoticeList) → Grows k m n → Grows k m (record n { notice_list = list })
noticed_otherwise-grows k m n list g =
    record { threads = g.threads; calls = g.calls; doors = g.doors; calls_made = g.calls_made; events = g.events; small = g.small }

-- each object gets one descriptor
length-new_descriptors : (table : List (Option Obj)) (objects : List Obj) → length (new_descriptors table objects) ≡ length objects
length-new_descriptors table [] = refl
length-new_descriptors table (o ∷ os) = ap suc (length-new_descriptors (insert_row table o) os)

-- a call that a thread was given, at another stage
given-grows :
    (m : State) (t c : ℕ) (turn : Thread → Thread) (tables : List (List (Option Obj))) (s : CallStage) → IsSmallStage s →
    Grows 1 m (record m { process_table = change_thread m.process_table t turn; tables = tables; call_tree = record m.call_tree { calls = change_first (is_given_as c t) (without_arguments_at s) m.call_tree.calls } })
given-grows m t c turn tables s few =
    call-grows m t turn tables (is_given_as c t) (without_arguments_at s)
    (change_first-small (is_given_as c t) (without_arguments_at s) (λ x h. without_arguments_at-small x s few) m.call_tree.calls)

collect_answer-small : (m : State) (q : Option Request) (p c : ℕ) → AreSmall m.call_tree.calls → IsSmall q (collect_answer_in m p (find_call m (is_to_collect_as c)))
collect_answer-small m q p c h = go (find_call m (is_to_collect_as c)) refl
  where
    results :
        (r : Call) (bytes : List ℕ) (objects : List Obj) (b : Bool) → IsSmallStage (stage.Returned bytes objects) →
        IsSmall q
        (if b
        then answer.Results bytes (new_descriptors (table_of m p) objects) (nat_lt r.rsize (length bytes))
        else answer.Failure EMFILE)
    results r bytes objects true few = (few.0, omega (arith, few.1, length-new_descriptors (table_of m p) objects))
    results r bytes objects false few = tt

    at : (r : Call) (s : CallStage) → IsSmallStage s → IsSmall q (collect_answer m p r s)
    at r (stage.Returned bytes objects) few = results r bytes objects (has_room m p objects) few
    at r (stage.Ended e) few = tt
    at r _ few = tt

    go : (o : Option Call) → find_call m (is_to_collect_as c) ≡ o → IsSmall q (collect_answer_in m p o)
    go None e = tt
    go (Some r) e = at r r.stage (find-small (is_to_collect_as c) m.call_tree.calls r e h).results

collect-tidy : (m : State) (t : ℕ) (q : Option Request) (p c : ℕ) → IsTidy m t q (collect m t p c)
collect-tidy m t q p c =
    record {
      grows =
          call-grows m t (thread_at_state is.Running) (tables_after_collect m p (objects_collected_in (find_call m (is_to_collect_as c)))) (is_to_collect_as c) (without_arguments_at (stage.Answered (now m)))
          (change_first-small (is_to_collect_as c) (without_arguments_at (stage.Answered (now m)))
          (λ x h. without_arguments_at-small x (stage.Answered (now m)) tt) m.call_tree.calls);
      small = λ h fit. collect_answer-small m q p c h;
    }

-- leaving

without_stage-small : (r : Call) (s : CallStage) → IsOver s → IsSmallStage s
without_stage-small r s (inl e) = subst IsSmallStage (sym e) tt
without_stage-small r s (inr (x, e)) = subst IsSmallStage (sym e) tt

left_call-small : (who : Leaving) (r : Call) → IsSmallCall r → IsSmallCall (left_call who r)
left_call-small who r h =
    left_call-over IsSmallCall who r h (λ s o. without_arguments_at-small r s (without_stage-small r s o))
    (λ s o. let g = without_arguments_at-small r s (without_stage-small r s o) in record { arguments = g.arguments; objects = g.objects; results = g.results })

left_calls-small : (who : Leaving) (rs : List Call) → AreSmall rs → AreSmall (map (left_call who) rs)
left_calls-small who [] h = h
left_calls-small who (r ∷ rs) h = (left_call-small who r h.0, left_calls-small who rs h.1)

leave-grows : (m : State) (who : Leaving) → Grows 1 m (leave m who)
leave-grows m who =
    record {
      threads = threads-leave m who;
      calls = omega (arith, calls-leave m who);
      doors = omega arith;
      calls_made = omega arith;
      events = refl;
      small = left_calls-small who m.call_tree.calls;
    }

leave_process-grows : (m : State) (p : ℕ) → Grows 1 m (leave_process m p)
leave_process-grows m p =
    let g = leave-grows m (process_end m.process_table m.doors p) in
    record {
      threads = threads_of-leave_process m p;
      calls = g.calls;
      doors = omega (arith, length-map m.doors (with_owner_ended p));
      calls_made = g.calls_made;
      events = refl;
      small = g.small;
    }

-- a child begins
fork-grows : (m : State) (t p child : ℕ) → Grows 1 m (fork m t p child).state
fork-grows m t p child =
    let g = leave-grows m (forking m.process_table t) in
    record {
      threads = threads-begun (leave m (forking m.process_table t)).process_table child ∙ g.threads;
      calls = g.calls;
      doors = g.doors;
      calls_made = g.calls_made;
      events = refl;
      small = g.small;
    }
  where
    threads-begun : (table : ProcessTable) (p : ℕ) → length (begin_process table p).threads ≡ length table.threads
    threads-begun table p = ap length (threads-begin_process table p) ∙ length-map table.threads (begun_thread p)

revoke-tidy : (m : State) (t : ℕ) (q : Option Request) (p : ℕ) (fd : Fd) → IsTidy m t q (revoke m p fd)
revoke-tidy m t q p fd =
    let g = leave-grows m (revocation (door_at m p fd)) in
    record {
      grows =
          record {
            threads = g.threads;
            calls = g.calls;
            doors = omega (arith, length-change_door m.doors (door_at m p fd) revoked_door);
            calls_made = g.calls_made;
            events = refl;
            small = g.small;
          };
      small = λ h fit. tt;
    }

-- any act

-- an act that changes bindings alone
bindings-grow : (m : State) (bindings : List (Option ℕ)) → Grows 1 m (record m { bindings = bindings })
bindings-grow m bindings =
    record { threads = refl; calls = omega arith; doors = omega arith; calls_made = omega arith; events = refl; small = λ h. h }

-- an act that changes one thread alone
thread-tidy : (m : State) (t : ℕ) (q : Option Request) (turn : Thread → Thread) (a : Answer) → IsSmall q a → IsTidy m t q (act_result (record m { process_table = change_thread m.process_table t turn }) a)
thread-tidy m t q turn a few = record { grows = thread-grows 1 m t turn; small = λ h fit. few }

-- an act that changes pipes and ports alone

channels_otherwise-grow : (k : ℕ) (m n : State) (c : Channels) → Grows k m n → Grows k m (record n { channels = c })
channels_otherwise-grow k m n c g =
    record { threads = g.threads; calls = g.calls; doors = g.doors; calls_made = g.calls_made; events = g.events; small = g.small }

channels-grow : (m : State) (c : Channels) → Grows 1 m (record m { channels = c })
channels-grow m c = channels_otherwise-grow 1 m m c (grows_same 1 m)

-- a get of at most so many tells of no more
found-small : (m : State) (q : Option Request) (port max : ℕ) (one : Bool) → (one ≡ false → max ≤ ANSWER_ITEMS_MAX) → IsSmall q (found_answer m port max one)
found-small m q n max one few = by_one one few
  where
    first : (o : Option Queued) → IsSmall q (event_answer o)
    first None = tt
    first (Some x) = tt

    told : (a : Option Alert) (queue : List Queued) → max ≤ ANSWER_ITEMS_MAX → length (found_at max a queue) ≤ ANSWER_ITEMS_MAX
    told None queue l = omega (arith, l, length-take max queue)
    told (Some a) queue l = lit≤ tt

    by_one : (b : Bool) → (b ≡ false → max ≤ ANSWER_ITEMS_MAX) → IsSmall q (if b then event_answer (first_found (port m n)) else answer.Events (records_of (events_found max (port m n))))
    by_one true l = first (first_found (port m n))
    by_one false l = omega (arith, length-map (events_found max (port m n)) record_of, told (port m n).alert (port m n).queue (l refl))

-- each descriptor that an event is sent to has an error, or none
length-errors : (ports : List Port) (os : List (Option Obj)) (events user : ℕ) → length (errors_of_sending ports os events user) ≡ length os
length-errors ports [] events user = refl
length-errors ports (o ∷ os) events user = ap suc (length-errors (after_sending ports o events user) os events user)

passed-small : (m : State) (t : ℕ) (r : Request) (c : Channels) (a : Answer) → IsPassing m t r c a → IsFit m t r → IsSmall (Some r) a
passed-small m t r c a (writes fd bytes f) fit = tt
passed-small m t r c a (reads fd max f) fit = omega (arith, fit.1, length-take max (held_in m (pipe_at m (process_of m t) fd)))
passed-small m t r c a (sends fd events user f) fit = tt
passed-small m t r c a (sends_each fds events user) fit =
    length-errors m.channels.ports (map (object_at m (process_of m t)) fds) events user ∙ length-map fds (object_at m (process_of m t))
passed-small m t r c a (alerts fd mode events user f) fit = tt
passed-small m t r c a (associates port object events user f) fit = tt
passed-small m t r c a (dissociates port object f) fit = tt
passed-small m t r c a (creates_timer port user f) fit = tt
passed-small m t r c a (sets_timer timer first interval f) fit = tt
passed-small m t r c a (deletes_timer timer f) fit = tt
passed-small m t r c a (advances by) fit = tt
passed-small m t r c a (gets fd wait f e) fit = found-small m (Some r) (port_at m (process_of m t) fd) 1 true (λ more. cc)
passed-small m t r c a (gets_many fd max nget wait f some e) fit = found-small m (Some r) (port_at m (process_of m t) fd) max false (λ more. fit)

-- a thread that waits at a port waits for few events
waits_of : (made : Made) (s : ThreadState) (q max nget : ℕ) (one marked : Bool) → s ≡ is.Getting q max nget one marked → WaitsAtMade made s → IsAmong made.ports q × (max ≤ ANSWER_ITEMS_MAX)
waits_of made s q max nget one marked e h = subst (WaitsAtMade made) e h

move-tidy : (m : State) (t : ℕ) (q : Option Request) (a : ActResult) → Moves m t q a → IsTidy m t q a
move-tidy m t q a (Moves.nothing x (refused r e f)) = record { grows = grows_same 1 m; small = λ h fit. tt }
move-tidy m t q a (Moves.nothing x (replies line)) = record { grows = grows_same 1 m; small = λ h fit. omega arith }
move-tidy m t q a (Moves.rows r place o x (closes fd f)) = door-tidy m a.state t q a refl refl refl refl (omega arith) tt
move-tidy m t q a (Moves.rows r place o x _) = door-tidy m a.state t q a refl refl refl refl (omega arith) tt
move-tidy m t q a (Moves.names r names _) = door-tidy m a.state t q a refl refl refl refl (omega arith) tt
move-tidy m t q a (Moves.bound r o _) = record { grows = bindings-grow m _; small = λ h fit. tt }
move-tidy m t q a (Moves.parameter fd x value _) = set_parameter-tidy m t q (process_of m t) fd x value
move-tidy m t q a (Moves.makes entry cookie attrs _) = create-tidy m t q (process_of m t) entry cookie attrs
move-tidy m t q a (Moves.turns s x _ (awaits path e)) = thread-tidy m t q (thread_at_state s) x tt
move-tidy m t q a (Moves.turns s x _ (starts_work op input)) = thread-tidy m t q (thread_at_state s) x tt
move-tidy m t q a (Moves.turns s x _ (works op input e)) = thread-tidy m t q (thread_at_state s) x (omega arith)
move-tidy m t q a (Moves.turns s x _ _) = thread-tidy m t q (thread_at_state s) x tt
move-tidy m t q a (Moves.calls fd bytes pass rsize f) = call-tidy m t q (process_of m t) fd bytes pass rsize (few_arguments m (process_of m t) fd bytes pass f)
move-tidy m t q a (Moves.returns bytes pass f e) =
    record {
      grows = noticed_otherwise-grows 1 m _ (end_notice m.notice_list t) (returned-grows m t (process_of m t) bytes pass (idle_thread (now m)) f);
      small = λ h fit. tt;
    }
move-tidy m t q a (Moves.returns_unbound bytes pass f e) =
    record {
      grows =
          noticed_otherwise-grows 1 m _ (end_notice m.notice_list t)
          (bound_otherwise-grows 1 m _ (unbind_thread m.bindings t) (returned-grows m t (process_of m t) bytes pass thread_outside f));
      small = λ h fit. tt;
    }
move-tidy m t q a (Moves.enters r e room) =
    record {
      grows = given-grows m t r.number (thread_in_invocation (item.Call r.number)) (tables_with m (process_of m t) r.objects) (stage.Entered (tid t)) tt;
      small =
          λ h fit. let few = find-small (is_given_as r.number t) m.call_tree.calls r e.found h in (
            few.arguments,
            omega (arith, few.objects, length-new_descriptors (table_of m (process_of m t)) r.objects),
          );
    }
move-tidy m t q a (Moves.fails r e full) =
    record { grows = given-grows m t r.number (idle_thread (now m)) m.tables (stage.Ended EMFILE) tt; small = λ h fit. tt }
move-tidy m t q a (Moves.enters_notice n e) =
    record {
      grows =
          noticed_otherwise-grows 1 m _ (enter_notice m.notice_list n.number t)
          (thread-grows 1 m t (thread_in_invocation (item.Notice n.number)));
      small = λ h fit. tt;
    }
move-tidy m t q a (Moves.collects c e) = collect-tidy m t q (process_of m t) c
move-tidy m t q a (Moves.leaves r who _) = record { grows = leave-grows m who; small = λ h fit. tt }
move-tidy m t q a (Moves.revokes fd f) = revoke-tidy m t q (process_of m t) fd
move-tidy m t q a (Moves.forks child f) = record { grows = fork-grows m t (process_of m t) child.0; small = λ h fit. tt }
move-tidy m t q a (Moves.ends r p _) = record { grows = leave_process-grows m p; small = λ h fit. tt }
move-tidy m t q a (Moves.passes r c x p) = record { grows = channels-grow m c; small = λ h fit. passed-small m t r c x p fit }
move-tidy m t q a (Moves.makes_channel r c objects x (makes_pipe f)) = door-tidy m a.state t q a refl refl refl refl (omega arith) tt
move-tidy m t q a (Moves.makes_channel r c objects x (makes_port f)) = door-tidy m a.state t q a refl refl refl refl (omega arith) tt
move-tidy m t q a (Moves.retrieves port max nget one h) =
    record {
      grows = channels_otherwise-grow 1 m (with_state m t is.Running) _ (thread-grows 1 m t (thread_at_state is.Running));
      small = λ k fit. found-small m None port max one (λ more. (waits_of (made_in m) (state_of m t) port max nget one false h.waits fit).1);
    }
move-tidy m t q a _ = record { grows = grows_same 1 m; small = λ h fit. tt }

pub act-tidy : (m : State) (t : ℕ) (r : Option Request) → IsTidy m t r (act m t r)
act-tidy m t r = move-tidy m t r (act m t r) (act_moves m t r)

-- settling

bound-grows : (m : State) (t : ℕ) → Grows 0 m (fail_return m t)
bound-grows m t =
    record {
      threads = length-change_thread m.process_table t (thread_at_state is.FailedReturn);
      calls = omega arith;
      doors = omega arith;
      calls_made = omega arith;
      events = refl;
      small = λ h. h;
    }

give_one-grows : (m : State) (i : Item) (u : ℕ) → Grows 0 m (give_one m i u)
give_one-grows m (item.Call c) u =
    record {
      threads = length-change_thread m.process_table u (thread_at_state (is.Given (item.Call c)));
      calls = omega (arith, length-change_first (is_queued_as c) (at_stage (stage.Given (tid u))) m.call_tree.calls);
      doors = omega arith;
      calls_made = omega arith;
      events = refl;
      small =
          change_first-small (is_queued_as c) (at_stage (stage.Given (tid u)))
          (λ r h. record { arguments = h.arguments; objects = h.objects; results = tt }) m.call_tree.calls;
    }
give_one-grows m (item.Notice n) u =
    record {
      threads = length-change_thread m.process_table u (thread_at_state (is.Given (item.Notice n)));
      calls = omega arith;
      doors = omega arith;
      calls_made = omega arith;
      events = refl;
      small = λ h. h;
    }

pub settle-grows : (before m : State) → Grows 0 m (settle before m)
settle-grows before m =
    settle-all (Grows 0 m) before (record { makes = makes; fails = fails; gives = gives; starts = starts }) tells m (grows_same 0 m)
  where
    makes : (n : State) (d : ℕ) → is_due before n d (door_of n d) ≡ true → Grows 0 m n → Grows 0 m (with_notice_of n d)
    makes n d e g = noticed_otherwise-grows 0 m n (with_notice_of n d).notice_list g

    fails : (n : State) (t : ℕ) → has_lost_door n t ≡ true → Grows 0 m n → Grows 0 m (fail_return n t)
    fails n t e g = grows_then 0 0 0 m n (fail_return n t) (omega arith) g (bound-grows n t)

    gives : (n : State) (w : Waiting) (x : Parked) → pick n (pool_of n w.door) ≡ Some x → Grows 0 m n → Grows 0 m (give_one n w.item x.thread.0)
    gives n w x e g = grows_then 0 0 0 m n (give_one n w.item x.thread.0) (omega arith) g (give_one-grows n w.item x.thread.0)

    starts : (n : State) (t : ℕ) → state_of n t ≡ is.Dormant → Grows 0 m n → Grows 0 m (with_state n t is.Running)
    starts n t e g = grows_then 0 0 0 m n (with_state n t is.Running) (omega arith) g (thread-grows 0 n t (thread_at_state is.Running))

    tells : (n : State) → Grows 0 m n → Grows 0 m (tell n)
    tells n g = channels_otherwise-grow 0 m n (tell n).channels g
