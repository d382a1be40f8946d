-- The acts that change a call: door_call, accept, door_return and collect.
use Rattle.std.specs.Prelude.{ℕ, ◌≡◌, List, Option, Bool, true, false, if◌then◌else◌, Some, None, is_some, length, nat_lt}
use Rattle.std.proofs.Common.{refl, sym, ap, subst, true≢false, ◌∙◌}
use native.Mathlib.Omega.{arith}
use Rattle.std.proofs.lemmas.Bool.Decides.{nat_tests}
use Rattle.spec_records.proofs.NumberedLists.{find-found, find-none, find-passes, find-past, find-push}
use Rattle.spec_kernel.specs.Types.{Answer, Call, CallStage, Fd, Notice, Obj, Pass, Request, ThreadState}
use Rattle.spec_records.specs.declared.pool.TheConstants.{LOST_DOOR}
use Rattle.spec_records.specs.Words.{CallTree, NoticeList, ProcessTable, call_number, collect_call, end_invocation, end_notice, first_refusal, is_client_call_of, is_given_as, is_idle, is_notice_entered_by, is_to_collect, is_to_collect_as, new_descriptors, notice_at, objects_passed, open_call, park_thread, return_call, set_thread_state, tid, without_arguments_at}
use Rattle.spec_kernel.specs.Words.{ActResult, State, begin_call, bound_of, call, call_tests, client_call, collect, collect_answer, collect_answer_in, door_named, fail_begin, find_call, find_notice, has_invalid_door, has_room, invocation_of, is_bound_to_invalid, is_valid, make_call, new_call, now, object_at, objects_collected, objects_collected_in, process_of, return_answer, return_parked, return_tests, return_unbound, state_of, table_of, tables_after_collect, tables_after_pass, tables_with}
use Rattle.dk_base.specs.declared.error.Errno.TheVariants.{EINVAL, EMFILE}
use Rattle.dk_base.specs.declared.object.Obj.TheVariants as obj
use Rattle.dk_base.specs.declared.object.Item.TheVariants as item
use Rattle.dk_base.specs.declared.request.Request.TheVariants as request
use Rattle.dk_base.specs.declared.answer.Answer.TheVariants as answer
use Rattle.spec_records.specs.declared.record.ThreadState.TheVariants as is
use Rattle.spec_records.specs.declared.record.CallStage.TheVariants as stage
use Rattle.spec_records.specs.declared.record.NoticeStage.TheVariants as notice
use Rattle.law_states.specs.Records.{record_of, item_in}
use Rattle.law_states.specs.Core.{core, abandoned_in, notice_in}
use Rattle.law_states.specs.Coherent.{IsCoherent}
use Rattle.law_states.specs.Invariant.{IsConsistent}
use Rattle.law_states.specs.Arrows.{ByAct}
use Rattle.law_states.specs.Arrows.ByAct.{stays, makes, returns, ends, collects_results, collects_nothing, collects_error, enters}
use Rattle.law_states.specs.Arrows.NoticeByAct.{stays as notice_stays, returns as notice_returns}
use Rattle.law_states.specs.Arrows.EndsBy.{server_full}
use Rattle.spec_records.proofs.Places.{change_first-none}
use Rattle.law_states.proofs.NoticeMoves.{end_notice_keeps}
pub use Rattle.spec_kernel.proofs.Moves.{given_is}
use Rattle.spec_kernel.proofs.Moves.{Accepts}
use Rattle.law_states.proofs.NoticeActs.{does_notice, entered_notice_is, no_entered, none_entered}
use Rattle.law_states.proofs.Cores.{Turns, act-core, at_one, end_invocation-turns, enter_thread-turns, park_thread-turns, set_thread_state-turns, upd}
use Rattle.law_states.proofs.CallMoves.{call_keeps, enter_keeps, fail_keeps, is_after_return, return_keeps, park_keeps, collect_keeps}
use Rattle.law_states.proofs.Acts.{Does, act_result, does_call, does_thread, same_list, unbound_does}
use Rattle.law_states.proofs.Consistent.{AreTables, act_consistent, after_act, calls_counted, is_awake, notice_found, notices_counted, own_tables, push_counted, same_tables, there}

-- what a test finds is what its number finds
pub record_found : (m : State) (test : Call → Bool) (r : Call) → IsConsistent m → find_call m test ≡ Some r → record_of m r.number ≡ Some r
record_found m test r h f = find-found call_number test m.call_tree.calls 0 r h.in_order f

-- door_call

call_is_valid :
    (m : State) (p : ℕ) (fd : Fd) (bytes : List ℕ) (pass : List Pass) → first_refusal (call_tests m p fd bytes pass) ≡ None →
    is_valid m (door_named (object_at m p fd)) ≡ true
call_is_valid m p fd bytes pass e = grind arith

pub names_door : (m : State) (o : Option Obj) → is_valid m (door_named o) ≡ true → o ≡ Some (obj.Door (door_named o))
names_door m o e = grind (arith, nat_tests)

pub call_does :
    (m : State) (t rsize : ℕ) (fd : Fd) (bytes : List ℕ) (pass : List Pass) → IsConsistent m → state_of m t ≡ is.Running →
    first_refusal (call_tests m (process_of m t) fd bytes pass) ≡ None →
    Does m t (Some (request.Call fd bytes pass rsize)) (call m t (process_of m t) fd bytes pass rsize)
call_does m t rsize fd bytes pass h e f =
    record {
      consistent =
          act_consistent m _ _ (open_call m.call_tree r) m.notice_list (own_tables m t _ h (ap is_awake e)) turns.processes
          (push_counted r (calls_counted h) refl) (notices_counted h) (omega (arith, turns.length, h.places))
          (subst IsCoherent (sym (act-core m _ (open_call m.call_tree r) m.notice_list t _ _ _ _ turns found (λ n. refl) (λ n. refl)))
          (call_keeps (core m) t r h.coherent
          (record { running = e; number = refl; caller = refl; kept = refl; queued = refl; no_cancel = refl; valid = valid })));
      arrows =
          at_one (ByAct m t q (answer.WaitCall r.number) n) (λ o. stays) r.number r None (λ c. record_of m c) _ found
          (find-past call_number m.call_tree.calls 0 r.number h.in_order (grind (arith, h.counted)))
          (makes d rsize fd bytes pass refl (names_door m (object_at m (process_of m t) fd) valid) f refl);
      notices = λ c. notice_stays;
      kept = same_list m.notice_list;
    }
  where
    q : Option Request
    q = Some (request.Call fd bytes pass rsize)

    d : ℕ
    d = door_named (object_at m (process_of m t) fd)

    r : Call
    r = new_call m t d bytes (objects_passed (table_of m (process_of m t)) pass) rsize

    n : State
    n = (make_call m t (process_of m t) pass r).state

    valid : is_valid m d ≡ true
    valid = call_is_valid m (process_of m t) fd bytes pass f

    turns : Turns m.process_table (set_thread_state m.process_table t (is.Calling r.number)) t (is.Calling r.number) (core m).serves
    turns = set_thread_state-turns m.process_table t (is.Calling r.number) (there m t (λ z. grind arith))

    found : (c : ℕ) → record_of n c ≡ upd (core m).call r.number (Some r) c
    found c = find-push call_number m.call_tree.calls 0 r c h.in_order (grind (arith, h.counted))

-- accept

-- the call is entered, with its descriptors
pub begin_does :
    (m : State) (t : ℕ) (r : Call) → IsConsistent m → Accepts m t r → has_room m (process_of m t) r.objects ≡ true →
    Does m t None (begin_call m t (process_of m t) r.number r)
begin_does m t r h a room =
    let g : state_of m t ≡ is.Given (item.Call r.number) = a.given in
    does_call (is_given_as r.number t) (without_arguments_at (stage.Entered (tid t))) (λ x. refl)
    m t None _ _ _ is.Running _ r h
    (own_tables m t _ h (ap is_awake g))
    (enter_thread-turns m.process_table t (item.Call r.number) (there m t (λ z. grind arith)))
    a.found
    (enter_keeps (core m) t r h.coherent (record_found m _ r h a.found) g)
    (enters r refl g a.stage room refl)

-- too few descriptors are free: the call ends
pub fail_does :
    (m : State) (t : ℕ) (r : Call) → IsConsistent m → Accepts m t r → has_room m (process_of m t) r.objects ≡ false →
    Does m t None (fail_begin m t r.number r)
fail_does m t r h a full =
    let g : state_of m t ≡ is.Given (item.Call r.number) = a.given in
    does_call (is_given_as r.number t) (without_arguments_at (stage.Ended EMFILE)) (λ x. refl)
    m t None _ _ _ (is.Idle (now m)) _ r h
    (same_tables m h)
    (park_thread-turns m.process_table t (now m) (there m t (λ z. grind arith)))
    a.found
    (fail_keeps (core m) t r EMFILE (now m) h.coherent (record_found m _ r h a.found) g)
    (ends r EMFILE (server_full refl g a.stage full refl))

-- collect

pub collects_is : (c : ℕ) (r : Call) → is_to_collect_as c r ≡ true → (r.number ≡ c) × (is_to_collect r.stage ≡ true)
collects_is c r e = (grind (arith, nat_tests), grind (arith, nat_tests))

caller_is : (m : State) (t : ℕ) (r : Call) → IsConsistent m → record_of m r.number ≡ Some r → state_of m t ≡ is.Calling r.number → r.caller.0 ≡ t
caller_is m t r h f e = grind (arith, h.coherent.waits.caller r.number t e)

-- the objects that come with results are installed where there is room
collect_tables :
    (m : State) (t : ℕ) (objects : List Obj) → IsConsistent m → is_awake (state_of m t) ≡ true →
    AreTables m (tables_after_collect m (process_of m t) objects)
collect_tables m t objects h e = go (has_room m (process_of m t) objects)
  where
    go : (b : Bool) → AreTables m (if b then tables_with m (process_of m t) objects else m.tables)
    go true = own_tables m t _ h e
    go false = same_tables m h

collect_arrow :
    (m n : State) (t : ℕ) (r : Call) (s : CallStage) → state_of m t ≡ is.Calling r.number → r.caller.0 ≡ t → r.stage ≡ s →
    is_to_collect s ≡ true →
    ByAct m t None (collect_answer m (process_of m t) r s) n (Some r) (Some (without_arguments_at (stage.Answered (now m)) r))
collect_arrow m n t r (stage.Returned bytes objects) g k z w = go (has_room m (process_of m t) objects) refl
  where
    go :
        (b : Bool) → has_room m (process_of m t) objects ≡ b →
        ByAct m t None
        (if b
        then answer.Results bytes (new_descriptors (table_of m (process_of m t)) objects) (nat_lt r.rsize (length bytes))
        else answer.Failure EMFILE)
        n (Some r) (Some (without_arguments_at (stage.Answered (now m)) r))
    go true room = collects_results r bytes objects refl g k z room refl
    go false full = collects_nothing r bytes objects refl g k z full refl
collect_arrow m n t r (stage.Ended x) g k z w = collects_error r x refl g k z refl
collect_arrow m n t r _ g k z w = absurd (grind arith)

-- a collect, with the call that is found
abbrev collect_found : State → ℕ → ℕ → ℕ → Option Call → ActResult
collect_found m t p c o =
    act_result
    (after_act m (set_thread_state m.process_table t is.Running) (tables_after_collect m p (objects_collected_in o))
    (collect_call m.call_tree c (now m)) m.notice_list)
    (collect_answer_in m p o)

pub collect_does :
    (m : State) (t c : ℕ) → IsConsistent m → state_of m t ≡ is.Calling c → is_some (find_call m (is_to_collect_as c)) ≡ true →
    Does m t None (collect m t (process_of m t) c)
collect_does m t c h e s = go (find_call m (is_to_collect_as c)) refl s
  where
    p : ℕ
    p = process_of m t

    found : (r : Call) → find_call m (is_to_collect_as r.number) ≡ Some r → state_of m t ≡ is.Calling r.number → Does m t None (collect m t p r.number)
    found r f g =
        let there_is : record_of m r.number ≡ Some r = record_found m (is_to_collect_as r.number) r h f in
        let passes : is_to_collect r.stage ≡ true = (collects_is r.number r (find-passes (is_to_collect_as r.number) m.call_tree.calls r f)).1 in
        subst (λ o. Does m t None (collect_found m t p r.number o)) (sym f)
        (does_call (is_to_collect_as r.number) (without_arguments_at (stage.Answered (now m))) (λ x. refl)
        m t None _ _ _ is.Running _ r h
        (collect_tables m t (objects_collected r.stage) h (ap is_awake g))
        (set_thread_state-turns m.process_table t is.Running (there m t (λ z. grind arith)))
        f
        (collect_keeps (core m) t r (now m) h.coherent there_is g passes)
        (collect_arrow m _ t r r.stage g (caller_is m t r h there_is g) refl passes))

    go : (o : Option Call) → find_call m (is_to_collect_as c) ≡ o → is_some o ≡ true → Does m t None (collect m t p c)
    go None f s = grind arith
    go (Some r) f s =
        let n : r.number ≡ c = (collects_is c r (find-passes (is_to_collect_as c) m.call_tree.calls r f)).0 in
        subst (λ (d : ℕ). Does m t None (collect m t p d)) n
        (found r (subst (λ (d : ℕ). find_call m (is_to_collect_as d) ≡ Some r) (sym n) f)
        (subst (λ (d : ℕ). state_of m t ≡ is.Calling d) (sym n) e))

-- door_return

pub client_is : (t : ℕ) (r : Call) → is_client_call_of t r ≡ true → (r.abandoned ≡ false) × (r.stage ≡ stage.Entered (tid t))
client_is t r e = (grind arith, grind (arith, nat_tests))

-- a thread without a client serves no call whose caller has not left
no_client :
    (m : State) (t c : ℕ) → IsConsistent m → client_call m t ≡ None → item_in (invocation_of m t) ≡ Some (item.Call c) →
    abandoned_in (record_of m c) ≡ true
no_client m t c h e f = go (record_of m c) refl
  where
    go : (o : Option Call) → record_of m c ≡ o → abandoned_in o ≡ true
    go None g = grind (arith, h.coherent.invocations.entered_back c t f)
    go (Some r) g = grind (arith, nat_tests, h.coherent.invocations.entered_back c t f, find-none call_number (is_client_call_of t) m.call_tree.calls c r e g)

-- What a Return leaves but for bindings, where its thread turns to a state after it. It ends the call that the thread has entered and whose
-- caller has not left, or the notice that the thread has entered, or neither.
module _ (m : State) (t : ℕ) (bytes : List ℕ) (pass : List Pass) (h : IsConsistent m) (e : state_of m t ≡ is.Running) (free : first_refusal (return_tests m t (process_of m t) bytes pass) ≡ None) where
  abbrev returned : ProcessTable → CallTree → NoticeList → State
  returned table tree list =
      record m { process_table = table; tables = tables_after_pass m (process_of m t) pass; call_tree = tree; notice_list = list }

  abbrev returned_calls : CallTree
  returned_calls = return_call m.call_tree t bytes (objects_passed (table_of m (process_of m t)) pass)

  return_turns :
      (table : ProcessTable) (s : ThreadState) (a : Answer) → is_after_return s ≡ true →
      (is_idle s ≡ true → bound_of m t ≡ Some LOST_DOOR → ⊥) → a ≡ return_answer m t → Turns m.process_table table t s (upd (core m).serves t None) →
      Does m t (Some (request.Return bytes pass)) (act_result (returned table returned_calls (end_notice m.notice_list t)) a)
  return_turns table s a w b z turns = go (client_call m t) refl
    where
      q : Option Request
      q = Some (request.Return bytes pass)

      objects : List Obj
      objects = objects_passed (table_of m (process_of m t)) pass

      tables : List (List (Option Obj))
      tables = tables_after_pass m (process_of m t) pass

      rows : AreTables m tables
      rows = own_tables m t _ h (ap is_awake e)

      -- no notice is entered by the thread
      same_notices : find_notice m (is_notice_entered_by t) ≡ None → m.notice_list ≡ end_notice m.notice_list t
      same_notices f =
          sym (ap (λ ns. record m.notice_list { notices = ns })
          (change_first-none (is_notice_entered_by t) (notice_at notice.Over) m.notice_list.notices f))

      of_client : (r : Call) → client_call m t ≡ Some r → Does m t q (act_result (returned table returned_calls (end_notice m.notice_list t)) a)
      of_client r f =
          let i : (r.abandoned ≡ false) × (r.stage ≡ stage.Entered (tid t)) = client_is t r (find-passes (is_client_call_of t) m.call_tree.calls r f) in
          let g : record_of m r.number ≡ Some r = record_found m (is_client_call_of t) r h f in
          let serves : item_in (invocation_of m t) ≡ Some (item.Call r.number) = h.coherent.invocations.entered r.number t (grind arith) in
          subst (λ (list : NoticeList). Does m t q (act_result (returned table returned_calls list) a))
          (same_notices (none_entered m t r.number h serves))
          (does_call (is_client_call_of t) (without_arguments_at (stage.Returned bytes objects)) (λ x. refl)
          m t q a _ _ s _ r h rows turns f
          (return_keeps (core m) t r bytes objects s h.coherent e w b g serves i.0)
          (returns r bytes pass refl free i.1 i.0 z))

      of_notice : client_call m t ≡ None → (o : Option Notice) → find_notice m (is_notice_entered_by t) ≡ o → Does m t q (act_result (returned table m.call_tree (end_notice m.notice_list t)) a)
      of_notice f None g =
          subst (λ (list : NoticeList). Does m t q (act_result (returned table m.call_tree list) a)) (same_notices g)
          (does_thread m t q a _ tables s _ h rows turns
          (park_keeps (core m) t s h.coherent e w b (λ c i. no_client m t c h f i) (λ n i. no_entered m t n h g i)))
      of_notice f (Some x) g =
          let entered : x.stage ≡ notice.Entered (tid t) = entered_notice_is t x (find-passes (is_notice_entered_by t) m.notice_list.notices x g) in
          does_notice (is_notice_entered_by t) notice.Over m t q a table tables s _ x h rows turns g
          (end_notice_keeps (core m) t x.number s h.coherent e w b (ap notice_in (notice_found m (is_notice_entered_by t) x h g) ∙ ap (λ z. Some z) entered))
          (notice_returns x bytes pass refl free entered)

      go : (o : Option Call) → client_call m t ≡ o → Does m t q (act_result (returned table returned_calls (end_notice m.notice_list t)) a)
      go (Some r) f = of_client r f
      go None f =
          subst (λ rs. Does m t q (act_result (returned table (record m.call_tree { calls = rs }) (end_notice m.notice_list t)) a))
          (sym (change_first-none (is_client_call_of t) (without_arguments_at (stage.Returned bytes objects)) m.call_tree.calls f))
          (of_notice f (find_notice m (is_notice_entered_by t)) refl)

  pub unbound_return_does : has_invalid_door m t ≡ true → Does m t (Some (request.Return bytes pass)) (return_unbound m t (process_of m t) bytes pass)
  unbound_return_does f =
      unbound_does m t _ _ (answer.Failure EINVAL) (grind (arith, nat_tests, (end_invocation-turns m.process_table t e).role t))
      (return_turns (end_invocation m.process_table t) is.Running (answer.Failure EINVAL) refl (λ i. absurd (grind arith))
      (sym (ap (λ (b : Bool). if b then answer.Failure EINVAL else answer.Wait) f)) (end_invocation-turns m.process_table t e))

  pub parked_return_does : has_invalid_door m t ≡ false → Does m t (Some (request.Return bytes pass)) (return_parked m t (process_of m t) bytes pass)
  parked_return_does f =
      return_turns (park_thread m.process_table t (now m)) (is.Idle (now m)) answer.Wait refl
      (λ i g. absurd (true≢false (ap (is_bound_to_invalid m) (sym g) ∙ f)))
      (sym (ap (λ (b : Bool). if b then answer.Failure EINVAL else answer.Wait) f)) (park_thread-turns m.process_table t (now m) (there m t (λ z. grind arith)))
