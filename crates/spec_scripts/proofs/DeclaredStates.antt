-- What the doors and calls of a state name is declared, and so is what the answers of its events name.
use Rattle.std.proofs.Common.{◌≡◌, ℕ, ◌+◌, ◌≤◌, List, zero, suc, [], ◌∷◌, ◌++◌, Option, Some, None, Bool, true, false, if◌then◌else◌, is_none, length, arith, refl, subst, append-nil, unwrap_or}
use Rattle.std.specs.Prelude.{All}
use Rattle.std.specs.Option.{option_map_or}
use Rattle.std.proofs.lemmas.List.Elements.{All-cons, All-nil, All-push, All-filter}
use Rattle.spec_kernel.specs.Types.{Answer, Call, Door, Item, Obj, Queued, Request}
use Rattle.dk_base.specs.declared.error.Errno.TheVariants.{EMFILE}
use Rattle.dk_base.specs.declared.object.Item.TheVariants as item
use Rattle.dk_base.specs.declared.object.Obj.TheVariants as obj
use Rattle.spec_records.specs.declared.record.CallStage.TheVariants as stage
use Rattle.spec_records.specs.declared.record.NoticeStage.TheVariants as notice
use Rattle.spec_records.specs.Words.{bind_thread, enter_notice, give_notice, has_other_path, is_given_as, is_given_notice_as, is_queued_as, is_served_by, is_waiting_notice_as, first_found, make_notice, new_notice, objects_passed, tid}
use Rattle.spec_kernel.specs.Words.{ActResult, Channels, State, act, event_answer, found_answer, port, port_at, tables_with, bound_of, caller_in, door_at, door_of, give_one, is_door, is_due, is_valid, is_waiting_state, new_call, now, object_at, process_of, return_parked, root, served_by, settle, state_of, step, table_of, waiting_among, waiting_threads, walk}
use Rattle.spec_records.proofs.Lists.{numbered_within}
use Rattle.spec_kernel.proofs.Settling.{settle-all, with_notice_of}
use Rattle.spec_kernel.proofs.Moves.{IsMaking, IsPassing, Moves, act_moves, act_result}
use Rattle.spec_kernel.proofs.Moves.IsSaid.{informs, informs_bound, names_client}
use Rattle.spec_kernel.proofs.Moves.IsRow.{closes, copies, opens}
use Rattle.spec_kernel.proofs.Moves.IsNaming.{attaches, detaches}
use Rattle.spec_kernel.proofs.Moves.IsBinding.{binds, unbinds}
use Rattle.spec_kernel.proofs.Moves.IsTurn.{awaits}
use Rattle.law_states.specs.Invariant.{IsConsistent}
use Rattle.script_lang.specs.Words.{ScriptValue}
use Rattle.spec_requests.specs.Words.{IsDeclaredThread, IsNumberOf, IsThread}
use Rattle.spec_requests.proofs.Elements.{All-find}
use Rattle.spec_scripts.proofs.DeclaredObjects.{IsKnownInTransit, IsKnownName, IsKnownNotice, binding-known, changed_notices-known, none-known, passed-known}
use Rattle.spec_scripts.proofs.KnownStates.{HasOwners, IsKnown, IsKnownAct, IsKnownAnswer, IsKnownCall, bindings-known, changed-known, emptied, fork-known, installs-known, leave-known, leave_process-known, names-known, notices-known, opened-known, passes-known, set_param-known, staged, unbound-known, with_row-known}
use Rattle.spec_scripts.proofs.KnownActs.{MakesDeclared, attached-known, bound_door, call-known, client-known, collect-known, create-known, holds_unless, info-known, named_door, names_door_then, notice-known, returned-known, revoke-known, valid_door}

-- what a turn asks makes only what is declared
abbrev pub AsksDeclared : ScriptValue → ℕ → Option Request → Type 0
AsksDeclared script p None = Unit {0}
AsksDeclared script p (Some r) = MakesDeclared script p r

-- what is found at a port names nothing that is declared
found-known : (script : ScriptValue) (p : ℕ) (m : State) (q max : ℕ) (one : Bool) → IsKnownAnswer script p (found_answer m q max one)
found-known script p m q max false = tt
found-known script p m q max true = event (first_found (port m q))
  where
    event : (o : Option Queued) → IsKnownAnswer script p (event_answer o)
    event None = tt
    event (Some x) = tt

passing-known :
    (script : ScriptValue) (m : State) (t : ℕ) (r : Request) (c : Channels) (a : Answer) → IsPassing m t r c a → IsKnownAnswer script (process_of m t) a
passing-known script m t r c a (IsPassing.gets fd wait f g) = found-known script (process_of m t) m (port_at m (process_of m t) fd) 1 true
passing-known script m t r c a (IsPassing.gets_many fd max nget wait f z g) = found-known script (process_of m t) m (port_at m (process_of m t) fd) max false
passing-known script m t r c a _ = tt

-- a pipe or a port that is made is no door
making-known :
    (script : ScriptValue) (m : State) (t : ℕ) (r : Request) (c : Channels) (objects : List Obj) (a : Answer) → IsKnown script m →
    IsMaking m t r c objects a → IsKnownAct script (process_of m t) (act_result (record m { tables = tables_with m (process_of m t) objects; channels = c }) a)
making-known script m t r c objects a h (IsMaking.makes_pipe f) =
    record {
      state =
          installs-known script m (process_of m t) objects
          (All-cons (IsKnownInTransit (length m.doors)) (obj.PipeIn (length m.channels.pipes + 1)) (obj.PipeOut (length m.channels.pipes + 1) ∷ [])
          (λ d e. absurd (cc e))
          (All-cons (IsKnownInTransit (length m.doors)) (obj.PipeOut (length m.channels.pipes + 1)) [] (λ d e. absurd (cc e))
          (All-nil (IsKnownInTransit (length m.doors)))))
          h;
      answer = tt;
    }
making-known script m t r c objects a h (IsMaking.makes_port f) =
    record {
      state =
          installs-known script m (process_of m t) objects
          (All-cons (IsKnownInTransit (length m.doors)) (obj.Port (length m.channels.ports + 1)) [] (λ d e. absurd (cc e))
          (All-nil (IsKnownInTransit (length m.doors))))
          h;
      answer = tt;
    }

move-known :
    (script : ScriptValue) (m : State) (t : ℕ) (q : Option Request) (a : ActResult) → IsKnown script m → IsConsistent m → IsThread script t →
    HasOwners script m → AsksDeclared script (process_of m t) q → Moves m t q a → IsKnownAct script (process_of m t) a
move-known script m t q a h consistent thread owners made (Moves.nothing x (informs fd e)) =
    record {
      state = h;
      answer =
          info-known script m (process_of m t) _ (door_at m (process_of m t) fd) h
          (named_door script m (process_of m t) fd h (holds_unless (is_door (object_at m (process_of m t) fd)) _ e));
    }
move-known script m t q a h consistent thread owners made (Moves.nothing x (informs_bound e)) =
    record { state = h; answer = info-known script m (process_of m t) _ (unwrap_or (bound_of m t) 0) h (bound_door script m t _ h e) }
move-known script m t q a h consistent thread owners made (Moves.nothing x (names_client e)) = record { state = h; answer = client-known script m t _ h owners e }
move-known script m t q a h consistent thread owners made (Moves.rows r place o x (closes fd e)) =
    record { state = with_row-known script m (process_of m t) fd.0 None h (none-known (length m.doors)); answer = tt }
move-known script m t q a h consistent thread owners made (Moves.rows r place o x (copies fd e)) =
    record { state = with_row-known script m (process_of m t) _ o h (h.rows (process_of m t) fd); answer = tt }
move-known script m t q a h consistent thread owners made (Moves.rows r place o x (opens path e)) =
    record { state = with_row-known script m (process_of m t) _ o h (attached-known script m path _ h e); answer = tt }
move-known script m t q a h consistent thread owners made (Moves.names r names (attaches fd path e)) =
    let p = process_of m t in
    record {
      state =
          names-known script m names h
          (All-push (IsKnownName (length m.doors)) m.names (record { path = path; door = door_at m p fd }) h.names
          (named_door script m p fd h (names_door_then (is_none (object_at m p fd)) (is_door (object_at m p fd)) _ e)));
      answer = tt;
    }
move-known script m t q a h consistent thread owners made (Moves.names r names (detaches path e)) =
    record { state = names-known script m names h (All-filter (has_other_path path) (IsKnownName (length m.doors)) m.names h.names); answer = tt }
move-known script m t q a h consistent thread owners made (Moves.bound r o (binds fd e)) =
    let d = door_at m (process_of m t) fd in
    record {
      state =
          bindings-known script m (bind_thread m.bindings t d) h
          (binding-known (length m.doors) m.bindings t (Some d)
          (λ k f some. subst (IsNumberOf (length m.doors)) (cc f) (valid_door m d (holds_unless (is_valid m d) _ e)))
          h.bindings);
      answer = tt;
    }
move-known script m t q a h consistent thread owners made (Moves.bound r o (unbinds e)) = record { state = unbound-known script m t h; answer = tt }
move-known script m t q a h consistent thread owners made (Moves.parameter fd x value e) =
    record { state = set_param-known script m (door_at m (process_of m t) fd) x value h; answer = tt }
move-known script m t q a h consistent thread owners made (Moves.makes entry cookie attrs e) =
    create-known script m (process_of m t) entry cookie attrs h (owners t thread) made
move-known script m t q a h consistent thread owners made (Moves.turns s x _ (awaits path e)) = record { state = h; answer = tt }
move-known script m t q a h consistent thread owners made (Moves.calls fd bytes pass rsize e) =
    let p = process_of m t in
    record {
      state =
          passes-known script m p pass
          (opened-known
          script
          m
          (new_call m t (door_at m p fd) bytes (objects_passed (table_of m p) pass) rsize)
          h
          (record {
            caller = thread;
            door = valid_door m (door_at m p fd) (holds_unless (is_valid m (door_at m p fd)) _ e);
            objects = passed-known (length m.doors) m.tables p pass h.rows;
            results = tt;
          }));
      answer = tt;
    }
move-known script m t q a h consistent thread owners made (Moves.returns bytes pass e v) =
    record { state = returned-known script m t (process_of m t) bytes pass h; answer = tt }
move-known script m t q a h consistent thread owners made (Moves.returns_unbound bytes pass e v) =
    let n = (return_parked m t (process_of m t) bytes pass).state in
    record { state = unbound-known script n t (returned-known script m t (process_of m t) bytes pass h); answer = tt }
move-known script m t q a h consistent thread owners made (Moves.enters r e room) =
    let known : IsKnownCall script (length m.doors) r = All-find (IsKnownCall script (length m.doors)) (is_given_as r.number t) m.call_tree.calls r h.calls e.found in
    record {
      state =
          installs-known script m (process_of m t) r.objects known.objects
          (changed-known script m (is_given_as r.number t) _ (emptied script (length m.doors) (stage.Entered (tid t)) tt) h);
      answer = call-known script m t r h consistent e;
    }
move-known script m t q a h consistent thread owners made (Moves.fails r e full) =
    record { state = changed-known script m (is_given_as r.number t) _ (emptied script (length m.doors) (stage.Ended EMFILE) tt) h; answer = tt }
move-known script m t q a h consistent thread owners made (Moves.enters_notice n e) =
    record {
      state =
          notices-known script m (enter_notice m.notice_list n.number t).notices h
          (changed_notices-known (length m.doors) (is_given_notice_as n.number t) (notice.Entered (tid t)) m.notice_list.notices h.notices);
      answer = notice-known script m t n h consistent e;
    }
move-known script m t q a h consistent thread owners made (Moves.collects c e) = collect-known script m t (process_of m t) c h
move-known script m t q a h consistent thread owners made (Moves.passes r c x e) = record { state = h; answer = passing-known script m t r c x e }
move-known script m t q a h consistent thread owners made (Moves.makes_channel r c objects x e) = making-known script m t r c objects x h e
move-known script m t q a h consistent thread owners made (Moves.retrieves port max nget one e) = record { state = h; answer = found-known script (process_of m t) m port max one }
move-known script m t q a h consistent thread owners made (Moves.leaves r who _) = record { state = leave-known script m who h; answer = tt }
move-known script m t q a h consistent thread owners made (Moves.revokes fd e) = revoke-known script m (process_of m t) fd h
move-known script m t q a h consistent thread owners made (Moves.ends r p _) = record { state = leave_process-known script m p h; answer = tt }
move-known script m t q a h consistent thread owners made (Moves.forks child f) =
    record { state = fork-known script m t (process_of m t) child.0 h; answer = made }
move-known script m t q a h consistent thread owners made _ = record { state = h; answer = tt }

-- settling

give_one-known : (script : ScriptValue) (m : State) (i : Item) (u : ℕ) → IsKnown script m → IsKnown script (give_one m i u)
give_one-known script m (item.Call c) u h =
    changed-known script m (is_queued_as c) _ (staged script (length m.doors) (stage.Given (tid u)) tt) h
give_one-known script m (item.Notice c) u h =
    notices-known script m (give_notice m.notice_list c u).notices h
    (changed_notices-known (length m.doors) (is_waiting_notice_as c) (notice.Given (tid u)) m.notice_list.notices h.notices)

-- a notice is made of a door that is there
due_door : (before m : State) (d : ℕ) → is_due before m d (door_of m d) ≡ true → IsNumberOf (length m.doors) d
due_door before m d due = by_door (door_of m d) refl due
  where
    by_door : (o : Option Door) → door_of m d ≡ o → is_due before m d o ≡ true → IsNumberOf (length m.doors) d
    by_door None e f = cc
    by_door (Some x) e f = numbered_within m.doors d x e

make_notice-known :
    (script : ScriptValue) (before m : State) (d : ℕ) → is_due before m d (door_of m d) ≡ true → IsKnown script m → IsKnown script (with_notice_of m d)
make_notice-known script before m d due h =
    notices-known script m (make_notice m.notice_list (now m) d).notices h
    (All-push (IsKnownNotice (length m.doors)) m.notice_list.notices (new_notice (m.notice_list.made + 1) (now m) d) h.notices
    (due_door before m d due))

settle-known : (script : ScriptValue) (before m : State) → IsKnown script m → IsKnown script (settle before m)
settle-known script before m h =
    settle-all
    (IsKnown script)
    before
    (record {
      makes = λ n d due known. make_notice-known script before n d due known;
      fails = λ n t lost known. unbound-known script n t known;
      gives = λ n w x picked known. give_one-known script n w.item x.thread.0 known;
      starts = λ n t spare known. known;
    })
    (λ n known. known)
    m
    h

-- steps

-- what a step leaves and answers
pub record IsKnownStep (script : ScriptValue) (m : State) (t : ℕ) (r : Option Request) : Type 0 where
  pub state : IsKnown script (step m t r).state
  pub answer : IsKnownAnswer script (process_of m t) (step m t r).answer

act-known :
    (script : ScriptValue) (m : State) (t : ℕ) (r : Option Request) → IsKnown script m → IsConsistent m → IsThread script t →
    HasOwners script m → AsksDeclared script (process_of m t) r → IsKnownAct script (process_of m t) (act m t r)
act-known script m t r h consistent thread owners made =
    move-known script m t r (act m t r) h consistent thread owners made (act_moves m t r)

pub step-known :
    (script : ScriptValue) (m : State) (t : ℕ) (r : Option Request) → IsKnown script m → IsConsistent m → IsThread script t →
    HasOwners script m → AsksDeclared script (process_of m t) r → IsKnownStep script m t r
unfolding step
step-known script m t r h consistent thread owners made =
    let acted : IsKnownAct script (process_of m t) (act m t r) = act-known script m t r h consistent thread owners made
    in record { state = settle-known script m (act m t r).state acted.state; answer = acted.answer }

-- the end of a walk from a declared thread is declared
walk-declared : (script : ScriptValue) (n : ℕ) (m : State) (t : ℕ) → IsKnown script m → IsThread script t → IsThread script (walk n m t)
walk-declared script zero m t h thread = thread
walk-declared script (suc n) m t h thread = by_call (λ u known. walk-declared script n m u h known) (served_by m t) refl
  where
    by_call :
        ((u : ℕ) → IsThread script u → IsThread script (walk n m u)) → (o : Option Call) → served_by m t ≡ o →
        IsThread script (option_map_or (walk n m) (caller_in o) t)
    by_call further None e = thread
    by_call further (Some r) e =
        further r.caller.0 (All-find (IsKnownCall script (length m.doors)) (is_served_by t) m.call_tree.calls r h.calls e).caller

pub root-declared : (script : ScriptValue) (m : State) (t : ℕ) → IsKnown script m → IsThread script t → IsThread script (root m t)
root-declared script m t h thread = walk-declared script m.call_tree.made m t h thread

-- the threads that wait are among those of the state
waiting-among : (m : State) (n count : ℕ) → n ≤ count → All (λ t. IsNumberOf count t.0) (waiting_among m n)
waiting-among m zero count few = All-nil (λ t. IsNumberOf count t.0)
waiting-among m (suc n) count few = by_test (waiting-among m n count (omega arith)) (is_waiting_state (state_of m (suc n)))
  where
    by_test :
        All (λ t. IsNumberOf count t.0) (waiting_among m n) → (b : Bool) →
        All (λ t. IsNumberOf count t.0) (waiting_among m n ++ (if b then tid (suc n) ∷ [] else []))
    by_test below true = All-push (λ t. IsNumberOf count t.0) (waiting_among m n) (tid (suc n)) below (omega arith, few)
    by_test below false = rw append-nil below

pub waiting-declared :
    (script : ScriptValue) (m : State) → length m.process_table.threads ≡ length script.threads →
    All (IsDeclaredThread script) (waiting_threads m)
waiting-declared script m there = waiting-among m (length m.process_table.threads) (length script.threads) (omega arith)
