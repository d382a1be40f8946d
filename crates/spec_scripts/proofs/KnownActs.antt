-- What an act leaves and answers names what is declared, or was made.
use Rattle.std.proofs.Common.{◌≡◌, ℕ, ◌+◌, ◌≤◌, ◌==◌, not, List, [], ◌∷◌, ◌++◌, Option, Some, None, Bool, true, false, if◌then◌else◌, IsSome, is_none, length, nat_lt, arith, refl, sym, ap, ◌∙◌, subst, length-append, unwrap_or}
use Rattle.std.proofs.lemmas.Bool.{false≢true}
use Rattle.std.proofs.lemmas.List.Elements.{All-nil}
use Rattle.spec_kernel.specs.Types.{Attrs, Call, CallStage, Door, Errno, Fd, Name, Notice, Obj, Pass, PathId, Request}
use Rattle.dk_base.specs.declared.answer.Answer.TheVariants as answer
use Rattle.dk_base.specs.declared.error.Errno.TheVariants.{EBADF, EINVAL, EMFILE, ENOENT}
use Rattle.dk_base.specs.declared.object.Obj.TheVariants as obj
use Rattle.dk_base.specs.declared.request.Request.TheVariants as request
use Rattle.spec_records.specs.declared.record.CallStage.TheVariants as stage
use Rattle.spec_records.specs.declared.record.NoticeStage.TheVariants as notice
use Rattle.spec_records.specs.declared.pool.TheConstants.{LOST_DOOR}
use Rattle.spec_records.specs.Words.{close_row, collect_call, door_attached, end_notice, entry_of, has_path, info_in, is_bound_to_some, is_client_call_of, is_given_as, is_given_notice_as, is_notice_entered_by, is_to_collect_as, is_valid_in, new_descriptors, new_door, objects_passed, revocation, revoked_door, tid}
use Rattle.spec_kernel.specs.Words.{State, create, bound_of, client_call, client_process, collect, collect_answer, collect_answer_in, door_at, door_named, door_of, find_call, has_room, is_door, is_valid, leave, name_of, now, object_at, objects_collected, objects_collected_in, process_of, results_answer, return_parked, revoke, table_of, tables_with, with_table_of}
use Rattle.spec_records.proofs.Lists.{numbered_within, numbered_there}
use Rattle.spec_kernel.proofs.Moves.{Accepts, AcceptsNotice}
use Rattle.law_states.specs.Core.{door_in, notice_in, noticed_door_in}
use Rattle.law_states.specs.Records.{notice_of, owner_in, record_of, stage_in}
use Rattle.law_states.specs.Invariant.{IsConsistent}
use Rattle.law_states.proofs.CallActs.{record_found}
use Rattle.law_states.proofs.Consistent.{notice_found}
use Rattle.script_lang.specs.Words.{ScriptValue}
use Rattle.spec_requests.specs.DeclaredNames.{IsTarget}
use Rattle.spec_requests.specs.Words.{IsEntryOf, IsNumberOf, IsProcess}
use Rattle.spec_requests.proofs.Elements.{All-at_number, All-find}
use Rattle.spec_scripts.specs.DeclaredRuns.{IsDeclaredDoor}
use Rattle.spec_scripts.proofs.DeclaredObjects.{AreKnownInTransit, AreKnownResults, IsKnownInTransit, IsKnownName, IsKnownObject, changed_notices-known, none-known, passed-known}
use Rattle.spec_scripts.proofs.KnownStates.{AreKnown, HasOwners, IsKnown, IsKnownAct, IsKnownAnswer, IsKnownCall, change_door-known, changed-known, emptied, entry-declared, installs-known, leave-known, notices-known, passes-known, with_door-known, with_row-known}

pub revoke-known : (script : ScriptValue) (m : State) (p : ℕ) (fd : Fd) → IsKnown script m → IsKnownAct script p (revoke m p fd)
revoke-known script m p fd h =
    record {
      state =
          change_door-known script n (door_at m p fd) revoked_door
          (λ y declared. record { owner = declared.owner; entry = declared.entry })
          (with_row-known script left p fd.0 None (leave-known script m (revocation (door_at m p fd)) h) (none-known (length m.doors)));
      answer = tt;
    }
  where
    left : State
    left = leave m (revocation (door_at m p fd))

    n : State
    n = with_table_of left p (close_row (table_of m p) fd.0)

-- a return, but for the binding of its thread
pub returned-known :
    (script : ScriptValue) (m : State) (t p : ℕ) (bytes : List ℕ) (pass : List Pass) → IsKnown script m →
    IsKnown script (return_parked m t p bytes pass).state
returned-known script m t p bytes pass h =
    notices-known script m (end_notice m.notice_list t).notices
    (passes-known script m p pass
    (changed-known script m (is_client_call_of t) _
    (emptied script (length m.doors) (stage.Returned bytes (objects_passed (table_of m p) pass)) (passed-known (length m.doors) m.tables p pass h.rows))
    h))
    (changed_notices-known (length m.doors) (is_notice_entered_by t) notice.Over m.notice_list.notices h.notices)

pub valid_door : (m : State) (d : ℕ) → is_valid m d ≡ true → IsNumberOf (length m.doors) d
valid_door m d h = by_door (door_of m d) refl h
  where
    by_door : (o : Option Door) → door_of m d ≡ o → is_valid_in o ≡ true → IsNumberOf (length m.doors) d
    by_door None e f = cc
    by_door (Some x) e f = numbered_within m.doors d x e

pub not_missing : {X : Type 0} {o : Option X} → IsSome o → o ≡ None → ⊥
not_missing {X} {o} some none = cc

pub holds_unless : (b : Bool) (other : Option Errno) → (if not b then Some EBADF else other) ≡ None → b ≡ true
holds_unless true other h = refl
holds_unless false other h = cc

-- the door of a descriptor that names one
pub named_door : (script : ScriptValue) (m : State) (p : ℕ) (fd : Fd) → IsKnown script m → is_door (object_at m p fd) ≡ true → IsNumberOf (length m.doors) (door_at m p fd)
named_door script m p fd h door = by_object (object_at m p fd) refl door
  where
    by_object : (o : Option Obj) → object_at m p fd ≡ o → is_door o ≡ true → IsNumberOf (length m.doors) (door_named o)
    by_object (Some (obj.Door d)) e f = h.rows p fd d e
    by_object None e f = absurd (false≢true f)
    by_object (Some (obj.Port n)) e f = absurd (false≢true f)
    by_object (Some (obj.PipeIn n)) e f = absurd (false≢true f)
    by_object (Some (obj.PipeOut n)) e f = absurd (false≢true f)

pub attached-known :
    (script : ScriptValue) (m : State) (path : PathId) (other : Option Errno) → IsKnown script m →
    (if is_none (name_of m path) then Some ENOENT else other) ≡ None →
    IsKnownObject (length m.doors) (Some (obj.Door (door_attached (name_of m path))))
attached-known script m path other h e d f = subst (IsNumberOf (length m.doors)) (ap door_named f) (by_name (name_of m path) refl e)
  where
    by_name :
        (o : Option Name) → name_of m path ≡ o → (if is_none o then Some ENOENT else other) ≡ None →
        IsNumberOf (length m.doors) (door_attached o)
    by_name None g k = absurd (cc k)
    by_name (Some n) g k = All-find (IsKnownName (length m.doors)) (has_path path) m.names n h.names g

-- the second test of fattach(3C)
pub names_door_then :
    (none b : Bool) (other : Option Errno) → (if none then Some EBADF else (if not b then Some EINVAL else other)) ≡ None → b ≡ true
names_door_then none true other h = refl
names_door_then true false other h = absurd (cc h)
names_door_then false false other h = absurd (cc h)

-- what door_info(3C) tells names what is declared
pub info-known :
    (script : ScriptValue) (m : State) (p refs d : ℕ) → IsKnown script m → IsNumberOf (length m.doors) d →
    IsKnownAnswer script p (answer.Info (info_in p refs (door_of m d)))
info-known script m p refs d h here = by_door (door_of m d) refl
  where
    by_target : (y : Door) → IsDeclaredDoor script y → (b : Bool) → IsTarget script (if b then None else Some y.owner)
    by_target y declared true = tt
    by_target y declared false = declared.owner

    by_door : (o : Option Door) → door_of m d ≡ o → IsKnownAnswer script p (answer.Info (info_in p refs o))
    by_door None e = absurd (not_missing (numbered_there m.doors d here.0 here.1) e)
    by_door (Some y) e =
        let declared : IsDeclaredDoor script y = All-at_number (IsDeclaredDoor script) m.doors d y h.doors e
        in (by_target y declared y.owner_ended, entry-declared script y.owner.0 y.entry declared.entry)

-- the door that a thread is bound to, where it is bound to one that is not the lost one
pub bound_door :
    (script : ScriptValue) (m : State) (t : ℕ) (other : Option Errno) → IsKnown script m →
    (if not (is_bound_to_some (bound_of m t)) then Some EBADF else other) ≡ None → IsNumberOf (length m.doors) (unwrap_or (bound_of m t) 0)
bound_door script m t other h e = by_bound (bound_of m t) refl e
  where
    by_lost :
        (d : ℕ) (b : Bool) → bound_of m t ≡ Some d → (d == LOST_DOOR) ≡ b → (if not (not b) then Some EBADF else other) ≡ None →
        IsNumberOf (length m.doors) d
    by_lost d true f lost k = absurd (cc k)
    by_lost d false f some k = h.bindings t d f some

    by_bound :
        (o : Option ℕ) → bound_of m t ≡ o → (if not (is_bound_to_some o) then Some EBADF else other) ≡ None →
        IsNumberOf (length m.doors) (unwrap_or o 0)
    by_bound None f k = absurd (cc k)
    by_bound (Some d) f k = by_lost d (d == LOST_DOOR) f refl k

-- the process of a client, where there is one
pub client-known :
    (script : ScriptValue) (m : State) (t : ℕ) (other : Option Errno) → IsKnown script m → HasOwners script m →
    (if is_none (client_call m t) then Some EINVAL else other) ≡ None → IsProcess script (client_process m (client_call m t))
client-known script m t other h owners e = by_call (client_call m t) refl e
  where
    by_call :
        (o : Option Call) → client_call m t ≡ o → (if is_none o then Some EINVAL else other) ≡ None →
        IsProcess script (client_process m o)
    by_call None g k = absurd (cc k)
    by_call (Some r) g k =
        owners r.caller.0 (All-find (IsKnownCall script (length m.doors)) (is_client_call_of t) m.call_tree.calls r h.calls g).caller

-- the door that a request of a thread of this process makes is of a procedure of it, and a child that it forks is declared
abbrev pub MakesDeclared : ScriptValue → ℕ → Request → Type 0
MakesDeclared script p (request.Create entry cookie attrs) = IsEntryOf script p entry
MakesDeclared script p (request.Fork child) = IsProcess script child.0
MakesDeclared script p r = Unit {0}

pub create-known :
    (script : ScriptValue) (m : State) (p entry cookie : ℕ) (attrs : Attrs) → IsKnown script m → IsProcess script p → IsEntryOf script p entry →
    IsKnownAct script p (create m p entry cookie attrs)
create-known script m p entry cookie attrs h process made =
    record {
      state = with_row-known script n p _ (Some (obj.Door (length m.doors + 1))) (with_door-known script m x h (record { owner = process; entry = made })) new;
      answer = tt;
    }
  where
    x : Door
    x = new_door (length m.doors + 1) p entry cookie attrs

    n : State
    n = record m { doors = m.doors ++ x ∷ [] }

    new : IsKnownObject (length n.doors) (Some (obj.Door (length m.doors + 1)))
    new d f =
        let same : length m.doors + 1 ≡ d = ap door_named f
        in let one : length (m.doors ++ x ∷ []) ≡ length m.doors + 1 = length-append m.doors (x ∷ [])
        in let low : 1 ≤ d = omega arith
        in let high : d ≤ length (m.doors ++ x ∷ []) = omega arith
        in (low, high)

-- the procedure of a door that a process made is one of that process
pub entry-known :
    (script : ScriptValue) (m : State) (p d : ℕ) → IsKnown script m → owner_in (door_of m d) ≡ Some p →
    IsEntryOf script p (entry_of (door_of m d))
entry-known script m p d h owner = by_door (door_of m d) refl owner
  where
    by_door : (o : Option Door) → door_of m d ≡ o → owner_in o ≡ Some p → IsEntryOf script p (entry_of o)
    by_door None e own = cc
    by_door (Some x) e own =
        let same : x.owner.0 ≡ p = cc
        in subst (λ q. IsEntryOf script q x.entry) same (All-at_number (IsDeclaredDoor script) m.doors d x h.doors e).entry

-- what is given to a thread is of a door that its process made

pub call-known :
    (script : ScriptValue) (m : State) (t : ℕ) (r : Call) → IsKnown script m → IsConsistent m → Accepts m t r →
    IsEntryOf script (process_of m t) (entry_of (door_of m r.door))
call-known script m t r h consistent given =
    let there : record_of m r.number ≡ Some r = record_found m (is_given_as r.number t) r consistent given.found
    in let here : stage_in (record_of m r.number) ≡ Some (stage.Given (tid t)) = ap stage_in there ∙ ap Some given.stage
    in let owner : owner_in (door_of m (door_in (record_of m r.number))) ≡ Some (process_of m t) = consistent.coherent.at_doors.given_owner r.number t here
    in entry-known script m (process_of m t) r.door h (ap (λ o. owner_in (door_of m (door_in o))) (sym there) ∙ owner)

pub notice-known :
    (script : ScriptValue) (m : State) (t : ℕ) (n : Notice) → IsKnown script m → IsConsistent m → AcceptsNotice m t n →
    IsEntryOf script (process_of m t) (entry_of (door_of m n.door))
notice-known script m t n h consistent given =
    let there : notice_of m n.number ≡ Some n = notice_found m (is_given_notice_as n.number t) n consistent given.found
    in let here : notice_in (notice_of m n.number) ≡ Some (notice.Given (tid t)) = ap notice_in there ∙ ap Some given.stage
    in let owner : owner_in (door_of m (noticed_door_in (notice_of m n.number))) ≡ Some (process_of m t) = consistent.coherent.notices_at_doors.notice_given_owner n.number t here
    in entry-known script m (process_of m t) n.door h (ap (λ o. owner_in (door_of m (noticed_door_in o))) (sym there) ∙ owner)

pub collect-known : (script : ScriptValue) (m : State) (t p c : ℕ) → IsKnown script m → IsKnownAct script p (collect m t p c)
collect-known script m t p c h =
    record {
      state =
          by_room (objects_collected_in (find_call m (is_to_collect_as c))) (found (find_call m (is_to_collect_as c)) refl)
          (has_room m p (objects_collected_in (find_call m (is_to_collect_as c))));
      answer = by_call (find_call m (is_to_collect_as c));
    }
  where
    next : AreKnown script m.doors (collect_call m.call_tree c (now m)).calls m.tables m.names m.bindings m.notice_list.notices
    next = changed-known script m (is_to_collect_as c) _ (emptied script (length m.doors) (stage.Answered (now m)) tt) h

    by_room :
        (objects : List Obj) → AreKnownInTransit (length m.doors) objects → (b : Bool) →
        AreKnown script m.doors (collect_call m.call_tree c (now m)).calls (if b then tables_with m p objects else m.tables) m.names m.bindings m.notice_list.notices
    by_room objects all true = installs-known script m p objects all next
    by_room objects all false = next

    brought : (s : CallStage) → AreKnownResults (length m.doors) s → AreKnownInTransit (length m.doors) (objects_collected s)
    brought (stage.Returned bytes objects) known = known
    brought stage.Queued known = All-nil (IsKnownInTransit (length m.doors))
    brought (stage.Given u) known = All-nil (IsKnownInTransit (length m.doors))
    brought (stage.Entered u) known = All-nil (IsKnownInTransit (length m.doors))
    brought (stage.Ended e) known = All-nil (IsKnownInTransit (length m.doors))
    brought (stage.Answered k) known = All-nil (IsKnownInTransit (length m.doors))
    brought stage.Gone known = All-nil (IsKnownInTransit (length m.doors))

    found : (o : Option Call) → find_call m (is_to_collect_as c) ≡ o → AreKnownInTransit (length m.doors) (objects_collected_in o)
    found None e = All-nil (IsKnownInTransit (length m.doors))
    found (Some r) e =
        brought r.stage (All-find (IsKnownCall script (length m.doors)) (is_to_collect_as c) m.call_tree.calls r h.calls e).results

    results : (r : Call) (bytes : List ℕ) (objects : List Obj) → IsKnownAnswer script p (results_answer m p r bytes objects)
    results r bytes objects = go (has_room m p objects)
      where
        go :
            (b : Bool) →
            IsKnownAnswer script p
            (if b then answer.Results bytes (new_descriptors (table_of m p) objects) (nat_lt r.rsize (length bytes)) else answer.Failure EMFILE)
        go true = tt
        go false = tt

    at : (r : Call) (s : CallStage) → IsKnownAnswer script p (collect_answer m p r s)
    at r (stage.Returned bytes objects) = results r bytes objects
    at r (stage.Ended e) = tt
    at r _ = tt

    by_call : (o : Option Call) → IsKnownAnswer script p (collect_answer_in m p o)
    by_call None = tt
    by_call (Some r) = at r r.stage
