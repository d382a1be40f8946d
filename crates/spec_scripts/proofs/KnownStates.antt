-- What the doors, calls, tables, names, bindings and notices of a state name is declared, or was made; what each change of them keeps.
use Rattle.std.proofs.Common.{◌≡◌, ℕ, ◌+◌, ◌≤◌, ◌==◌, List, [], ◌∷◌, ◌++◌, Option, Some, None, Bool, true, false, if◌then◌else◌, inl, inr, is_some, length, arith, refl, sym, subst, length-append}
use Rattle.std.specs.Prelude.{All}
use Rattle.std.proofs.lemmas.Bool.{false≢true}
use Rattle.std.proofs.lemmas.List.{length-map}
use Rattle.std.proofs.lemmas.Option.{slice_get_within}
use Rattle.std.proofs.lemmas.List.Elements.{All-nil, All-cons, All-head, All-tail, All-push, All-weaker, All-map}
use Rattle.spec_kernel.specs.Types.{Answer, Call, CallStage, Door, Name, Notice, Obj, Param, Pass}
use Rattle.dk_base.specs.declared.answer.Answer.TheVariants as answer
use Rattle.dk_base.specs.declared.request.Param.TheVariants as param
use Rattle.spec_records.specs.declared.record.CallStage.TheVariants as stage
use Rattle.dk_base.specs.ByNumber.{with_at_number}
use Rattle.spec_records.specs.declared.pool.TheConstants.{LOST_DOOR}
use Rattle.spec_records.specs.Words.{Leaving, abandoned_at, at_stage, change_door, change_door_in, change_first, close_table, end_owner, first_place, forking, left_call, process_end, set_param, unbind_thread, with_owner_ended, with_param, with_row, with_table, without_arguments_at}
use Rattle.spec_kernel.specs.Words.{ActResult, State, bound_of, door_of, fork, leave, leave_process, process_of, table_of, tables_after_pass, tables_with, with_table_of}
use Rattle.spec_kernel.specs.Leaving.{bind_first}
use Rattle.spec_kernel.proofs.CallLists.{IsOver, left_call-over}
use Rattle.spec_records.proofs.Lists.{length-with_at_number}
use Rattle.script_lang.specs.Words.{ScriptValue}
use Rattle.spec_requests.specs.DeclaredNames.{IsTarget}
use Rattle.spec_requests.specs.Words.{IsDeclaredAnswer, IsEntry, IsEntryOf, IsNumberOf, IsProcess, IsThread}
use Rattle.spec_requests.proofs.Elements.{All-at_number}
use Rattle.spec_scripts.specs.DeclaredRuns.{IsDeclaredDoor}
use Rattle.spec_scripts.proofs.DeclaredObjects.{All-with_at_number, AreKnownBindings, AreKnownInTransit, AreKnownNames, AreKnownNotices, AreKnownResults, AreKnownRows, IsKnownInTransit, IsKnownName, IsKnownNotice, IsKnownBinding, IsKnownObject, binding-known, closed-known, inserted-known, left_notices-known, released-known, row-known, table-known}

-- a call's caller is declared, and its door and the doors that it takes along or brings back were made
pub record IsKnownCall (script : ScriptValue) (made : ℕ) (r : Call) : Type 0 where
  pub caller : IsThread script r.caller.0
  pub door : IsNumberOf made r.door
  pub objects : AreKnownInTransit made r.objects
  pub results : AreKnownResults made r.stage

abbrev pub AreKnownCalls : ScriptValue → ℕ → List Call → Type 0
AreKnownCalls script made rs = All (IsKnownCall script made) rs

pub record AreKnown (script : ScriptValue) (ds : List Door) (rs : List Call) (ts : List (List (Option Obj))) (ns : List Name) (bs : List (Option ℕ)) (xs : List Notice) : Type 0 where
  pub doors : All (IsDeclaredDoor script) ds
  pub calls : AreKnownCalls script (length ds) rs
  -- descriptors, names, bindings and notices are of doors that were made
  pub rows : AreKnownRows (length ds) ts
  pub names : AreKnownNames (length ds) ns
  pub bindings : AreKnownBindings (length ds) bs
  pub notices : AreKnownNotices (length ds) xs

-- no other part of a state matters, so a change of another part keeps this as it is
abbrev pub IsKnown : ScriptValue → State → Type 0
IsKnown script m = AreKnown script m.doors m.call_tree.calls m.tables m.names m.bindings m.notice_list.notices

-- threads are of declared processes
abbrev pub HasOwners : ScriptValue → State → Type 0
HasOwners script m = (u : ℕ) → IsThread script u → IsProcess script (process_of m u)

-- what an answer to a thread of this process names is declared; a procedure that is entered is one of the process
abbrev pub IsKnownAnswer : ScriptValue → ℕ → Answer → Type 0
IsKnownAnswer script p (answer.Info info) = IsTarget script info.target × IsEntry script info.entry
IsKnownAnswer script p (answer.Client process) = IsProcess script process.0
IsKnownAnswer script p (answer.Child process) = IsProcess script process.0
IsKnownAnswer script p (answer.Entered call entry cookie bytes fds) = IsEntryOf script p entry
IsKnownAnswer script p (answer.EnteredNotice notice entry cookie) = IsEntryOf script p entry
IsKnownAnswer script p a = Unit {0}

pub entry-declared : (script : ScriptValue) (p entry : ℕ) → IsEntryOf script p entry → IsEntry script entry
entry-declared script p entry h = slice_get_within script.procedures entry h.procedure h.there

pub answer-declared : (script : ScriptValue) (p : ℕ) (a : Answer) → IsKnownAnswer script p a → IsDeclaredAnswer script a
answer-declared script p (answer.Info info) h = h
answer-declared script p (answer.Client process) h = h
answer-declared script p (answer.Child process) h = h
answer-declared script p (answer.Entered call entry cookie bytes fds) h = entry-declared script p entry h
answer-declared script p (answer.EnteredNotice notice entry cookie) h = entry-declared script p entry h
answer-declared script p a h = tt

-- what an act of a thread of this process leaves and answers
pub record IsKnownAct (script : ScriptValue) (p : ℕ) (a : ActResult) : Type 0 where
  pub state : IsKnown script a.state
  pub answer : IsKnownAnswer script p a.answer

-- changes of the calls

-- another stage keeps the caller and the door
pub staged :
    (script : ScriptValue) (made : ℕ) (s : CallStage) → AreKnownResults made s → (r : Call) → IsKnownCall script made r →
    IsKnownCall script made (at_stage s r)
staged script made s results r h = record { caller = h.caller; door = h.door; objects = h.objects; results = results }

pub emptied :
    (script : ScriptValue) (made : ℕ) (s : CallStage) → AreKnownResults made s → (r : Call) → IsKnownCall script made r →
    IsKnownCall script made (without_arguments_at s r)
emptied script made s results r h =
    record { caller = h.caller; door = h.door; objects = All-nil (IsKnownInTransit made); results = results }

pub changed_calls :
    (script : ScriptValue) (made : ℕ) (test : Call → Bool) (change : Call → Call) →
    ((r : Call) → IsKnownCall script made r → IsKnownCall script made (change r)) → (rs : List Call) →
    AreKnownCalls script made rs → AreKnownCalls script made (change_first test change rs)
changed_calls script made test change keeps [] all = all
changed_calls script made test change keeps (r ∷ rs) all =
    by_test (changed_calls script made test change keeps rs (All-tail (IsKnownCall script made) r rs all)) (test r)
  where
    by_test :
        AreKnownCalls script made (change_first test change rs) → (b : Bool) →
        AreKnownCalls script made (if b then change r ∷ rs else r ∷ change_first test change rs)
    by_test rest true =
        All-cons (IsKnownCall script made) (change r) rs
        (keeps r (All-head (IsKnownCall script made) r rs all))
        (All-tail (IsKnownCall script made) r rs all)
    by_test rest false =
        All-cons (IsKnownCall script made) r (change_first test change rs) (All-head (IsKnownCall script made) r rs all) rest

pub changed-known :
    (script : ScriptValue) (m : State) (test : Call → Bool) (change : Call → Call) →
    ((r : Call) → IsKnownCall script (length m.doors) r → IsKnownCall script (length m.doors) (change r)) →
    IsKnown script m → AreKnown script m.doors (change_first test change m.call_tree.calls) m.tables m.names m.bindings m.notice_list.notices
changed-known script m test change keeps h =
    record {
      doors = h.doors;
      calls = changed_calls script (length m.doors) test change keeps m.call_tree.calls h.calls;
      rows = h.rows;
      names = h.names;
      bindings = h.bindings;
      notices = h.notices;
    }

pub opened-known :
    (script : ScriptValue) (m : State) (r : Call) → IsKnown script m → IsKnownCall script (length m.doors) r →
    AreKnown script m.doors (m.call_tree.calls ++ r ∷ []) m.tables m.names m.bindings m.notice_list.notices
opened-known script m r h here =
    record {
      doors = h.doors;
      calls = All-push (IsKnownCall script (length m.doors)) m.call_tree.calls r h.calls here;
      rows = h.rows;
      names = h.names;
      bindings = h.bindings;
      notices = h.notices;
    }

-- changes of the doors

pub with_door-known :
    (script : ScriptValue) (m : State) (d : Door) → IsKnown script m → IsDeclaredDoor script d →
    AreKnown script (m.doors ++ d ∷ []) m.call_tree.calls m.tables m.names m.bindings m.notice_list.notices
with_door-known script m d h here =
    let one : length (m.doors ++ d ∷ []) ≡ length m.doors + 1 = simp length-append refl
    in record {
      doors = All-push (IsDeclaredDoor script) m.doors d h.doors here;
      calls =
          All-weaker
          (IsKnownCall script (length m.doors))
          (IsKnownCall script (length (m.doors ++ d ∷ [])))
          (λ r known. record { caller = known.caller; door = more r.door known.door one; objects = more_objects r.objects known.objects one; results = more_results r.stage known.results one })
          m.call_tree.calls
          h.calls;
      rows = λ p fd n e. more n (h.rows p fd n e) one;
      names =
          All-weaker
          (IsKnownName (length m.doors))
          (IsKnownName (length (m.doors ++ d ∷ [])))
          (λ n known. more n.door known one)
          m.names
          h.names;
      bindings = λ t n e some. more n (h.bindings t n e some) one;
      notices =
          All-weaker
          (IsKnownNotice (length m.doors))
          (IsKnownNotice (length (m.doors ++ d ∷ [])))
          (λ x known. more x.door known one)
          m.notice_list.notices
          h.notices;
    }
  where
    more :
        (n : ℕ) → IsNumberOf (length m.doors) n → length (m.doors ++ d ∷ []) ≡ length m.doors + 1 →
        IsNumberOf (length (m.doors ++ d ∷ [])) n
    more n known one =
        let low : 1 ≤ n = known.0
        in let high : n ≤ length m.doors = known.1
        in let up : n ≤ length (m.doors ++ d ∷ []) = omega arith
        in (low, up)

    more_objects :
        (objects : List Obj) → AreKnownInTransit (length m.doors) objects → length (m.doors ++ d ∷ []) ≡ length m.doors + 1 →
        AreKnownInTransit (length (m.doors ++ d ∷ [])) objects
    more_objects objects known one =
        All-weaker (IsKnownInTransit (length m.doors)) (IsKnownInTransit (length (m.doors ++ d ∷ []))) (λ o h n e. more n (h n e) one) objects known

    more_results :
        (s : CallStage) → AreKnownResults (length m.doors) s → length (m.doors ++ d ∷ []) ≡ length m.doors + 1 →
        AreKnownResults (length (m.doors ++ d ∷ [])) s
    more_results (stage.Returned bytes objects) known one = more_objects objects known one
    more_results stage.Queued known one = tt
    more_results (stage.Given u) known one = tt
    more_results (stage.Entered u) known one = tt
    more_results (stage.Ended e) known one = tt
    more_results (stage.Answered k) known one = tt
    more_results stage.Gone known one = tt

-- the parameters of a door

pub with_param-declared :
    (script : ScriptValue) (x : Param) (value : ℕ) (d : Door) → IsDeclaredDoor script d → IsDeclaredDoor script (with_param x value d)
with_param-declared script param.DataMax value d h = record { owner = h.owner; entry = h.entry }
with_param-declared script param.DataMin value d h = record { owner = h.owner; entry = h.entry }
with_param-declared script param.DescMax value d h = record { owner = h.owner; entry = h.entry }

-- another list of as many doors
pub redoored-known :
    (script : ScriptValue) (ds es : List Door) {rs : List Call} {ts : List (List (Option Obj))} {ns : List Name} {bs : List (Option ℕ)} {xs : List Notice} →
    length ds ≡ length es → All (IsDeclaredDoor script) es → AreKnown script ds rs ts ns bs xs → AreKnown script es rs ts ns bs xs
redoored-known script ds es {rs} {ts} {ns} {bs} {xs} same doors h =
    record {
      doors = doors;
      calls = subst (λ (n : ℕ). AreKnownCalls script n rs) same h.calls;
      rows = subst (λ (n : ℕ). AreKnownRows n ts) same h.rows;
      names = subst (λ (n : ℕ). AreKnownNames n ns) same h.names;
      bindings = subst (λ (n : ℕ). AreKnownBindings n bs) same h.bindings;
      notices = subst (λ (n : ℕ). AreKnownNotices n xs) same h.notices;
    }

-- a door becomes another
pub change_door-known :
    (script : ScriptValue) (m : State) (d : ℕ) (change : Door → Door) → ((y : Door) → IsDeclaredDoor script y → IsDeclaredDoor script (change y)) →
    IsKnown script m → AreKnown script (change_door m.doors d change) m.call_tree.calls m.tables m.names m.bindings m.notice_list.notices
change_door-known script m d change keeps h = by_door (door_of m d) refl
  where
    by_door :
        (o : Option Door) → door_of m d ≡ o →
        AreKnown script (change_door_in m.doors d change o) m.call_tree.calls m.tables m.names m.bindings m.notice_list.notices
    by_door None e = h
    by_door (Some y) e =
        redoored-known script m.doors (with_at_number m.doors d (change y))
        (sym (length-with_at_number m.doors d (change y)))
        (All-with_at_number (IsDeclaredDoor script) m.doors d (change y)
        (keeps y (All-at_number (IsDeclaredDoor script) m.doors d y h.doors e))
        h.doors)
        h

pub set_param-known :
    (script : ScriptValue) (m : State) (d : ℕ) (x : Param) (value : ℕ) → IsKnown script m →
    AreKnown script (set_param m.doors d x value) m.call_tree.calls m.tables m.names m.bindings m.notice_list.notices
set_param-known script m d x value h = change_door-known script m d (with_param x value) (with_param-declared script x value) h

pub ended_door : (script : ScriptValue) (p : ℕ) (d : Door) → IsDeclaredDoor script d → IsDeclaredDoor script (with_owner_ended p d)
ended_door script p d h = by_test (d.owner.0 == p)
  where
    by_test : (b : Bool) → IsDeclaredDoor script (if b then record d { owner_ended = true } else d)
    by_test true = record { owner = h.owner; entry = h.entry }
    by_test false = h

pub ended_doors : (script : ScriptValue) (p : ℕ) (ds : List Door) → All (IsDeclaredDoor script) ds → All (IsDeclaredDoor script) (end_owner ds p)
ended_doors script p ds all =
    All-map
    (IsDeclaredDoor script)
    (with_owner_ended p)
    ds
    (All-weaker
    (IsDeclaredDoor script)
    (λ d. IsDeclaredDoor script (with_owner_ended p d))
    (λ d declared. ended_door script p d declared)
    ds
    all)

pub tables-known :
    (script : ScriptValue) (m : State) {rs : List Call} {xs : List Notice} (tables : List (List (Option Obj))) →
    AreKnown script m.doors rs m.tables m.names m.bindings xs → AreKnownRows (length m.doors) tables →
    AreKnown script m.doors rs tables m.names m.bindings xs
tables-known script m tables h here = record { doors = h.doors; calls = h.calls; rows = here; names = h.names; bindings = h.bindings; notices = h.notices }

-- leaving

-- a call that is over brings nothing back
pub over_results : (made : ℕ) (s : CallStage) → IsOver s → AreKnownResults made s
over_results made s (inl e) = subst (AreKnownResults made) (sym e) tt
over_results made s (inr (x, e)) = subst (AreKnownResults made) (sym e) tt

pub abandoned :
    (script : ScriptValue) (made : ℕ) (s : CallStage) → AreKnownResults made s → (r : Call) → IsKnownCall script made r →
    IsKnownCall script made (abandoned_at s r)
abandoned script made s results r h =
    record { caller = h.caller; door = h.door; objects = All-nil (IsKnownInTransit made); results = results }

pub left_call-known :
    (script : ScriptValue) (made : ℕ) (who : Leaving) (r : Call) → IsKnownCall script made r → IsKnownCall script made (left_call who r)
left_call-known script made who r h =
    left_call-over (IsKnownCall script made) who r h
    (λ s over. emptied script made s (over_results made s over) r h)
    (λ s over. abandoned script made s (over_results made s over) r h)

pub leave-known : (script : ScriptValue) (m : State) (who : Leaving) → IsKnown script m → IsKnown script (leave m who)
leave-known script m who h =
    record {
      doors = h.doors;
      calls =
          All-map
          (IsKnownCall script (length m.doors))
          (left_call who)
          m.call_tree.calls
          (All-weaker
          (IsKnownCall script (length m.doors))
          (λ r. IsKnownCall script (length m.doors) (left_call who r))
          (λ r known. left_call-known script (length m.doors) who r known)
          m.call_tree.calls
          h.calls);
      rows = h.rows;
      names = h.names;
      bindings = h.bindings;
      notices = left_notices-known (length m.doors) who m.notice_list.notices h.notices;
    }

pub leave_process-known : (script : ScriptValue) (m : State) (p : ℕ) → IsKnown script m → IsKnown script (leave_process m p)
leave_process-known script m p h =
    redoored-known script m.doors (end_owner m.doors p)
    (sym (length-map m.doors (with_owner_ended p)))
    (ended_doors script p m.doors h.doors)
    (tables-known script m (with_table m.tables p (close_table (table_of m p)))
    (leave-known script m (process_end m.process_table m.doors p) h)
    (closed-known (length m.doors) m.tables p h.rows))

-- changes of tables and of the names

pub passes-known :
    (script : ScriptValue) (m : State) {rs : List Call} (p : ℕ) (pass : List Pass) → AreKnown script m.doors rs m.tables m.names m.bindings m.notice_list.notices →
    AreKnown script m.doors rs (tables_after_pass m p pass) m.names m.bindings m.notice_list.notices
passes-known script m p pass h = tables-known script m (tables_after_pass m p pass) h (released-known (length m.doors) m.tables p pass h.rows)

pub installs-known :
    (script : ScriptValue) (m : State) {rs : List Call} (p : ℕ) (objects : List Obj) → AreKnownInTransit (length m.doors) objects →
    AreKnown script m.doors rs m.tables m.names m.bindings m.notice_list.notices → AreKnown script m.doors rs (tables_with m p objects) m.names m.bindings m.notice_list.notices
installs-known script m p objects all h = tables-known script m (tables_with m p objects) h (inserted-known (length m.doors) m.tables p objects all h.rows)

pub with_row-known :
    (script : ScriptValue) (m : State) (p place : ℕ) (o : Option Obj) → IsKnown script m → IsKnownObject (length m.doors) o →
    IsKnown script (with_table_of m p (with_row (table_of m p) place o))
with_row-known script m p place o h here =
    record { doors = h.doors; calls = h.calls; rows = row-known (length m.doors) m.tables p place o here h.rows; names = h.names; bindings = h.bindings; notices = h.notices }

pub names-known :
    (script : ScriptValue) (m : State) (names : List Name) → IsKnown script m → AreKnownNames (length m.doors) names →
    AreKnown script m.doors m.call_tree.calls m.tables names m.bindings m.notice_list.notices
names-known script m names h here = record { doors = h.doors; calls = h.calls; rows = h.rows; names = here; bindings = h.bindings; notices = h.notices }

-- changes of the bindings and of the notices

pub notices-known :
    (script : ScriptValue) (m : State) {rs : List Call} {ts : List (List (Option Obj))} (notices : List Notice) →
    AreKnown script m.doors rs ts m.names m.bindings m.notice_list.notices → AreKnownNotices (length m.doors) notices →
    AreKnown script m.doors rs ts m.names m.bindings notices
notices-known script m notices h here =
    record { doors = h.doors; calls = h.calls; rows = h.rows; names = h.names; bindings = h.bindings; notices = here }

pub bindings-known :
    (script : ScriptValue) (m : State) (bindings : List (Option ℕ)) → IsKnown script m → AreKnownBindings (length m.doors) bindings →
    AreKnown script m.doors m.call_tree.calls m.tables m.names bindings m.notice_list.notices
bindings-known script m bindings h here =
    record { doors = h.doors; calls = h.calls; rows = h.rows; names = h.names; bindings = here; notices = h.notices }

pub unbound-known :
    (script : ScriptValue) (m : State) (t : ℕ) → IsKnown script m →
    AreKnown script m.doors m.call_tree.calls m.tables m.names (unbind_thread m.bindings t) m.notice_list.notices
unbound-known script m t h =
    bindings-known script m (unbind_thread m.bindings t) h
    (binding-known (length m.doors) m.bindings t None (λ d e some. absurd (cc e)) h.bindings)

-- a child begins with the table of a process, and its first thread may be bound to the lost door

lost-known : (made d : ℕ) → Some LOST_DOOR ≡ Some d → IsKnownBinding made d
lost-known made d e some = let same : LOST_DOOR ≡ d = cc in absurd (false≢true (sym (subst (λ k. (k == LOST_DOOR) ≡ false) (sym same) some)))

bind_first-known : (made : ℕ) (bindings : List (Option ℕ)) (place : Option ℕ) → AreKnownBindings made bindings → AreKnownBindings made (bind_first bindings place)
bind_first-known made bindings None h = h
bind_first-known made bindings (Some place) h = binding-known made bindings (place + 1) (Some LOST_DOOR) (lost-known made) h

pub fork-known : (script : ScriptValue) (m : State) (t p child : ℕ) → IsKnown script m → IsKnown script (fork m t p child).state
fork-known script m t p child h =
    let left : IsKnown script (leave m (forking m.process_table t)) = leave-known script m (forking m.process_table t) h
    in record {
      doors = left.doors;
      calls = left.calls;
      rows = table-known (length m.doors) m.tables child (table_of m p) (h.rows p) h.rows;
      names = left.names;
      bindings = by_bound (is_some (bound_of m t));
      notices = left.notices;
    }
  where
    by_bound :
        (b : Bool) → AreKnownBindings (length m.doors) (if b then bind_first m.bindings (first_place m.process_table child) else m.bindings)
    by_bound true = bind_first-known (length m.doors) m.bindings (first_place m.process_table child) h.bindings
    by_bound false = h.bindings
