-- The tables after an event: what an accept and a collect install, and what a Call and a Return release. What the kernel does after
-- an act leaves tables as they are.
use Rattle.std.specs.Prelude.{ℕ, ◌≡◌, ◌≤◌, ◌&&◌, ◌||◌, List, [], ◌∷◌, Option, Bool, true, false, if◌then◌else◌, Some, None, is_some, length, map, nat_lt, slice_get}
use Rattle.std.specs.List.{list_any}
use Rattle.std.proofs.Common.{refl, sym, ap, ◌∙◌}
use native.Mathlib.Omega.{arith}
use Rattle.std.proofs.lemmas.Bool.Decides.{nat_tests}
use Rattle.spec_records.proofs.NumberedLists.{find-as}
use Rattle.spec_kernel.specs.Types.{Answer, Call, CallStage, Errno, Fd, Notice, Obj, Pass, Request, ThreadState}
use Rattle.dk_base.specs.declared.error.Errno.TheVariants.{E2BIG, EINVAL, EMFILE}
use Rattle.dk_base.specs.declared.limits.TheConstants.{DATA_MAX, PASS_MAX}
use Rattle.dk_base.specs.declared.object.Item.TheVariants as item
use Rattle.dk_base.specs.declared.request.Request.TheVariants as request
use Rattle.dk_base.specs.declared.answer.Answer.TheVariants as answer
use Rattle.spec_records.specs.declared.record.ThreadState.TheVariants as is
use Rattle.spec_records.specs.declared.record.CallStage.TheVariants as stage
use Rattle.spec_records.specs.Words.{call_number, free_rows, insert_rows, is_bad_pass, is_given_as, is_given_notice_as, is_not_open, is_to_collect_as, limit_tests, new_descriptors, object_in, object_named, objects_passed, refused_where, release_rows, table_in, tid, with_table}
use Rattle.spec_kernel.specs.Words.{State, accept_call, accept_notice, act, begin_call, client_call, collect_answer, collect_answer_in, door_named, door_of, effect, fail_begin, find_call, find_notice, go_on, has_room, object_at, objects_collected, objects_collected_in, pool_tests, process_of, refusal_of, return, return_parked, return_unbound, has_invalid_door, state_of, step, table_of, tables_after_collect, tables_after_pass, tables_with, unless_refused}
use Rattle.spec_kernel.proofs.Refusals.{not_held}
use Rattle.spec_kernel.proofs.Settling.{tables-settle}
use Rattle.law_states.specs.Records.{record_of}
use Rattle.law_states.specs.Arrows.{has_own_room, own_table}
use Rattle.law_places.specs.Counts.{free_below}
use Rattle.law_runs.specs.NoLoss.{is_descriptor, is_release_of}
use Rattle.law_runs.proofs.Installed.{installed_then, named_none, names_new, new_lowest, not_released, others_stay, released_none, released_then, table_elsewhere, table_put_back}
use Rattle.law_places.proofs.Passed.{names_each}
use Rattle.law_places.proofs.Refusals.{entry_tells, none_of}
use Rattle.law_places.proofs.Refusals.FailsIn.{by_test}

-- after an act

-- the end of a wait
pub tables-go_on : (m : State) (t : ℕ) (s : ThreadState) → state_of m t ≡ s → (step m t None).state.tables ≡ (go_on m t (process_of m t) s).state.tables
unfolding step
tables-go_on m t s e =
    tables-settle m (act m t None).state
    ∙ ap (λ z. (go_on m t (process_of m t) z).state.tables) e

-- an entry that is not refused
pub tables-effect :
    (m : State) (t : ℕ) (r : Request) → refusal_of m t (process_of m t) r ≡ None →
    (step m t (Some r)).state.tables ≡ (effect m t (process_of m t) r).state.tables
unfolding step
tables-effect m t r e =
    tables-settle m (act m t (Some r)).state
    ∙ ap (λ o. (unless_refused m o (effect m t (process_of m t) r)).state.tables) e

-- what is installed

given_found :
    (m : State) (t : ℕ) (r : Call) → record_of m r.number ≡ Some r → r.stage ≡ stage.Given (tid t) →
    find_call m (is_given_as r.number t) ≡ Some r
given_found m t r e f =
    find-as call_number (is_given_as r.number t) m.call_tree.calls r.number r (λ y g. grind (arith, nat_tests)) e (grind (arith, nat_tests))

returned_found :
    (m : State) (r : Call) (bytes : List ℕ) (objects : List Obj) → record_of m r.number ≡ Some r → r.stage ≡ stage.Returned bytes objects →
    find_call m (is_to_collect_as r.number) ≡ Some r
returned_found m r bytes objects e f =
    find-as call_number (is_to_collect_as r.number) m.call_tree.calls r.number r (λ y g. grind (arith, nat_tests)) e (grind (arith, nat_tests))

tables-accept :
    (m : State) (t : ℕ) (q : Option Request) (r : Call) → q ≡ None → state_of m t ≡ is.Given (item.Call r.number) →
    record_of m r.number ≡ Some r → r.stage ≡ stage.Given (tid t) → has_own_room m t r.objects ≡ true →
    (step m t q).state.tables ≡ tables_with m (process_of m t) r.objects
tables-accept m t q r e s f g room =
    ap (λ o. (step m t o).state.tables) e
    ∙ tables-go_on m t (is.Given (item.Call r.number)) s
    ∙ ap (λ o. (accept_call m t (process_of m t) r.number o).state.tables) (given_found m t r f g)
    ∙ ap (λ (b : Bool). (if b then begin_call m t (process_of m t) r.number r else fail_begin m t r.number r).state.tables) room

tables-collect :
    (m : State) (t : ℕ) (q : Option Request) (r : Call) (bytes : List ℕ) (objects : List Obj) → q ≡ None →
    state_of m t ≡ is.Calling r.number → record_of m r.number ≡ Some r → r.stage ≡ stage.Returned bytes objects →
    has_own_room m t objects ≡ true → (step m t q).state.tables ≡ tables_with m (process_of m t) objects
tables-collect m t q r bytes objects e s f g room =
    ap (λ o. (step m t o).state.tables) e
    ∙ tables-go_on m t (is.Calling r.number) s
    ∙ ap (λ os. tables_after_collect m (process_of m t) os) collected
    ∙ ap (λ (b : Bool). if b then tables_with m (process_of m t) objects else m.tables) room
  where
    collected : objects_collected_in (find_call m (is_to_collect_as r.number)) ≡ objects
    collected = ap objects_collected_in (returned_found m r bytes objects f g) ∙ grind arith

-- In the table of a process these descriptors were free in state m, and name these objects in state n.
pub record Installs (m n : State) (p : ℕ) (fds : List Fd) (objects : List Obj) : Type 0 where
  pub were_free : map (λ fd. object_at m p fd) fds ≡ map (λ o. None) fds
  pub name_them : map (λ fd. object_at n p fd) fds ≡ map (λ o. Some o) objects
  pub lowest : (a : ℕ) (fd : Fd) → slice_get fds a ≡ Some fd → free_below m p fd ≡ a
  pub others : (fd : Fd) → list_any (is_descriptor fd) fds ≡ false → object_at n p fd ≡ object_at m p fd
  pub elsewhere : (q : ℕ) → (q ≡ p → ⊥) → (fd : Fd) → object_at n q fd ≡ object_at m q fd

-- where a process has another table, the others have theirs
same_elsewhere :
    (m n : State) (p : ℕ) (t : List (Option Obj)) → n.tables ≡ with_table m.tables p t → (q : ℕ) → (q ≡ p → ⊥) → (fd : Fd) →
    object_at n q fd ≡ object_at m q fd
same_elsewhere m n p t e q other fd =
    ap (λ u. object_named u fd) (ap (λ tables. table_in tables q) e ∙ table_elsewhere m.tables p q t other)

pub installs :
    (m n : State) (p : ℕ) (objects : List Obj) → has_room m p objects ≡ true → n.tables ≡ tables_with m p objects →
    Installs m n p (new_descriptors (table_of m p) objects) objects
installs m n p objects room e =
    record {
      were_free = named_none (table_of m p) objects fits;
      name_them = ap (λ t. map (λ fd. object_named t fd) (new_descriptors (table_of m p) objects)) after ∙ names_new (table_of m p) objects fits;
      lowest = λ a fd f. new_lowest (table_of m p) objects a fd fits f;
      others = λ fd f. ap (λ t. object_named t fd) after ∙ ap object_in (others_stay (table_of m p) objects fd f);
      elsewhere = same_elsewhere m n p (insert_rows (table_of m p) objects) e;
    }
  where
    fits : length objects ≤ free_rows (table_of m p)
    fits = grind (arith, nat_tests)

    after : table_of n p ≡ insert_rows (table_of m p) objects
    after = ap (λ tables. table_in tables p) e ∙ installed_then m.tables p objects

pub accept_installs :
    (m : State) (t : ℕ) (q : Option Request) (r : Call) → q ≡ None → state_of m t ≡ is.Given (item.Call r.number) →
    record_of m r.number ≡ Some r → r.stage ≡ stage.Given (tid t) → has_own_room m t r.objects ≡ true →
    Installs m (step m t q).state (process_of m t) (new_descriptors (own_table m t) r.objects) r.objects
accept_installs m t q r e s f g room =
    installs m (step m t q).state (process_of m t) r.objects room (tables-accept m t q r e s f g room)

pub collect_installs :
    (m : State) (t : ℕ) (q : Option Request) (r : Call) (bytes : List ℕ) (objects : List Obj) → q ≡ None →
    state_of m t ≡ is.Calling r.number → record_of m r.number ≡ Some r → r.stage ≡ stage.Returned bytes objects →
    has_own_room m t objects ≡ true →
    Installs m (step m t q).state (process_of m t) (new_descriptors (own_table m t) objects) objects
collect_installs m t q r bytes objects e s f g room =
    installs m (step m t q).state (process_of m t) objects room (tables-collect m t q r bytes objects e s f g room)

-- what brings nothing

-- the end of a wait answers so
pub answers-go_on : (m : State) (t : ℕ) (s : ThreadState) → state_of m t ≡ s → (step m t None).answer ≡ (go_on m t (process_of m t) s).answer
unfolding step
answers-go_on m t s e = ap (λ z. (go_on m t (process_of m t) z).answer) e

failed_call :
    (m : State) (t p c d : ℕ) (o : Option Call) → (accept_call m t p c o).answer ≡ answer.EnterFailed d → (accept_call m t p c o).state.tables ≡ m.tables
failed_call m t p c d None e = refl
failed_call m t p c d (Some r) e = go (has_room m p r.objects) e
  where
    go :
        (b : Bool) → (if b then begin_call m t p c r else fail_begin m t c r).answer ≡ answer.EnterFailed d →
        (if b then begin_call m t p c r else fail_begin m t c r).state.tables ≡ m.tables
    go true f = absurd (cc f)
    go false f = refl

pub failed_accept_keeps :
    (m : State) (t c d : ℕ) (q : Option Request) → q ≡ None → state_of m t ≡ is.Given (item.Call c) →
    (step m t q).answer ≡ answer.EnterFailed d → (p : ℕ) (fd : Fd) → object_at (step m t q).state p fd ≡ object_at m p fd
failed_accept_keeps m t c d q e s a p fd = ap (λ tables. object_named (table_in tables p) fd) same
  where
    answers : (accept_call m t (process_of m t) c (find_call m (is_given_as c t))).answer ≡ answer.EnterFailed d
    answers = sym (answers-go_on m t (is.Given (item.Call c)) s) ∙ sym (ap (λ o. (step m t o).answer) e) ∙ a

    same : (step m t q).state.tables ≡ m.tables
    same =
        ap (λ o. (step m t o).state.tables) e
        ∙ tables-go_on m t (is.Given (item.Call c)) s
        ∙ failed_call m t (process_of m t) c d (find_call m (is_given_as c t)) answers

-- a notice brings nothing
pub notice_accept_keeps :
    (m : State) (t c : ℕ) (q : Option Request) → q ≡ None → state_of m t ≡ is.Given (item.Notice c) → (p : ℕ) (fd : Fd) →
    object_at (step m t q).state p fd ≡ object_at m p fd
notice_accept_keeps m t c q e s p fd =
    ap (λ tables. object_named (table_in tables p) fd)
    (ap (λ o. (step m t o).state.tables) e ∙ tables-go_on m t (is.Given (item.Notice c)) s ∙ go (find_notice m (is_given_notice_as c t)))
  where
    go : (o : Option Notice) → (accept_notice m t c o).state.tables ≡ m.tables
    go None = refl
    go (Some x) = refl

-- with no object the table is put back
pub nothing_installed : (m : State) (p q : ℕ) (fd : Fd) → object_named (table_in (tables_after_collect m p []) q) fd ≡ object_at m q fd
nothing_installed m p q fd =
    ap (λ (b : Bool). object_named (table_in (if b then tables_with m p [] else m.tables) q) fd) room
    ∙ ap (λ t. object_named t fd) (table_put_back m.tables p q)
  where
    room : has_room m p [] ≡ true
    room = grind (arith, nat_tests)

error_stage :
    (m : State) (p : ℕ) (r : Call) (s : CallStage) (x : Errno) → collect_answer m p r s ≡ answer.Failure x → (q : ℕ) (fd : Fd) →
    object_named (table_in (tables_after_collect m p (objects_collected s)) q) fd ≡ object_at m q fd
error_stage m p r (stage.Returned bytes objects) x e q fd = go (has_room m p objects) e
  where
    go :
        (b : Bool) →
        (if b then answer.Results bytes (new_descriptors (table_of m p) objects) (nat_lt r.rsize (length bytes)) else answer.Failure EMFILE) ≡ answer.Failure x →
        object_named (table_in (if b then tables_with m p objects else m.tables) q) fd ≡ object_at m q fd
    go true f = absurd (cc f)
    go false f = refl
error_stage m p r stage.Queued x e q fd = nothing_installed m p q fd
error_stage m p r (stage.Given u) x e q fd = nothing_installed m p q fd
error_stage m p r (stage.Entered u) x e q fd = nothing_installed m p q fd
error_stage m p r (stage.Ended y) x e q fd = nothing_installed m p q fd
error_stage m p r (stage.Answered k) x e q fd = nothing_installed m p q fd
error_stage m p r stage.Gone x e q fd = nothing_installed m p q fd

error_call :
    (m : State) (p : ℕ) (o : Option Call) (x : Errno) → collect_answer_in m p o ≡ answer.Failure x → (q : ℕ) (fd : Fd) →
    object_named (table_in (tables_after_collect m p (objects_collected_in o)) q) fd ≡ object_at m q fd
error_call m p None x e q fd = nothing_installed m p q fd
error_call m p (Some r) x e q fd = error_stage m p r r.stage x e q fd

pub failed_collect_keeps :
    (m : State) (t c : ℕ) (q : Option Request) (x : Errno) → q ≡ None → state_of m t ≡ is.Calling c → (step m t q).answer ≡ answer.Failure x →
    (p : ℕ) (fd : Fd) → object_at (step m t q).state p fd ≡ object_at m p fd
failed_collect_keeps m t c q x e s a p fd =
    ap (λ tables. object_named (table_in tables p) fd) (ap (λ o. (step m t o).state.tables) e ∙ tables-go_on m t (is.Calling c) s)
    ∙ error_call m (process_of m t) (find_call m (is_to_collect_as c)) x answers p fd
  where
    answers : collect_answer_in m (process_of m t) (find_call m (is_to_collect_as c)) ≡ answer.Failure x
    answers = sym (answers-go_on m t (is.Calling c) s) ∙ sym (ap (λ o. (step m t o).answer) e) ∙ a

-- what is released

pub record Releases (m n : State) (p : ℕ) (pass : List Pass) : Type 0 where
  pub released : (fd : Fd) → list_any (is_release_of fd) pass ≡ true → object_at n p fd ≡ None
  pub others : (fd : Fd) → list_any (is_release_of fd) pass ≡ false → object_at n p fd ≡ object_at m p fd
  pub elsewhere : (q : ℕ) → (q ≡ p → ⊥) → (fd : Fd) → object_at n q fd ≡ object_at m q fd

releases : (m n : State) (p : ℕ) (pass : List Pass) → n.tables ≡ tables_after_pass m p pass → Releases m n p pass
releases m n p pass e =
    record {
      released = λ fd f. ap (λ t. object_named t fd) after ∙ released_none (table_of m p) pass fd f;
      others = λ fd f. ap (λ t. object_named t fd) after ∙ not_released (table_of m p) pass fd f;
      elsewhere = same_elsewhere m n p (release_rows (table_of m p) pass) e;
    }
  where
    after : table_of n p ≡ release_rows (table_of m p) pass
    after = ap (λ tables. table_in tables p) e ∙ released_then m.tables p pass

-- an entry that answers no error is not refused

pub not_refused :
    (m : State) (t : ℕ) (q : Option Request) (r : Request) (a : Answer) → q ≡ Some r → (step m t q).answer ≡ a →
    ((e : Errno) → a ≡ answer.Failure e → ⊥) → refusal_of m t (process_of m t) r ≡ None
not_refused m t q r a e f h = none_of _ (λ x g. h x (sym f ∙ (entry_tells m t q r x e).1 (by_test x g)))

-- a Call or a Return that is not refused: what it passes names the objects that go, and what it releases is closed
pub record Passed (m : State) (t : ℕ) (q : Option Request) (pass : List Pass) : Type 0 where
  pub named : map (λ x. object_at m (process_of m t) x.fd) pass ≡ map (λ o. Some o) (objects_passed (own_table m t) pass)
  pub releases : Releases m (step m t q).state (process_of m t) pass

all_open : (t : List (Option Obj)) (pass : List Pass) → is_bad_pass t pass ≡ false → list_any (is_not_open t) pass ≡ false
all_open t pass e = grind arith

pub call_passes :
    (m : State) (t c rsize : ℕ) (q : Option Request) (fd : Fd) (bytes : List ℕ) (pass : List Pass) →
    q ≡ Some (request.Call fd bytes pass rsize) → (step m t q).answer ≡ answer.WaitCall c → Passed m t q pass
call_passes m t c rsize q fd bytes pass e f =
    record {
      named =
          names_each (own_table m t) pass
          (all_open (own_table m t) pass
          (not_held (limit_tests (door_of m door) (length bytes) (length pass)) (refused_where (is_bad_pass (own_table m t) pass) EINVAL) (pool_tests m door) none));
      releases = releases m (step m t q).state (process_of m t) pass (ap (λ o. (step m t o).state.tables) e ∙ tables-effect m t (request.Call fd bytes pass rsize) none);
    }
  where
    door : ℕ
    door = door_named (object_at m (process_of m t) fd)

    none : refusal_of m t (process_of m t) (request.Call fd bytes pass rsize) ≡ None
    none = not_refused m t q (request.Call fd bytes pass rsize) (answer.WaitCall c) e f (λ x g. cc)

tables-return :
    (m : State) (t p : ℕ) (bytes : List ℕ) (pass : List Pass) → (return m t p bytes pass).state.tables ≡ tables_after_pass m p pass
tables-return m t p bytes pass = go (has_invalid_door m t)
  where
    go :
        (b : Bool) →
        (if b then return_unbound m t p bytes pass else return_parked m t p bytes pass).state.tables ≡ tables_after_pass m p pass
    go true = refl
    go false = refl

pub return_passes :
    (m : State) (t : ℕ) (q : Option Request) (bytes : List ℕ) (pass : List Pass) → q ≡ Some (request.Return bytes pass) →
    refusal_of m t (process_of m t) (request.Return bytes pass) ≡ None → Passed m t q pass
return_passes m t q bytes pass e none =
    record {
      named =
          names_each (own_table m t) pass
          (all_open (own_table m t) pass
          (not_held
          (refused_where (is_some (client_call m t) && (nat_lt DATA_MAX (length bytes) || nat_lt PASS_MAX (length pass))) E2BIG ∷ [])
          (refused_where (is_bad_pass (own_table m t) pass) EINVAL) [] none));
      releases = releases m (step m t q).state (process_of m t) pass (ap (λ o. (step m t o).state.tables) e ∙ tables-effect m t (request.Return bytes pass) none ∙ tables-return m t (process_of m t) bytes pass);
    }
