-- The acts of leaving: an interrupt, the end of a thread, the end of a process, and a revocation.
use Rattle.std.specs.Prelude.{ℕ, ◌≡◌, ◌⊎◌, ◌==◌, List, Option, Bool, true, false, if◌then◌else◌, Some, None, length, map, option_map, slice_get}
use Rattle.std.proofs.Common.{refl, sym, ap, subst, ◌∙◌, inl, inr}
use native.Mathlib.Omega.{arith}
use Rattle.std.proofs.lemmas.Bool.Decides.{nat_tests}
use Rattle.std.proofs.lemmas.Option.{slice_get-map}
use Rattle.dk_base.specs.ByNumber.{at_number}
use Rattle.dk_base.specs.declared.answer.Answer.TheVariants as answer
use Rattle.dk_base.specs.declared.request.Request.TheVariants as request
use Rattle.spec_kernel.specs.Types.{Answer, Door, Fd, Obj, Process, Request, Thread}
use Rattle.spec_records.specs.declared.record.ThreadState.TheVariants as is
use Rattle.spec_records.specs.declared.pool.TheConstants.{LOST_DOOR}
use Rattle.spec_records.specs.Words.{Leaving, ProcessTable, change_door, close_row, close_table, end_owner, end_process, ended_process, free_row, interruption, is_live_in, is_unborn_in, left_threads, object_in, object_named, process_end, revocation, revoke_door, revoked_door, table_in, thread_end, tid, with_owner_ended, with_table}
use Rattle.spec_kernel.specs.Words.{ActResult, State, door_at, door_of, interrupt, invocation_of, leave, leave_process, leave_thread, now, process_of, revoke, state_of, table_of}
use Rattle.law_states.specs.Core.{ended_in}
use Rattle.law_states.specs.Coherent.{AreDoors}
use Rattle.law_states.specs.Invariant.{IsConsistent}
use Rattle.law_states.specs.Arrows.{Interrupts}
use Rattle.law_states.specs.Arrows.Interrupts.{asked}
use Rattle.law_states.specs.Events.{DoorArrow, InvocationArrow, IsSameDoor}
use Rattle.law_states.specs.Events.DoorArrow.{none, kept}
use Rattle.spec_kernel.proofs.Doors.{at_number-change_door}
use Rattle.spec_records.proofs.Lists.{at_number-map, at_number-renumbered_there, at_number-with_at_number, length-with_at_number}
use Rattle.law_states.proofs.LeftStates.{MayLeave, left_state, leaving_does, leaving_serves}
use Rattle.law_states.proofs.Acts.{Does, act_result}
use Rattle.law_states.proofs.Consistent.{AreTables, is_awake, own_tables}

-- an act by which threads, callers or doors leave: what it keeps, the arrows of calls and of invocations, and those of doors
pub record Leaves (m : State) (t : ℕ) (q : Option Request) (a : ActResult) : Type 0 where
  pub does : Does m t q a
  pub serves : (u : ℕ) → InvocationArrow m t q a.answer a.state u (invocation_of m u) (invocation_of a.state u)
  pub doors : (d : ℕ) → DoorArrow m t q (door_of m d) (door_of a.state d)

pub same_door : (m : State) (t : ℕ) (q : Option Request) (o : Option Door) → DoorArrow m t q o o
same_door m t q None = none
same_door m t q (Some x) = kept x x (record { number = refl; owner = refl; entry = refl; cookie = refl; attrs = refl })

-- a door that changes in what else it has is the same door
module _ (m : State) (t : ℕ) (q : Option Request) (change : Door → Door) (same : (x : Door) → IsSameDoor x (change x)) where
  door_changes : (o : Option Door) → DoorArrow m t q o (option_map change o)
  door_changes None = none
  door_changes (Some x) = kept x (change x) (same x)

  pub one_door_changes : (e d : ℕ) → DoorArrow m t q (door_of m d) (at_number (change_door m.doors e change) d)
  one_door_changes e d = subst (DoorArrow m t q (door_of m d)) (sym (at_number-change_door m.doors e d change)) (go (d == e) refl)
    where
      go : (b : Bool) → (d == e) ≡ b → DoorArrow m t q (door_of m d) (if b then option_map change (door_of m e) else door_of m d)
      go false f = same_door m t q (door_of m d)
      go true f =
          subst (λ (j : ℕ). DoorArrow m t q (door_of m d) (option_map change (door_of m j))) (grind (arith, nat_tests)) (door_changes (door_of m d))

-- a revoked door is the same door
doors_revoked : (m : State) (t : ℕ) (q : Option Request) (e d : ℕ) → DoorArrow m t q (door_of m d) (at_number (revoke_door m.doors e) d)
doors_revoked m t q e d =
    one_door_changes m t q revoked_door (λ x. record { number = refl; owner = refl; entry = refl; cookie = refl; attrs = refl }) e d

-- and so is a door of a process that ended
doors_ended : (m : State) (t : ℕ) (q : Option Request) (p d : ℕ) → DoorArrow m t q (door_of m d) (at_number (end_owner m.doors p) d)
doors_ended m t q p d =
    subst (DoorArrow m t q (door_of m d)) (sym (at_number-map (with_owner_ended p) m.doors d))
    (door_changes m t q (with_owner_ended p)
    (λ x. record { number = grind arith; owner = grind arith; entry = grind arith; cookie = grind arith; attrs = grind arith })
    (door_of m d))

-- callers or threads leave, and no process or door

without_doors :
    (m : State) (t : ℕ) (q : Option Request) (who : Leaving) → IsConsistent m → ((u : ℕ) → who.interrupts u ≡ true → Interrupts m t q u) →
    ((u : ℕ) → state_of m u ≡ is.Dormant → who.ends u ≡ false) → ((d : ℕ) → who.loses d ≡ false) →
    MayLeave m t q who m.process_table.processes m.tables m.doors
without_doors m t q who h i w k =
    record {
      interrupts = i;
      counted = h.tables;
      no_rows = h.no_rows;
      door_there = λ d. refl;
      door_owner = λ d. refl;
      door_no_cancel = λ d. refl;
      door_private = λ d. refl;
      door_valid = λ d e f. e;
      door_lost = λ d e. absurd (grind (arith, k d));
      are_doors = h.coherent.doors;
      ended = λ u e. inl (h.coherent.processes.ended_done u e);
      unborn = λ u e. (h.coherent.processes.unborn_dormant u e, w u (h.coherent.processes.unborn_dormant u e));
      proc_there = λ p e. e;
    }

pub leaves_without_doors :
    (m : State) (t : ℕ) (q : Option Request) (who : Leaving) (a : Answer) → IsConsistent m →
    ((u : ℕ) → who.interrupts u ≡ true → Interrupts m t q u) → ((u : ℕ) → state_of m u ≡ is.Dormant → who.ends u ≡ false) →
    ((d : ℕ) → who.loses d ≡ false) → Leaves m t q (act_result (leave m who) a)
leaves_without_doors m t q who a h i w k =
    record {
      does = leaving_does m t q who m.process_table.processes m.tables m.doors h may a;
      serves = leaving_serves m t q who m.process_table.processes m.tables m.doors h may a;
      doors = λ d. same_door m t q (door_of m d);
    }
  where
    may : MayLeave m t q who m.process_table.processes m.tables m.doors
    may = without_doors m t q who h i w k

pub interrupt_leaves : (m : State) (t u : ℕ) → IsConsistent m → Leaves m t (Some (request.Interrupt (tid u))) (interrupt m u)
interrupt_leaves m t u h =
    leaves_without_doors m t (Some (request.Interrupt (tid u))) (interruption u) answer.Done h
    (λ v e. let same : u ≡ v = grind (arith, nat_tests) in asked (ap (λ (n : ℕ). Some (request.Interrupt (tid n))) same))
    (λ v e. refl)
    (λ d. refl)

-- a thread that runs ends
pub thread_leaves :
    (m : State) (t : ℕ) (q : Option Request) (u : ℕ) → IsConsistent m → state_of m u ≡ is.Running →
    Leaves m t q (act_result (leave_thread m u) answer.Done)
thread_leaves m t q u h e =
    leaves_without_doors m t q (thread_end u) answer.Done h (λ v f. absurd (grind arith)) (λ v f. no_other v (v == u) refl f) (λ d. refl)
  where
    no_other : (v : ℕ) (b : Bool) → (v == u) ≡ b → state_of m v ≡ is.Dormant → b ≡ false
    no_other v true f g =
        let same : v ≡ u = grind (arith, nat_tests) in
        let both : is.Dormant ≡ is.Running = sym g ∙ ap (λ n. state_of m n) same ∙ e in
        absurd (grind arith)
    no_other v false f g = refl

-- a process ends

-- threads are no part of what ends with a process's record
ends_beside :
    (table : ProcessTable) (threads : List Thread) (p : ℕ) →
    end_process (record table { threads = threads }) p ≡ record { processes = (end_process table p).processes; threads = threads }
ends_beside table threads p = grind arith

ended_processes :
    (table : ProcessTable) (p q : ℕ) →
    at_number (end_process table p).processes q
    ≡ (if q == p then option_map ended_process (at_number table.processes p) else at_number table.processes q)
ended_processes table p q =
    let renumbered = λ (x : Process) (e : at_number table.processes p ≡ Some x). at_number-renumbered_there table.processes p q (ended_process x) x e in
    grind (arith, nat_tests, renumbered)

ended_processes-length : (table : ProcessTable) (p : ℕ) → length (end_process table p).processes ≡ length table.processes
ended_processes-length table p = grind (arith, length-with_at_number table.processes p)

-- a closed table has no row
closed_row : (rows : List (Option Obj)) (i : ℕ) → object_in (slice_get (map free_row rows) i) ≡ None
closed_row rows i = grind (arith, slice_get-map free_row rows i)

module _ (m : State) (t : ℕ) (q : Option Request) (p : ℕ) (h : IsConsistent m) where
  abbrev who_ends : Leaving
  who_ends = process_end m.process_table m.doors p

  abbrev processes_left : List Process
  processes_left = (end_process m.process_table p).processes

  abbrev tables_left : List (List (Option Obj))
  tables_left = with_table m.tables p (close_table (table_of m p))

  process_at : (i : ℕ) → at_number processes_left i ≡ (if i == p then option_map ended_process (at_number m.process_table.processes p) else at_number m.process_table.processes i)
  process_at i = ended_processes m.process_table p i

  no_rows_left : (i : ℕ) (fd : Fd) → is_live_in (at_number processes_left i) ≡ false → object_named (table_in tables_left i) fd ≡ None
  no_rows_left i fd e =
      grind (arith, nat_tests, at_number-with_at_number m.tables p i (close_table (table_of m p)), closed_row (table_of m p) fd.0, process_at i, h.no_rows i fd)

  door_left : (d : ℕ) → at_number (end_owner m.doors p) d ≡ option_map (with_owner_ended p) (door_of m d)
  door_left d = at_number-map (with_owner_ended p) m.doors d

  doors_left : AreDoors (λ d. at_number (end_owner m.doors p) d) (λ i. at_number processes_left i)
  doors_left =
      record {
        none_lost = door_left LOST_DOOR ∙ ap (option_map (with_owner_ended p)) h.coherent.doors.none_lost;
        door_number = λ d x e. grind (arith, nat_tests, door_left d, h.coherent.doors.door_number d);
        owner_ended = λ d x e. grind (arith, nat_tests, door_left d, h.coherent.doors.owner_ended d, process_at x.owner.0);
        owner_begun = λ d x e. grind (arith, nat_tests, door_left d, h.coherent.doors.owner_begun d, process_at x.owner.0);
      }

  threads_ended : (u : ℕ) → ended_in (at_number processes_left (process_of m u)) ≡ true → (state_of m u ≡ is.Done) ⊎ (who_ends.ends u ≡ true)
  threads_ended u e = go (process_of m u == p) refl
    where
      go : (b : Bool) → (process_of m u == p) ≡ b → (state_of m u ≡ is.Done) ⊎ (who_ends.ends u ≡ true)
      go true f = inr f
      go false f = inl (h.coherent.processes.ended_done u (grind (arith, process_at (process_of m u))))

  threads_unborn :
      (u : ℕ) → is_unborn_in (at_number processes_left (process_of m u)) ≡ true → (state_of m u ≡ is.Dormant) × (who_ends.ends u ≡ false)
  threads_unborn u e = go (process_of m u == p) refl
    where
      go : (b : Bool) → (process_of m u == p) ≡ b → (state_of m u ≡ is.Dormant) × (b ≡ false)
      go true f = absurd (grind (arith, process_at (process_of m u)))
      go false f = (h.coherent.processes.unborn_dormant u (grind (arith, process_at (process_of m u))), refl)

  may_end : MayLeave m t q who_ends processes_left tables_left (end_owner m.doors p)
  may_end =
      record {
        interrupts = λ u e. absurd (grind arith);
        counted = length-with_at_number m.tables p (close_table (table_of m p)) ∙ h.tables ∙ sym (ended_processes-length m.process_table p);
        no_rows = no_rows_left;
        door_there = λ d. grind (arith, door_left d);
        door_owner = λ d. grind (arith, door_left d);
        door_no_cancel = λ d. grind (arith, door_left d);
        door_private = λ d. grind (arith, door_left d);
        door_valid = λ d e f. grind (arith, nat_tests, door_left d);
        door_lost = λ d e. grind (arith, nat_tests, door_left d);
        are_doors = doors_left;
        ended = threads_ended;
        unborn = threads_unborn;
        proc_there = λ i e. grind (arith, nat_tests, process_at i);
      }

  ends_as : left_state m who_ends processes_left tables_left (end_owner m.doors p) ≡ leave_process m p
  ends_as =
      ap (λ (table : ProcessTable). record (leave m who_ends) { process_table = table; tables = tables_left; doors = end_owner m.doors p })
      (sym (ends_beside m.process_table (left_threads who_ends (now m) m.call_tree.calls m.process_table).threads p))

  pub process_leaves : Leaves m t q (act_result (leave_process m p) answer.Done)
  process_leaves =
      subst (λ n. Leaves m t q (act_result n answer.Done)) ends_as
      (record {
        does = leaving_does m t q who_ends processes_left tables_left (end_owner m.doors p) h may_end answer.Done;
        serves = leaving_serves m t q who_ends processes_left tables_left (end_owner m.doors p) h may_end answer.Done;
        doors = doors_ended m t q p;
      })

-- a door is revoked

module _ (m : State) (t : ℕ) (q : Option Request) (fd : Fd) (h : IsConsistent m) (e : state_of m t ≡ is.Running) where
  abbrev lost_door : ℕ
  lost_door = door_at m (process_of m t) fd

  abbrev tables_revoked : List (List (Option Obj))
  tables_revoked = with_table m.tables (process_of m t) (close_row (table_of m (process_of m t)) fd.0)

  rows_revoked : AreTables m tables_revoked
  rows_revoked = own_tables m t (close_row (table_of m (process_of m t)) fd.0) h (ap is_awake e)

  door_revoked : (d : ℕ) → at_number (revoke_door m.doors lost_door) d ≡ (if d == lost_door then option_map revoked_door (door_of m lost_door) else door_of m d)
  door_revoked d = at_number-change_door m.doors lost_door d revoked_door

  doors_after : AreDoors (λ d. at_number (revoke_door m.doors lost_door) d) (λ i. at_number m.process_table.processes i)
  doors_after =
      record {
        none_lost = grind (arith, nat_tests, door_revoked LOST_DOOR, h.coherent.doors.none_lost);
        door_number = λ d x i. grind (arith, nat_tests, door_revoked d, h.coherent.doors.door_number d);
        owner_ended = λ d x i. grind (arith, nat_tests, door_revoked d, h.coherent.doors.owner_ended d);
        owner_begun = λ d x i. grind (arith, nat_tests, door_revoked d, h.coherent.doors.owner_begun d);
      }

  may_revoke : MayLeave m t q (revocation lost_door) m.process_table.processes tables_revoked (revoke_door m.doors lost_door)
  may_revoke =
      record {
        interrupts = λ u i. absurd (grind arith);
        counted = rows_revoked.counted;
        no_rows = rows_revoked.no_rows;
        door_there = λ d. grind (arith, nat_tests, door_revoked d);
        door_owner = λ d. grind (arith, nat_tests, door_revoked d);
        door_no_cancel = λ d. grind (arith, nat_tests, door_revoked d);
        door_private = λ d. grind (arith, nat_tests, door_revoked d);
        door_valid = λ d i j. grind (arith, nat_tests, door_revoked d);
        door_lost = λ d i. grind (arith, nat_tests, door_revoked d);
        are_doors = doors_after;
        ended = λ u i. inl (h.coherent.processes.ended_done u i);
        unborn = λ u i. (h.coherent.processes.unborn_dormant u i, refl);
        proc_there = λ p i. i;
      }

  pub revoke_leaves : Leaves m t q (revoke m (process_of m t) fd)
  revoke_leaves =
      record {
        does = leaving_does m t q (revocation lost_door) m.process_table.processes tables_revoked (revoke_door m.doors lost_door) h may_revoke answer.Done;
        serves = leaving_serves m t q (revocation lost_door) m.process_table.processes tables_revoked (revoke_door m.doors lost_door) h may_revoke answer.Done;
        doors = doors_revoked m t q lost_door;
      }
