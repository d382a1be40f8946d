-- Which changes of a state keep that it is consistent, but for what holds of its core.
use Rattle.std.specs.Prelude.{ℕ, ◌≡◌, ◌≤◌, ◌+◌, List, [], ◌∷◌, ◌++◌, Option, Bool, true, false, Some, None, find, is_some, length}
use Rattle.std.proofs.Common.{refl, sym, ap, subst, true≢false, ◌∙◌, length-append}
use native.Mathlib.Omega.{arith}
use Rattle.std.proofs.lemmas.Bool.Decides.{nat_tests}
use Rattle.dk_base.specs.ByNumber.{at_number}
use Rattle.spec_records.specs.declared.record.ThreadState.TheVariants as is
use Rattle.spec_records.specs.Words.{CallTree, IsCounted, NoticeList, ProcessTable, call_number, change_first, is_live_in, is_unborn_in, notice_at, notice_number, object_named, state_in, table_in, with_table}
use Rattle.spec_records.proofs.Lists.{at_number-with_at_number, length-with_at_number}
use Rattle.spec_records.proofs.NumberedLists.{counted-change_first, counted-push, find-change_first, find-found}
use Rattle.spec_records.proofs.Places.{length-change_first}
use Rattle.spec_kernel.specs.Types.{Call, Door, Fd, Inv, Name, Notice, NoticeStage, Obj, Process, Thread, ThreadState}
use Rattle.spec_kernel.specs.Words.{Channels, State, find_call, find_notice, is_live_process, process_of, state_of, thread_of}
use Rattle.law_states.specs.Records.{has_notice_number, has_number, notice_of}
use Rattle.law_states.specs.Core.{core, ended_in, notice_in, noticed_door_in, number_in}
use Rattle.law_states.specs.Coherent.{IsCoherent}
use Rattle.law_states.specs.Invariant.{IsConsistent}
use Rattle.law_states.proofs.Cores.{IsThere, Turns, act-core, upd}

-- a thread that is not Done is there
pub there : (m : State) (t : ℕ) → (state_of m t ≡ is.Done → ⊥) → IsThere m.process_table t
there m t h = grind (arith, h)

-- rows

-- the tables that an act may leave: one for each process, and no row of one that does not live
pub record AreTables (m : State) (tables : List (List (Option Obj))) : Type 0 where
  pub counted : length tables ≡ length m.process_table.processes
  pub no_rows : (p : ℕ) (fd : Fd) → is_live_process m p ≡ false → object_named (table_in tables p) fd ≡ None

pub same_tables : (m : State) → IsConsistent m → AreTables m m.tables
same_tables m h = record { counted = h.tables; no_rows = h.no_rows }

-- a thread that is not Done is of a process that has not ended
pub not_ended :
    (m : State) (t : ℕ) → IsConsistent m → (state_of m t ≡ is.Done → ⊥) →
    ended_in (at_number m.process_table.processes (process_of m t)) ≡ false
not_ended m t h e = grind (arith, h.coherent.processes.ended_done t, e)

-- one that is not Dormant is of a process that has begun
pub not_unborn :
    (m : State) (t : ℕ) → IsConsistent m → (state_of m t ≡ is.Dormant → ⊥) →
    is_unborn_in (at_number m.process_table.processes (process_of m t)) ≡ false
not_unborn m t h e = grind (arith, h.coherent.processes.unborn_dormant t, e)

-- and one that is neither is of a process that lives

abbrev pub is_awake : ThreadState → Bool
is_awake is.Dormant = false
is_awake is.Done = false
is_awake _ = true

-- a process that is there, has begun and has not ended is live
lives : (o : Option Process) → is_some o ≡ true → ended_in o ≡ false → is_unborn_in o ≡ false → is_live_in o ≡ true
lives o e f g = grind arith

pub awake_lives : (m : State) (t : ℕ) → IsConsistent m → is_awake (state_of m t) ≡ true → is_live_process m (process_of m t) ≡ true
awake_lives m t h e =
    lives (at_number m.process_table.processes (process_of m t)) (is_there (thread_of m t) refl) (not_ended m t h (λ z. grind arith))
    (not_unborn m t h (λ z. grind arith))
  where
    is_there : (o : Option Thread) → thread_of m t ≡ o → is_some (at_number m.process_table.processes (process_of m t)) ≡ true
    is_there None f = absurd (true≢false (sym e ∙ ap (λ z. is_awake (state_in z)) f))
    is_there (Some x) f = h.coherent.threads.process_there t x.number (ap number_in f)

-- the process of such a thread has another table
pub own_tables :
    (m : State) (t : ℕ) (table : List (Option Obj)) → IsConsistent m → is_awake (state_of m t) ≡ true →
    AreTables m (with_table m.tables (process_of m t) table)
own_tables m t table h e =
    record {
      counted = length-with_at_number m.tables (process_of m t) table ∙ h.tables;
      no_rows =
          λ q fd f. grind (arith, nat_tests, h.no_rows q fd f, awake_lives m t h e, at_number-with_at_number m.tables (process_of m t) q table);
    }

-- records with the numbers from 1 to the number of those made, in order
pub record AreCounted {X : Type 0} (number : X → ℕ) (xs : List X) (made : ℕ) : Type 0 where
  pub in_order : IsCounted number 0 xs
  pub counted : length xs ≡ made

pub calls_counted : {m : State} → IsConsistent m → AreCounted call_number m.call_tree.calls m.call_tree.made
calls_counted h = record { in_order = h.in_order; counted = h.counted }

pub notices_counted : {m : State} → IsConsistent m → AreCounted notice_number m.notice_list.notices m.notice_list.made
notices_counted h = record { in_order = h.notices_in_order; counted = h.notices_counted }

pub push_counted :
    {X : Type 0} {number : X → ℕ} {xs : List X} {made : ℕ} (x : X) → AreCounted number xs made → number x ≡ made + 1 →
    AreCounted number (xs ++ x ∷ []) (number x)
push_counted {X} {number} {xs} {made} x h e =
    record { in_order = counted-push number xs 0 x h.in_order (grind (arith, h.counted)); counted = grind (arith, length-append xs (x ∷ []), h.counted) }

change_counted :
    {X : Type 0} {number : X → ℕ} {xs : List X} {made : ℕ} (test : X → Bool) (change : X → X) → ((x : X) → number (change x) ≡ number x) →
    AreCounted number xs made → AreCounted number (change_first test change xs) made
change_counted {X} {number} {xs} {made} test change same h =
    record { in_order = counted-change_first number test change same xs 0 h.in_order; counted = length-change_first test change xs ∙ h.counted }

-- a change of threads, tables, calls and notices
abbrev pub after_act : State → ProcessTable → List (List (Option Obj)) → CallTree → NoticeList → State
after_act m table tables tree list = record m { process_table = table; tables = tables; call_tree = tree; notice_list = list }

pub act_consistent :
    (m : State) (table : ProcessTable) (tables : List (List (Option Obj))) (tree : CallTree) (list : NoticeList) → AreTables m tables →
    table.processes ≡ m.process_table.processes → AreCounted call_number tree.calls tree.made →
    AreCounted notice_number list.notices list.made → length table.threads ≤ length m.bindings →
    IsCoherent (core (after_act m table tables tree list)) → IsConsistent (after_act m table tables tree list)
act_consistent m table tables tree list rows p calls notices places k =
    record {
      in_order = calls.in_order;
      counted = calls.counted;
      coherent = k;
      tables = rows.counted ∙ sym (ap length p);
      no_rows = λ q fd f. rows.no_rows q fd (ap (λ xs. is_live_in (at_number xs q)) (sym p) ∙ f);
      notices_in_order = notices.in_order;
      notices_counted = notices.counted;
      places = places;
    }

-- a change of the rest
pub beside_consistent :
    (m : State) (doors : List Door) (bindings : List (Option ℕ)) (names : List Name) (events : ℕ) → IsConsistent m →
    length m.process_table.threads ≤ length bindings →
    IsCoherent (core (record m { doors = doors; bindings = bindings; names = names; events = events })) →
    IsConsistent (record m { doors = doors; bindings = bindings; names = names; events = events })
beside_consistent m doors bindings names events h places k =
    record {
      in_order = h.in_order;
      counted = h.counted;
      coherent = k;
      tables = h.tables;
      no_rows = h.no_rows;
      notices_in_order = h.notices_in_order;
      notices_counted = h.notices_counted;
      places = places;
    }

-- a change of pipes and ports, of which it says nothing
pub channels_consistent : (m : State) (c : Channels) → IsConsistent m → IsConsistent (record m { channels = c })
channels_consistent m c h =
    record {
      in_order = h.in_order;
      counted = h.counted;
      coherent = h.coherent;
      tables = h.tables;
      no_rows = h.no_rows;
      notices_in_order = h.notices_in_order;
      notices_counted = h.notices_counted;
      places = h.places;
    }

-- a change of a thread and tables
pub thread_consistent :
    (m : State) (t : ℕ) (table : ProcessTable) (tables : List (List (Option Obj))) (s : ThreadState) (serves : ℕ → Option Inv) →
    IsConsistent m → AreTables m tables → Turns m.process_table table t s serves →
    IsCoherent (record (core m) { role = upd (core m).role t s; serves = serves }) →
    IsConsistent (after_act m table tables m.call_tree m.notice_list)
thread_consistent m t table tables s serves h rows g k =
    act_consistent m table tables m.call_tree m.notice_list rows g.processes (calls_counted h) (notices_counted h) (omega (arith, g.length, h.places))
    (subst IsCoherent (sym (act-core m table m.call_tree m.notice_list t s serves _ _ g (λ c. refl) (λ n. refl) (λ n. refl))) k)

-- a change of a thread, tables, and the call that a test finds

abbrev pub changed_tree : CallTree → (Call → Bool) → (Call → Call) → CallTree
changed_tree tree test change = record tree { calls = change_first test change tree.calls }

module _ (test : Call → Bool) (change : Call → Call) (same : (r : Call) → (change r).number ≡ r.number) (m : State) (r : Call) (h : IsConsistent m) (f : find_call m test ≡ Some r) where
  pub change-call :
      (c : ℕ) → find (has_number c) (changed_tree m.call_tree test change).calls ≡ upd (core m).call r.number (Some (change r)) c
  change-call c = find-change_first call_number test change same m.call_tree.calls 0 r c h.in_order f

  pub call_consistent :
      (t : ℕ) (table : ProcessTable) (tables : List (List (Option Obj))) (s : ThreadState) (serves : ℕ → Option Inv) → AreTables m tables →
      Turns m.process_table table t s serves →
      IsCoherent
      (record (core m) { role = upd (core m).role t s; serves = serves; call = upd (core m).call r.number (Some (change r)) }) →
      IsConsistent (after_act m table tables (changed_tree m.call_tree test change) m.notice_list)
  call_consistent t table tables s serves rows g k =
      act_consistent m table tables (changed_tree m.call_tree test change) m.notice_list rows g.processes
      (change_counted test change same (calls_counted h)) (notices_counted h) (omega (arith, g.length, h.places))
      (subst IsCoherent
      (sym (act-core m table (changed_tree m.call_tree test change) m.notice_list t s serves _ _ g change-call (λ n. refl) (λ n. refl))) k)

-- a change of a thread, tables, and the stage of the notice that a test finds

abbrev pub moved_list : NoticeList → (Notice → Bool) → NoticeStage → NoticeList
moved_list list test s = record list { notices = change_first test (notice_at s) list.notices }

-- what a test finds is what its number finds
pub notice_found : (m : State) (test : Notice → Bool) (x : Notice) → IsConsistent m → find_notice m test ≡ Some x → notice_of m x.number ≡ Some x
notice_found m test x h f = find-found notice_number test m.notice_list.notices 0 x h.notices_in_order f

module _ (test : Notice → Bool) (z : NoticeStage) (m : State) (x : Notice) (h : IsConsistent m) (f : find_notice m test ≡ Some x) where
  pub moved-notice :
      (c : ℕ) →
      find (has_notice_number c) (moved_list m.notice_list test z).notices ≡ upd (notice_of m) x.number (Some (notice_at z x)) c
  moved-notice c = find-change_first notice_number test (notice_at z) (λ y. refl) m.notice_list.notices 0 x c h.notices_in_order f

  pub notice_consistent :
      (t : ℕ) (table : ProcessTable) (tables : List (List (Option Obj))) (s : ThreadState) (serves : ℕ → Option Inv) → AreTables m tables →
      Turns m.process_table table t s serves →
      IsCoherent
      (record (core m) { role = upd (core m).role t s; serves = serves; notice = upd (core m).notice x.number (Some z) }) →
      IsConsistent (after_act m table tables m.call_tree (moved_list m.notice_list test z))
  notice_consistent t table tables s serves rows g k =
      act_consistent m table tables m.call_tree (moved_list m.notice_list test z) rows g.processes (calls_counted h)
      (change_counted test (notice_at z) (λ y. refl) (notices_counted h)) (omega (arith, g.length, h.places))
      (subst IsCoherent (sym (act-core m table m.call_tree (moved_list m.notice_list test z) t s serves _ _ g (λ c. refl) stages doors)) k)
    where
      stages :
          (c : ℕ) →
          notice_in (find (has_notice_number c) (moved_list m.notice_list test z).notices) ≡ upd (core m).notice x.number (Some z) c
      stages c = grind (arith, nat_tests, moved-notice c)

      doors : (c : ℕ) → noticed_door_in (find (has_notice_number c) (moved_list m.notice_list test z).notices) ≡ (core m).noticed_door c
      doors c = grind (arith, nat_tests, moved-notice c, notice_found m test x h f)
