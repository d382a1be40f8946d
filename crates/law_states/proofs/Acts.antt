-- What an act keeps and which arrows calls take by it; the acts that touch no call.
use Rattle.std.specs.Prelude.{ℕ, ◌≡◌, ◌+◌, List, Option, Bool, true, false, Some, None, find, length}
use Rattle.std.proofs.Common.{ap, refl, subst}
use native.Mathlib.Omega.{arith}
use Rattle.std.proofs.lemmas.Bool.Decides.{nat_tests}
use Rattle.spec_records.proofs.NumberedLists.{find-found}
use Rattle.spec_kernel.specs.Types.{Answer, Attrs, Call, Door, Fd, Inv, Name, Obj, Param, Request, ThreadState}
use Rattle.spec_records.specs.declared.record.ThreadState.TheVariants as is
use Rattle.dk_base.specs.ByNumber.{with_at_number}
use Rattle.spec_records.specs.declared.pool.TheConstants.{LOST_DOOR}
use Rattle.spec_records.specs.Words.{NoticeList, ProcessTable, bind_tests, call_number, first_refusal, has_notice, is_private_in, new_door, set_param, unbind_thread, with_door, with_param}
use Rattle.spec_kernel.specs.Words.{ActResult, Channels, State, bind, binding_tests, create, create_tests, door_at, door_of, find_call, process_of, state_of, unbind, with_state, with_table_of}
pub use Rattle.spec_kernel.proofs.Moves.{act_result}
use Rattle.law_states.specs.Records.{has_notice_number, notice_of, owner_in, record_of}
use Rattle.law_states.specs.Core.{core}
use Rattle.law_states.specs.Coherent.{IsCoherent, is_unfit}
use Rattle.law_states.specs.Invariant.{IsConsistent}
use Rattle.law_states.specs.Arrows.{ByAct, NoticeByAct}
use Rattle.law_states.specs.Arrows.ByAct.{stays}
use Rattle.law_states.specs.Arrows.NoticeByAct.{stays as notice_stays}
use Rattle.spec_kernel.proofs.Doors.{at_number-change_door}
use Rattle.spec_records.proofs.Lists.{numbered_push, at_number-with_at_number, length-with_at_number, numbered_past}
use Rattle.law_states.proofs.Later.{by_act_later, notice_by_act_later}
use Rattle.law_states.proofs.Cores.{Turns, at_one, set_thread_state-turns, upd}
use Rattle.law_states.proofs.Consistent.{AreTables, act_consistent, after_act, awake_lives, beside_consistent, call_consistent, calls_counted, channels_consistent, change-call, changed_tree, is_awake, notices_counted, not_unborn, own_tables, same_tables, there, thread_consistent}
use Rattle.spec_kernel.proofs.Moves.{is_quiet}
use Rattle.law_states.proofs.DoorMoves.{IsSameButLimits, door_keeps, limits_keep}
use Rattle.law_states.proofs.Parts.{is_free, role_keeps}

-- an act makes no notice, and each notice keeps its door
pub record KeepsNotices (list after : NoticeList) : Type 0 where
  pub none_made : (c : ℕ) → find (has_notice_number c) list.notices ≡ None → find (has_notice_number c) after.notices ≡ None
  pub had : (d : ℕ) → has_notice after d ≡ has_notice list d

pub same_list : (list : NoticeList) → KeepsNotices list list
same_list list = record { none_made = λ c e. e; had = λ d. refl }

pub record Does (m : State) (t : ℕ) (q : Option Request) (a : ActResult) : Type 0 where
  pub consistent : IsConsistent a.state
  pub arrows : (c : ℕ) → ByAct m t q a.answer a.state (record_of m c) (record_of a.state c)
  pub notices : (c : ℕ) → NoticeByAct m t q a.answer a.state (notice_of m c) (notice_of a.state c)
  pub kept : KeepsNotices m.notice_list a.state.notice_list

pub does_nothing : (m : State) (t : ℕ) (q : Option Request) (a : Answer) → IsConsistent m → Does m t q (act_result m a)
does_nothing m t q a h = record { consistent = h; arrows = λ c. stays; notices = λ c. notice_stays; kept = same_list m.notice_list }

-- an act that changes a thread and tables
pub does_thread :
    (m : State) (t : ℕ) (q : Option Request) (a : Answer) (table : ProcessTable) (tables : List (List (Option Obj))) (s : ThreadState)
    (serves : ℕ → Option Inv) → IsConsistent m → AreTables m tables → Turns m.process_table table t s serves →
    IsCoherent (record (core m) { role = upd (core m).role t s; serves = serves }) →
    Does m t q (act_result (after_act m table tables m.call_tree m.notice_list) a)
does_thread m t q a table tables s serves h rows g k =
    record {
      consistent = thread_consistent m t table tables s serves h rows g k;
      arrows = λ c. stays;
      notices = λ c. notice_stays;
      kept = same_list m.notice_list;
    }

-- an act that changes a thread, tables, and the call that a test finds
pub does_call :
    (test : Call → Bool) (change : Call → Call) → ((r : Call) → (change r).number ≡ r.number) → (m : State) (t : ℕ) (q : Option Request)
    (a : Answer) (table : ProcessTable) (tables : List (List (Option Obj))) (s : ThreadState) (serves : ℕ → Option Inv) (r : Call) →
    IsConsistent m → AreTables m tables → Turns m.process_table table t s serves → find_call m test ≡ Some r →
    IsCoherent
    (record (core m) { role = upd (core m).role t s; serves = serves; call = upd (core m).call r.number (Some (change r)) }) →
    ByAct m t q a (after_act m table tables (changed_tree m.call_tree test change) m.notice_list) (Some r) (Some (change r)) →
    Does m t q (act_result (after_act m table tables (changed_tree m.call_tree test change) m.notice_list) a)
does_call test change same m t q a table tables s serves r h rows g f k b =
    record {
      consistent = call_consistent test change same m r h f t table tables s serves rows g k;
      arrows =
          at_one (ByAct m t q a (after_act m table tables (changed_tree m.call_tree test change) m.notice_list)) (λ o. stays) r.number (change r)
          (Some r) (λ c. record_of m c) _ (change-call test change same m r h f) (find-found call_number test m.call_tree.calls 0 r h.in_order f) b;
      notices = λ c. notice_stays;
      kept = same_list m.notice_list;
    }

-- turns

pub turned_to :
    (m : State) (t : ℕ) (q : Option Request) (s : ThreadState) (a : Answer) → IsConsistent m → is_quiet (state_of m t) ≡ true →
    is_quiet s ≡ true → is_unfit s ≡ false → Does m t q (act_result (with_state m t s) a)
turned_to m t q s a h e f u =
    does_thread m t q a _ _ s _ h (same_tables m h) (set_thread_state-turns m.process_table t s (there m t (λ d. grind arith)))
    (role_keeps (core m) t s h.coherent (grind arith) (grind arith) u (grind arith) (not_unborn m t h (λ z. grind arith))
    (λ o. absurd (grind arith)))

pub names_does : (m : State) (t : ℕ) (q : Option Request) (names : List Name) (a : Answer) → IsConsistent m → Does m t q (act_result (record m { names = names }) a)
names_does m t q names a h =
    record {
      consistent = beside_consistent m m.doors m.bindings names m.events h h.places h.coherent;
      arrows = λ c. stays;
      notices = λ c. notice_stays;
      kept = same_list m.notice_list;
    }

-- bindings

-- to a private door of the thread's process, or to none, where the thread waits for no item
rebind_keeps :
    (m : State) (t : ℕ) (o : Option ℕ) → IsConsistent m → is_free (state_of m t) ≡ true →
    ((d : ℕ) → o ≡ Some d → (owner_in (door_of m d) ≡ Some (process_of m t)) × (is_private_in (door_of m d) ≡ true)) →
    IsConsistent (record m { bindings = with_at_number m.bindings t o })
rebind_keeps m t o h free own =
    beside_consistent m m.doors (with_at_number m.bindings t o) m.names m.events h (omega (arith, length-with_at_number m.bindings t o, h.places))
    (record {
      waits = h.coherent.waits;
      invocations = h.coherent.invocations;
      notices_given = h.coherent.notices_given;
      notices_entered = h.coherent.notices_entered;
      notices_at_doors =
          record {
            notice_door = h.coherent.notices_at_doors.notice_door;
            notice_valid = h.coherent.notices_at_doors.notice_valid;
            notice_given_owner = h.coherent.notices_at_doors.notice_given_owner;
            notice_given_bound =
                λ c u e. grind (arith, nat_tests, at_number-with_at_number m.bindings t u o, h.coherent.notices_at_doors.notice_given_bound c u, h.coherent.notices_given.notice_given c u);
            notice_entered_owner = h.coherent.notices_at_doors.notice_entered_owner;
          };
      servers = h.coherent.servers;
      calls = h.coherent.calls;
      at_doors =
          record {
            door_there = h.coherent.at_doors.door_there;
            no_cancel = h.coherent.at_doors.no_cancel;
            waiting_valid = h.coherent.at_doors.waiting_valid;
            given_owner = h.coherent.at_doors.given_owner;
            given_bound =
                λ c u e. grind (arith, nat_tests, at_number-with_at_number m.bindings t u o, h.coherent.at_doors.given_bound c u, h.coherent.waits.given c u);
            entered_owner = h.coherent.at_doors.entered_owner;
          };
      doors = h.coherent.doors;
      bindings =
          record {
            bound_own =
                λ u d e l. grind (arith, nat_tests, at_number-with_at_number m.bindings t u o, own d, h.coherent.bindings.bound_own u d);
            bound_private =
                λ u d e l. grind (arith, nat_tests, at_number-with_at_number m.bindings t u o, own d, h.coherent.bindings.bound_private u d);
            idle_not_lost =
                λ u since e f. grind (arith, nat_tests, at_number-with_at_number m.bindings t u o, own LOST_DOOR, h.coherent.doors.none_lost, h.coherent.bindings.idle_not_lost u since);
          };
      processes = h.coherent.processes;
      threads = h.coherent.threads;
      has_fit_state = h.coherent.has_fit_state;
    })

-- a thread is bound to no door
pub unbound_keeps :
    (m : State) (t : ℕ) → IsConsistent m → is_free (state_of m t) ≡ true → IsConsistent (record m { bindings = unbind_thread m.bindings t })
unbound_keeps m t h f = rebind_keeps m t None h f (λ d e. absurd (grind arith))

rebind_does :
    (m : State) (t : ℕ) (q : Option Request) (o : Option ℕ) (a : Answer) → IsConsistent m → is_free (state_of m t) ≡ true →
    ((d : ℕ) → o ≡ Some d → (owner_in (door_of m d) ≡ Some (process_of m t)) × (is_private_in (door_of m d) ≡ true)) →
    Does m t q (act_result (record m { bindings = with_at_number m.bindings t o }) a)
rebind_does m t q o a h f own = record { consistent = rebind_keeps m t o h f own; arrows = λ c. stays; notices = λ c. notice_stays; kept = same_list m.notice_list }

-- what an act does, of which its thread is unbound too
pub unbound_does :
    (m : State) (t : ℕ) (q : Option Request) (n : State) (a : Answer) → is_free (state_of n t) ≡ true → Does m t q (act_result n a) →
    Does m t q (act_result (record n { bindings = unbind_thread n.bindings t }) a)
unbound_does m t q n a f d =
    record {
      consistent = unbound_keeps n t d.consistent f;
      arrows = λ c. by_act_later m t q a n (record n { bindings = unbind_thread n.bindings t }) _ _ (λ e. refl) (record { after = λ u e. e; before = λ u e. e }) (d.arrows c);
      notices =
          λ c. notice_by_act_later m t q a n (record n { bindings = unbind_thread n.bindings t }) _ _
          (record { doors = λ e. refl; falls = λ e. refl }) (record { after = λ u e. e; before = λ u e. e }) (d.notices c);
      kept = d.kept;
    }

bindable :
    (p : ℕ) (o : Option Door) → first_refusal (bind_tests p o) ≡ None → (owner_in o ≡ Some p) × (is_private_in o ≡ true)
bindable p o f = (grind (arith, nat_tests), grind (arith, nat_tests))

pub bind_does :
    (m : State) (t : ℕ) (q : Option Request) (fd : Fd) → IsConsistent m → state_of m t ≡ is.Running →
    first_refusal (binding_tests m (process_of m t) fd) ≡ None → Does m t q (bind m t (process_of m t) fd)
bind_does m t q fd h r f =
    rebind_does m t q (Some (door_at m (process_of m t) fd)) _ h (ap is_free r)
    (λ d e. let same : door_at m (process_of m t) fd ≡ d = cc in
    subst (λ (k : ℕ). (owner_in (door_of m k) ≡ Some (process_of m t)) × (is_private_in (door_of m k) ≡ true)) same
    (bindable (process_of m t) (door_of m (door_at m (process_of m t) fd)) f))

pub unbind_does : (m : State) (t : ℕ) (q : Option Request) → IsConsistent m → state_of m t ≡ is.Running → Does m t q (unbind m t)
unbind_does m t q h r = rebind_does m t q None _ h (ap is_free r) (λ d e. absurd (grind arith))

-- the thread's process has another table

with_table_of_keeps :
    (m : State) (t : ℕ) (table : List (Option Obj)) → IsConsistent m → state_of m t ≡ is.Running →
    IsConsistent (with_table_of m (process_of m t) table)
with_table_of_keeps m t table h e =
    act_consistent m m.process_table _ m.call_tree m.notice_list (own_tables m t table h (ap is_awake e)) refl (calls_counted h) (notices_counted h) h.places h.coherent

pub rows_does :
    (m : State) (t : ℕ) (q : Option Request) (table : List (Option Obj)) (a : Answer) → IsConsistent m → state_of m t ≡ is.Running →
    Does m t q (act_result (with_table_of m (process_of m t) table) a)
rows_does m t q table a h e = record { consistent = with_table_of_keeps m t table h e; arrows = λ c. stays; notices = λ c. notice_stays; kept = same_list m.notice_list }

-- pipes and ports

pub channels_does :
    (m : State) (t : ℕ) (q : Option Request) (c : Channels) (a : Answer) → IsConsistent m → Does m t q (act_result (record m { channels = c }) a)
channels_does m t q c a h =
    record { consistent = channels_consistent m c h; arrows = λ n. stays; notices = λ n. notice_stays; kept = same_list m.notice_list }

-- with the descriptors of what is made
pub made_channel_does :
    (m : State) (t : ℕ) (q : Option Request) (table : List (Option Obj)) (c : Channels) (a : Answer) → IsConsistent m →
    state_of m t ≡ is.Running → Does m t q (act_result (record (with_table_of m (process_of m t) table) { channels = c }) a)
made_channel_does m t q table c a h e =
    record {
      consistent = channels_consistent (with_table_of m (process_of m t) table) c (with_table_of_keeps m t table h e);
      arrows = λ n. stays;
      notices = λ n. notice_stays;
      kept = same_list m.notice_list;
    }

-- by a thread that goes on
pub retrieve_does :
    (m : State) (t : ℕ) (q : Option Request) (c : Channels) (a : Answer) → IsConsistent m → is_quiet (state_of m t) ≡ true →
    Does m t q (act_result (record (with_state m t is.Running) { channels = c }) a)
retrieve_does m t q c a h e =
    record {
      consistent = channels_consistent (with_state m t is.Running) c (turned_to m t q is.Running a h e refl refl).consistent;
      arrows = λ n. stays;
      notices = λ n. notice_stays;
      kept = same_list m.notice_list;
    }

-- doors

pub same_but_limits : (x : Param) (value : ℕ) (y : Door) → IsSameButLimits y (with_param x value y)
same_but_limits x value y =
    record { number = grind arith; owner = grind arith; attrs = grind arith; revoked = grind arith; owner_ended = grind arith }

pub set_param_does :
    (m : State) (t : ℕ) (q : Option Request) (d : ℕ) (x : Param) (value : ℕ) (a : Answer) → IsConsistent m →
    Does m t q (act_result (record m { doors = set_param m.doors d x value }) a)
set_param_does m t q d x value a h =
    record {
      consistent =
          beside_consistent m (set_param m.doors d x value) m.bindings m.names m.events h h.places
          (limits_keep (core m) d (with_param x value) _ h.coherent (same_but_limits x value) (λ e. at_number-change_door m.doors d e (with_param x value)));
      arrows = λ c. stays;
      notices = λ c. notice_stays;
      kept = same_list m.notice_list;
    }

pub create_does :
    (m : State) (t : ℕ) (q : Option Request) (entry cookie : ℕ) (attrs : Attrs) → IsConsistent m → state_of m t ≡ is.Running →
    first_refusal (create_tests m (process_of m t) attrs) ≡ None → Does m t q (create m (process_of m t) entry cookie attrs)
create_does m t q entry cookie attrs h e f =
    record { consistent = with_table_of_keeps n t _ made e; arrows = λ c. stays; notices = λ c. notice_stays; kept = same_list m.notice_list }
  where
    d : Door
    d = new_door (length m.doors + 1) (process_of m t) entry cookie attrs

    n : State
    n = record m { doors = with_door m.doors (process_of m t) entry cookie attrs }

    made : IsConsistent n
    made =
        beside_consistent m (with_door m.doors (process_of m t) entry cookie attrs) m.bindings m.names m.events h h.places
        (door_keeps (core m) d _ h.coherent (numbered_past m.doors d.number (grind arith)) (omega arith)
        (grind (arith, awake_lives m t h (ap is_awake e)))
        (not_unborn m t h (λ z. grind arith))
        (numbered_push m.doors d))
