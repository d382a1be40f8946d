-- What an act does, and what the kernel does after it.
use Rattle.std.specs.Prelude.{ℕ, ◌≡◌, ◌+◌, ◌==◌, ◌&&◌, List, [], ◌∷◌, Option, Some, None, false, length, not, option_map, true, unwrap_or}
use Rattle.std.proofs.lemmas.Bool.Decides.{nat_tests}
use Rattle.dk_base.specs.declared.error.Errno.TheVariants.{EINVAL, ETIME}
use Rattle.spec_kernel.proofs.Refusals.{not_held}
use Rattle.std.proofs.Common.{refl, sym, subst, ◌∙◌, ap}
use native.Mathlib.Omega.{arith}
use Rattle.dk_base.specs.ByNumber.{at_number}
use Rattle.spec_kernel.specs.Types.{Obj, Pid, Process, Request}
use Rattle.spec_records.specs.declared.record.ThreadState.TheVariants as is
use Rattle.spec_records.specs.Words.{has_bad_count, insert_rows, is_valid_in, must_wait, parent_in, pid, refused_where, table_in}
use Rattle.spec_kernel.specs.Words.{ActResult, MayTurn, State, act, can_go_on, is_running, object_at, parent_of, port, port_at, port_tests, process_of, settle, state_of, step, table_of, with_event_counted}
use Rattle.law_states.specs.Coherent.{is_fit_wait}
use Rattle.law_states.specs.Records.{record_of}
use Rattle.law_states.specs.Invariant.{IsChildOf, IsConsistent, Invariant}
use Rattle.law_states.specs.Arrows.{Arrow}
use Rattle.law_states.proofs.Later.{AreSameDone, by_act_later}
use Rattle.spec_kernel.proofs.Moves.{Moves, act_moves}
use Rattle.spec_kernel.proofs.Settling.{tables-settle}
use Rattle.spec_kernel.proofs.Steps.{ForksFit, ProcessIdentity, act-limits, process_identity, step-keeps}
use Rattle.spec_records.proofs.Lists.{same_numbered}
use Rattle.spec_kernel.proofs.Moves.IsBinding.{binds, unbinds}
use Rattle.spec_kernel.proofs.Moves.IsTurn.{awaits, finds, lost_port, starts_work, waits_for_many, waits_for_one, wakes, was_interrupted, works}
use Rattle.spec_kernel.proofs.Moves.IsLeaving.{interrupts, exits}
use Rattle.spec_kernel.proofs.Moves.{is_quiet}
use Rattle.law_states.proofs.Acts.{Does, bind_does, channels_does, does_nothing, create_does, made_channel_does, names_does, retrieve_does, rows_does, set_param_does, turned_to, unbind_does}
use Rattle.law_states.proofs.CallActs.{call_does, parked_return_does, unbound_return_does, begin_does, fail_does, collect_does}
use Rattle.law_states.proofs.NoticeActs.{begin_notice_does}
use Rattle.law_states.proofs.Consistent.{beside_consistent}
use Rattle.law_states.proofs.Failing.{wake_does}
use Rattle.law_states.proofs.Leaving.{interrupt_leaves, thread_leaves, revoke_leaves, process_leaves}
use Rattle.law_states.proofs.Beginning.{fork_leaves}
use Rattle.law_states.proofs.Settling.{Settles, idle_valid_of, is_at_rest, settle_does}

pub running_is : (m : State) (t : ℕ) → is_running m t ≡ true → state_of m t ≡ is.Running
running_is m t e = grind arith

-- a get of several that waits takes some, and asks for no more
fits : (max nget : ℕ) → (max == 0) ≡ false → has_bad_count max nget ≡ false → not (is_fit_wait max nget false) ≡ false
fits max nget z b = grind (arith, nat_tests, z, b)

move_does : (m : State) (t : ℕ) (q : Option Request) (a : ActResult) → IsConsistent m → MayTurn m t q → Moves m t q a → Does m t q a
move_does m t q a h may (Moves.nothing x _) = does_nothing m t q x h
move_does m t q a h may (Moves.rows r place o x _) = rows_does m t q _ x h (running_is m t may.running)
move_does m t q a h may (Moves.names r names _) = names_does m t q names _ h
move_does m t q a h may (Moves.bound r o (binds fd f)) = bind_does m t q fd h (running_is m t may.running) f
move_does m t q a h may (Moves.bound r o (unbinds f)) = unbind_does m t q h (running_is m t may.running)
move_does m t q a h may (Moves.parameter fd x value f) = set_param_does m t q _ x value _ h
move_does m t q a h may (Moves.makes entry cookie attrs f) = create_does m t q entry cookie attrs h (running_is m t may.running) f
move_does m t q a h may (Moves.turns s x w (awaits path e)) = turned_to m t q s x h (ap is_quiet (running_is m t may.running)) w refl
move_does m t q a h may (Moves.turns s x w (finds path e)) = turned_to m t q s x h (ap is_quiet e) w refl
move_does m t q a h may (Moves.turns s x w (starts_work op input)) = turned_to m t q s x h (ap is_quiet (running_is m t may.running)) w refl
move_does m t q a h may (Moves.turns s x w (works op input e)) = turned_to m t q s x h (ap is_quiet e) w refl
move_does m t q a h may (Moves.turns s x w (wakes e)) = wake_does m t q h e
move_does m t q a h may (Moves.turns s x w (waits_for_one fd wait f n)) = turned_to m t q s x h (ap is_quiet (running_is m t may.running)) w refl
move_does m t q a h may (Moves.turns s x w (waits_for_many fd max nget wait f z n)) =
    turned_to m t q s x h (ap is_quiet (running_is m t may.running)) w
    (fits max nget z
    (not_held (port_tests (object_at m (process_of m t) fd)) (refused_where (has_bad_count max nget) EINVAL)
    (refused_where (not wait && must_wait max nget (port m (port_at m (process_of m t) fd))) ETIME ∷ []) f))
move_does m t q a h may (Moves.turns s x w (was_interrupted port max nget one e)) = turned_to m t q s x h (ap is_quiet e) w refl
move_does m t q a h may (Moves.turns s x w (lost_port port max nget one e f)) = turned_to m t q s x h (ap is_quiet e) w refl
move_does m t q a h may (Moves.passes r c x _) = channels_does m t q c x h
move_does m t q a h may (Moves.makes_channel r c objects x _) =
    made_channel_does m t q (insert_rows (table_of m (process_of m t)) objects) c x h (running_is m t may.running)
move_does m t q a h may (Moves.retrieves port max nget one e) = retrieve_does m t q _ _ h (ap is_quiet e.waits)
move_does m t q a h may (Moves.calls fd bytes pass rsize f) = call_does m t rsize fd bytes pass h (running_is m t may.running) f
move_does m t q a h may (Moves.returns bytes pass f e) = parked_return_does m t bytes pass h (running_is m t may.running) f e
move_does m t q a h may (Moves.returns_unbound bytes pass f e) = unbound_return_does m t bytes pass h (running_is m t may.running) f e
move_does m t q a h may (Moves.enters r e room) = begin_does m t r h e room
move_does m t q a h may (Moves.fails r e full) = fail_does m t r h e full
move_does m t q a h may (Moves.enters_notice n e) = begin_notice_does m t n h e
move_does m t q a h may (Moves.collects c e) = collect_does m t c h e (sym (ap (can_go_on m) e) ∙ may.runnable)
move_does m t q a h may (Moves.leaves r who (interrupts u)) = (interrupt_leaves m t u.0 h).does
move_does m t q a h may (Moves.leaves r who (exits e)) = (thread_leaves m t q t h (running_is m t may.running)).does
move_does m t q a h may (Moves.revokes fd f) = (revoke_leaves m t q fd h (running_is m t may.running)).does
move_does m t q a h may (Moves.ends r p _) = (process_leaves m t q p h).does
move_does m t q a h may (Moves.forks child f) = (fork_leaves m t child h f).does

pub act_does : (m : State) (t : ℕ) (q : Option Request) → IsConsistent m → MayTurn m t q → Does m t q (act m t q)
act_does m t q h may = move_does m t q (act m t q) h may (act_moves m t q)

-- a child keeps its parent and its limit
module _ (m : State) (t : ℕ) (q : Option Request) (h : Invariant m) (may : MayTurn m t q) where
  forks_fit : ForksFit m t q
  forks_fit child e =
      let fit : parent_of m child.0 ≡ Some (pid (process_of m t)) = (subst (MayTurn m t) e may).fit in
      sym (h.children child.0 (pid (process_of m t)) fit).limit

  limit_kept : (p : ℕ) → length (table_of (step m t q).state p) ≡ length (table_of m p)
  unfolding step
  limit_kept p =
      ap (λ ts. length (table_in ts p)) (tables-settle m (act m t q).state)
      ∙ long (at_number (act m t q).state.tables p)
      ∙ ap long_in (same_numbered length (act m t q).state.tables m.tables p (act-limits m t q forks_fit))
      ∙ sym (long (at_number m.tables p))
    where
      long_in : Option ℕ → ℕ
      long_in None = 0
      long_in (Some n) = n

      long : (o : Option (List (Option Obj))) → length (unwrap_or o []) ≡ long_in (option_map length o)
      long None = refl
      long (Some rows) = refl

  parent_kept : (p : ℕ) → parent_of (step m t q).state p ≡ parent_of m p
  parent_kept p =
      from_identity (at_number (step m t q).state.process_table.processes p)
      ∙ ap identity_parent
      (same_numbered process_identity (step m t q).state.process_table.processes m.process_table.processes p (step-keeps m t q).processes)
      ∙ sym (from_identity (at_number m.process_table.processes p))
    where
      identity_parent : Option ProcessIdentity → Option Pid
      identity_parent None = None
      identity_parent (Some x) = x.parent

      from_identity : (o : Option Process) → parent_in o ≡ identity_parent (option_map process_identity o)
      from_identity None = refl
      from_identity (Some x) = refl

  child_kept : (p : ℕ) (c : Pid) → parent_of (step m t q).state p ≡ Some c → IsChildOf (step m t q).state p c.0
  child_kept p c e =
      let i : IsChildOf m p c.0 = h.children p c (sym (parent_kept p) ∙ e) in
      record { first = i.first; after = i.after; limit = limit_kept p ∙ i.limit ∙ sym (limit_kept c.0) }

counted_keeps : (m : State) → IsConsistent m → IsConsistent (with_event_counted m)
counted_keeps m h = beside_consistent m m.doors m.bindings m.names (m.events + 1) h h.places h.coherent

-- what an act and the kernel after it do
pub record StepDoes (m : State) (t : ℕ) (q : Option Request) : Type 0 where
  pub acted : Does m t q (act m t q)
  pub settled : Settles m (act m t q).state (settle m (act m t q).state)

pub step_does : (m : State) (t : ℕ) (q : Option Request) → Invariant m → MayTurn m t q → StepDoes m t q
step_does m t q h may =
    let d : Does m t q (act m t q) = act_does m t q h.consistent may in
    record { acted = d; settled = settle_does m (act m t q).state d.consistent }

pub step_invariant : (m : State) (t : ℕ) (q : Option Request) → Invariant m → MayTurn m t q → Invariant (step m t q).state
unfolding step
step_invariant m t q h may =
    record {
      consistent = counted_keeps (settle m (act m t q).state) d.settled.gave.consistent;
      children = child_kept m t q h may;
      idle_valid = idle_valid_of (settle m (act m t q).state) d.settled.none_lost;
      given_out = d.settled.given_out;
      told = record { rows = d.settled.told.rows; wait = d.settled.told.wait; timers = d.settled.told.timers };
    }
  where
    d : StepDoes m t q
    d = step_does m t q h may

-- the same threads are done after the act and after the event
pub same_done : (m : State) (t : ℕ) (q : Option Request) → StepDoes m t q → AreSameDone (act m t q).state (with_event_counted (settle m (act m t q).state))
same_done m t q d = record { after = λ u e. d.settled.gave.busy u (ap is_at_rest e) ∙ e; before = d.settled.gave.done }

pub step_arrows :
    (m : State) (t : ℕ) (q : Option Request) (c : ℕ) → Invariant m → MayTurn m t q →
    Arrow m t q (step m t q).answer (step m t q).state (record_of m c) (record_of (step m t q).state c)
unfolding step
step_arrows m t q c h may =
    record {
      between = record_of (act m t q).state c;
      act =
          by_act_later m t q (act m t q).answer (act m t q).state (with_event_counted (settle m (act m t q).state)) _ _
          (λ e. ap is_valid_in (d.settled.gave.doors e))
          (same_done m t q d)
          (d.acted.arrows c);
      giving = d.settled.gave.arrows c;
    }
  where
    d : StepDoes m t q
    d = step_does m t q h may
