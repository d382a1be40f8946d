use Rattle.kernel_store.proofs.Knowing.{knows_changed, turned_still}
use Rattle.std.proofs.Common.{true, ap, length, refl, subst, ◌∙◌}
use Rattle.spec_kernel.specs.Words.{State, start_one}
use Rattle.kernel_store.proofs.AnyOrder.{processes_started}
use Rattle.server_pool.specs.Words.{change_at_number, change_spares, without_lowest}
use Rattle.kernel_store.specs.Stored.{IsAgreed, stored_state}
use Rattle.kernel_store.specs.contracts.store.Store.{the_view}
use Rattle.kernel_store.proofs.Spares.{agrees_started, agrees_unstarted, given_out-spares, spare_is_dormant, spare_not_done, spare_not_idle, state_started, state_unstarted}
use Rattle.spec_records.specs.declared.record.ThreadState.TheVariants as is
use Rattle.spec_records.specs.Words.{thread_at_state}
use Rattle.law_calls.proofs.Backing.{dormant_turns}
use Rattle.kernel_store.proofs.Short.{room_spares}
use Rattle.kernel_store.proofs.Waits.{turned_gets_not, waits_changed}
use Rattle.kernel_store.proofs.store.Store.start_spare.Goals as goal

pub turn-requires-clause-not_done : goal.turn-requires-clause-not_done
turn-requires-clause-not_done c =
    spare_not_done (the_view c.self.inside) c.self.invariant.0 c.args.p.0 c.in-Some.t.0 c.in-Some.ensures.result

pub turn-requires-clause-not_idle : goal.turn-requires-clause-not_idle
turn-requires-clause-not_idle c =
    spare_not_idle (the_view c.self.inside) c.self.invariant.0 c.args.p.0 c.in-Some.t.0 c.in-Some.ensures.result

pub invariant_of-self : goal.invariant_of-self
invariant_of-self c =
    let dormant = spare_is_dormant (the_view c.self.inside) c.self.invariant.0 c.args.p.0 c.in-Some.t.0 c.in-Some.ensures.result in (
      agrees_started (the_view c.self.inside) c.self.invariant.0 c.args.p.0 c.in-Some.t.0 c.in-Some.ensures.result c.turn.new.self
          c.take_spare.new.self c.turn.ensures c.take_spare.ensures.left,
      c.self.invariant.1,
      rw c.turn.ensures (dormant_turns c.self.inside.processes c.self.inside.held.calls.tree c.self.invariant.0.calls c.self.invariant.2 c.in-Some.t.0 (thread_at_state is.Running) dormant),
      rw c.turn.ensures (knows_changed c.self.inside.processes c.in-Some.t.0 (thread_at_state is.Running) (turned_still is.Running (λ path e. absurd cc)) c.self.invariant.3),
      rw c.take_spare.ensures.left (room_spares c.self.inside.short.items c.self.inside.pools c.self.invariant.4 (change_at_number c.self.inside.pools.spares c.args.p.0 without_lowest)),
      rw c.turn.ensures (waits_changed c.self.inside.processes c.in-Some.t.0 (thread_at_state is.Running) (turned_gets_not is.Running refl) c.self.invariant.5),
    )

pub invariant_of-self-in_default : goal.invariant_of-self-in_default
invariant_of-self-in_default c = (
  agrees_unstarted (the_view c.self.inside) c.self.invariant.0 c.args.p.0 c.in_default.ensures.result c.take_spare.new.self
      c.take_spare.ensures.left,
  c.self.invariant.1,
  c.self.invariant.2,
  c.self.invariant.3,
  rw c.take_spare.ensures.left (room_spares c.self.inside.short.items c.self.inside.pools c.self.invariant.4 (change_at_number c.self.inside.pools.spares c.args.p.0 without_lowest)),
  c.self.invariant.5,
)

pub returns-in-Some-clause-state : goal.returns-in-Some-clause-state
returns-in-Some-clause-state c =
    state_started (the_view c.self.inside) c.self.invariant.0 c.args.p.0 c.in-Some.t.0 c.in-Some.ensures.result c.turn.new.self
    c.take_spare.new.self c.turn.ensures c.take_spare.ensures.left
    ∙ ap (λ s. start_one (stored_state s) c.args.p.0 true) c.self.view_is

pub returns-in-Some-clause-given_out : goal.returns-in-Some-clause-given_out
returns-in-Some-clause-given_out c =
    given_out-spares c.args.self.now.pools c.take_spare.new.self c.args.p.0
    (c.take_spare.ensures.left ∙ ap (λ s. change_spares s.pools c.args.p.0 without_lowest) c.self.view_is)

pub returns-in_default-clause-state : goal.returns-in_default-clause-state
returns-in_default-clause-state c =
    state_unstarted (the_view c.self.inside) c.self.invariant.0 c.args.p.0 c.in_default.ensures.result c.take_spare.new.self
    c.take_spare.ensures.left
    ∙ ap (λ s. start_one (stored_state s) c.args.p.0 true) c.self.view_is

pub returns-in_default-clause-given_out : goal.returns-in_default-clause-given_out
returns-in_default-clause-given_out c =
    given_out-spares c.args.self.now.pools c.take_spare.new.self c.args.p.0
    (c.take_spare.ensures.left ∙ ap (λ s. change_spares s.pools c.args.p.0 without_lowest) c.self.view_is)

pub returns-in-Some-clause-processes : goal.returns-in-Some-clause-processes
returns-in-Some-clause-processes c =
    ap (λ (m : State). length m.process_table.processes) (returns-in-Some-clause-state c) ∙ processes_started (stored_state c.args.self.now) c.args.p.0

pub returns-in_default-clause-processes : goal.returns-in_default-clause-processes
returns-in_default-clause-processes c =
    ap (λ (m : State). length m.process_table.processes) (returns-in_default-clause-state c) ∙ processes_started (stored_state c.args.self.now) c.args.p.0

pub returns-in-Some-clause-agreed : goal.returns-in-Some-clause-agreed
returns-in-Some-clause-agreed c = subst IsAgreed c.self.view_is c.self.invariant.0

pub returns-in_default-clause-agreed : goal.returns-in_default-clause-agreed
returns-in_default-clause-agreed c = subst IsAgreed c.self.view_is c.self.invariant.0
