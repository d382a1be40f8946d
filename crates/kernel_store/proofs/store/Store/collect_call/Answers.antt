use Rattle.spec_records.specs.Words.{thread_at_state}
use Rattle.kernel_store.proofs.Knowing.{knows_changed, turned_still}
use Rattle.std.proofs.Common.{ap, refl, ◌∙◌}
use Rattle.spec_records.specs.declared.record.ThreadState.TheVariants as is
use Rattle.spec_records.specs.Words.{is_dormant, is_idle}
use Rattle.law_calls.proofs.Backing.{call_collected, some_call}
use Rattle.law_pools.proofs.Queues.{agrees_collect}
use Rattle.law_pools.proofs.Stacks.{agrees_turn}
use Rattle.kernel_store.proofs.Acts.{state_is}
use Rattle.kernel_store.proofs.There.{held_there, there_fewer}
use Rattle.kernel_holdings.specs.Words.{results_in}
use Rattle.kernel_store.proofs.Waits.{others_kept, turned_gets_not, waits_changed}
use Rattle.kernel_store.proofs.store.Store.collect_call.Goals as goal

pub invariant_of-self : goal.invariant_of-self
invariant_of-self c =
    let x = some_call _ (rw (← c.self.view_is) at c.requires.ready) in
    let calls = state_is c.self.invariant.0 c.self.view_is c.args.t.0 ∙ c.requires.calling in
    rw (c.collect_call-outcome.ensures.same, c.turn.ensures, c.collect_call-outcome.ensures.calls 0) (
      agrees_turn (agrees_collect c.self.invariant.0 c.args.c 0) c.args.t.0 is.Running (ap is_idle calls) (ap is_dormant calls) refl refl,
      rw (c.collect_call-outcome.ensures.same, c.collect_call-outcome.ensures.calls 0) at (there_fewer c.self.inside.doors.items c.self.inside.held c.collect_call-outcome.new.self c.self.invariant.1 c.collect_call-outcome.ensures.references),
      call_collected c.self.inside.processes c.self.inside.held.calls.tree c.self.invariant.0.calls c.self.invariant.2 c.args.c c.args.t.0 0 calls x.0 x.1,
      knows_changed c.self.inside.processes c.args.t.0 (thread_at_state is.Running) (turned_still is.Running (λ path e. absurd cc)) c.self.invariant.3,
      c.self.invariant.4,
      waits_changed c.self.inside.processes c.args.t.0 (thread_at_state is.Running) (turned_gets_not is.Running refl)
          (rw (c.collect_call-outcome.ensures.same, c.collect_call-outcome.ensures.calls 0) at (c.note_references.ensures c.self.inside.held (others_kept c.self.inside.held c.collect_call-outcome.new.self (results_in c.collect_call-outcome.result) c.have_port.result c.have_port.ensures c.collect_call-outcome.ensures.others) c.self.invariant.5)),
    )

pub returns-clause-there : goal.returns-clause-there
returns-clause-there c = held_there c.self.inside.doors.items c.self.inside.held (results_in c.collect_call-outcome.result) c.self.invariant.1 c.collect_call-outcome.ensures.held
