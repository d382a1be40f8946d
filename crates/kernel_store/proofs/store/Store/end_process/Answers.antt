use Rattle.kernel_store.proofs.Knowing.{knows_ended}
use Rattle.std.proofs.Common.{sym, ◌∙◌, arith}
use Rattle.spec_records.specs.Words.{end_owner}
use Rattle.law_pools.proofs.Leaving.{agrees_end}
use Rattle.law_calls.proofs.Backing.{process_ended}
use Rattle.kernel_store.proofs.There.{there_doors, there_fewer}
use Rattle.kernel_store.proofs.Waits.{waits_anew}
use Rattle.kernel_store.proofs.store.Store.end_process.Goals as goal

pub invariant_of-self : goal.invariant_of-self
invariant_of-self c =
    let agreed = agrees_end c.self.invariant.0 c.args.p.0 in
    rw c.end_process.ensures
    (rw c.close_all.ensures.same
    (rw c.owner_ended.ensures (agreed, rw c.close_all.ensures.same at (there_doors c.self.inside.doors.items (end_owner c.self.inside.doors.items c.args.p.0) c.close_all.new.self (omega (arith, sym c.self.invariant.0.private ∙ agreed.private)) (there_fewer c.self.inside.doors.items c.self.inside.held c.close_all.new.self c.self.invariant.1 c.close_all.ensures.references)), process_ended c.self.inside.processes c.self.inside.held.calls.tree c.self.invariant.0.calls c.self.invariant.2 c.args.p.0, knows_ended c.self.inside.processes c.args.p.0 c.self.invariant.3, c.self.invariant.4, rw (c.end_process.ensures, c.close_all.ensures.same) at (waits_anew c.end_process.new.self c.close_all.new.self c.self.inside.ports.ports.ports c.find_ended-self-inside.result c.find_ended-self-inside.ensures))))
