use Rattle.std.proofs.Common.{rules}
use Rattle.kernel_store.proofs.There.{there_fewer}
use Rattle.kernel_store.proofs.Waits.{waits_kept}
use Rattle.kernel_store.proofs.store.Store.detach.Goals as goal

pub invariant_of-self : goal.invariant_of-self
invariant_of-self c = (search rules, there_fewer c.self.inside.doors.items c.self.inside.held c.detach.new.self c.self.invariant.1 c.detach.ensures.references, search rules, search rules, c.self.invariant.4, waits_kept c.self.inside.processes c.self.inside.held c.detach.new.self c.self.inside.ports.ports.ports c.self.inside.ended (c.detach.ensures.ports) c.self.invariant.5)
