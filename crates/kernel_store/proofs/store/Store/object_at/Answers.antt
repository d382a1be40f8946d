use Rattle.kernel_store.proofs.There.{found_there}
use Rattle.kernel_store.proofs.store.Store.object_at.Goals as goal

pub returns-clause-there : goal.returns-clause-there
returns-clause-there c = rw (← c.self.view_is) (found_there c.self.inside.doors.items c.self.inside.held c.object_at.result c.self.invariant.1 c.object_at.ensures.held)
