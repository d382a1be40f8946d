use Rattle.std.proofs.Common.{}
use Rattle.server_pool.specs.Words.{ParkedBefore, is_another_thread}
use Rattle.server_pool.proofs.Order.{ordered_filter}
use Rattle.server_pool.proofs.pool.ServerPool.unpark.Goals as goal

pub invariant_of-self : goal.invariant_of-self
invariant_of-self c = (rw c.remove_thread.ensures.items (ordered_filter ParkedBefore (is_another_thread c.args.t.0) c.self.inside.parked.items c.self.invariant.0), c.self.invariant.1)
