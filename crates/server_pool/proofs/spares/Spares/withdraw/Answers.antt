use Rattle.std.proofs.Common.{}
use Rattle.server_pool.specs.Words.{IsBelow, is_another_spare}
use Rattle.server_pool.proofs.Order.{ordered_filter}
use Rattle.server_pool.proofs.spares.Spares.withdraw.Goals as goal

pub invariant_of-self : goal.invariant_of-self
invariant_of-self c = rw c.remove_spare.ensures (ordered_filter IsBelow (is_another_spare c.args.t.0) c.self.inside.threads.items c.self.invariant)
