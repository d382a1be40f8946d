use Rattle.std.proofs.Common.{refl}
use Rattle.kernel_store.proofs.FailingParts.{failing_more, failing_none}
use Rattle.kernel_store.proofs.store.Store.fail_parked.Goals as goal

pub loop-pool-init : goal.loop-pool-init
loop-pool-init c = failing_none c.args.self.now

pub loop-pool-preserved : goal.loop-pool-preserved
loop-pool-preserved c = failing_more c.args.self.now c.loop-pool.self c.fail_next.new.self c.loop-pool.invariant (c.loop-pool-test.ensures.failed refl).failing
