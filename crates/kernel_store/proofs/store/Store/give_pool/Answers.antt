use Rattle.std.proofs.Common.{refl}
use Rattle.kernel_store.proofs.Giving.{all_given}
use Rattle.kernel_store.proofs.store.Store.give_pool.Goals as goal

pub returns : goal.returns
returns c =
    record { given = all_given c.args.pool c.args.self.now c.loop-pool.self c.give_next.new.self c.loop-pool.invariant (c.loop-pool-test.ensures.none refl) }
