use Rattle.std.proofs.Common.{length}
use Rattle.server_pool.specs.Words.{queue_in}
use Rattle.kernel_store.specs.Giving.{IsGiving}
use Rattle.kernel_store.proofs.store.Store.give_pool.Given as goal

abbrev pub invariant-loop-pool : goal.invariant-loop-pool
invariant-loop-pool l = IsGiving l.pool l.initial.self l.self

abbrev pub decreases-loop-pool : goal.decreases-loop-pool
decreases-loop-pool l = length (queue_in l.self.pools l.pool)
