use Rattle.kernel_store.specs.Failing.{IsFailing, count_lost}
use Rattle.kernel_store.specs.Stored.{stored_state}
use Rattle.kernel_store.proofs.store.Store.fail_parked.Given as goal

abbrev pub invariant-loop-pool : goal.invariant-loop-pool
invariant-loop-pool l = IsFailing l.initial.self l.self

abbrev pub decreases-loop-pool : goal.decreases-loop-pool
decreases-loop-pool l = count_lost (stored_state l.self)
