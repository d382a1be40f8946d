use Rattle.call_tree.proofs.EmptyChains.{Sound-empty}
use Rattle.call_tree.proofs.shuttles.Shuttles.new.Goals as goal

pub invariant_of-result : goal.invariant_of-result
invariant_of-result c = Sound-empty _ _ _ _ c.zeros.ensures c.zeros-2.ensures c.zeros-3.ensures c.zeros-4.ensures
