use Rattle.kernel_holdings.proofs.Bounds.{few_in_transit}
use Rattle.kernel_holdings.proofs.holdings.Holdings.carries_few.Goals as goal

pub returns : goal.returns
returns c = rw (← c.self.view_is) (few_in_transit c.self.inside.calls.tree c.are_sound.ensures c.self.invariant.1.transit)
