use Rattle.call_tree.proofs.Whole.{single}
use Rattle.call_tree.proofs.index.CallIndex.are_single.Goals as goal

pub returns-clause-single : goal.returns-clause-single
returns-clause-single c = rw (← c.self.view_is) (single c.self.invariant.0)

pub returns-clause-rising : goal.returns-clause-rising
returns-clause-rising c = rw (← c.self.view_is) c.self.invariant.0.rising
