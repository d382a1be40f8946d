use Rattle.call_tree.proofs.Whole.{single}
use Rattle.call_tree.proofs.index.CallIndex.at.Goals as goal

pub returns-clause-single : goal.returns-clause-single
returns-clause-single c = rw (← c.self.view_is) (single c.self.invariant.0)
