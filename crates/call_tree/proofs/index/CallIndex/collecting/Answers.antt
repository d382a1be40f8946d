use Rattle.call_tree.proofs.Collecting.{collecting_found}
use Rattle.call_tree.proofs.index.CallIndex.collecting.Goals as goal

pub returns : goal.returns
returns c = rw (← c.self.view_is) (collecting_found c.self.invariant.0 c.self.invariant.1)
