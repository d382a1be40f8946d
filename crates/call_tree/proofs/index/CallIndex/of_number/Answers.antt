use Rattle.call_tree.proofs.Whole.{single}
use Rattle.call_tree.proofs.index.CallIndex.of_number.Goals as goal

pub returns-clause-single : goal.returns-clause-single
returns-clause-single c = rw (← c.self.view_is) (single c.self.invariant.0)

pub key_of-requires : goal.key_of-requires
key_of-requires c = (c.self.inside.links.top, c.self.invariant.0.rising)
