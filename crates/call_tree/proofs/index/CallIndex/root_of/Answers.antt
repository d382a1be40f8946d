use Rattle.std.proofs.Common.{◌∙◌}
use Rattle.call_tree.proofs.Ties.{walk_up_same}
use Rattle.call_tree.proofs.index.CallIndex.root_of.Goals as goal

pub returns : goal.returns
returns c = let v = c.self.inside in rw (← c.self.view_is) (c.root_of.ensures ∙ walk_up_same v.links v.records.entries v.callers v.servers c.self.invariant.0 v.links.top c.args.t.0)
