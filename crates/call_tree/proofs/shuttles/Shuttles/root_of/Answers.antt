use Rattle.std.proofs.Common.{ap, ◌∙◌}
use Rattle.call_tree.specs.Chains.{other}
use Rattle.call_tree.proofs.Chain.{told_root}
use Rattle.call_tree.proofs.shuttles.Shuttles.root_of.Goals as goal

pub returns : goal.returns
returns c = rw (← c.self.view_is) (c.other.ensures ∙ ap (other c.self.inside.far) c.walk-lead.ensures ∙ told_root c.self.invariant c.args.t)
