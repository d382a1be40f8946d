use Rattle.std.proofs.Common.{sym, ◌∙◌}
use Rattle.call_tree.proofs.Chain.{told_lead}
use Rattle.call_tree.proofs.shuttles.Shuttles.lead_of.Goals as goal

pub returns-then-at-eq0 : goal.returns-then-at-eq0
returns-then-at-eq0 c = rw (← c.self.view_is) (c.other.ensures ∙ told_lead c.self.invariant c.args.t (sym c.at.ensures ∙ c.if-at-eq0.true))
