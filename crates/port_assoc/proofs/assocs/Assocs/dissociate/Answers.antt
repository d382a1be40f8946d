use Rattle.std.proofs.Common.{sym, ◌∙◌}
use Rattle.port_assoc.proofs.Ended.{nothing_ends}
use Rattle.port_assoc.proofs.assocs.Assocs.dissociate.Goals as goal

pub returns-in-None-clause-kept : goal.returns-in-None-clause-kept
returns-in-None-clause-kept c = c.end.ensures.list ∙ sym (nothing_ends c.args.self.now.list c.args.key (sym c.in-None.ensures.ended))
