use Rattle.std.proofs.Common.{ap, subst, ◌∙◌, length}
use Rattle.ncd_app.specs.Table.{HasOrder}
use Rattle.ncd_app.proofs.Records.{count_recorded}
use Rattle.ncd_app.proofs.table.Table.len.Goals as goal

pub returns : goal.returns
returns c =
    λ cs h. c.len.ensures.len ∙ ap length c.self.view_is ∙ count_recorded c.args.self.now cs (subst HasOrder c.self.view_is c.self.invariant) h
