use Rattle.std.proofs.Common.{ap, ◌∙◌}
use Rattle.spec_records.specs.Words.{number_in}
use Rattle.port_assoc.proofs.Watching.{first_watched}
use Rattle.port_assoc.proofs.assocs.Assocs.first_told.Goals as goal

pub returns : goal.returns
returns c =
    rw (← c.self.view_is)
    (c.first_told.ensures ∙ ap number_in (first_watched c.self.inside.table.items c.self.inside.watchers c.args.object c.args.ready c.self.invariant.0))
