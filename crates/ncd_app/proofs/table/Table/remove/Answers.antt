use Rattle.std.proofs.Common.{None}
use Rattle.ncd_app.proofs.Records.{updated}
use Rattle.ncd_app.proofs.table.Table.remove.Goals as goal

pub returns : goal.returns
returns c = updated c.args.self.now c.self.inside.records.entries c.remove.new.self.entries c.args.key.now None c.self.view_is c.remove.ensures.updates.0
