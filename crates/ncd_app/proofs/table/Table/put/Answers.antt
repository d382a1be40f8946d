use Rattle.std.proofs.Common.{Some}
use Rattle.ncd_app.proofs.Records.{updated}
use Rattle.ncd_app.proofs.table.Table.put.Goals as goal
use Rattle.ncd_app.proofs.table.Table.put.Goals.{in-Err, in-Ok}

pub returns-clause-ok : goal.returns-clause-ok
returns-clause-ok c =
    elim c.match-insert.branch [
      | in-Ok w ↦ rw w.result-is (updated c.args.self.now c.self.inside.records.entries c.insert.new.self.entries c.args.key (Some c.args.made) c.self.view_is w.in-Ok.ensures.updates.0)
      | in-Err w ↦ rw w.result-is tt
    ]
