use Rattle.history_text.proofs.PlacesInTable.{added}
use Rattle.history_text.proofs.table.Table.add.Goals as goal
use Rattle.history_text.proofs.table.Table.add.Goals.{in-Ok-insert, in-Err}

pub returns-clause-ok : goal.returns-clause-ok
returns-clause-ok c =
    elim c.match-insert.branch [
      | in-Ok-insert w ↦ rw (w.result-is, ← c.self.view_is) (added c.args.key.now c.in-Ok.key c.self.inside.keys.keys c.insert.new.self.keys c.in-Ok.ensures.items (rw c.self.view_is c.requires) w.in-Ok-insert.ensures.keys)
      | in-Err w ↦ rw w.result-is tt
    ]
