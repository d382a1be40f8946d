use Rattle.line_forms.proofs.PathSearch.{inserted}
use Rattle.line_forms.proofs.paths.PathTable.add.Goals as goal
use Rattle.line_forms.proofs.paths.PathTable.add.Goals.{in-Ok-insert, in-Err}

pub returns-clause-ok : goal.returns-clause-ok
returns-clause-ok c =
    elim c.match-insert.branch [
      | in-Ok-insert w ↦ rw (w.result-is, ← c.self.view_is) (inserted c.args.name.now c.in-Ok.name c.self.inside.names.keys c.insert.new.self.keys c.in-Ok.ensures.items w.in-Ok-insert.ensures.keys)
      | in-Err w ↦ rw w.result-is tt
    ]
