use Rattle.sys_run.proofs.Looks.{laws-journal}
use Rattle.sys_run.proofs.playing.Playing.laws.Goals as goal

pub returns-clause-laws : goal.returns-clause-laws
returns-clause-laws c = rw (← c.self.view_is) (laws-journal _ c.every_run.ensures c.self.invariant.journal_is_run)
