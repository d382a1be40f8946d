use Rattle.sys_run.proofs.Looks.{laws-journal, events-declared}
use Rattle.sys_run.proofs.sys.Sys.journal.Goals as goal

pub returns-clause-declared : goal.returns-clause-declared
returns-clause-declared c =
    rw (c.as_slice.ensures.value, ← c.self.view_is) (events-declared _ c.self.invariant.journal_is_run)

pub returns-clause-laws : goal.returns-clause-laws
returns-clause-laws c = rw (← c.self.view_is) (laws-journal _ c.every_run.ensures c.self.invariant.journal_is_run)
