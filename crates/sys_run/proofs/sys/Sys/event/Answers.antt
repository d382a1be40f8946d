use Rattle.std.proofs.Common.{refl}
use Rattle.std.proofs.lemmas.Option.{slice_get_read}
use Rattle.sys_run.proofs.Looks.{event-declared}
use Rattle.sys_run.proofs.sys.Sys.event.Goals as goal

pub returns-clause-declared : goal.returns-clause-declared
returns-clause-declared c =
    rw (← c.self.view_is)
    (event-declared
    _
    c.args.i
    c.index.result.now
    c.self.invariant.journal_is_run
    (slice_get_read c.self.inside.journal.items _ c.args.i c.index.result.now refl (rw (← c.self.view_is) at c.requires) c.index.ensures))
