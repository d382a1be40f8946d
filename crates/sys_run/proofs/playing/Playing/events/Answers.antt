use Rattle.std.proofs.Common.{◌∙◌, sym}
use Rattle.sys_run.proofs.FirstTurns.{so_far}
use Rattle.sys_run.proofs.Journals.{events-counted, length-history}
use Rattle.sys_run.proofs.playing.Playing.events.Goals as goal

pub returns : goal.returns
returns c =
    let p = so_far c.self.inside.script c.self.inside.kernel.events
    in rw (← c.self.view_is) (c.events.ensures.count ∙ events-counted p _ c.self.invariant.kernel_stands ∙ sym (length-history p))
