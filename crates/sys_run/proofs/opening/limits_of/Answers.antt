use Rattle.sys_run.proofs.Opens.{limits_more}
use Rattle.sys_run.proofs.opening.limits_of.Goals as goal

pub loop-below-preserved : goal.loop-below-preserved
loop-below-preserved c =
    rw c.in_ok-push.ensures.ok
    (limits_more c.args.script.now.processes c.loop-below.below _ _ c.loop-below.invariant c.limit.ensures)
