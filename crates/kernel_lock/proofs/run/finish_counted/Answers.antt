use Rattle.std.proofs.Common.{ap, arith, ◌∙◌, length}
use Rattle.sys_run.specs.Sys.{SysValue, turns_left}
use Rattle.sys_run.proofs.Finishing.{script-with_turns}
use Rattle.kernel_lock.proofs.Counts.{length-with_turns}
use Rattle.kernel_lock.proofs.run.finish_counted.Goals as goal

pub returns-clause-script : goal.returns-clause-script
returns-clause-script c =
    let old = c.args.sys.now in
    ap (λ (p : SysValue). p.script) c.in_ok-left.ensures.turns ∙ script-with_turns (turns_left old) old

pub returns-clause-count : goal.returns-clause-count
returns-clause-count c =
    let old = c.args.sys.now in
    omega (arith, ap (λ (p : SysValue). length p.journal) c.in_ok-left.ensures.turns, length-with_turns (turns_left old) old, c.in_ok-left.ensures.count)
