use Rattle.std.proofs.Common.{arith}
use Rattle.history_check.proofs.OpeningLists.{process_after}
use Rattle.history_check.proofs.opening.opening_processes.Goals as goal

pub loop-below-preserved : goal.loop-below-preserved
loop-below-preserved c =
    process_after c.args.names.now c.loop-below.below c.limit_of.result c.parent_of.result c.loop-below.processes c.push.new.self (omega arith)
    c.limit_of.ensures c.parent_of.ensures c.loop-below.invariant c.in_ok-push.ensures.ok
