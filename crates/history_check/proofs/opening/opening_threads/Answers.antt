use Rattle.std.proofs.Common.{arith}
use Rattle.history_check.proofs.OpeningLists.{thread_after}
use Rattle.history_check.proofs.opening.opening_threads.Goals as goal

pub loop-below-preserved : goal.loop-below-preserved
loop-below-preserved c =
    thread_after c.args.names.now c.loop-below.below c.process_of.result c.is_spare.result c.loop-below.threads c.push.new.self (omega arith)
    c.process_of.ensures c.is_spare.ensures c.loop-below.invariant c.in_ok-push.ensures.ok
