use Rattle.std.proofs.Common.{◌-◌, length}
use Rattle.thread_machine.proofs.Leaving.{OnTheWay}
use Rattle.thread_machine.proofs.place.position_after_block.Given as goal

abbrev pub invariant-loop-at : goal.invariant-loop-at
invariant-loop-at l = OnTheWay l.body l.depth l.position l.at l.open

abbrev pub decreases-loop-at : goal.decreases-loop-at
decreases-loop-at l = length l.body - l.at
