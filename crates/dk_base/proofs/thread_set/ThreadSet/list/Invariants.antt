use Rattle.std.proofs.Common.{◌≡◌, ◌≤◌, ◌++◌, length, map}
use Rattle.dk_base.specs.Numbers.{tid}
use Rattle.dk_base.specs.ThreadSets.{members}
use Rattle.dk_base.proofs.thread_set.ThreadSet.list.Given as goal

abbrev pub invariant-loop-t : goal.invariant-loop-t
invariant-loop-t l = (l.room.items ++ map tid (members l.rest) ≡ l.initial.room.items ++ map tid (members l.fn.self)) × (length (members l.rest) ≤ l.room.spare)

abbrev pub decreases-loop-t : goal.decreases-loop-t
decreases-loop-t l = length (members l.rest)
