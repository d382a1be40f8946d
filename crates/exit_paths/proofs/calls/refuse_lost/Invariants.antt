use Rattle.std.proofs.Common.{◌≤◌, List, take}
use Rattle.spec_records.specs.Words.{ProcessTable, leaving_of}
use Rattle.spec_kernel.specs.Types.{Call}
use Rattle.exit_paths.specs.Words.{AreRefused, DropsTransit, in_transit}
use Rattle.exit_paths.proofs.calls.refuse_lost.Given as goal

abbrev pub invariant-loop-i : goal.invariant-loop-i
invariant-loop-i l =
    ((table : ProcessTable) → AreRefused (leaving_of table l.doors.items l.who).loses (take l.i l.items) l.fn.calls.tree l.calls.tree)
    × ((first : List Call) → DropsTransit first l.fn.calls.tree.calls l.fn.into.items → DropsTransit first l.calls.tree.calls l.into.items)
    × (in_transit l.calls.tree.calls ≤ l.into.spare)
    × (l.fn.calls.spare ≤ l.calls.spare)
