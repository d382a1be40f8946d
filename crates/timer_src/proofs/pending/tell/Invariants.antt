use Rattle.std.proofs.Common.{◌≡◌, ◌+◌, ◌≤◌, ◌++◌, drop, length}
use Rattle.timer_src.specs.Pending.{told}
use Rattle.timer_src.proofs.pending.tell.Given as goal

abbrev pub invariant-loop-p : goal.invariant-loop-p
invariant-loop-p l =
    (l.into.items ++ told l.clock (drop l.p-index l.pendings) ≡ l.initial.into.items ++ told l.clock l.pendings)
    × (length (drop l.p-index l.pendings) ≤ l.into.spare)
    × (length l.initial.into.items + l.initial.into.spare ≤ length l.into.items + l.into.spare)
