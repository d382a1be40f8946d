use Rattle.std.proofs.Common.{◌≡◌, ◌++◌, map, take, drop}
use Rattle.timer_src.specs.Pending.{stepped}
use Rattle.timer_src.proofs.pending.step.Given as goal

abbrev pub invariant-loop-p : goal.invariant-loop-p
invariant-loop-p l = l.pendings ≡ map (stepped l.clock) (take l.p-index l.initial.pendings) ++ drop l.p-index l.initial.pendings
