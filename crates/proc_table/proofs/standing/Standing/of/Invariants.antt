use Rattle.std.proofs.Common.{take}
use Rattle.proc_table.specs.Standing.{AreNoted}
use Rattle.proc_table.proofs.standing.Standing.of.Given as goal

abbrev pub invariant-loop-i : goal.invariant-loop-i
invariant-loop-i l = AreNoted l.standing (take l.i l.fn.threads)
