use Rattle.std.proofs.Common.{◌-◌, ◌≤◌, length}
use Rattle.sys_run.specs.Sys.{turns_left}
use Rattle.sys_run.proofs.Finishing.{HasTaken}
use Rattle.sys_run.proofs.sys.Sys.finish.Given as goal

abbrev pub invariant-loop-t : goal.invariant-loop-t
invariant-loop-t l = HasTaken l.initial.self l.self l.turns × (length (turns_left l.initial.self) ≤ 100000)

abbrev pub decreases-loop-t : goal.decreases-loop-t
decreases-loop-t l = l.self.script.budget - length l.self.journal
