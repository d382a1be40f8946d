use Rattle.std.proofs.Common.{◌-◌, length}
use Rattle.sys_run.proofs.Scheduling.{HasScheduled}
use Rattle.sys_run.proofs.sys.Sys.play_schedule.Given as goal

abbrev pub invariant-loop-t : goal.invariant-loop-t
invariant-loop-t l = HasScheduled l.initial.self l.self

abbrev pub decreases-loop-t : goal.decreases-loop-t
decreases-loop-t l = l.self.script.budget - length l.self.journal
