use Rattle.std.proofs.Common.{◌≡◌, length, []}
use Rattle.sys_run.specs.Sys.{AllStandFrom}
use Rattle.sys_run.proofs.opening.first_machines.Given as goal

abbrev pub invariant-loop-below : goal.invariant-loop-below
invariant-loop-below l = AllStandFrom l.script [] 1 l.machines.items × (length l.machines.items ≡ l.below)
