use Rattle.std.proofs.Common.{◌≡◌, map, take}
use Rattle.history_check.specs.Openings.{opening_process}
use Rattle.history_check.proofs.opening.opening_processes.Given as goal

abbrev pub invariant-loop-below : goal.invariant-loop-below
invariant-loop-below l = l.processes ≡ map opening_process (take l.below l.names.processes)
