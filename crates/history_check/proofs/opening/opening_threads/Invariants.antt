use Rattle.std.proofs.Common.{◌≡◌, map, take}
use Rattle.history_check.specs.Openings.{opening_thread}
use Rattle.history_check.proofs.opening.opening_threads.Given as goal

abbrev pub invariant-loop-below : goal.invariant-loop-below
invariant-loop-below l = l.threads ≡ map opening_thread (take l.below l.names.threads)
