use Rattle.std.proofs.Common.{◌≡◌, take}
use Rattle.exit_paths.specs.Words.{waiting_total}
use Rattle.exit_paths.proofs.queues.count_waiting.Given as goal

abbrev pub invariant-loop-d : goal.invariant-loop-d
invariant-loop-d l = l.total ≡ waiting_total l.doors.items l.pools (take l.d-index l.lost)
