use Rattle.std.proofs.Common.{◌≡◌, length}
use Rattle.test_seats.proofs.seated.are_added.Given as goal

abbrev pub invariant-loop-t : goal.invariant-loop-t
invariant-loop-t l = (l.kernel.events ≡ 0) × (length l.kernel.process_table.processes ≡ l.processes) × (length l.kernel.process_table.threads ≡ l.t)
