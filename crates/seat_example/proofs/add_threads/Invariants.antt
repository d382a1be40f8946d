use Rattle.std.proofs.Common.{◌≡◌, ◌≤◌, length}
use Rattle.seat_example.proofs.add_threads.Given as goal

abbrev pub invariant-loop : goal.invariant-loop
invariant-loop l = (l.kernel.events ≡ 0) × (1 ≤ length l.kernel.process_table.processes) × (length l.kernel.process_table.threads ≡ l.counter)
