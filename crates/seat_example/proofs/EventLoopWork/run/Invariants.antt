use Rattle.std.proofs.Common.{◌≡◌, ◌+◌, ◌*◌, ◌≤◌}
use Rattle.seat_example.proofs.EventLoopWork.run.Given as goal

abbrev pub invariant-loop-taken : goal.invariant-loop-taken
invariant-loop-taken g l = (l.seat.table ≡ l.seats) × (l.seat.calls ≤ 2 * l.taken + 1)
