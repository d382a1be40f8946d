use Rattle.std.proofs.Common.{◌≡◌}
use Rattle.seat_example.proofs.WorkerWork.run.Given as goal

abbrev pub invariant-loop-user : goal.invariant-loop-user
invariant-loop-user g l = (l.seat.table ≡ l.seats) × (l.seat.calls ≡ l.user)
