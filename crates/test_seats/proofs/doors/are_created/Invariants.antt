use Rattle.std.proofs.Common.{◌≡◌}
use Rattle.test_seats.proofs.doors.are_created.Given as goal

abbrev pub invariant-loop-i : goal.invariant-loop-i
invariant-loop-i g l = g.C.Caller.table l.caller ≡ g.C.Caller.table l.initial.caller
