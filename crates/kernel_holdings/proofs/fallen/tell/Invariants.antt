use Rattle.std.proofs.Common.{◌≡◌, ◌≤◌, ◌++◌, drop, filter, length}
use Rattle.kernel_holdings.specs.Words.{takes}
use Rattle.kernel_holdings.proofs.fallen.tell.Given as goal

abbrev pub invariant-loop-d : goal.invariant-loop-d
invariant-loop-d l =
    (l.into.items ++ filter (takes l.doors.items) (drop l.d-index l.fallen) ≡ l.initial.into.items ++ filter (takes l.doors.items) l.fallen)
    × (length (filter (takes l.doors.items) (drop l.d-index l.fallen)) ≤ l.into.spare)
