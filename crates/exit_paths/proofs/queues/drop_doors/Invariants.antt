use Rattle.std.proofs.Common.{◌≡◌, ◌≤◌, ◌++◌, drop, take}
use Rattle.exit_paths.specs.Words.{HaveLeft, dropped_items, is_at_lost, waiting_total}
use Rattle.exit_paths.proofs.queues.drop_doors.Given as goal

abbrev pub invariant-loop-d : goal.invariant-loop-d
invariant-loop-d l =
    HaveLeft (is_at_lost l.doors.items (take l.d-index l.lost)) l.fn.pools l.pools
    × (l.into.items ++ dropped_items l.doors.items (drop l.d-index l.lost) l.pools ≡ l.fn.into.items ++ dropped_items l.doors.items l.lost l.fn.pools)
    × (waiting_total l.doors.items l.pools (drop l.d-index l.lost) ≤ l.into.spare)
