use Rattle.std.proofs.Common.{◌≡◌, ◌+◌, ◌≤◌, vec_len, vec_capacity}
use Rattle.std.specs.Vec.Iter.{into_iter_len}
use Rattle.kernel_lock.proofs.starting.start_all.Given as goal

-- each share that is left has a place in the room
abbrev pub invariant-loop-share : goal.invariant-loop-share
invariant-loop-share g l =
    (l.number + into_iter_len l.share-iterator ≡ vec_len l.fn.shares)
    × (vec_len l.drivers ≡ l.number)
    × (vec_len l.drivers + into_iter_len l.share-iterator ≤ vec_capacity l.drivers)
