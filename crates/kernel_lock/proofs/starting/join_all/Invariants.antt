use Rattle.std.proofs.Common.{◌≡◌, ◌+◌, ◌≤◌, length, sum, vec_len}
use Rattle.std.specs.Vec.Iter.{into_iter_len}
use Rattle.kernel_lock.proofs.starting.join_all.Given as goal

-- the shares that came back, with their turns
abbrev pub invariant-loop-driver : goal.invariant-loop-driver
invariant-loop-driver g l =
    (l.all.parts + into_iter_len l.driver-iterator ≡ l.fn.all.parts + vec_len l.fn.drivers)
    × (l.all.amount + sum l.fn.by.items ≡ l.fn.all.amount + sum l.by.items)
    × (length l.by.items + into_iter_len l.driver-iterator ≡ length l.fn.by.items + vec_len l.fn.drivers)
    × (into_iter_len l.driver-iterator ≤ l.by.spare)
