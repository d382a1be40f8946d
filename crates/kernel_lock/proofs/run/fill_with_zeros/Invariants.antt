use Rattle.std.proofs.Common.{◌≡◌, ◌≤◌, ◌+◌, length, sum}
use Rattle.kernel_lock.proofs.run.fill_with_zeros.Given as goal

abbrev pub invariant-loop : goal.invariant-loop
invariant-loop l = (sum l.room.items ≡ 0) × (length l.room.items ≡ l.counter) × (l.fn.n ≤ l.room.spare + l.counter)
