use Rattle.std.proofs.Common.{◌≡◌, ◌≤◌, ◌+◌, length}
use Rattle.kernel_lock.proofs.shared.fill_with_condvars.Given as goal

abbrev pub invariant-loop : goal.invariant-loop
invariant-loop l = (length l.room.items ≡ l.counter) × (l.fn.threads ≤ l.room.spare + l.counter)
