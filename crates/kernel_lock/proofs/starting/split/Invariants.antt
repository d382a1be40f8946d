use Rattle.std.proofs.Common.{◌≡◌, ◌+◌, vec_len}
use Rattle.kernel_lock.proofs.starting.split.Given as goal

abbrev pub invariant-loop : goal.invariant-loop
invariant-loop g l = (l.rest.parts + l.counter ≡ l.fn.rest.parts) × (l.rest.amount ≡ 0) × (vec_len l.shares ≡ l.counter)
