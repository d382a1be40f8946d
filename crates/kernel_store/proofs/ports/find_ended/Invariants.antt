use Rattle.std.proofs.Common.{ℕ, ◌≡◌, length, false}
use Rattle.spec_records.specs.Words.{state_in, thread_at}
use Rattle.dk_base.specs.Words.{has, members}
use Rattle.kernel_store.specs.Turning.{has_ended_at}
use Rattle.kernel_store.proofs.ports.find_ended.Given as goal

-- the threads that were asked, and those that do not wait so
abbrev pub invariant-loop-t : goal.invariant-loop-t
invariant-loop-t l =
    (u : ℕ) → has l.rest u ≡ false → has l.ended u ≡ has_ended_at l.fn.held l.fn.ports.ports.ports (state_in (thread_at l.fn.processes u))

abbrev pub decreases-loop-t : goal.decreases-loop-t
decreases-loop-t l = length (members l.rest)
