use Rattle.std.proofs.Common.{ℕ, ◌≡◌, length, is_some, false}
use Rattle.dk_base.specs.declared.number.PathId.{PathId}
use Rattle.spec_records.specs.declared.record.ThreadState.TheVariants as is
use Rattle.spec_records.specs.Words.{name_in, state_in, thread_at}
use Rattle.dk_base.specs.Words.{has, members}
use Rattle.kernel_store.proofs.paths.find_all.Given as goal

-- the threads that were asked
abbrev pub invariant-loop-t : goal.invariant-loop-t
invariant-loop-t l =
    (u : ℕ) (path : PathId) → state_in (thread_at l.fn.processes u) ≡ is.Awaiting path → has l.rest u ≡ false → has l.named u ≡ is_some (name_in l.fn.names.names path)

abbrev pub decreases-loop-t : goal.decreases-loop-t
decreases-loop-t l = length (members l.rest)
