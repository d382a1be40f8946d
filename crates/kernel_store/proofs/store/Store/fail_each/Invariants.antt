use Rattle.std.proofs.Common.{◌≡◌, ℕ, false, length, true}
use Rattle.dk_base.specs.Words.{has, members}
use Rattle.spec_kernel.specs.Words.{has_lost_door}
use Rattle.kernel_store.specs.Failing.{IsFailing}
use Rattle.kernel_store.specs.Stored.{stored_state}
use Rattle.kernel_store.proofs.store.Store.fail_each.Given as goal

abbrev pub invariant-loop-t : goal.invariant-loop-t
invariant-loop-t l =
    record {
      failing : IsFailing l.initial.self l.self;
      done : (t : ℕ) → has l.fn.threads t ≡ true → has l.rest t ≡ false → has_lost_door (stored_state l.self) t ≡ false;
    }

abbrev pub decreases-loop-t : goal.decreases-loop-t
decreases-loop-t l = length (members l.rest)
