use Rattle.std.proofs.Common.{◌≡◌, ◌==◌, ℕ, take}
use Rattle.std.specs.List.{list_any}
use Rattle.dk_base.specs.Words.{has}
use Rattle.kernel_store.proofs.sets.set_of.Given as goal

abbrev pub invariant-loop-t : goal.invariant-loop-t
invariant-loop-t l = (t : ℕ) → has l.set t ≡ list_any (λ u. u.0 == t) (take l.t-index l.threads)
