use Rattle.std.proofs.Common.{◌≡◌, ℕ, ◌-◌, ◌≤◌, Bool, false, List}
use Rattle.dk_base.specs.declared.limits.TheConstants.{THREADS_MAX}
use Rattle.spec_records.specs.Words.{CallTree}
use Rattle.spec_kernel.specs.Types.{Call}
use Rattle.call_tree.specs.Words.{AreSound, calls_so_far}
use Rattle.proc_table.specs.Words.{Walks}
use Rattle.dk_base.specs.Words.{has}
use Rattle.exit_paths.specs.Words.{DropsTransit, HaveEnded, all_left, in_transit}
use Rattle.exit_paths.proofs.calls.end_all.Given as goal

abbrev pub invariant-loop-t : goal.invariant-loop-t
invariant-loop-t l =
    Walks l.initial.walk.rest l.walk
    × ((tree : CallTree) (refused : ℕ → Bool) → AreSound tree → l.fn.calls.tree ≡ calls_so_far (all_left (λ t. false) refused) tree →
    HaveEnded (has l.initial.walk.rest) refused l.walk.done tree l.calls.tree)
    × ((first : List Call) → DropsTransit first l.fn.calls.tree.calls l.fn.into.items → DropsTransit first l.calls.tree.calls l.into.items)
    × (in_transit l.calls.tree.calls ≤ l.into.spare)
    × (l.fn.calls.spare ≤ l.calls.spare)

abbrev pub decreases-loop-t : goal.decreases-loop-t
decreases-loop-t l = THREADS_MAX - l.walk.done
