use Rattle.std.proofs.Common.{◌≡◌, ℕ, ◌-◌, ◌≤◌, true, IfSome, find, is_some}
use Rattle.dk_base.specs.declared.limits.TheConstants.{THREADS_MAX}
use Rattle.spec_records.specs.Words.{thread_at}
use Rattle.call_tree.specs.Words.{is_called_by}
use Rattle.proc_table.specs.Words.{Walks}
use Rattle.dk_base.specs.Words.{has}
use Rattle.exit_paths.specs.Words.{deserted_in_call}
use Rattle.exit_paths.proofs.fates.servers_of.Given as goal

abbrev pub invariant-loop-t : goal.invariant-loop-t
invariant-loop-t l =
    Walks l.initial.walk.rest l.walk
    × ((t : ℕ) → has l.touched t ≡ true → is_some (thread_at l.processes t) ≡ true)
    × ((t : ℕ) → t ≤ l.walk.done → has l.initial.walk.rest t ≡ true →
    IfSome (deserted_in_call (find (is_called_by t) l.calls.tree.calls)) (λ d. is_some (thread_at l.processes d.server.0) ≡ true → has l.touched d.server.0 ≡ true))

abbrev pub decreases-loop-t : goal.decreases-loop-t
decreases-loop-t l = THREADS_MAX - l.walk.done
