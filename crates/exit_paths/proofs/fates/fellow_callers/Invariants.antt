use Rattle.std.proofs.Common.{◌≡◌, ℕ, ◌-◌, ◌<◌, ◌≤◌, false}
use Rattle.dk_base.specs.declared.limits.TheConstants.{THREADS_MAX}
use Rattle.spec_records.specs.Words.{is_fellow_caller}
use Rattle.proc_table.specs.Words.{Walks}
use Rattle.dk_base.specs.Words.{has}
use Rattle.exit_paths.proofs.fates.fellow_callers.Given as goal

abbrev pub invariant-loop-u : goal.invariant-loop-u
invariant-loop-u l =
    Walks l.initial.walk.rest l.walk
    × ((u : ℕ) → u ≤ l.walk.done → has l.callers u ≡ is_fellow_caller l.processes l.t.0 u)
    × ((u : ℕ) → l.walk.done < u → has l.callers u ≡ false)

abbrev pub decreases-loop-u : goal.decreases-loop-u
decreases-loop-u l = THREADS_MAX - l.walk.done
