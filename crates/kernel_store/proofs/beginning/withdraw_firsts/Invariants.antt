use Rattle.std.proofs.Common.{ℕ, ◌≡◌, filter, length, true}
use Rattle.spec_records.specs.Words.{thread_at}
use Rattle.proc_table.specs.Words.{is_of}
use Rattle.server_pool.specs.Words.{change_spares}
use Rattle.dk_base.specs.Words.{has, members}
use Rattle.kernel_store.proofs.Forking.{is_to_come}
use Rattle.kernel_store.proofs.beginning.withdraw_firsts.Given as goal

abbrev pub invariant-loop-t : goal.invariant-loop-t
invariant-loop-t l =
    record {
      pools : l.pools ≡ change_spares l.initial.pools l.fn.child.0 (filter (is_to_come l.fn.processes l.fn.child.0 l.rest));
      own : (t : ℕ) → has l.rest t ≡ true → is_of l.fn.child.0 (thread_at l.fn.processes t) ≡ true;
    }

abbrev pub decreases-loop-t : goal.decreases-loop-t
decreases-loop-t l = length (members l.rest)
