use Rattle.std.proofs.Common.{◌≡◌, ◌+◌, ◌-◌, length, ◌≤◌, filter, take}
use Rattle.dk_base.specs.declared.object.Obj.{Obj}
use Rattle.spec_records.specs.Words.{count_object, objects_passed, table_in}
use Rattle.unref_notice.specs.Words.{count_of}
use Rattle.kernel_holdings.specs.Words.{is_released}
use Rattle.kernel_holdings.proofs.lowered.lower_released.Given as goal

abbrev pub invariant-loop-passed : goal.invariant-loop-passed
invariant-loop-passed l =
    record {
      counts : (o : Obj) → count_of l.counts.counts o ≡ count_of l.fn.counts.counts o - count_object o (objects_passed (table_in l.tables l.p.0) (filter is_released (take l.passed-index l.passed-items)));
      opening : l.counts.opening ≡ l.fn.counts.opening;
      left : l.fn.counts.left ≤ l.counts.left + length (objects_passed (table_in l.tables l.p.0) (filter is_released (take l.passed-index l.passed-items)));
    }
