use Rattle.std.proofs.Common.{◌≡◌, ◌+◌, ◌-◌, ◌≤◌, take}
use Rattle.dk_base.specs.declared.object.Obj.{Obj}
use Rattle.spec_records.specs.Words.{count_object, objects_of, table_in}
use Rattle.unref_notice.specs.Words.{count_of}
use Rattle.kernel_holdings.proofs.lowered.lower_table.Given as goal

abbrev pub invariant-loop-fd : goal.invariant-loop-fd
invariant-loop-fd l =
    record {
      counts : (o : Obj) → count_of l.counts.counts o ≡ count_of l.fn.counts.counts o - count_object o (objects_of (take l.fd (table_in l.tables l.p.0)));
      opening : l.counts.opening ≡ l.fn.counts.opening;
      left : l.fn.counts.left ≤ l.counts.left + l.fd;
    }
