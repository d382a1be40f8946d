use Rattle.std.proofs.Common.{◌≡◌, ◌+◌, ◌≤◌, ◌++◌, length, drop}
use Rattle.spec_records.specs.Words.{objects_of}
use Rattle.fork_step.proofs.Copied.{copied}
use Rattle.fork_step.proofs.forking.fork_rows.Given as goal

abbrev pub invariant-loop-number : goal.invariant-loop-number
invariant-loop-number l =
    record {
      rows : l.child ≡ copied l.number l.parent l.initial.child;
      listed : l.added.items ++ objects_of (drop l.number l.parent) ≡ l.initial.added.items ++ objects_of l.parent;
      roomy : length (objects_of (drop l.number l.parent)) ≤ l.added.spare;
      kept : l.initial.added.spare + length (objects_of (drop l.number l.parent)) ≤ l.added.spare + length (objects_of l.parent);
    }
