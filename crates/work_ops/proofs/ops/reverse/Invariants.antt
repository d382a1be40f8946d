use Rattle.std.proofs.Common.{◌≡◌, ◌≤◌, drop, reverse}
use Rattle.work_ops.proofs.ops.reverse.Given as goal

abbrev pub invariant-loop-place : goal.invariant-loop-place
invariant-loop-place l =
    record {
      written : l.output.items ≡ reverse (drop l.place l.input);
      roomy : l.place ≤ l.output.spare;
    }
