use Rattle.std.proofs.Common.{◌≡◌, ◌+◌, ◌≤◌, length, map, take}
use Rattle.std.specs.Char.{to_ascii_uppercase}
use Rattle.work_ops.proofs.ops.upper.Given as goal

abbrev pub invariant-loop-byte : goal.invariant-loop-byte
invariant-loop-byte l =
    record {
      written : l.output.items ≡ map to_ascii_uppercase (take l.byte-index l.input);
      roomy : length l.input ≤ l.output.spare + l.byte-index;
    }
