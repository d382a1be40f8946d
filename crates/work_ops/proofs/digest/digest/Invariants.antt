use Rattle.std.proofs.Common.{◌≡◌, ◌+◌, ◌*◌, ◌≤◌, take}
use Rattle.work_ops.specs.Words.{hex_text}
use Rattle.work_ops.proofs.digest.digest.Given as goal

abbrev pub invariant-loop-byte : goal.invariant-loop-byte
invariant-loop-byte l =
    record {
      written : l.output.items ≡ hex_text (take l.byte-index l.byte-items);
      roomy : 64 ≤ l.output.spare + 2 * l.byte-index;
    }
