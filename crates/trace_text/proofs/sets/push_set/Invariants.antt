use Rattle.std.proofs.Common.{◌≡◌, ◌≤◌, ◌*◌, ◌++◌, take}
use Rattle.std.specs.Prelude.{flat_map}
use Rattle.std.specs.List.{join_with_byte}
use Rattle.line_forms.specs.Words.{attribute_flags, attribute_if, bits_of_flags}
use Rattle.trace_text.specs.Taken.{TakesAtMost}
use Rattle.trace_text.proofs.PlusJoined.{has_none}
use Rattle.trace_text.proofs.sets.push_set.Given as goal

abbrev pub invariant-loop-bits : goal.invariant-loop-bits
invariant-loop-bits l =
    record {
      joined : l.text.items ≡ l.fn.text.items ++ join_with_byte 43 (flat_map (attribute_if l.set) (take l.bits-index (bits_of_flags attribute_flags)));
      none_yet : l.first ≡ has_none (flat_map (attribute_if l.set) (take l.bits-index (bits_of_flags attribute_flags)));
      taken : TakesAtMost l.fn.text l.text (12 * l.bits-index);
      roomy : 100 ≤ l.fn.text.spare;
    }
