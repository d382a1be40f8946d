use Rattle.std.proofs.Common.{◌≡◌, ◌≤◌, ◌*◌, ◌++◌, flat_map, take}
use Rattle.line_text.specs.Words.{spaced_words}
use Rattle.line_forms.specs.Words.{attribute_flags, attribute_if, bits_of_flags}
use Rattle.trace_text.specs.Taken.{TakesAtMost}
use Rattle.history_text.proofs.write_operands.push_set.Given as goal

abbrev pub invariant-loop-bits : goal.invariant-loop-bits
invariant-loop-bits l =
    (l.text.items ≡ l.fn.text.items ++ flat_map (λ bits. spaced_words (attribute_if l.set bits)) (take l.bits-index (bits_of_flags attribute_flags)))
    × TakesAtMost l.fn.text l.text (12 * l.bits-index)
    × (96 ≤ l.fn.text.spare)
