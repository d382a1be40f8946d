use Rattle.std.proofs.Common.{◌≡◌, ◌++◌, take}
use Rattle.std.specs.Prelude.{flat_map}
use Rattle.line_forms.specs.Words.{attribute_flags, attribute_if, bits_of_flags}
use Rattle.line_text.specs.Words.{spaced_words}
use Rattle.line_writer.proofs.put_operands.put_attribute_words.Given as goal

abbrev pub invariant-loop-bits : goal.invariant-loop-bits
invariant-loop-bits l = l.text ≡ l.initial.text ++ spaced_words (flat_map (attribute_if l.set) (take l.bits-index (bits_of_flags attribute_flags)))
