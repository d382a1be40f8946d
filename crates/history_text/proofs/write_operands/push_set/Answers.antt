use Rattle.std.proofs.Common.{arith}
use Rattle.line_text.specs.Words.{spaced_words}
use Rattle.line_forms.specs.Words.{attribute_flags, attribute_if, bits_of_flags}
use Rattle.history_text.proofs.Spaced.{all_words_put, one_more_put}
use Rattle.history_text.proofs.write_operands.push_set.Goals as goal

pub loop-bits-preserved : goal.loop-bits-preserved
loop-bits-preserved c = (
  one_more_put (λ bits. spaced_words (attribute_if c.args.set bits)) (bits_of_flags attribute_flags) c.loop-bits.bits-index c.args.text.now.items c.loop-bits.text.items c.push_attribute.new.text.items c.loop-bits-test.true c.loop-bits.invariant.0 c.push_attribute.ensures.items,
  (omega arith, omega arith),
  c.loop-bits.invariant.2,
)

pub returns-clause-items : goal.returns-clause-items
returns-clause-items c =
    all_words_put (attribute_if c.args.set) (bits_of_flags attribute_flags) c.loop-bits.bits-index c.args.text.now.items c.loop-bits.text.items c.loop-bits-test.false c.loop-bits.invariant.0
