use Rattle.std.proofs.Common.{◌++◌, ap, refl, ◌∙◌, get_or}
use Rattle.line_text.specs.Words.{spaced_words}
use Rattle.line_forms.specs.Words.{attribute_flags, attribute_if, bits_of_flags}
use Rattle.line_writer.proofs.SpacedWords.{flat_more}
use Rattle.line_writer.proofs.put_operands.put_attribute_words.Goals as goal

pub loop-bits-preserved : goal.loop-bits-preserved
loop-bits-preserved c =
    let bits = get_or (bits_of_flags attribute_flags) c.loop-bits.bits-index 0 in
    c.in_ok-put_attribute.ensures ∙
    ap (λ text. text ++ spaced_words (attribute_if c.args.set bits)) c.loop-bits.invariant ∙
    flat_more (attribute_if c.args.set) (bits_of_flags attribute_flags) c.loop-bits.bits-index bits 0 c.args.text.now c.loop-bits-test.true refl
