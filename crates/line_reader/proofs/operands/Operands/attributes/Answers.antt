use Rattle.std.proofs.Common.{sym}
use Rattle.line_reader.proofs.AttributeWords.{attribute-kept}
use Rattle.line_reader.proofs.operands.Operands.attributes.Goals as goal

pub loop-word-preserved : goal.loop-word-preserved
loop-word-preserved c =
    attribute-kept c.loop-word.set c.in-Some-with_attribute.more c.in-Some.word.now c.loop-word.self c.word.new.self _ c.loop-word.invariant c.in-Some.ensures (sym c.in-Some-with_attribute.ensures)
