use Rattle.std.proofs.Common.{length}
use Rattle.line_reader.proofs.AttributeWords.{AttributesSoFar}
use Rattle.line_reader.proofs.operands.Operands.attributes.Given as goal

abbrev pub invariant-loop-word : goal.invariant-loop-word
invariant-loop-word l = AttributesSoFar l.set l.self l.fn.self

abbrev pub decreases-loop-word : goal.decreases-loop-word
decreases-loop-word l = length l.self.words
