use Rattle.std.proofs.Common.{◌≡◌, length}
use Rattle.line_reader.specs.Operands.{pieces_after}
use Rattle.line_reader.proofs.Lists.{pieces_left}
use Rattle.line_reader.proofs.ItemByItem.{onto}
use Rattle.line_reader.proofs.operands.Operands.pieces_after.Given as goal

abbrev pub invariant-loop-pieces : goal.invariant-loop-pieces
invariant-loop-pieces l = onto l.pieces (pieces_left l.self) ≡ pieces_after l.fn.first l.fn.self

abbrev pub decreases-loop-pieces : goal.decreases-loop-pieces
decreases-loop-pieces l = length l.self.words
