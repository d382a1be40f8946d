use Rattle.std.proofs.Common.{◌≡◌, ◌++◌, take}
use Rattle.std.specs.Prelude.{flat_map}
use Rattle.line_forms.specs.Words.{joined_piece}
use Rattle.line_text.specs.Words.{spaced_words}
use Rattle.line_writer.proofs.put_operands.put_more_pieces.Given as goal

abbrev pub invariant-loop-piece : goal.invariant-loop-piece
invariant-loop-piece l = l.text ≡ l.initial.text ++ spaced_words (flat_map joined_piece (take l.piece-index l.pieces))
