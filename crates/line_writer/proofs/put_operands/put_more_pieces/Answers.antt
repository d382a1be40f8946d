use Rattle.std.proofs.Common.{◌++◌, ◌∷◌, [], ap, ◌∙◌}
use Rattle.line_text.specs.Words.{spaced_words}
use Rattle.std.specs.Prelude.{codes}
use Rattle.line_forms.specs.Words.{joined_piece, piece_word}
use Rattle.line_writer.proofs.SpacedWords.{flat_more, after_two}
use Rattle.line_writer.proofs.put_operands.put_more_pieces.Goals as goal

pub loop-piece-preserved : goal.loop-piece-preserved
loop-piece-preserved c =
    let word = piece_word c.piece-item.result in
    c.in_ok-put_piece.ensures ∙
    ap (λ text. text ++ spaced_words (word ∷ [])) c.in_ok-word.ensures.ok ∙
    after_two c.loop-piece.text (codes "+") (spaced_words (word ∷ [])) ∙
    ap (λ text. text ++ spaced_words (joined_piece c.piece-item.result)) c.loop-piece.invariant ∙
    flat_more joined_piece c.args.pieces.now c.loop-piece.piece-index c.piece-item.result c.piece-item.result c.args.text.now c.loop-piece-test.true c.piece-item.is
