use Rattle.std.proofs.Common.{◌++◌, ◌∷◌, [], ap, ◌∙◌}
use Rattle.line_text.specs.Words.{spaced_words}
use Rattle.line_forms.specs.Words.{pass_word}
use Rattle.line_writer.proofs.SpacedWords.{map_more}
use Rattle.line_writer.proofs.put_operands.put_each_pass.Goals as goal

pub loop-pass-preserved : goal.loop-pass-preserved
loop-pass-preserved c =
    c.in_ok-put_pass.ensures ∙
    ap (λ text. text ++ spaced_words (pass_word c.pass-item.result ∷ [])) c.loop-pass.invariant ∙
    map_more pass_word c.args.passes.now c.loop-pass.pass-index c.pass-item.result c.pass-item.result c.args.text.now c.loop-pass-test.true c.pass-item.is
