use Rattle.history_text.specs.LineWords.{pass_word}
use Rattle.history_text.proofs.Spaced.{all_put}
use Rattle.history_text.proofs.write_operands.push_each_pass.Goals as goal

pub returns-clause-items : goal.returns-clause-items
returns-clause-items c =
    all_put pass_word c.args.passes.now c.loop-pass.pass-index c.args.text.now.items c.loop-pass.text.items c.loop-pass-test.false c.loop-pass.invariant.0
