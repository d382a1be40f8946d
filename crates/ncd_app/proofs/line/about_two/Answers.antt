use Rattle.std.proofs.Common.{sym, ◌∙◌}
use Rattle.ncd_app.specs.Commands.{command_about_two}
use Rattle.ncd_app.proofs.Lines.{no_word, two_words}
use Rattle.ncd_app.proofs.line.about_two.Goals as goal

pub returns-then-not-is_word-2-clause-command : goal.returns-then-not-is_word-2-clause-command
returns-then-not-is_word-2-clause-command c =
    sym (no_word c.args.verb.now c.args.key.now c.args.word.now (sym c.is_word-2.ensures ∙ c.if-not-is_word-2.true))

pub returns-clause-command : goal.returns-clause-command
returns-clause-command c =
    c.with_two_words.ensures ∙ (λ i. command_about_two c.args.verb.now (c.of.ensures i) (c.of-2.ensures i))
    ∙ sym (two_words c.args.verb.now c.args.key.now c.args.word.now (sym c.is_word.ensures ∙ c.if-not-is_word.false) (sym c.is_word-2.ensures ∙ c.if-not-is_word-2.false))
