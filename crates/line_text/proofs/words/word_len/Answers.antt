use Rattle.line_text.proofs.WordEnd.{word_more, word_all, word_end, in_word}
use Rattle.line_text.proofs.words.word_len.Goals as goal

pub returns-in-Between-clause-word : goal.returns-in-Between-clause-word
returns-in-Between-clause-word c = word_end _ _ _ _ _ c.loop-len-test.true c.loop-len.invariant.0 c.mode_after-mode.ensures c.in-Between.is c.loop-len.invariant.1

pub loop-len-preserved : goal.loop-len-preserved
loop-len-preserved c =
    (in_word _ c.in_default.not-Between, word_more _ _ _ _ _ c.loop-len-test.true c.mode_after-mode.ensures (in_word _ c.in_default.not-Between) c.loop-len.invariant.1)

pub returns-clause-word : goal.returns-clause-word
returns-clause-word c = word_all _ _ _ _ c.loop-len-test.false c.loop-len.auto.len-end c.loop-len.invariant.0 c.loop-len.invariant.1
