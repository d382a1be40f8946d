use Rattle.std.proofs.Common.{◌<◌, ◌∙◌, length, arith, sym, ap}
use Rattle.thread_machine.specs.LastAnswers.{is_met_in}
use Rattle.thread_machine.proofs.Passing.{passes-command, passes-loop, passes-test, passes-block, passes-close, is-loop, test-few, test-nested}
use Rattle.thread_machine.proofs.place.Place.pass_line.Goals as goal

pub overflow_sub-times_of : goal.overflow_sub-times_of
overflow_sub-times_of c =
    let l = is-loop c.args.body.now c.args.self.now c.args.line.now c.requires.there (sym c.in-Loop.ensures) c.requires.stands
    in omega (arith, l.times, c.times_of.ensures)

pub enter-requires-clause-few : goal.enter-requires-clause-few
enter-requires-clause-few c =
    (is-loop c.args.body.now c.args.self.now c.args.line.now c.requires.there (sym c.in-Loop.ensures) c.requires.stands).few

pub enter-requires-then-is_met-clause-few : goal.enter-requires-then-is_met-clause-few
enter-requires-then-is_met-clause-few c =
    test-few c.args.body.now c.args.self.now c.args.line.now c.requires.there (sym c.in-Test.ensures) c.requires.stands

pub position_after_block-self-requires-clause-few : goal.position_after_block-self-requires-clause-few
position_after_block-self-requires-clause-few c =
    let few : length c.args.self.now.blocks < 8 =
    test-few c.args.body.now c.args.self.now c.args.line.now c.requires.there (sym c.in-Test.ensures) c.requires.stands
    in omega (arith, c.len.ensures)

pub position_after_block-self-requires-clause-nested : goal.position_after_block-self-requires-clause-nested
position_after_block-self-requires-clause-nested c =
    rw (c.len.ensures)
    (test-nested c.args.body.now c.args.self.now c.args.line.now c.requires.there (sym c.in-Test.ensures) c.requires.stands)

pub returns-in-Act : goal.returns-in-Act
returns-in-Act c =
    passes-command
    c.args.body.now
    (is_met_in c.args.known)
    c.args.self.now
    c.args.line.now
    c.requires.there
    (sym c.in-Act.ensures)
    c.requires.stands

pub returns-in-Loop : goal.returns-in-Loop
returns-in-Loop c =
    rw (c.enter.ensures, c.times_of.ensures)
    (passes-loop
    c.args.body.now
    (is_met_in c.args.known)
    c.args.self.now
    c.args.line.now
    c.requires.there
    (sym c.in-Loop.ensures)
    c.requires.stands)

pub returns-then-is_met : goal.returns-then-is_met
returns-then-is_met c =
    rw (c.enter-then-is_met.ensures)
    (passes-test
    c.args.body.now
    (is_met_in c.args.known)
    c.args.self.now
    c.args.line.now
    c.requires.there
    (sym c.in-Test.ensures)
    (ap (is_met_in c.args.known) (sym c.tested_condition.ensures) ∙ sym c.if-is_met.ensures)
    c.requires.stands)

pub returns-else-is_met : goal.returns-else-is_met
returns-else-is_met c =
    passes-block
    c.args.body.now
    (is_met_in c.args.known)
    c.args.self.now
    c.args.line.now
    c.position_after_block-self.result
    c.requires.there
    (sym c.in-Test.ensures)
    (ap (is_met_in c.args.known) (sym c.tested_condition.ensures) ∙ sym c.if-is_met.ensures)
    c.requires.stands
    (rw (← c.len.ensures) c.position_after_block-self.ensures)

pub returns-in-Closing : goal.returns-in-Closing
returns-in-Closing c =
    rw (c.close.ensures.moved, c.close.ensures.left)
    (passes-close
    c.args.body.now
    (is_met_in c.args.known)
    c.args.self.now.position
    c.args.self.now.blocks
    c.args.line.now
    c.requires.there
    (sym c.in-Closing.ensures)
    c.requires.stands)
