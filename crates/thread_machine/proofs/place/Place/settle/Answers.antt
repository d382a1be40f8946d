use Rattle.std.proofs.Common.{◌∙◌, refl}
use Rattle.thread_machine.specs.LastAnswers.{is_met_in}
use Rattle.thread_machine.proofs.Walks.{next_steps-command}
use Rattle.thread_machine.proofs.place.Place.settle.Goals as goal

pub returns-clause-ahead : goal.returns-clause-ahead
returns-clause-ahead c =
    c.loop-known.invariant.1
    ∙ c.pass.ensures.ahead
    ∙ next_steps-command
    (is_met_in c.args.known)
    c.args.body.now
    c.pass.new.self.position
    c.pass.new.self.blocks
    (c.loop-known-test.ensures.command refl)
    c.pass.ensures.stands
