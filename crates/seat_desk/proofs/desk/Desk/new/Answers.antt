use Rattle.std.proofs.Common.{ap}
use Rattle.seat_desk.proofs.Desks.{opened}
use Rattle.seat_desk.proofs.desk.Desk.new.Goals as goal

pub invariant_of-result : goal.invariant_of-result
invariant_of-result g c =
    opened g.J.Opening.opening (g.K.Answers.keeps c.args.kernel) (g.K.Answers.keeps c.in-Ok.kernel.value) c.new-in-Ok.result.items
    (ap g.K.Answers.keeps c.in-Ok.ensures.ok) c.new-in-Ok.ensures c.requires.opening c.events.ensures.opening c.requires.no_event
