use Rattle.std.proofs.Common.{ap, ◌∙◌}
use Rattle.seat_desk.proofs.Desks.{closed}
use Rattle.seat_desk.proofs.desk.Desk.into_kernel.Goals as goal

pub returns : goal.returns
returns g c =
    ap g.K.Answers.keeps c.into_inner.ensures
    ∙ closed g.J.Opening.opening (g.K.Answers.keeps c.self.inside.kernel.value) c.self.inside.history.items c.self.invariant (c.self.view_is ∙ c.requires)
