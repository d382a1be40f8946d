use Rattle.std.proofs.Common.{arith, ap, ◌∙◌}
use Rattle.seat_api.specs.Seating.{Chair}
use Rattle.seat_api.proofs.seats.Seats.split.Goals as goal

pub split-place-requires-clause-first : goal.split-place-requires-clause-first
split-place-requires-clause-first g c =
    let some = c.first.invariant.first (ap (λ (x : Chair). x.number) c.first.view_is ∙ c.requires.first) in
    omega (arith, c.first.invariant.next_is, some)
