use Rattle.std.proofs.Common.{refl, ap, ◌∙◌, ◌++◌, ◌∷◌, [], map, Some}
use mathlib.Core.Option.{some}
use Rattle.seat_table.proofs.Rules.{opens}
use Rattle.seat_table.proofs.table.SeatTable.new.Goals as goal

pub new-requires : goal.new-requires
new-requires g c =
    opens g.D.Recorded.history g.D.Recorded.seat _ c.args.value refl
    (ap (λ l. map some l) (c.push_reserved.ensures.items ∙ (λ i. c.in-Ok.ensures.items i ++ Some c.args.value ∷ []))) c.requires refl
