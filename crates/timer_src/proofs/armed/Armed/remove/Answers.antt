use Rattle.std.proofs.Common.{◌∙◌, sym}
use Rattle.timer_src.proofs.Ordered.{not_there, parted, taken_out}
use Rattle.timer_src.proofs.armed.Armed.remove.Goals as goal

pub count_below-place-requires : goal.count_below-place-requires
count_below-place-requires c =
    let up = rw (← c.self.view_is) at c.requires in
    rw c.as_slice.ensures.value (parted c.args.number c.self.inside.pendings.items up.0 up.1)

pub returns-then-is_at-clause-items : goal.returns-then-is_at-clause-items
returns-then-is_at-clause-items c =
    let up = rw (← c.self.view_is) at c.requires in
    let point = rw c.as_slice.ensures.value at c.count_below-place.ensures.point in
    let within = rw c.as_slice.ensures.value at c.count_below-place.ensures.within in
    let there = rw c.as_slice-2.ensures.value at c.is_at.ensures.there in
    rw (← c.self.view_is) (c.remove.ensures.items ∙ taken_out c.args.number c.self.inside.pendings.items up.0 c.count_below-place.result up.1 within point (sym there ∙ c.if-is_at.true))

pub returns-else-is_at-clause-items : goal.returns-else-is_at-clause-items
returns-else-is_at-clause-items c =
    let up = rw (← c.self.view_is) at c.requires in
    let point = rw c.as_slice.ensures.value at c.count_below-place.ensures.point in
    let within = rw c.as_slice.ensures.value at c.count_below-place.ensures.within in
    let there = rw c.as_slice-2.ensures.value at c.is_at.ensures.there in
    rw (← c.self.view_is) (not_there c.args.number c.self.inside.pendings.items up.0 c.count_below-place.result up.1 within point (sym there ∙ c.if-is_at.false))
