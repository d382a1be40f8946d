use Rattle.std.proofs.Common.{◌∙◌, ap, arith, length, sym}
use Rattle.timer_src.specs.Pending.{is_at}
use Rattle.timer_src.proofs.Ordered.{not_there, parted, put_between, put_over}
use Rattle.timer_src.proofs.armed.Armed.put.Goals as goal

pub count_below-place-requires : goal.count_below-place-requires
count_below-place-requires c =
    let up = rw (← c.self.view_is) at c.requires.order in
    rw c.as_slice.ensures.value (parted c.args.p.number c.self.inside.pendings.items up.0 up.1)

pub unwrap-requires : goal.unwrap-requires
unwrap-requires c =
    let n = c.args.p.number in
    let xs = c.self.inside.pendings.items in
    let i = c.count_below-place.result in
    let up = rw (← c.self.view_is) at c.requires.order in
    let room = rw (← c.self.view_is) at c.requires.room in
    let point = rw c.as_slice.ensures.value at c.count_below-place.ensures.point in
    let within = rw c.as_slice.ensures.value at c.count_below-place.ensures.within in
    let there = rw c.as_slice-2.ensures.value at c.is_at.ensures.there in
    let same = ap length (not_there n xs up.0 i up.1 within point (sym there ∙ c.if-is_at.false)) in
    c.insert.ensures.succeeds (omega (arith, same, room))

pub returns-then-is_at-clause-items : goal.returns-then-is_at-clause-items
returns-then-is_at-clause-items c =
    let n = c.args.p.number in
    let xs = c.self.inside.pendings.items in
    let i = c.count_below-place.result in
    let up = rw (← c.self.view_is) at c.requires.order in
    let point = rw c.as_slice.ensures.value at c.count_below-place.ensures.point in
    let within = rw c.as_slice.ensures.value at c.count_below-place.ensures.within in
    let there = rw c.as_slice-2.ensures.value at c.is_at.ensures.there in
    rw (← c.self.view_is) (put_over n xs up.0 i up.1 within point c.args.p (sym there ∙ c.if-is_at.true))

pub returns-else-is_at-clause-items : goal.returns-else-is_at-clause-items
returns-else-is_at-clause-items c =
    let n = c.args.p.number in
    let xs = c.self.inside.pendings.items in
    let i = c.count_below-place.result in
    let up = rw (← c.self.view_is) at c.requires.order in
    let point = rw c.as_slice.ensures.value at c.count_below-place.ensures.point in
    let within = rw c.as_slice.ensures.value at c.count_below-place.ensures.within in
    let there = rw c.as_slice-2.ensures.value at c.is_at.ensures.there in
    let inserted = rw c.unwrap.ensures at c.insert.ensures.items in
    rw (← c.self.view_is) (inserted ∙ put_between n xs up.0 i up.1 within point c.args.p (sym there ∙ c.if-is_at.false))

pub returns-else-is_at-clause-capacity : goal.returns-else-is_at-clause-capacity
returns-else-is_at-clause-capacity c =
    let n = c.args.p.number in
    let xs = c.self.inside.pendings.items in
    let i = c.count_below-place.result in
    let up = rw (← c.self.view_is) at c.requires.order in
    let room = rw (← c.self.view_is) at c.requires.room in
    let point = rw c.as_slice.ensures.value at c.count_below-place.ensures.point in
    let within = rw c.as_slice.ensures.value at c.count_below-place.ensures.within in
    let there = rw c.as_slice-2.ensures.value at c.is_at.ensures.there in
    let same = ap length (not_there n xs up.0 i up.1 within point (sym there ∙ c.if-is_at.false)) in
    let block = c.insert.ensures.in_place (omega (arith, same, room)) in
    rw (← c.self.view_is) block.1.0
