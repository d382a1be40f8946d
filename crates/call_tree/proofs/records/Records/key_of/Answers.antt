use Rattle.std.proofs.Common.{arith, sym, ◌∙◌}
use Rattle.slab.specs.Slab.{get}
use Rattle.call_tree.proofs.Rising.{none_here, none_past, numbered_here, rises}
use Rattle.call_tree.proofs.records.Records.key_of.Goals as goal

pub count_below-place-requires : goal.count_below-place-requires
count_below-place-requires c =
    let s = c.self.inside in
    let up = rw (← c.self.view_is) at c.requires in
    rw c.deref.ensures.value (rises (get s.slab) s.order.items 0 up.0 c.self.invariant up.1)

pub returns-then-place-len : goal.returns-then-place-len
returns-then-place-len c =
    let s = c.self.inside in
    let ok = s.order.ok in
    let l = c.len.ensures in
    let m = c.if-place-len.true in
    rw (← c.self.view_is) (none_past (get s.slab) s.order.items c.args.c c.self.invariant c.count_below-place.result (rw c.deref.ensures.value at c.count_below-place.ensures) (omega (arith, ok, l, m)))

pub returns-then-is_numbered : goal.returns-then-is_numbered
returns-then-is_numbered c =
    let s = c.self.inside in
    let ok = s.order.ok in
    let l = c.len.ensures in
    let m = c.if-place-len.false in
    rw (← c.self.view_is) (numbered_here (get s.slab) s.order.items c.args.c c.self.invariant c.count_below-place.result c.index-key.result.now (omega (arith, ok, l, m)) c.index-key.ensures (sym c.is_numbered.ensures ∙ c.if-is_numbered.true))

pub returns-else-is_numbered : goal.returns-else-is_numbered
returns-else-is_numbered c =
    let s = c.self.inside in
    let ok = s.order.ok in
    let l = c.len.ensures in
    let m = c.if-place-len.false in
    let up = rw (← c.self.view_is) at c.requires in
    rw (← c.self.view_is)
    (none_here (get s.slab) s.order.items c.args.c c.self.invariant c.count_below-place.result c.index-key.result.now (rises (get s.slab) s.order.items 0 up.0 c.self.invariant up.1) (rw c.deref.ensures.value at c.count_below-place.ensures) (omega (arith, ok, l, m)) c.index-key.ensures (sym c.is_numbered.ensures ∙ c.if-is_numbered.false))
