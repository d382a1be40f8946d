use Rattle.std.proofs.Common.{arith, sym, ap, ◌∙◌}
use Rattle.slab.specs.Slab.{get}
use Rattle.call_tree.proofs.Finding.{kept_length, kept_there, kept_call}
use Rattle.call_tree.proofs.records.Records.at_place.Goals as goal

pub index-requires : goal.index-requires
index-requires c =
    let n = kept_length (get c.self.inside.slab) c.self.inside.order.items c.self.invariant in
    let r = rw (← c.self.view_is) at c.requires in
    omega (arith, n, r, c.self.inside.order.ok)

pub index-requires-2 : goal.index-requires-2
index-requires-2 c =
    let s = c.self.inside in
    let n = kept_length (get s.slab) s.order.items c.self.invariant in
    let r = rw (← c.self.view_is) at c.requires in
    rw c.index.ensures (kept_there (get s.slab) s.order.items c.args.place c.index.result.now c.self.invariant (omega (arith, n, r)))

pub returns : goal.returns
returns c =
    let s = c.self.inside in
    let n = kept_length (get s.slab) s.order.items c.self.invariant in
    let r = rw (← c.self.view_is) at c.requires in
    rw (← c.self.view_is) (kept_call (get s.slab) s.order.items c.args.place c.index.result.now c.index-2.result.now c.self.invariant (omega (arith, n, r)) (ap (get s.slab) (sym c.index.ensures) ∙ c.index-2.ensures))
