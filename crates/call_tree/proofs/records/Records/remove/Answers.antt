use Rattle.std.proofs.Common.{arith}
use Rattle.slab.specs.Slab.{get}
use Rattle.call_tree.proofs.Keeping.{contained, finds, place_within, removed_entries, removed_kept}
use Rattle.call_tree.proofs.records.Records.remove.Goals as goal

pub remove-requires : goal.remove-requires
remove-requires c =
    let w = place_within (get c.self.inside.slab) (get c.self.inside.slab) c.args.key (λ x n. λ i. get c.self.inside.slab x) c.self.inside.order.items (rw (← c.self.view_is) at c.requires) in
    let ok = c.self.inside.order.ok in
    rw (c.place_of-place.ensures, c.deref.ensures.value) (omega (arith, w, ok))

pub remove-requires-2 : goal.remove-requires-2
remove-requires-2 c = contained (get c.self.inside.slab) c.args.key c.self.inside.order.items (rw (← c.self.view_is) at c.requires)

pub invariant_of-self : goal.invariant_of-self
invariant_of-self c =
    let u = c.remove-2.ensures.updates in
    rw (c.remove.ensures.items, c.place_of-place.ensures, c.deref.ensures.value) (removed_kept (get c.self.inside.slab) (get c.remove-2.new.self) c.args.key u.others c.self.inside.order.items c.self.invariant (rw (← c.self.view_is) at c.requires))

pub returns-clause-after : goal.returns-clause-after
returns-clause-after c =
    let u = c.remove-2.ensures.updates in
    rw (← c.self.view_is, c.remove.ensures.items, c.place_of-place.ensures, c.deref.ensures.value) (removed_entries (get c.self.inside.slab) (get c.remove-2.new.self) c.args.key u.others c.self.inside.order.items c.self.invariant (rw (← c.self.view_is) at c.requires))

pub returns-clause-before : goal.returns-clause-before
returns-clause-before c =
    rw (← c.self.view_is) (finds (get c.self.inside.slab) c.args.key c.self.inside.order.items c.remove-2.result (rw (← c.self.view_is) at c.requires) c.remove-2.ensures.value)
