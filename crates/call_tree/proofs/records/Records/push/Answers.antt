use Rattle.slab.specs.Slab.{get}
use Rattle.call_tree.proofs.Keeping.{push_entries, push_kept, look_fresh, absent_fresh}
use Rattle.call_tree.proofs.records.Records.push.Goals as goal

pub invariant_of-self : goal.invariant_of-self
invariant_of-self c =
    let i = c.insert_reserved-key in
    let e = i.ensures in
    rw c.push_reserved.ensures.items (push_kept (get c.self.inside.slab) (get i.new.self) i.result c.args.call e.updates.changed e.updates.others c.self.inside.order.items e.was_vacant c.self.invariant)

pub returns-clause-entries : goal.returns-clause-entries
returns-clause-entries c =
    let i = c.insert_reserved-key in
    let e = i.ensures in
    rw (← c.self.view_is, c.push_reserved.ensures.items) (push_entries (get c.self.inside.slab) (get i.new.self) i.result c.args.call e.updates.changed e.updates.others c.self.inside.order.items e.was_vacant c.self.invariant)

pub returns-clause-fresh : goal.returns-clause-fresh
returns-clause-fresh c =
    let i = c.insert_reserved-key in
    rw (← c.self.view_is) (look_fresh (get c.self.inside.slab) i.result c.self.inside.order.items (absent_fresh (get c.self.inside.slab) i.result c.self.inside.order.items i.ensures.was_vacant c.self.invariant))
