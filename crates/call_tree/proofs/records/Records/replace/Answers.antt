use Rattle.std.proofs.Common.{ap, ap₂, sym, ◌∙◌, Some, ◌-◌, vec_len, vec_capacity, min}
use Rattle.slab.specs.Slab.{get, with_value}
use Rattle.slab.proofs.SlabLemmas.{Updates-with_value}
use Rattle.call_tree.proofs.Keeping.{contained, finds, written_entries, written_kept, count_set}
use Rattle.call_tree.proofs.records.Records.replace.Goals as goal

pub index_mut-slot-requires : goal.index_mut-slot-requires
index_mut-slot-requires c = contained (get c.self.inside.slab) c.args.key c.self.inside.order.items (rw (← c.self.view_is) at c.requires)

pub invariant_of-self : goal.invariant_of-self
invariant_of-self c =
    let s = c.self.inside.slab in
    let has = contained (get s) c.args.key c.self.inside.order.items (rw (← c.self.view_is) at c.requires) in
    let u = Updates-with_value s c.args.key c.replace.new.dest has in
    written_kept (get s) (get (with_value s c.args.key c.replace.new.dest)) c.args.key c.replace.new.dest u.changed u.others c.self.inside.order.items c.self.invariant

pub returns-clause-after : goal.returns-clause-after
returns-clause-after c =
    let s = c.self.inside.slab in
    let order = c.self.inside.order in
    let has = contained (get s) c.args.key order.items (rw (← c.self.view_is) at c.requires) in
    let u = Updates-with_value s c.args.key c.args.call has in
    let entries = written_entries (get s) (get (with_value s c.args.key c.args.call)) c.args.key c.args.call u.changed u.others order.items c.self.invariant in
    let count = count_set s.slots c.args.key c.args.call has in
    rw (← c.self.view_is, c.replace.ensures.after) (ap₂ (λ es n. record { entries = es; spare = min (s.capacity - n) (vec_capacity order - vec_len order) }) entries count)

pub returns-clause-before : goal.returns-clause-before
returns-clause-before c =
    rw (← c.self.view_is) (finds (get c.self.inside.slab) c.args.key c.self.inside.order.items c.replace.result (rw (← c.self.view_is) at c.requires) (c.index_mut-slot.ensures.value ∙ ap Some (sym c.replace.ensures.value)))
