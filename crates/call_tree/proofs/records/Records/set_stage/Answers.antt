use Rattle.std.proofs.Common.{ap₂, sym, ◌∙◌, ◌≡◌, Some, ◌-◌, vec_len, vec_capacity, min}
use Rattle.spec_records.specs.declared.record.Call.{Call}
use Rattle.spec_records.specs.Words.{at_stage}
use Rattle.slab.specs.Slab.{get, with_value}
use Rattle.slab.proofs.SlabLemmas.{Updates-with_value}
use Rattle.call_tree.proofs.Keeping.{contained, finds, written_entries, written_kept, count_set}
use Rattle.call_tree.proofs.records.Records.set_stage.Goals as goal

pub index_mut-slot-requires : goal.index_mut-slot-requires
index_mut-slot-requires c = contained (get c.self.inside.slab) c.args.key c.self.inside.order.items (rw (← c.self.view_is) at c.requires)

pub invariant_of-self : goal.invariant_of-self
invariant_of-self c =
    let s = c.self.inside.slab in
    let has = contained (get s) c.args.key c.self.inside.order.items (rw (← c.self.view_is) at c.requires) in
    let new = at_stage c.args.stage c.index_mut-slot.result.now in
    let u = Updates-with_value s c.args.key new has in
    written_kept (get s) (get (with_value s c.args.key new)) c.args.key new u.changed u.others c.self.inside.order.items c.self.invariant

same_call : (a b : Call) → Some a ≡ Some b → a ≡ b
same_call a b e = cc

pub returns : goal.returns
returns c = λ call e.
    let s = c.self.inside.slab in
    let order = c.self.inside.order in
    let key = c.args.key in
    let needs = rw (← c.self.view_is) at c.requires in
    let has = contained (get s) key order.items needs in
    let old = c.index_mut-slot.result.now in
    let found = finds (get s) key order.items old needs c.index_mut-slot.ensures.value in
    let is : old ≡ call = same_call old call (sym found ∙ (rw (← c.self.view_is) at e)) in
    let new = at_stage c.args.stage old in
    let u = Updates-with_value s key new has in
    let entries = written_entries (get s) (get (with_value s key new)) key new u.changed u.others order.items c.self.invariant in
    let count = count_set s.slots key new has in
    rw (← c.self.view_is, ← is) (ap₂ (λ es n. record { entries = es; spare = min (s.capacity - n) (vec_capacity order - vec_len order) }) entries count)
