use Rattle.std.proofs.Common.{◌≡◌, ap, rules, ◌∙◌}
use Rattle.door_object.specs.OwnerLists.{as_made}
use Rattle.door_object.proofs.AsMade.{as_made-ended, as_made-written}
use Rattle.door_object.proofs.doors.Doors.owner_ended.Goals as goal

pub invariant_of-self : goal.invariant_of-self
invariant_of-self c =
    let doors = c.self.inside.doors.items in
    let same : as_made c.end_listed.new.doors ≡ as_made doors =
    ap as_made c.end_listed.ensures ∙ as_made-ended c.deref_mut.result.now c.args.p.0 ∙ ap as_made c.deref_mut.ensures.value in
    rw (as_made-written doors c.end_listed.new.doors c.self.inside.doors.len (search rules) same) c.self.invariant
