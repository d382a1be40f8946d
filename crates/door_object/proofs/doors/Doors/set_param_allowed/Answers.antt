use Rattle.std.proofs.Common.{◌≡◌, ap, rules, ◌∙◌}
use Rattle.door_object.specs.OwnerLists.{as_made}
use Rattle.door_object.proofs.AsMade.{as_made-set, as_made-written}
use Rattle.door_object.proofs.doors.Doors.set_param_allowed.Goals as goal

pub invariant_of-self : goal.invariant_of-self
invariant_of-self c =
    let doors = c.self.inside.doors.items in
    let same : as_made c.set_param_at.new.doors ≡ as_made doors =
    ap as_made c.set_param_at.ensures ∙ as_made-set c.deref_mut.result.now c.args.d c.args.param c.args.value ∙ ap as_made c.deref_mut.ensures.value in
    rw (as_made-written doors c.set_param_at.new.doors c.self.inside.doors.len (search rules) same) c.self.invariant
