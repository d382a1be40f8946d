use Rattle.std.proofs.Common.{◌≡◌, ◌∙◌, ◌+◌, ◌++◌, [], ◌∷◌, length, ap, arith, rules}
use Rattle.std.proofs.lemmas.List.{length-map, map-append}
use Rattle.spec_records.specs.declared.record.Door.{Door}
use Rattle.spec_records.specs.Words.{new_door}
use Rattle.door_object.specs.OwnerLists.{as_made, made}
use Rattle.door_object.proofs.OwnerLists.{AreListed-pushed}
use Rattle.door_object.proofs.doors.Doors.create_allowed.Goals as goal

pub invariant_of-self : goal.invariant_of-self
invariant_of-self c =
    let x : Door = new_door (c.len.result + 1) c.args.owner.0 c.args.entry c.args.cookie c.args.attrs in
    let doors = c.self.inside.doors.items in
    let long : c.len.result ≡ length doors = search rules in
    let made_too : as_made c.push_reserved-2.new.self.items ≡ as_made doors ++ x ∷ [] =
    ap as_made c.push_reserved-2.ensures.items ∙ map-append made doors (c.new_door.result ∷ []) ∙ ap (λ y. as_made doors ++ made y ∷ []) c.new_door.ensures in
    rw (made_too, c.list_noticed.ensures.items, c.push_reserved.ensures.items, c.note_common.ensures)
    (AreListed-pushed (as_made doors) x c.self.inside.with_notices.items c.self.inside.earlier.items c.self.inside.last c.self.inside.common _ _
    c.self.invariant c.list_of-list.ensures (omega (arith, long, length-map doors made)))
