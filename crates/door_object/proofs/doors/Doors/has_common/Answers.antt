use Rattle.std.proofs.Common.{◌∙◌, ap}
use Rattle.std.proofs.lemmas.Option.{get_or_from_slice_get}
use Rattle.spec_records.specs.Words.{has_common_door}
use Rattle.door_object.specs.OwnerLists.{as_made}
use Rattle.door_object.proofs.AsMade.{has_common_door-as_made}
use Rattle.door_object.proofs.doors.Doors.has_common.Goals as goal

pub returns-then-place-lt-LISTS : goal.returns-then-place-lt-LISTS
returns-then-place-lt-LISTS c =
    let p = c.args.p.0 in
    let doors = c.self.inside.doors.items in
    get_or_from_slice_get c.self.inside.common p (has_common_door (as_made doors) p) _ (c.self.invariant.served p c.if-place-lt-LISTS.true)
    ∙ has_common_door-as_made doors p
    ∙ ap (λ v. has_common_door v.items p) c.self.view_is
