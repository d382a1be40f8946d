use Rattle.std.proofs.Common.{◌+◌, ap, refl, rules, subst, sym}
use Rattle.spec_records.specs.Words.{AssociationList, armed_at}
use Rattle.event_port.specs.Words.{HasRoomAt}
use Rattle.kernel_ports.proofs.FireRooms.{room_made}
use Rattle.test_ports.proofs.telling.associates.Goals as goal

pub returns : goal.returns
returns c =
    let p = c.args.row.0 in
    let xs = c.args.assocs.now.list.associations in
    let rooms = c.room.new.self.rooms in
    let same = ap (λ (l : AssociationList). l.associations) c.reserve.ensures.list in
    let room : HasRoomAt rooms p (c.armed-armed.result + 1) = search rules in
    let enough : HasRoomAt rooms p (armed_at xs p + 1) = subst (λ n. HasRoomAt rooms p (n + 1)) c.armed-armed.ensures room in
    λ q.
    subst (λ (l : AssociationList). HasRoomAt rooms q (armed_at l.associations q)) (sym c.associate_fitting.ensures.list)
    (room_made _ c.reserve.new.self.list.associations _ p c.args.ports.now.rooms rooms refl c.room.ensures.kept (rw same enough) (rw same c.requires) q)
