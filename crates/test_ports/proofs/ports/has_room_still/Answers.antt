use Rattle.std.proofs.Common.{◌≡◌, rules, arith}
use Rattle.event_port.specs.Words.{HasRoomAt}
use Rattle.test_ports.proofs.ports.has_room_still.Goals as goal

pub send_if_allowed-requires-then-is_none : goal.send_if_allowed-requires-then-is_none
send_if_allowed-requires-then-is_none c =
    let room : HasRoomAt c.room.new.self.rooms 1 2 = search rules in
    let other : 1 ≡ 2 → ⊥ = λ e. omega (arith, e) in
    c.send_if_allowed.ensures.rooms 1 1 (c.send.ensures.others 1 2 other room)
