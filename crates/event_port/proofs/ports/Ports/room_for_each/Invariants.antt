use Rattle.std.proofs.Common.{◌≡◌, All, length, take}
use Rattle.event_port.specs.Words.{HasRoomAt, KeepsRoom}
use Rattle.event_port.proofs.ports.Ports.room_for_each.Given as goal

abbrev pub invariant-loop-p : goal.invariant-loop-p
invariant-loop-p l =
    (l.self.ports ≡ l.initial.self.ports)
    × KeepsRoom l.initial.self.rooms l.self.rooms
    × All (λ p. HasRoomAt l.self.rooms p (length l.ps)) (take l.p-index l.ps)
