use Rattle.std.proofs.Common.{◌≡◌, ◌+◌, ◌-◌, ◌≤◌, ◌++◌, All, drop, length, take}
use Rattle.spec_records.specs.Words.{send_each, send_errors}
use Rattle.event_port.specs.Words.{HasRoomAt, KeepsRoomButNamed}
use Rattle.event_port.proofs.ports.Ports.send_each.Given as goal

abbrev pub invariant-loop-p : goal.invariant-loop-p
invariant-loop-p l =
    (send_each l.self.ports (drop l.p-index l.ps) l.events l.user ≡ send_each l.initial.self.ports l.ps l.events l.user)
    × (l.into.items ++ send_errors l.self.ports (drop l.p-index l.ps) l.events l.user ≡ l.initial.into.items ++ send_errors l.initial.self.ports l.ps l.events l.user)
    × All (λ p. HasRoomAt l.self.rooms p (length l.ps - l.p-index)) l.ps
    × (l.initial.into.spare ≤ l.into.spare + l.p-index)
    × KeepsRoomButNamed (take l.p-index l.ps) l.initial.self.rooms l.self.rooms
