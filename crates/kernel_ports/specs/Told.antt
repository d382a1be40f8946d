-- What is told of timers, one after the other.
use Rattle.std.specs.Prelude.{◌≡◌, ℕ, ◌+◌, ◌<◌, ◌^◌, ◌==◌, ◌&&◌, All, Bool, List, [], ◌∷◌, Option, None, Some, true}
use Rattle.std.specs.List.{list_any}
use Rattle.spec_records.specs.declared.timer.Due.{Due}
use Rattle.spec_records.specs.declared.timer.Tag.{Tag}
use Rattle.spec_records.specs.declared.timer.Timer.{Timer}
use Rattle.spec_records.specs.Words.{Port, port_of, tell_due}
use Rattle.event_port.specs.Words.{HasRoomAt, PortsValue, timer_count}
use Rattle.kernel_ports.specs.Value.{idle_at}

-- the port of a timer
abbrev pub port_told : Option Timer → Option ℕ
port_told None = None
port_told (Some t) = Some t.port

-- a timer of this port and number
abbrev pub is_tagged : Tag → Timer → Bool
is_tagged g t = (t.port == g.port) && (t.number == g.number)

-- what is due is due of one of these timers
abbrev pub IsDueOf : List Timer → Due → Type 0
IsDueOf ts d = list_any (is_tagged d.tag) ts ≡ true

-- no count comes to the end of its type as these are told
abbrev pub AllFit : List Port → List Due → Type 0
AllFit ports [] = Unit {0}
AllFit ports (d ∷ ds) = (timer_count d.tag.number (port_of ports d.tag.port) + d.count < 2 ^ 32) × AllFit (tell_due ports d) ds

-- the room that a port has beside that for timers of which none is queued it keeps
abbrev pub KeepsRoomBesideIdle : List Timer → PortsValue → PortsValue → Type 0
KeepsRoomBesideIdle ts old new =
    (q n : ℕ) → HasRoomAt old.rooms q (n + idle_at old.ports ts q) → HasRoomAt new.rooms q (n + idle_at new.ports ts q)
