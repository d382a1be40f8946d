-- Ports with the room that each has: how many more events it takes without memory.
use Rattle.std.specs.Prelude.{◌≡◌, ℕ, ◌+◌, ◌≤◌, ◌==◌, List, IfSome, count_by, drop, length}
use Rattle.dk_base.specs.ByNumber.{at_number}
use Rattle.spec_records.specs.Words.{Port, port_of}

-- one port, and its room
pub record PortValue : Type 0 where
  pub port : Port
  pub room : ℕ

-- the ports, the room of each at its place, and how many more ports take no memory
pub record PortsValue : Type 0 where
  pub ports : List Port
  pub rooms : List ℕ
  pub spare : ℕ

-- so many of the oldest events are taken
abbrev pub without_oldest : ℕ → Port → Port
without_oldest n x = record x { queue = drop n x.queue }

abbrev pub port_with : PortValue → Port
port_with x = x.port

abbrev pub room_with : PortValue → ℕ
room_with x = x.room

-- so many more events take no memory at a port; a number that no port has takes none ever
abbrev pub HasRoomAt : List ℕ → ℕ → ℕ → Type 0
HasRoomAt rooms p n = IfSome (at_number rooms p) (λ room. n ≤ room)

-- each port has the room that it had
abbrev pub KeepsRoom : List ℕ → List ℕ → Type 0
KeepsRoom old new = (p n : ℕ) → HasRoomAt old p n → HasRoomAt new p n

-- each has it but for one event at most
abbrev pub KeepsRoomButOne : List ℕ → List ℕ → Type 0
KeepsRoomButOne old new = (p n : ℕ) → HasRoomAt old p (n + 1) → HasRoomAt new p n

-- each port but this one has the room that it had
abbrev pub KeepsRoomAtOthers : ℕ → List ℕ → List ℕ → Type 0
KeepsRoomAtOthers p old new = (q n : ℕ) → (q ≡ p → ⊥) → HasRoomAt old q n → HasRoomAt new q n

-- how many times a port is named
abbrev pub times_named : ℕ → List ℕ → ℕ
times_named q ps = count_by (λ p. p == q) ps

-- each port has the room that it had but for one event at most each time that it is named
abbrev pub KeepsRoomButNamed : List ℕ → List ℕ → List ℕ → Type 0
KeepsRoomButNamed ps old new = (q n : ℕ) → HasRoomAt old q (n + times_named q ps) → HasRoomAt new q n

-- so many events in all take no memory at a port: those that are queued there, and more by its room
abbrev pub HasPlacesAt : PortsValue → ℕ → ℕ → Type 0
HasPlacesAt x p n = IfSome (at_number x.rooms p) (λ room. n ≤ room + length (port_of x.ports p).queue)

-- each port has the places that it had: what leaves its queue gives its place back
abbrev pub KeepsPlaces : PortsValue → PortsValue → Type 0
KeepsPlaces old new = (p n : ℕ) → HasPlacesAt old p n → HasPlacesAt new p n
