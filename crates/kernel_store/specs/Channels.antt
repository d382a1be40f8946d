-- The memory that pipes, event ports, associations and timers need, which is taken before an act.
use Rattle.std.specs.Prelude.{ℕ, ◌+◌, ◌<◌}
use Rattle.dk_base.specs.declared.object.Obj.{Obj}
use Rattle.kernel_ports.specs.Words.{HasRoomForEvents as HasRoomAtPort, HasRoomForTimer as HasRoomForTimerIn, HasRoomToAssociate as HasRoomToAssociateIn}
use Rattle.kernel_store.specs.Stored.{StoreValue}

-- another pipe
abbrev pub HasRoomForPipe : StoreValue → Type 0
HasRoomForPipe store = 0 < store.pipes.spare

-- another port
abbrev pub HasRoomForPort : StoreValue → Type 0
HasRoomForPort store = 0 < store.ports.spare

-- so many more events at a port, beside one of each association and of each timer; a number that no port has takes none ever
abbrev pub HasRoomForEvents : StoreValue → ℕ → ℕ → Type 0
HasRoomForEvents store q n = HasRoomAtPort store.ports store.assocs.list store.timers.list q n

-- each port has the room that it had
abbrev pub KeepsRoomForEvents : StoreValue → StoreValue → Type 0
KeepsRoomForEvents old new = (q n : ℕ) → HasRoomForEvents old q n → HasRoomForEvents new q n

-- each has it but for one event at most
abbrev pub KeepsRoomForEventsButOne : StoreValue → StoreValue → Type 0
KeepsRoomForEventsButOne old new = (q n : ℕ) → HasRoomForEvents old q (n + 1) → HasRoomForEvents new q n

-- another association of this object with a port
abbrev pub HasRoomToAssociate : StoreValue → ℕ → Obj → Type 0
HasRoomToAssociate store q o = HasRoomToAssociateIn store.ports store.assocs store.timers.list q o

-- another timer that tells this port
abbrev pub HasRoomForTimer : StoreValue → ℕ → Type 0
HasRoomForTimer store q = HasRoomForTimerIn store.ports store.assocs.list store.timers q
