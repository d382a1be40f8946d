-- The room of ports for events beside those of associations and of timers, as ports change.
use Rattle.std.specs.Prelude.{◌≡◌, ℕ, ◌+◌, length}
use Rattle.std.proofs.Common.{ap, arith, subst}
use Rattle.event_port.specs.Words.{HasRoomAt, KeepsRoom, KeepsRoomButOne}
use Rattle.port_assoc.specs.Words.{AssocsValue}
use Rattle.timer_src.specs.Words.{TimersValue}
use Rattle.kernel_store.specs.Channels.{KeepsRoomForEvents, KeepsRoomForEventsButOne}
use Rattle.kernel_store.specs.Stored.{StoreValue}

abbrev held : AssocsValue → ℕ
held v = length v.list.associations

abbrev timed : TimersValue → ℕ
timed v = length v.list.timers

as_many : (old new : StoreValue) (n : ℕ) → new.assocs ≡ old.assocs → new.timers ≡ old.timers → n + held old.assocs + timed old.timers ≡ n + held new.assocs + timed new.timers
as_many old new n same still = omega (arith, ap held same, ap timed still)

pub more_room : (old new : StoreValue) → new.assocs ≡ old.assocs → new.timers ≡ old.timers → KeepsRoom old.ports.rooms new.ports.rooms → KeepsRoomForEvents old new
more_room old new same still keeps = λ q n h. subst (HasRoomAt new.ports.rooms q) (as_many old new n same still) (keeps q (n + held old.assocs + timed old.timers) h)

pub room_but_one : (old new : StoreValue) → new.assocs ≡ old.assocs → new.timers ≡ old.timers → KeepsRoomButOne old.ports.rooms new.ports.rooms → KeepsRoomForEventsButOne old new
room_but_one old new same still keeps = λ q n h.
    let one : (n + 1) + held old.assocs + timed old.timers ≡ (n + held old.assocs + timed old.timers) + 1 = omega arith in
    subst (HasRoomAt new.ports.rooms q) (as_many old new n same still)
    (keeps q (n + held old.assocs + timed old.timers) (subst (HasRoomAt old.ports.rooms q) one h))
