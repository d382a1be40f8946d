-- Event ports with what tells them, associations of objects and timers, and the room for what these can queue.
use Rattle.std.specs.Prelude.{◌≡◌, ◌⊎◌, ℕ, ◌+◌, ◌<◌, ◌≤◌, ◌==◌, ◌&&◌, Bool, List, All, None, count_by, length, not}
use Rattle.std.specs.List.{list_any}
use Rattle.dk_base.specs.declared.object.Obj.{Obj}
use Rattle.spec_records.specs.declared.port.Queued.{Queued}
use Rattle.spec_records.specs.declared.timer.Timer.{Timer}
use Rattle.spec_records.specs.Words.{AssociationList, IsAscending, Port, TimerList, armed_at, is_timer_event, port_of, timer_number}
use Rattle.event_port.specs.Words.{HasRoomAt, PortsValue}
use Rattle.port_assoc.specs.Words.{AssocsValue, HasRoomFor}
use Rattle.timer_src.specs.Words.{TimersValue}

pub record AssociatedPortsValue : Type 0 where
  pub ports : PortsValue
  pub assocs : AssocsValue
  pub timers : TimersValue

-- the timers of a port, and those of which no event is queued there

abbrev pub is_timer_at : ℕ → Timer → Bool
is_timer_at q t = t.port == q

abbrev pub timers_at : List Timer → ℕ → ℕ
timers_at ts q = count_by (is_timer_at q) ts

abbrev pub is_queued : List Queued → ℕ → Bool
is_queued queue n = list_any (is_timer_event n) queue

abbrev pub is_idle : List Queued → ℕ → Timer → Bool
is_idle queue q t = is_timer_at q t && not (is_queued queue t.number)

abbrev pub idle_at : List Port → List Timer → ℕ → ℕ
idle_at ports ts q = count_by (is_idle (port_of ports q).queue q) ts

-- the event of a timer counts no more moments than the clock has reached
abbrev pub IsTimely : ℕ → Queued → Type 0
IsTimely clock e = (e.timer ≡ None) ⊎ (e.rec.events ≤ clock)

-- each port has room for one event more of each association of it that is armed, and of each timer of it of which none is queued;
-- these are of ports that were made; and the events of timers are timely
pub record HasRoomToFire (ports : PortsValue) (list : AssociationList) (timers : TimerList) : Type 0 where
  pub rooms : (q : ℕ) → HasRoomAt ports.rooms q (armed_at list.associations q + idle_at ports.ports timers.timers q)
  pub made : (q : ℕ) → length ports.ports < q → armed_at list.associations q + timers_at timers.timers q ≡ 0
  pub numbers : IsAscending timer_number 0 timers.made timers.timers
  pub timely : (q : ℕ) → All (IsTimely timers.clock) (port_of ports.ports q).queue

-- so many more events at a port take no memory, beside one of each association and of each timer
abbrev pub HasRoomForEvents : PortsValue → AssociationList → TimerList → ℕ → ℕ → Type 0
HasRoomForEvents ports list timers q n = HasRoomAt ports.rooms q (n + length list.associations + length timers.timers)

-- another association of this object with a port takes no memory, nor does the event that it queues
pub record HasRoomToAssociate (ports : PortsValue) (assocs : AssocsValue) (timers : TimerList) (q : ℕ) (o : Obj) : Type 0 where
  pub association : HasRoomFor assocs o
  pub event : HasRoomForEvents ports assocs.list timers q 1

-- another timer of a port takes no memory, nor does the event that it queues
pub record HasRoomForTimer (ports : PortsValue) (list : AssociationList) (timers : TimersValue) (q : ℕ) : Type 0 where
  pub timer : 0 < timers.spare
  pub event : HasRoomForEvents ports list timers.list q 1
