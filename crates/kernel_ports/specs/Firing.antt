-- Objects that an event changed, each with what it is ready for, and the associations that they fire.
use Rattle.std.specs.Prelude.{◌≡◌, ℕ, ◌+◌, Bool, true, List, Option, Some, None, All, Contains, find, if◌then◌else◌, nat_le}
use Rattle.std.specs.List.{list_any}
use Rattle.dk_base.specs.declared.object.Obj.{Obj}
use Rattle.dk_base.specs.declared.set.PollSet.{PollSet}
use Rattle.spec_records.specs.declared.association.Association.{Association}
use Rattle.spec_records.specs.Words.{armed_at, is_fired_by, is_to_fire, watches}
use Rattle.event_port.specs.Words.{HasRoomAt}
use Rattle.kernel_ports.specs.declared.changed.Changed.{Changed}
use Rattle.kernel_ports.specs.declared.next.Next.{Next}

-- an association watches one of these

abbrev pub is_watched_by : Association → Changed → Bool
is_watched_by a c = watches c.object a

abbrev pub is_watched_among : List Changed → Association → Bool
is_watched_among cs a = list_any (is_watched_by a) cs

-- an object is ready for what is said of it
abbrev pub IsSaid : (Obj → PollSet) → Changed → Type 0
IsSaid ready c = c.ready ≡ ready c.object

-- each of these is, and whatever is to fire watches one of them
pub record AreAllChanged (ready : Obj → PollSet) (cs : List Changed) (xs : List Association) : Type 0 where
  pub said : All (IsSaid ready) cs
  pub watched : All (λ a. is_to_fire ready a ≡ true → is_watched_among cs a ≡ true) xs

-- one of these fires an association

abbrev pub is_fired_as : Association → Changed → Bool
is_fired_as a c = is_fired_by c.object c.ready a

abbrev pub is_fired_among : List Changed → Association → Bool
is_fired_among cs a = list_any (is_fired_as a) cs

-- none of these fires any, or this one fires the first of all that they fire
abbrev pub IsNext : List Association → List Changed → Option Changed → Type 0
IsNext xs cs None = find (is_fired_among cs) xs ≡ None
IsNext xs cs (Some c) =
    Contains cs c × ((a : Association) × (find (is_fired_by c.object c.ready) xs ≡ Some a) × (find (is_fired_among cs) xs ≡ Some a))

-- of two objects that of the lesser number
abbrev pub earlier : Option Next → Option ℕ → Changed → Option Next
earlier next None c = next
earlier None (Some n) c = Some (record { number = n; changed = c })
earlier (Some x) (Some n) c = if nat_le x.number n then Some x else Some (record { number = n; changed = c })

-- each port has room for as many events as associations of it are armed
abbrev pub HasRoomForArmed : List Association → List ℕ → Type 0
HasRoomForArmed xs rooms = (q : ℕ) → HasRoomAt rooms q (armed_at xs q)

-- the room that a port has beside that it keeps
abbrev pub KeepsRoomBeside : List Association → List Association → List ℕ → List ℕ → Type 0
KeepsRoomBeside xs ys old new = (q n : ℕ) → HasRoomAt old q (n + armed_at xs q) → HasRoomAt new q (n + armed_at ys q)
