-- The armed associations of each object.
use Rattle.std.specs.Prelude.{ℕ, Bool, List, [], is_some, unwrap_or}
use Rattle.std.specs.Map.{lookup}
use Rattle.dk_base.specs.declared.object.Obj.{Obj}
use Rattle.dk_base.specs.Spare.{RoomValue}
use Rattle.spec_records.specs.declared.association.Association.{Association}
use Rattle.port_assoc.specs.declared.key.ObjectKey.{ObjectKey}
use Rattle.port_assoc.specs.Keys.{object_key, same_object_key}

-- of each object that is or was watched
abbrev pub WatchLists : Type 0
WatchLists = List (ObjectKey × RoomValue Association)

abbrev pub has_list : WatchLists → ObjectKey → Bool
has_list lists k = is_some (lookup (same_object_key k) lists)

-- an object that never was watched has none, and no room
abbrev pub list_at : WatchLists → ObjectKey → RoomValue Association
list_at lists k = unwrap_or (lookup (same_object_key k) lists) (record { items = []; spare = 0 })

-- those that watch an object, in order
abbrev pub watchers_of : WatchLists → Obj → List Association
watchers_of lists o = (list_at lists (object_key o)).items

-- how many more of it take no memory
abbrev pub room_at : WatchLists → Obj → ℕ
room_at lists o = (list_at lists (object_key o)).spare
