-- The associations of a kernel, with the room for more.
use Rattle.std.specs.Prelude.{◌≡◌, ℕ, ◌<◌, ◌≤◌, List, [], filter, length}
use Rattle.std.specs.List.{cons_option}
use Rattle.dk_base.specs.declared.object.Obj.{Obj}
use Rattle.spec_records.specs.declared.association.AssocKey.{AssocKey}
use Rattle.spec_records.specs.declared.association.Association.{Association}
use Rattle.spec_records.specs.Words.{AssociationList, association_at, has_key, is_watcher}
use Rattle.port_assoc.specs.declared.key.Row.{Row}
use Rattle.port_assoc.specs.Rows.{RowCounts, count_at, is_in_row}
use Rattle.port_assoc.specs.Watchers.{WatchLists, room_at, watchers_of}

-- how many were made, with those that have not ended; how many more take no memory; and the armed ones of each object
pub record AssocsValue : Type 0 where
  pub list : AssociationList
  pub spare : ℕ
  pub lists : WatchLists

-- another that watches this object takes no memory
abbrev pub HasRoomFor : AssocsValue → Obj → Type 0
HasRoomFor v o = (0 < v.spare) × (0 < room_at v.lists o)

-- the same room as before, or more
abbrev pub KeepsRoom : AssocsValue → AssocsValue → Type 0
KeepsRoom old new = (old.spare ≤ new.spare) × ((o : Obj) → room_at old.lists o ≤ room_at new.lists o)

-- the association of a key, if there is one, is the only one of it
abbrev pub IsAlone : AssociationList → AssocKey → Type 0
IsAlone list key = filter (has_key key) list.associations ≡ cons_option (association_at list.associations key) []

-- the list of each object has the armed ones that watch it, in order
abbrev pub IsWatched : List Association → WatchLists → Type 0
IsWatched xs lists = (o : Obj) → watchers_of lists o ≡ filter (is_watcher o) xs

-- each descriptor of a process is counted as often as associations watch by it
abbrev pub AreCounted : List Association → RowCounts → Type 0
AreCounted xs counts = (r : Row) → count_at counts r ≡ length (filter (is_in_row r) xs)
