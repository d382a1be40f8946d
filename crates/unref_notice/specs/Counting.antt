-- The counts of objects as they are kept, and what is read of them.
use Rattle.std.specs.Prelude.{ℕ, ◌≡◌, ◌==◌, ◌&&◌, Bool, false, List, [], ◌∷◌, map, Option, None, Some, filter, if◌then◌else◌, nat_lt, true, unwrap_or}
use Rattle.std.specs.List.{list_any}
use Rattle.std.specs.Map.{lookup}
use Rattle.dk_base.specs.declared.object.Obj.{Obj}
use Rattle.dk_base.specs.declared.object.Obj.TheVariants as obj
use Rattle.unref_notice.specs.declared.key.Key.{Key}
use Rattle.unref_notice.specs.declared.key.Key.TheVariants as key
use Rattle.unref_notice.specs.declared.tally.Tally.{Tally}
use Rattle.unref_notice.specs.contracts.key.KeyPartialEq.TheImpl as key_eq

-- the count of each object that is or was counted
abbrev pub ObjectCounts : Type 0
ObjectCounts = List (Key × ℕ)

abbrev pub key_of : Obj → Key
key_of (obj.Door d) = key.Door d
key_of (obj.Port p) = key.Port p
key_of (obj.PipeIn p) = key.PipeIn p
key_of (obj.PipeOut p) = key.PipeOut p

abbrev pub object_of : Key → Obj
object_of (key.Door d) = obj.Door d
object_of (key.Port p) = obj.Port p
object_of (key.PipeIn p) = obj.PipeIn p
object_of (key.PipeOut p) = obj.PipeOut p

abbrev pub same_key : Key → Key → Bool
same_key = (key_eq.ghosts).eq

abbrev pub count_at : ObjectCounts → Key → ℕ
count_at counts k = unwrap_or (lookup (same_key k) counts) 0

-- the count of an object, 0 where it never was counted
abbrev pub count_of : ObjectCounts → Obj → ℕ
count_of counts o = count_at counts (key_of o)

abbrev pub is_touched : List Key → Key → Bool
is_touched touched k = list_any (same_key k) touched

-- the count of what is not touched is what it was when the step began
abbrev pub IsStill : ObjectCounts → ObjectCounts → List Key → Type 0
IsStill now opening touched = (k : Key) → is_touched touched k ≡ false → count_at opening k ≡ count_at now k

-- what is kept of each object that is or was counted
abbrev pub Tallies : Type 0
Tallies = List (Key × Tally)

abbrev pub counts_in : Tallies → ObjectCounts
counts_in ts = map (λ e. (e.0, e.1.now)) ts

-- of an object that never was counted as of one without references
abbrev pub tally_at : Tallies → Key → Tally
tally_at ts k = unwrap_or (lookup (same_key k) ts) (record { now = 0; touched = false })

-- no two of these objects are one
abbrev pub AreApart : List Key → Type 0
AreApart [] = Unit
AreApart (k ∷ ks) = (is_touched ks k ≡ false) × AreApart ks

-- an object is marked where it is among these, each of which stands there once
pub record AreMarked (ts : Tallies) (touched : List Key) : Type 0 where
  pub marked : (k : Key) → (tally_at ts k).touched ≡ is_touched touched k
  pub apart : AreApart touched

-- a door has fallen to one reference
abbrev pub fell : ObjectCounts → ObjectCounts → Key → Bool
fell now opening k = nat_lt 1 (count_at opening k) && (count_at now k == 1)

abbrev pub fallen_of : ObjectCounts → ObjectCounts → Key → Option ℕ
fallen_of now opening (key.Door d) = if fell now opening (key.Door d) then Some d else None
fallen_of now opening _ = None

abbrev pub and_door : Option ℕ → List ℕ → List ℕ
and_door None ds = ds
and_door (Some d) ds = d ∷ ds

-- the doors among these objects that have
abbrev pub fallen_among : ObjectCounts → ObjectCounts → List Key → List ℕ
fallen_among now opening [] = []
fallen_among now opening (k ∷ ks) = and_door (fallen_of now opening k) (fallen_among now opening ks)

-- an end of a pipe had references, and has none

abbrev pub is_pipe_end : Obj → Bool
is_pipe_end (obj.PipeIn p) = true
is_pipe_end (obj.PipeOut p) = true
is_pipe_end o = false

abbrev pub lost : ObjectCounts → ObjectCounts → Key → Bool
lost now opening k = nat_lt 0 (count_at opening k) && (count_at now k == 0)

abbrev pub went : ObjectCounts → ObjectCounts → Key → Bool
went now opening k = is_pipe_end (object_of k) && lost now opening k

-- those among these objects that have
abbrev pub gone_among : ObjectCounts → ObjectCounts → List Key → List Obj
gone_among now opening ks = map object_of (filter (went now opening) ks)
