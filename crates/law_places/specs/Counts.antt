-- What is free and what waits, counted; the step's own tests of room and of full pools are not used.
use Rattle.std.specs.Prelude.{ℕ, ◌+◌, ◌==◌, ◌&&◌, List, [], ◌∷◌, Option, Bool, true, false, if◌then◌else◌, Some, None, bit_and, length, not, take}
use Rattle.spec_kernel.specs.Types.{Attrs, Call, CallStage, Door, Fd, Obj, Process}
use Rattle.spec_records.specs.declared.record.CallStage.TheVariants as stage
use Rattle.spec_kernel.specs.Words.{State, door_of, table_of}
use Rattle.dk_base.specs.ByNumber.{at_number}

abbrev pub free_places : List (Option Obj) → ℕ
free_places [] = 0
free_places (None ∷ rows) = 1 + free_places rows
free_places (Some o ∷ rows) = free_places rows

-- with how many descriptors a process was declared, 0 for no process
abbrev pub limit_in : Option Process → ℕ
limit_in None = 0
limit_in (Some p) = p.limit

abbrev pub limit_of : State → ℕ → ℕ
limit_of m p = limit_in (at_number m.process_table.processes p)

-- how many it has
abbrev pub descriptors : State → ℕ → ℕ
descriptors m p = length (table_of m p)

-- how many of them name nothing
abbrev pub free_descriptors : State → ℕ → ℕ
free_descriptors m p = free_places (table_of m p)

-- how many of those below this one name nothing: 0 below the lowest that is free, 1 below the next
abbrev pub free_below : State → ℕ → Fd → ℕ
free_below m p fd = free_places (take fd.0 (table_of m p))

-- an attribute of door_create(3C), as its bit, is among these
abbrev pub has_attribute : ℕ → Attrs → Bool
has_attribute bit attrs = bit_and attrs.0 bit == bit

-- a door with DOOR_PRIVATE, 2, has a pool of its own; all other doors of one maker share one
abbrev pub has_own_pool : Option Door → Bool
has_own_pool None = false
has_own_pool (Some d) = has_attribute 2 d.attrs

-- the numbers of a door and of the process that made it, 0 for no door

abbrev pub number_of : Option Door → ℕ
number_of None = 0
number_of (Some d) = d.number

abbrev pub maker_of : Option Door → ℕ
maker_of None = 0
maker_of (Some d) = d.owner.0

-- one pool serves both doors: both have their own, and are one door, or neither has, and one process made both
abbrev pub have_one_pool : Option Door → Option Door → Bool
have_one_pool a b =
    if has_own_pool a then has_own_pool b && (number_of a == number_of b) else not (has_own_pool b) && (maker_of a == maker_of b)

abbrev pub is_waiting : CallStage → Bool
is_waiting stage.Queued = true
is_waiting _ = false

-- a call waits at a door of the same pool as door d
abbrev pub waits_with : State → ℕ → Call → Bool
waits_with m d r = is_waiting r.stage && have_one_pool (door_of m d) (door_of m r.door)

abbrev pub count_waiting_with : State → ℕ → List Call → ℕ
count_waiting_with m d [] = 0
count_waiting_with m d (r ∷ rs) = if waits_with m d r then 1 + count_waiting_with m d rs else count_waiting_with m d rs

-- how many calls wait in the pool of door d
abbrev pub calls_in_pool : State → ℕ → ℕ
calls_in_pool m d = count_waiting_with m d m.call_tree.calls
