-- What refers to objects, by the values of its parts, and how many references an object has among them.
use Rattle.std.specs.Prelude.{ℕ, ◌≡◌, ◌≤◌, ◌==◌, ◌&&◌, Bool, List, [], ◌∷◌, Option, filter, is_some, length, true}
use Rattle.dk_base.specs.declared.object.Obj.TheVariants as obj
use Rattle.dk_base.specs.ByNumber.{at_number}
use Rattle.spec_records.specs.declared.leaving.Leaver.{Leaver}
use Rattle.spec_records.specs.declared.leaving.Leaver.TheVariants.{EndedProcess}
use Rattle.spec_records.specs.Words.{ProcessTable, count_object, is_object, process_end, takes_notices_in}
use Rattle.exit_paths.specs.Words.{AreLost}
use Rattle.server_pool.specs.Words.{PoolsValue}
use Rattle.spec_kernel.specs.Types.{Call, Door, Name, Obj, Pass}
use Rattle.spec_kernel.specs.Words.{holdings_in, objects_in_call}
use Rattle.dk_base.specs.declared.limits.TheConstants.{DESCRIPTORS_MAX, PASS_MAX, PROCESSES_MAX}
use Rattle.name_space.specs.Words.{HasRoomForName, NameTable}
use Rattle.call_tree.specs.declared.parts.Outcome.{Outcome}
use Rattle.call_tree.specs.declared.parts.Outcome.TheVariants.{Ended, Results}
use Rattle.call_tree.specs.Words.{CallsValue, HasRoomForCall}
use Rattle.unref_notice.specs.Words.{ObjectCounts, count_of, is_pipe_end, was_referred_to, was_shared}

pub record HoldingsValue : Type 0 where
  pub tables : List (List (Option Obj))
  pub names : NameTable
  -- the calls that are live
  pub calls : CallsValue
  -- how many references each object had when the step began
  pub opening : ObjectCounts
  -- how often a reference may yet come or go in this step
  pub left : ℕ

-- how many of what is held, once for each holding, is this object
abbrev pub references_to : List (List (Option Obj)) → List Name → List Call → Obj → ℕ
references_to tables names calls o = length (filter (is_object o) (holdings_in tables names calls))

-- is this door
abbrev pub references_in : List (List (Option Obj)) → List Name → List Call → ℕ → ℕ
references_in tables names calls d = references_to tables names calls (obj.Door d)

-- the counts of all objects are those of what is held
abbrev pub IsCountOf : ObjectCounts → List (List (Option Obj)) → List Name → List Call → Type 0
IsCountOf counts tables names calls = (o : Obj) → count_of counts o ≡ references_to tables names calls o

-- each table has at most 256 descriptors
abbrev pub AreNarrow : List (List (Option Obj)) → Type 0
AreNarrow [] = Unit {0}
AreNarrow (t ∷ ts) = (length t ≤ DESCRIPTORS_MAX) × AreNarrow ts

-- with each call at most 16 objects are in transit
abbrev pub CarryFew : List Call → Type 0
CarryFew [] = Unit {0}
CarryFew (r ∷ rs) = (length (objects_in_call r) ≤ PASS_MAX) × CarryFew rs

-- how much can be held, but for names
pub record HoldFew (tables : List (List (Option Obj))) (calls : List Call) : Type 0 where
  pub processes : length tables ≤ PROCESSES_MAX
  pub rows : AreNarrow tables
  pub transit : CarryFew calls

-- the most objects that are in transit with all calls: 16 with each of 64
abbrev pub TRANSIT_MAX : ℕ
TRANSIT_MAX = 1024

-- a door had more than one reference when the step began, and has one
abbrev pub has_fallen_to_one : HoldingsValue → ℕ → Bool
has_fallen_to_one h d = was_shared h.opening d && (references_in h.tables h.names.names h.calls.tree.calls d == 1)

-- how many references an object has
abbrev pub references_of : HoldingsValue → Obj → ℕ
references_of h o = references_to h.tables h.names.names h.calls.tree.calls o

-- a change of what refers to these objects alone: all others have as many references as before
abbrev pub ChangesOnly : List Obj → HoldingsValue → HoldingsValue → Type 0
ChangesOnly objects before after = (o : Obj) → count_object o objects ≡ 0 → references_of after o ≡ references_of before o

-- an end of a pipe had references when the step began, and has none
abbrev pub has_lost_all : HoldingsValue → Obj → Bool
has_lost_all h o = is_pipe_end o && (was_referred_to h.opening o && (references_of h o == 0))

-- a door takes notices
abbrev pub takes : List Door → ℕ → Bool
takes doors d = takes_notices_in (at_number doors d)

-- the objects of results
abbrev pub results_in : Outcome → List Obj
results_in (Results bytes objects grown) = objects
results_in (Ended e) = []

-- a descriptor is passed and closed
abbrev pub is_released : Pass → Bool
is_released x = x.release

-- another name and another call take no memory
pub record HasRoomToHold (h : HoldingsValue) : Type 0 where
  pub names : HasRoomForName h.names
  pub calls : HasRoomForCall h.calls

-- A process that ends is there, and what waits in any pool is at a door of its own exactly where the door is listed.
abbrev pub CanEnd : Leaver → List ℕ → ProcessTable → List Door → PoolsValue → Type 0
CanEnd (EndedProcess p) lost table doors pools = (is_some (at_number table.processes p.0) ≡ true) × AreLost (process_end table doors p.0) lost pools
CanEnd _ lost table doors pools = Unit {0}
