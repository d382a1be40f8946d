-- Which threads can take a turn.
use Rattle.std.specs.Prelude.{ℕ, ◌≡◌, ◌==◌, ◌&&◌, ◌||◌, not, Bool, List, Option, false, is_some, true}
use Rattle.dk_base.specs.declared.number.PathId.{PathId}
use Rattle.spec_records.specs.declared.record.ThreadState.TheVariants as is
use Rattle.dk_base.specs.declared.object.Obj.TheVariants as obj
use Rattle.spec_records.specs.Words.{Port, ProcessTable, is_ready_for, name_in, port_of, state_in, thread_at}
use Rattle.proc_table.specs.Words.{is_getting}
use Rattle.dk_base.specs.declared.thread_set.ThreadSet.{ThreadSet}
use Rattle.dk_base.specs.Words.{has}
use Rattle.spec_kernel.specs.Types.{Call, Name, Obj, ThreadState}
use Rattle.spec_kernel.specs.Words.{State, can_go_on, state_of}
use Rattle.exit_paths.specs.Words.{has_ready}
use Rattle.kernel_holdings.specs.Words.{HoldingsValue, references_of, references_to}

-- as `can_go_on`, where a caller goes on by a call of its own that can be collected
abbrev pub can_turn_at : State → ℕ → ThreadState → Bool
can_turn_at m t (is.Calling c) = has_ready m.call_tree t
can_turn_at m t s = can_go_on m s

abbrev pub can_turn : State → ℕ → Bool
can_turn m t = can_turn_at m t (state_of m t)

-- a thread at this waits for a path that a door is attached to
abbrev pub is_found_at : List Name → ThreadState → Bool
is_found_at names (is.Awaiting path) = is_some (name_in names path)
is_found_at names _ = false

-- a thread at this waits at a port, was not interrupted, and its wait can end: nothing refers to the port, or it is ready
abbrev pub has_ended_in : List (List (Option Obj)) → List Name → List Call → List Port → ThreadState → Bool
has_ended_in tables names calls ports (is.Getting q max nget one interrupted) =
    not interrupted && ((references_to tables names calls (obj.Port q) == 0) || is_ready_for nget (port_of ports q))
has_ended_in tables names calls ports _ = false

abbrev pub has_ended_at : HoldingsValue → List Port → ThreadState → Bool
has_ended_at held ports s = has_ended_in held.tables held.names.names held.calls.tree.calls ports s

-- a thread at this waits at this port, and was not interrupted
abbrev pub waits_at : ℕ → ThreadState → Bool
waits_at q (is.Getting p max nget one interrupted) = not interrupted && (p == q)
waits_at q _ = false

abbrev pub is_port : Obj → Bool
is_port (obj.Port q) = true
is_port _ = false

-- of each thread that waits for a path, whether a door is attached to it
pub record KnowsPaths (table : ProcessTable) (names : List Name) (named : ThreadSet) : Type 0 where
  pub known : (t : ℕ) (path : PathId) → state_in (thread_at table t) ≡ is.Awaiting path → has named t ≡ is_some (name_in names path)

-- of each thread that waits at a port and was not interrupted, whether its wait can end
pub record KnowsPortsIn (table : ProcessTable) (tables : List (List (Option Obj))) (names : List Name) (calls : List Call) (ports : List Port) (ended : ThreadSet) : Type 0 where
  pub known : (t : ℕ) → is_getting (state_in (thread_at table t)) ≡ true → has ended t ≡ has_ended_in tables names calls ports (state_in (thread_at table t))

abbrev pub KnowsPorts : ProcessTable → HoldingsValue → List Port → ThreadSet → Type 0
KnowsPorts table held ports ended = KnowsPortsIn table held.tables held.names.names held.calls.tree.calls ports ended

-- a port is as it was, and so is how much refers to it
abbrev pub IsSamePort : ℕ → HoldingsValue → List Port → HoldingsValue → List Port → Type 0
IsSamePort p had before held ports = (port_of ports p ≡ port_of before p) × (references_of held (obj.Port p) ≡ references_of had (obj.Port p))
