-- Which call a thread serves, and the two walks: from a thread to its root, and from a thread to its lead.
use Rattle.std.specs.Prelude.{ℕ, Option, Some, None, zero, suc}
use Rattle.std.specs.Option.{option_map_or}
use Rattle.spec_kernel.specs.Types.{Call, CallStage, ThreadState}
use Rattle.spec_records.specs.declared.record.CallStage.TheVariants as stage
use Rattle.spec_records.specs.declared.record.ThreadState.TheVariants as is
use Rattle.spec_records.specs.Words.{is_served_as, is_served_by}
use Rattle.spec_kernel.specs.State.{State, find_call, state_of}

abbrev pub served_by : State → ℕ → Option Call
served_by m t = find_call m (is_served_by t)

abbrev pub caller_in : Option Call → Option ℕ
caller_in None = None
caller_in (Some r) = Some r.caller.0

-- the caller of the call that a thread serves
abbrev pub caller_of : State → ℕ → Option ℕ
caller_of m t = caller_in (served_by m t)

-- at most so many steps from a thread to the caller of the call that it serves
abbrev pub walk : ℕ → State → ℕ → ℕ
walk zero m t = t
walk (suc n) m t = option_map_or (walk n m) (caller_of m t) t

-- the end of the walk from a thread to the caller of the call that it serves, and so on
abbrev pub root : State → ℕ → ℕ
root m t = walk m.call_tree.made m t

-- the other way

-- the thread that serves a call
abbrev pub server_at : CallStage → Option ℕ
server_at (stage.Given u) = Some u.0
server_at (stage.Entered u) = Some u.0
server_at _ = None

abbrev pub server_in : Option Call → Option ℕ
server_in None = None
server_in (Some r) = server_at r.stage

-- the thread that serves the call in which a thread at this state waits
abbrev pub server_for : State → ThreadState → Option ℕ
server_for m (is.Calling c) = server_in (find_call m (is_served_as c))
server_for m _ = None

-- the thread that serves a thread's call
abbrev pub server_of : State → ℕ → Option ℕ
server_of m t = server_for m (state_of m t)

-- at most so many steps from a thread to the thread that serves its call
abbrev pub walk_down : ℕ → State → ℕ → ℕ
walk_down zero m t = t
walk_down (suc n) m t = option_map_or (walk_down n m) (server_of m t) t

-- the end of the walk from a thread to the thread that serves its call, and so on: the lead of a root holds its shuttle
abbrev pub lead : State → ℕ → ℕ
lead m t = walk_down m.call_tree.made m t
