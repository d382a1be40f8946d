-- Which threads can take a turn.
use Rattle.std.specs.Prelude.{ℕ, List, [], ◌∷◌, ◌++◌, Option, Bool, true, false, ◌&&◌, ◌||◌, not, is_some, if◌then◌else◌, Some, None, zero, suc, length}
use Rattle.spec_kernel.specs.Types.{ThreadState, Tid}
use Rattle.spec_records.specs.declared.record.ThreadState.TheVariants as is
use Rattle.spec_records.specs.Words.{is_ready_for, is_to_collect_as, tid}
use Rattle.spec_kernel.specs.State.{State, find_call, name_of, state_of}
use Rattle.spec_kernel.specs.Ports.{has_port_references, port}

-- a call's caller can collect its results or its error
abbrev pub has_answer : State → ℕ → Bool
has_answer m c = is_some (find_call m (is_to_collect_as c))

-- a get at a port can end: the thread was interrupted, nothing refers to the port, or it is in alert mode or has so many events
abbrev pub can_end_getting : State → ℕ → ℕ → Bool → Bool
can_end_getting m q nget interrupted = interrupted || (not (has_port_references m q) || is_ready_for nget (port m q))

-- a thread that waits is runnable where its wait can end
abbrev pub can_go_on : State → ThreadState → Bool
can_go_on m is.Dormant = false
can_go_on m is.Running = true
can_go_on m (is.Idle since) = false
can_go_on m (is.Given item) = true
can_go_on m (is.Calling c) = has_answer m c
can_go_on m (is.Getting port max nget one interrupted) = can_end_getting m port nget interrupted
can_go_on m (is.Awaiting path) = is_some (name_of m path)
can_go_on m (is.Working op input) = true
can_go_on m is.FailedReturn = true
can_go_on m is.Done = false

abbrev pub is_runnable : State → ℕ → Bool
is_runnable m t = can_go_on m (state_of m t)

abbrev pub is_running_state : ThreadState → Bool
is_running_state is.Running = true
is_running_state _ = false

abbrev pub is_running : State → ℕ → Bool
is_running m t = is_running_state (state_of m t)

-- the earlier answer, or else this thread if it can take a turn
abbrev pub least_or : Option ℕ → Bool → ℕ → Option ℕ
least_or (Some t) here n = Some t
least_or None true n = Some n
least_or None false n = None

-- the least runnable of the threads 1 to n
abbrev pub least_among : State → ℕ → Option ℕ
least_among m zero = None
least_among m (suc n) = least_or (least_among m n) (is_runnable m (suc n)) (suc n)

abbrev pub least_runnable : State → Option ℕ
least_runnable m = least_among m (length m.process_table.threads)

-- the threads 1 to n that were not runnable and are, in order
abbrev pub woken_among : State → State → ℕ → List Tid
woken_among before after zero = []
woken_among before after (suc n) =
    woken_among before after n ++ (if not (is_runnable before (suc n)) && is_runnable after (suc n) then tid (suc n) ∷ [] else [])

abbrev pub woken_threads : State → State → List Tid
woken_threads before after = woken_among before after (length after.process_table.threads)

-- Calling, Getting or Awaiting: what a stalled run tells of
abbrev pub is_waiting_state : ThreadState → Bool
is_waiting_state (is.Calling c) = true
is_waiting_state (is.Getting port max nget one interrupted) = true
is_waiting_state (is.Awaiting path) = true
is_waiting_state _ = false

abbrev pub waiting_among : State → ℕ → List Tid
waiting_among m zero = []
waiting_among m (suc n) = waiting_among m n ++ (if is_waiting_state (state_of m (suc n)) then tid (suc n) ∷ [] else [])

-- the threads that are Calling, Getting or Awaiting, in order
abbrev pub waiting_threads : State → List Tid
waiting_threads m = waiting_among m (length m.process_table.threads)
