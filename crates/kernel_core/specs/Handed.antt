-- How many objects an event hands over at most, and how many events of a port, for which the room is taken before it, and which end a wait
-- has.
use Rattle.std.specs.Prelude.{ℕ, false, List, [], Option, None, Some, length}
use Rattle.spec_kernel.specs.Types.{Call, Item, Obj, Queued, Request, ThreadState}
use Rattle.dk_base.specs.declared.object.Item.TheVariants as item
use Rattle.dk_base.specs.declared.request.Request.TheVariants as request
use Rattle.spec_records.specs.declared.record.ThreadState.TheVariants as is
use Rattle.spec_records.specs.Words.{events_found, is_given_as, is_to_collect_as}
use Rattle.spec_kernel.specs.Words.{State, find_call, objects_collected_in, port}
use Rattle.kernel_core.specs.declared.acts.Ending.{Ending}
use Rattle.kernel_core.specs.declared.acts.Ending.TheVariants as ending

-- at an entry: what is passed with it
abbrev pub count_passed : Request → ℕ
count_passed (request.Call fd bytes pass rsize) = length pass
count_passed (request.Return bytes pass) = length pass
count_passed _ = 0

-- at the end of a wait: what comes with the call that the thread was given, or with the results of its own

abbrev pub objects_of_call : Option Call → List Obj
objects_of_call None = []
objects_of_call (Some r) = r.objects

abbrev pub objects_given : State → ℕ → ℕ → List Obj
objects_given m t c = objects_of_call (find_call m (is_given_as c t))

abbrev pub objects_to_collect : State → ℕ → List Obj
objects_to_collect m c = objects_collected_in (find_call m (is_to_collect_as c))

abbrev pub objects_with : State → ℕ → Item → List Obj
objects_with m t (item.Call c) = objects_given m t c
objects_with m t (item.Notice n) = []

abbrev pub objects_at_end : State → ℕ → Ending → List Obj
objects_at_end m t (ending.Accept i) = objects_with m t i
objects_at_end m t (ending.Collect c) = objects_to_collect m c
objects_at_end m t _ = []

-- the events that a wait for several finds
abbrev pub events_at_end : State → Ending → List Queued
events_at_end m (ending.Got q max false interrupted) = events_found max (port m q)
events_at_end m _ = []

-- which end the wait of a thread has
abbrev pub ending_of : ThreadState → Ending
ending_of (is.Given i) = ending.Accept i
ending_of (is.Calling c) = ending.Collect c
ending_of (is.Getting q max nget one interrupted) = ending.Got q max one interrupted
ending_of (is.Awaiting path) = ending.Find
ending_of (is.Working op input) = ending.EndWork
ending_of is.FailedReturn = ending.Wake
ending_of _ = ending.Nothing
