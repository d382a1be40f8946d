-- What is in transit, and how many references an object has: rows of tables, names of doors, and objects in transit.
use Rattle.std.specs.Prelude.{ℕ, ◌+◌, ◌==◌, List, [], ◌∷◌, Option, Bool, false, if◌then◌else◌, Some, None}
use Rattle.spec_kernel.specs.Types.{Call, CallStage, Name, Obj}
use Rattle.dk_base.specs.declared.object.Obj.TheVariants as obj
use Rattle.spec_records.specs.declared.record.CallStage.TheVariants as stage
use Rattle.spec_kernel.specs.Words.{State}
use Rattle.law_states.specs.Core.{has_arguments}
use Rattle.law_states.specs.Records.{record_of}

-- what of a call is in transit: its arguments while it waits or is given to a thread, its results until they are collected

abbrev pub results_in_transit : CallStage → Option (List Obj)
results_in_transit (stage.Returned bytes objects) = Some objects
results_in_transit _ = None

abbrev pub message_of : Call → Option (List Obj)
message_of r = if has_arguments r.stage then Some r.objects else results_in_transit r.stage

abbrev pub message_in : Option Call → Option (List Obj)
message_in None = None
message_in (Some r) = message_of r

abbrev pub in_transit : State → ℕ → Option (List Obj)
in_transit m c = message_in (record_of m c)

-- a door, a port, or an end of a pipe, by its number

abbrev pub is_of_door : ℕ → Obj → Bool
is_of_door d (obj.Door e) = d == e
is_of_door d _ = false

abbrev pub is_of_port : ℕ → Obj → Bool
is_of_port q (obj.Port e) = q == e
is_of_port q _ = false

abbrev pub is_of_reading_end : ℕ → Obj → Bool
is_of_reading_end n (obj.PipeIn e) = n == e
is_of_reading_end n _ = false

abbrev pub is_of_writing_end : ℕ → Obj → Bool
is_of_writing_end n (obj.PipeOut e) = n == e
is_of_writing_end n _ = false

-- how many of these are such an object

abbrev pub count_objects : (Obj → Bool) → List Obj → ℕ
count_objects is [] = 0
count_objects is (o ∷ os) = if is o then 1 + count_objects is os else count_objects is os

abbrev pub count_rows : (Obj → Bool) → List (Option Obj) → ℕ
count_rows is [] = 0
count_rows is (None ∷ rows) = count_rows is rows
count_rows is (Some o ∷ rows) = if is o then 1 + count_rows is rows else count_rows is rows

abbrev pub count_tables : (Obj → Bool) → List (List (Option Obj)) → ℕ
count_tables is [] = 0
count_tables is (rows ∷ tables) = count_rows is rows + count_tables is tables

abbrev pub count_names : ℕ → List Name → ℕ
count_names d [] = 0
count_names d (n ∷ ns) = if d == n.door then 1 + count_names d ns else count_names d ns

abbrev pub count_message : (Obj → Bool) → Option (List Obj) → ℕ
count_message is None = 0
count_message is (Some os) = count_objects is os

abbrev pub count_calls : (Obj → Bool) → List Call → ℕ
count_calls is [] = 0
count_calls is (r ∷ rs) = count_message is (message_of r) + count_calls is rs

abbrev pub references : State → ℕ → ℕ
references m d = count_tables (is_of_door d) m.tables + count_names d m.names + count_calls (is_of_door d) m.call_tree.calls

-- what is no door has no name
abbrev pub count_unnamed : State → (Obj → Bool) → ℕ
count_unnamed m is = count_tables is m.tables + count_calls is m.call_tree.calls

abbrev pub references_of_port : State → ℕ → ℕ
references_of_port m q = count_unnamed m (is_of_port q)

abbrev pub readers_left : State → ℕ → ℕ
readers_left m n = count_unnamed m (is_of_reading_end n)

abbrev pub writers_left : State → ℕ → ℕ
writers_left m n = count_unnamed m (is_of_writing_end n)
