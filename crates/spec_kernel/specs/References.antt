-- The references of an object: rows of tables, names, argument objects of calls that are Queued or Given, and result
-- objects of calls that are Returned.
use Rattle.std.specs.Prelude.{ℕ, List, [], ◌++◌, Option, map, filter, flat_map, length}
use Rattle.spec_kernel.specs.Types.{Call, CallStage, Name, Obj}
use Rattle.dk_base.specs.declared.object.Obj.TheVariants as obj
use Rattle.spec_records.specs.declared.record.CallStage.TheVariants as stage
use Rattle.spec_records.specs.Words.{is_object, objects_of}
use Rattle.spec_kernel.specs.State.{State}

abbrev pub named_object : Name → Obj
named_object n = obj.Door n.door

abbrev pub objects_in_transit : Call → CallStage → List Obj
objects_in_transit r stage.Queued = r.objects
objects_in_transit r (stage.Given u) = r.objects
objects_in_transit r (stage.Returned bytes objects) = objects
objects_in_transit r _ = []

abbrev pub objects_in_call : Call → List Obj
objects_in_call r = objects_in_transit r r.stage

-- every object that tables, names and calls hold, once for each holding
abbrev pub holdings_in : List (List (Option Obj)) → List Name → List Call → List Obj
holdings_in tables names calls = flat_map objects_of tables ++ map named_object names ++ flat_map objects_in_call calls

abbrev pub holdings : State → List Obj
holdings m = holdings_in m.tables m.names m.call_tree.calls

abbrev pub refs : State → Obj → List Obj
refs m o = filter (is_object o) (holdings m)

-- how many an object has
abbrev pub references_of : State → Obj → ℕ
references_of m o = length (refs m o)
