-- What is in transit with calls: what leaves it where a call is left is what is handed out.
use Rattle.std.specs.Prelude.{ℕ, ◌≡◌, ◌+◌, List, IsSome, find, flat_map}
use Rattle.dk_base.specs.declared.error.Errno.{Errno}
use Rattle.dk_base.specs.declared.object.Obj.{Obj}
use Rattle.spec_records.specs.declared.record.Call.{Call}
use Rattle.spec_records.specs.Words.{CallTree, count_object, is_served_by}
use Rattle.call_tree.specs.Kept.{is_call}
use Rattle.call_tree.specs.Calls.{abandon_call, dropped_objects, is_called_by, is_waiting_as, lose_server, refuse_call, transit_at}
use Rattle.call_tree.specs.Walks.{argument_objects}
use Rattle.call_tree.specs.declared.parts.Leave.{Leave}

abbrev pub transit_in : Call → List Obj
transit_in r = transit_at r.stage r.objects

-- how often an object is in transit
abbrev pub transit_count : Obj → List Call → ℕ
transit_count o calls = count_object o (flat_map transit_in calls)

pub record DropsInTransit (tree : CallTree) : Type 0 where
  pub abandons :
      (t : ℕ) (why : Leave) (o : Obj) →
      transit_count o tree.calls ≡ transit_count o (abandon_call tree t why).calls + count_object o (dropped_objects why (find (is_called_by t) tree.calls))
  pub serves :
      (u : ℕ) (o : Obj) →
      transit_count o tree.calls ≡ transit_count o (lose_server tree u).calls + count_object o (argument_objects (find (is_served_by u) tree.calls))
  pub refuses :
      (c : ℕ) (e : Errno) (o : Obj) → IsSome (find (is_waiting_as c) tree.calls) →
      transit_count o tree.calls ≡ transit_count o (refuse_call tree c e).calls + count_object o (argument_objects (find (is_call c) tree.calls))
