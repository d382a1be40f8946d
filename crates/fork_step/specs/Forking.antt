-- What several callers leave that are interrupted one after the other, and what a child's first thread is bound to.
use Rattle.std.specs.Prelude.{ℕ, ◌++◌, List, [], ◌∷◌, Option, Some, None, if◌then◌else◌, is_some, map, find}
use Rattle.std.specs.Option.{option_to_list}
use Rattle.dk_base.specs.declared.number.Tid.{Tid}
use Rattle.dk_base.specs.declared.object.Obj.{Obj}
use Rattle.spec_records.specs.Words.{CallTree, bind_lost, bound_at, tid}
use Rattle.call_tree.specs.declared.parts.Leave.TheVariants.{Interrupted}
use Rattle.call_tree.specs.Words.{abandon_call, cancelled_by, dropped_objects, is_called_by, parked_thread}

-- one of them

abbrev pub after_one : CallTree → Tid → CallTree
after_one tree t = abandon_call tree t.0 Interrupted

-- the objects that are no longer in transit
abbrev pub dropped_by_one : CallTree → Tid → List Obj
dropped_by_one tree t = dropped_objects Interrupted (find (is_called_by t.0) tree.calls)

-- the thread that was given its call
abbrev pub parked_by_one : CallTree → Tid → List Tid
parked_by_one tree t = map tid (option_to_list (parked_thread (find (is_called_by t.0) tree.calls)))

-- the thread that is in its call, and is to be told that its client has left
abbrev pub cancelled_by_one : CallTree → Tid → List Tid
cancelled_by_one tree t = map tid (option_to_list (cancelled_by (find (is_called_by t.0) tree.calls)))

-- all of them

abbrev pub abandon_each : CallTree → List Tid → CallTree
abandon_each tree [] = tree
abandon_each tree (t ∷ ts) = abandon_each (after_one tree t) ts

abbrev pub dropped_by_each : CallTree → List Tid → List Obj
dropped_by_each tree [] = []
dropped_by_each tree (t ∷ ts) = dropped_by_one tree t ++ dropped_by_each (after_one tree t) ts

abbrev pub parked_by_each : CallTree → List Tid → List Tid
parked_by_each tree [] = []
parked_by_each tree (t ∷ ts) = parked_by_one tree t ++ parked_by_each (after_one tree t) ts

abbrev pub cancelled_by_each : CallTree → List Tid → List Tid
cancelled_by_each tree [] = []
cancelled_by_each tree (t ∷ ts) = cancelled_by_one tree t ++ cancelled_by_each (after_one tree t) ts

-- the first thread of a child, if it has one, is bound to the door that is lost
abbrev pub bind_lost_first : List (Option ℕ) → Option Tid → List (Option ℕ)
bind_lost_first bindings None = bindings
bind_lost_first bindings (Some first) = bind_lost bindings first.0

-- where the thread that forks is bound to a door
abbrev pub bindings_of_child : List (Option ℕ) → ℕ → Option Tid → List (Option ℕ)
bindings_of_child bindings t first = if is_some (bound_at bindings t) then bind_lost_first bindings first else bindings
