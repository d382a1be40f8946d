use Rattle.std.proofs.Common.{◌≡◌, ◌≤◌, ◌++◌, flat_map, length, drop}
use Rattle.call_tree.specs.Words.{transit_in}
use Rattle.fork_step.specs.Forking.{abandon_each, cancelled_by_each, dropped_by_each, parked_by_each}
use Rattle.fork_step.proofs.forking.fork_calls.Given as goal

abbrev pub invariant-loop-t : goal.invariant-loop-t
invariant-loop-t l =
    record {
      dropped_room : length (flat_map transit_in l.calls.tree.calls) ≤ l.dropped.spare;
      parked_room : length (drop l.t-index l.fn.callers) ≤ l.parked.spare;
      cancelled_room : length (drop l.t-index l.fn.callers) ≤ l.cancelled.spare;
      tree : abandon_each l.calls.tree (drop l.t-index l.fn.callers) ≡ abandon_each l.initial.calls.tree l.fn.callers;
      dropped : l.dropped.items ++ dropped_by_each l.calls.tree (drop l.t-index l.fn.callers) ≡ l.initial.dropped.items ++ dropped_by_each l.initial.calls.tree l.fn.callers;
      parked : l.parked.items ++ parked_by_each l.calls.tree (drop l.t-index l.fn.callers) ≡ l.initial.parked.items ++ parked_by_each l.initial.calls.tree l.fn.callers;
      cancelled : l.cancelled.items ++ cancelled_by_each l.calls.tree (drop l.t-index l.fn.callers) ≡ l.initial.cancelled.items ++ cancelled_by_each l.initial.calls.tree l.fn.callers;
      spare : l.initial.calls.spare ≤ l.calls.spare;
    }
