use Rattle.std.proofs.Common.{◌≡◌, ◌-◌}
use Rattle.call_tree.specs.Chains.{at, walk}
use Rattle.call_tree.proofs.shuttles.walk.Given as goal

abbrev pub invariant-loop-step : goal.invariant-loop-step
invariant-loop-step l = walk l.steps (at l.next) l.fn.t ≡ walk (l.steps - l._step) (at l.next) l.t
