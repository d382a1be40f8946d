use Rattle.std.proofs.Common.{◌≡◌, ◌+◌, ◌-◌, ◌≤◌, length, take}
use Rattle.thread_machine.proofs.variables.Variables.make_room.Given as goal

abbrev pub invariant-loop-self : goal.invariant-loop-self
invariant-loop-self l =
    (l.self-inside.set ≡ l.initial.self-inside.set)
    × (take l.self-inside.set l.self-inside.variables.items ≡ take l.initial.self-inside.set l.initial.self-inside.variables.items)
    × (length l.initial.self-inside.variables.items ≤ length l.self-inside.variables.items)
    × (l.self-inside.set ≤ length l.self-inside.variables.items)

abbrev pub decreases-loop-self : goal.decreases-loop-self
decreases-loop-self l = (l.self-inside.set + 2) - length l.self-inside.variables.items
