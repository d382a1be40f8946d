use Rattle.std.proofs.Common.{◌-◌, ◌≤◌, length, take}
use Rattle.std.specs.Io.KnownBytes.{Appends}
use Rattle.dk_base.proofs.writing.write_all.Given as goal

-- what is held grew by the front of the text
abbrev pub invariant-loop-at : goal.invariant-loop-at
invariant-loop-at g l =
    (l.at ≤ length l.text)
    × (g.O.Sink.faults l.initial.sink ≤ g.O.Sink.faults l.sink)
    × Appends (g.O.Sink.held l.initial.sink) (g.O.Sink.held l.sink) (take l.at l.text)

abbrev pub decreases-loop-at : goal.decreases-loop-at
decreases-loop-at g l = length l.text - l.at
