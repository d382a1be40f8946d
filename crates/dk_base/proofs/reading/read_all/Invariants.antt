use Rattle.std.proofs.Common.{◌+◌, ◌-◌, ◌≤◌, length}
use Rattle.std.specs.Io.KnownBytes.{Consumes}
use Rattle.dk_base.proofs.reading.read_all.Given as goal

-- what was left is what is held now, followed by what is left
abbrev pub invariant-loop-chunk : goal.invariant-loop-chunk
invariant-loop-chunk g l =
    (g.S.Source.faults l.initial.source ≤ g.S.Source.faults l.source)
    × Consumes (g.S.Source.left l.initial.source) (g.S.Source.left l.source) l.bytes

abbrev pub decreases-loop-chunk : goal.decreases-loop-chunk
decreases-loop-chunk g l = l.limit + 1 - length l.bytes
