use Rattle.std.proofs.Common.{◌≡◌, take}
use Rattle.kernel_chronicle.specs.Openings.{shapes_of}
use Rattle.kernel_chronicle.proofs.opening.shapes.Given as goal

abbrev pub invariant-loop-process : goal.invariant-loop-process
invariant-loop-process l = l.shapes.items ≡ shapes_of (take l.process-index l.declared)
