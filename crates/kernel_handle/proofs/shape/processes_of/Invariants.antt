use Rattle.std.proofs.Common.{◌≡◌, drop}
use Rattle.kernel_handle.specs.Shapes.{processes_from, processes_of}
use Rattle.kernel_handle.proofs.shape.processes_of.Given as goal

abbrev pub invariant-loop-shape : goal.invariant-loop-shape
invariant-loop-shape l = processes_of l.shapes ≡ processes_from l.processes.items (drop l.shape-index l.shapes)
