use Rattle.std.proofs.Common.{arith}
use Rattle.kernel_handle.proofs.Shaping.{length-processes_of}
use Rattle.kernel_handle.proofs.held.Held.of_shapes.Goals as goal

pub returns-then-shapes-clause-refused : goal.returns-then-shapes-clause-refused
returns-then-shapes-clause-refused c = omega (arith, length-processes_of c.args.shapes.now)
