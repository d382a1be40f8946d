use Rattle.std.proofs.Common.{length}
use Rattle.dk_base.specs.Words.{members}
use Rattle.kernel_store.proofs.PortWaits.{AreAsked}
use Rattle.kernel_store.proofs.ports.note_port.Given as goal

abbrev pub invariant-loop-t : goal.invariant-loop-t
invariant-loop-t l = AreAsked l.fn.q l.fn.processes l.fn.held l.fn.ports.ports.ports l.fn.ended l.ended l.rest

abbrev pub decreases-loop-t : goal.decreases-loop-t
decreases-loop-t l = length (members l.rest)
