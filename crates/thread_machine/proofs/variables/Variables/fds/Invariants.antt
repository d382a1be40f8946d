use Rattle.std.proofs.Common.{◌≡◌, take}
use Rattle.std.specs.Prelude.{map}
use Rattle.spec_requests.specs.Words.{fd_of}
use Rattle.thread_machine.specs.Slots.{slot_value}
use Rattle.thread_machine.proofs.variables.Variables.fds.Given as goal

abbrev pub invariant-loop-fd : goal.invariant-loop-fd
invariant-loop-fd l = l.list ≡ map (fd_of (slot_value l.self.set)) (take l.fd-index l.fds)
