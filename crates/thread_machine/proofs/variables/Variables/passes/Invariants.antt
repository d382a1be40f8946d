use Rattle.std.proofs.Common.{◌≡◌, take}
use Rattle.std.specs.Prelude.{map}
use Rattle.spec_requests.specs.Words.{pass_of}
use Rattle.thread_machine.specs.Slots.{slot_value}
use Rattle.thread_machine.proofs.variables.Variables.passes.Given as goal

abbrev pub invariant-loop-pass : goal.invariant-loop-pass
invariant-loop-pass l = l.list ≡ map (pass_of (slot_value l.self.set)) (take l.pass-index l.passes)
