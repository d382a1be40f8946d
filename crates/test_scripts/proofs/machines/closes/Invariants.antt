use Rattle.thread_machine.specs.Words.{IsMachine}
use Rattle.test_scripts.proofs.machines.closes.Given as goal

abbrev pub invariant-loop-i : goal.invariant-loop-i
invariant-loop-i l = IsMachine l.script l.machine
