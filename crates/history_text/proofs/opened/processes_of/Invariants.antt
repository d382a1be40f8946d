use Rattle.std.proofs.Common.{◌≡◌, take}
use Rattle.history_text.specs.DefaultNames.{default_processes}
use Rattle.history_text.proofs.opened.processes_of.Given as goal

abbrev pub invariant-loop-i : goal.invariant-loop-i
invariant-loop-i l = l.processes.items ≡ default_processes 0 (take l.i l.opening)
