use Rattle.std.proofs.Common.{◌≡◌, take}
use Rattle.history_text.specs.DefaultNames.{default_threads}
use Rattle.history_text.proofs.opened.threads_of.Given as goal

abbrev pub invariant-loop-i : goal.invariant-loop-i
invariant-loop-i l = l.threads.items ≡ default_threads 0 (take l.i l.opening)
