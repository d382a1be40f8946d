use Rattle.std.proofs.Common.{◌≡◌}
use Rattle.spec_kernel.specs.Words.{waiting_among}
use Rattle.sys_run.proofs.threads.all_waiting.Given as goal

abbrev pub invariant-loop-below : goal.invariant-loop-below
invariant-loop-below l = l.waiting ≡ waiting_among l.kernel l.below
