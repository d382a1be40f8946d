use Rattle.std.proofs.Common.{◌≡◌}
use Rattle.spec_kernel.specs.Words.{waiting_among}
use Rattle.sys_run.specs.Threads.{is_any}
use Rattle.sys_run.proofs.threads.is_any_waiting.Given as goal

abbrev pub invariant-loop-below : goal.invariant-loop-below
invariant-loop-below l = l.any ≡ is_any (waiting_among l.kernel l.below)
