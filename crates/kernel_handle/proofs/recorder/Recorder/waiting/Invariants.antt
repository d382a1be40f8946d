use Rattle.std.proofs.Common.{◌≡◌}
use Rattle.spec_kernel.specs.Words.{waiting_among}
use Rattle.spec_histories.specs.Histories.{end}
use Rattle.kernel_handle.proofs.recorder.Recorder.waiting.Given as goal

abbrev pub invariant-loop-below : goal.invariant-loop-below
invariant-loop-below g l = l.waiting ≡ waiting_among (end l.self) l.below
