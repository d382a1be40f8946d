use Rattle.std.proofs.Common.{[], ◌∷◌, false, refl, lit<, lit≤}
use Rattle.spec_kernel.specs.Words.{step}
use Rattle.spec_kernel.specs.Opening.IsOpening.{processes, thread}
use Rattle.law_examples.proofs.port_runs.alert.Goals as goal

pub returns : goal.returns
unfolding step
returns c =
    record {
      opens = thread 1 false (lit≤ tt) (lit≤ tt) (lit< tt) (thread 1 false (lit≤ tt) (lit≤ tt) (lit< tt) (thread 1 false (lit≤ tt) (lit≤ tt) (lit< tt) (processes (256 ∷ []))));
      taken = refl;
      answered = refl;
      over = refl;
    }
