use Rattle.std.proofs.Common.{[], ◌∷◌, false, refl, lit<, lit≤}
use Rattle.spec_kernel.specs.Words.{step}
use Rattle.spec_kernel.specs.Opening.IsOpening.{child, processes, thread}
use Rattle.law_examples.proofs.fork_runs.interrupted_caller.Goals as goal

pub returns : goal.returns
unfolding step
returns c =
    record {
      opens = thread 3 false (lit≤ tt) (lit≤ tt) (lit< tt) (thread 2 false (lit≤ tt) (lit≤ tt) (lit< tt) (thread 2 false (lit≤ tt) (lit≤ tt) (lit< tt) (thread 1 false (lit≤ tt) (lit≤ tt) (lit< tt) (child 3 2 (lit≤ tt) (lit< tt) (lit≤ tt) refl refl (processes (4 ∷ 4 ∷ 4 ∷ []))))));
      taken = refl;
      answered = refl;
      over = refl;
    }
