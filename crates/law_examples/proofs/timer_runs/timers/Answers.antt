use Rattle.std.proofs.Common.{[], ◌∷◌, false, refl, lit<, lit≤}
use Rattle.spec_kernel.specs.Words.{step}
use Rattle.spec_records.specs.Timers.{free_id}
use Rattle.spec_records.specs.Moments.{moments_until}
use Rattle.spec_kernel.specs.Opening.IsOpening.{processes, thread}
use Rattle.law_examples.proofs.timer_runs.timers.Goals as goal

pub returns : goal.returns
unfolding step free_id moments_until
returns c =
    record {
      opens = thread 1 false (lit≤ tt) (lit≤ tt) (lit< tt) (processes (256 ∷ []));
      taken = refl;
      answered = refl;
      over = refl;
    }
