use Rattle.std.proofs.Common.{refl}
use Rattle.spec_kernel.specs.Words.{step}
use Rattle.law_examples.proofs.association_runs.writing.Goals as goal

pub returns : goal.returns
unfolding step
returns c = refl
