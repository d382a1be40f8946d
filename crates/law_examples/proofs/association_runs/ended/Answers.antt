use Rattle.std.proofs.Common.{refl}
use Rattle.spec_kernel.specs.Words.{step}
use Rattle.law_examples.proofs.association_runs.ended.Goals as goal

pub returns-clause-taken : goal.returns-clause-taken
unfolding step
returns-clause-taken c = refl

pub returns-clause-closed : goal.returns-clause-closed
unfolding step
returns-clause-closed c = refl

pub returns-clause-dissociated : goal.returns-clause-dissociated
unfolding step
returns-clause-dissociated c =
    record { number = 2; association = _; before = refl; of_port = refl; by_own = refl; by_descriptor = refl; after = refl }
