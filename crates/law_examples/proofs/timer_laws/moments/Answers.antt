use Rattle.std.proofs.Common.{refl}
use Rattle.spec_kernel.specs.Words.{step}
use Rattle.spec_records.specs.Timers.{free_id}
use Rattle.spec_records.specs.Moments.{moments_until}
use Rattle.law_examples.proofs.timer_laws.moments.Goals as goal

pub returns-clause-none_yet : goal.returns-clause-none_yet
unfolding step free_id moments_until
returns-clause-none_yet c = refl

pub returns-clause-three : goal.returns-clause-three
unfolding step free_id moments_until
returns-clause-three c = refl

pub returns-clause-none_of_one : goal.returns-clause-none_of_one
unfolding step free_id moments_until
returns-clause-none_of_one c = refl

pub returns-clause-one : goal.returns-clause-one
unfolding step free_id moments_until
returns-clause-one c = refl
