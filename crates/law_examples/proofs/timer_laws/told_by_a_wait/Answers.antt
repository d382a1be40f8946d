use Rattle.std.proofs.Common.{refl}
use Rattle.spec_kernel.specs.Words.{step}
use Rattle.spec_records.specs.Timers.{free_id}
use Rattle.spec_records.specs.Moments.{moments_until}
use Rattle.law_examples.proofs.timer_laws.told_by_a_wait.Goals as goal

pub returns-clause-first : goal.returns-clause-first
unfolding step free_id moments_until
returns-clause-first c = refl

pub returns-clause-second : goal.returns-clause-second
unfolding step free_id moments_until
returns-clause-second c = refl

pub returns-clause-left : goal.returns-clause-left
unfolding step free_id moments_until
returns-clause-left c = refl
