use Rattle.std.proofs.Common.{refl}
use Rattle.spec_kernel.specs.Words.{step}
use Rattle.spec_records.specs.Timers.{free_id}
use Rattle.spec_records.specs.Moments.{moments_until}
use Rattle.law_examples.proofs.timer_laws.told_in_parts.Goals as goal

pub returns-clause-clock : goal.returns-clause-clock
unfolding step free_id moments_until
returns-clause-clock c = refl

pub returns-clause-all : goal.returns-clause-all
unfolding step free_id moments_until
returns-clause-all c = refl

pub returns-clause-told : goal.returns-clause-told
unfolding step free_id moments_until
returns-clause-told c = refl

pub returns-clause-queued : goal.returns-clause-queued
unfolding step free_id moments_until
returns-clause-queued c = refl

pub returns-clause-withdrawn : goal.returns-clause-withdrawn
unfolding step free_id moments_until
returns-clause-withdrawn c = refl
