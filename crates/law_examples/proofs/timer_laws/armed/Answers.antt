use Rattle.std.proofs.Common.{refl, lit≤}
use Rattle.spec_kernel.specs.Words.{step}
use Rattle.spec_records.specs.Timers.{free_id}
use Rattle.spec_records.specs.Moments.{moments_until}
use Rattle.law_examples.proofs.timer_laws.armed.Goals as goal

pub returns-clause-arms : goal.returns-clause-arms
unfolding step free_id moments_until
returns-clause-arms c =
    record { turn = _; found = refl; there = refl; sets = record { request = refl; answered = refl; by_own = refl }; not_now = lit≤ tt; clock = refl }

pub returns-clause-again : goal.returns-clause-again
unfolding step free_id moments_until
returns-clause-again c =
    record { turn = _; found = refl; there = refl; sets = record { request = refl; answered = refl; by_own = refl }; not_now = lit≤ tt; clock = refl }

pub returns-clause-set : goal.returns-clause-set
unfolding step free_id moments_until
returns-clause-set c = record { timer = _; there = refl; left = refl }

pub returns-clause-deleted : goal.returns-clause-deleted
unfolding step free_id moments_until
returns-clause-deleted c = record { timer = _; there = refl; left = refl }

pub returns-clause-killed : goal.returns-clause-killed
unfolding step free_id moments_until
returns-clause-killed c = refl
