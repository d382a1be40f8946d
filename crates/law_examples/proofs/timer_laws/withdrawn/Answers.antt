use Rattle.std.proofs.Common.{◌≡◌, [], ◌∷◌, Some, refl, subst}
use Rattle.spec_records.specs.Words.{Port, pid}
use Rattle.spec_kernel.specs.Words.{state_at, step}
use Rattle.spec_records.specs.Timers.{free_id}
use Rattle.spec_records.specs.Moments.{moments_until}
use Rattle.law_runs.specs.Ends.{EndsProcess}
use Rattle.law_runs.specs.TimerLives.{Ends}
use Rattle.law_runs.specs.PortEvents.{PortChange, told_port}
use Rattle.law_examples.specs.PortLaws.{turn_of}
use Rattle.law_examples.specs.PortRuns.{pipe_start}
use Rattle.law_examples.specs.ForkRuns.{two_start}
use Rattle.law_examples.specs.TimerLaws.{port_with, queued}
use Rattle.law_examples.specs.TimerRuns.{children_turns, counts_turns}
use Rattle.law_examples.proofs.timer_laws.withdrawn.Goals as goal

pub returns-clause-set_again : goal.returns-clause-set_again
unfolding step free_id moments_until
returns-clause-set_again c = PortChange.timer_set (port_with (queued 1 1 1 ∷ [])) 0 9 0 _ refl refl refl refl

killed_so :
    told_port (state_at two_start children_turns 12) (state_at two_start children_turns 13) 1 (port_with (queued 2 1 8 ∷ [])) ≡ port_with []
unfolding step free_id moments_until
killed_so = refl

pub returns-clause-killed : goal.returns-clause-killed
unfolding step free_id moments_until
returns-clause-killed c =
    subst
    (λ (p : Port). PortChange two_start children_turns 12 (turn_of children_turns 12) 1 (Some (port_with (queued 2 1 8 ∷ []))) (Some p))
    killed_so (PortChange.is_told (port_with (queued 2 1 8 ∷ [])))

pub returns-clause-before_set : goal.returns-clause-before_set
unfolding step free_id moments_until
returns-clause-before_set c = refl

pub returns-clause-before_kill : goal.returns-clause-before_kill
unfolding step free_id moments_until
returns-clause-before_kill c = refl

pub returns-clause-after_kill : goal.returns-clause-after_kill
unfolding step free_id moments_until
returns-clause-after_kill c = refl

pub returns-clause-stood : goal.returns-clause-stood
unfolding step free_id moments_until
returns-clause-stood c = refl

pub returns-clause-ends : goal.returns-clause-ends
unfolding step free_id moments_until
returns-clause-ends c = Ends.with_process (EndsProcess.kills (pid 2) refl refl refl)
