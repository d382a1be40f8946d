use Rattle.std.proofs.Common.{◌≡◌, [], ◌∷◌, Some, refl, subst}
use Rattle.spec_records.specs.Words.{Port}
use Rattle.spec_kernel.specs.Words.{state_at, step}
use Rattle.spec_records.specs.Timers.{free_id}
use Rattle.spec_records.specs.Moments.{moments_until}
use Rattle.law_runs.specs.PortEvents.{PortChange, ticked}
use Rattle.law_examples.specs.PortLaws.{turn_of}
use Rattle.law_examples.specs.PortRuns.{pipe_start}
use Rattle.law_examples.specs.TimerLaws.{port_with, queued, queued_of_user}
use Rattle.law_examples.specs.TimerRuns.{counts_turns, timers_turns}
use Rattle.law_examples.proofs.timer_laws.ticked.Goals as goal

queued_so : ticked (state_at pipe_start timers_turns 5) (state_at pipe_start timers_turns 6) 1 (port_with []) ≡ (port_with (queued 1 3 7 ∷ []))
unfolding step free_id moments_until
queued_so = refl

pub returns-clause-queued : goal.returns-clause-queued
unfolding step free_id moments_until
returns-clause-queued c =
    subst (λ (p : Port). PortChange pipe_start timers_turns 5 (turn_of timers_turns 5) 1 (Some (port_with [])) (Some p)) queued_so
    (PortChange.advanced (port_with []) 6 refl refl)

grown_so : ticked (state_at pipe_start counts_turns 5) (state_at pipe_start counts_turns 6) 1 (port_with (queued 1 4 1 ∷ queued_of_user 2 9 ∷ [])) ≡ (port_with (queued 1 7 1 ∷ queued_of_user 2 9 ∷ []))
unfolding step free_id moments_until
grown_so = refl

pub returns-clause-grown : goal.returns-clause-grown
unfolding step free_id moments_until
returns-clause-grown c =
    subst (λ (p : Port). PortChange pipe_start counts_turns 5 (turn_of counts_turns 5) 1 (Some (port_with (queued 1 4 1 ∷ queued_of_user 2 9 ∷ []))) (Some p)) grown_so
    (PortChange.advanced (port_with (queued 1 4 1 ∷ queued_of_user 2 9 ∷ [])) 3 refl refl)

pub returns-clause-queued_before : goal.returns-clause-queued_before
unfolding step free_id moments_until
returns-clause-queued_before c = refl

pub returns-clause-queued_after : goal.returns-clause-queued_after
unfolding step free_id moments_until
returns-clause-queued_after c = refl

pub returns-clause-grown_before : goal.returns-clause-grown_before
unfolding step free_id moments_until
returns-clause-grown_before c = refl

pub returns-clause-grown_after : goal.returns-clause-grown_after
unfolding step free_id moments_until
returns-clause-grown_after c = refl

pub returns-clause-in_order : goal.returns-clause-in_order
unfolding step free_id moments_until
returns-clause-in_order c = refl
