use Rattle.std.proofs.Common.{◌≡◌, Some, refl, subst}
use Rattle.spec_records.specs.Words.{Port}
use Rattle.spec_kernel.specs.Words.{state_at, step}
use Rattle.law_runs.specs.PortEvents.{PortChange, told_port}
use Rattle.law_examples.specs.AssociationRuns.{associations_start, reading_turns, with_event_of}
use Rattle.law_examples.specs.PortLaws.{turn_of}
use Rattle.law_examples.proofs.association_runs.told.Goals as goal

told_so :
    told_port (state_at associations_start reading_turns 7) (state_at associations_start reading_turns 8) 1 (with_event_of 2 6)
    ≡ with_event_of 3 7
unfolding step
told_so = refl

pub returns-clause-change : goal.returns-clause-change
returns-clause-change c =
    subst
    (λ (p : Port). PortChange associations_start reading_turns 7 (turn_of reading_turns 7) 1 (Some (with_event_of 2 6)) (Some p))
    told_so (PortChange.is_told (with_event_of 2 6))

pub returns-clause-before : goal.returns-clause-before
unfolding step
returns-clause-before c = refl

pub returns-clause-in_place : goal.returns-clause-in_place
unfolding step
returns-clause-in_place c = refl

pub returns-clause-before_close : goal.returns-clause-before_close
unfolding step
returns-clause-before_close c = refl

pub returns-clause-closed : goal.returns-clause-closed
unfolding step
returns-clause-closed c = refl

pub returns-clause-before_hup : goal.returns-clause-before_hup
unfolding step
returns-clause-before_hup c = refl

pub returns-clause-hup : goal.returns-clause-hup
unfolding step
returns-clause-hup c = refl
