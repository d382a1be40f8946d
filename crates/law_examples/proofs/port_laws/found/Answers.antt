use Rattle.std.proofs.Common.{[], ◌∷◌, refl, lit≤}
use Rattle.spec_kernel.specs.Words.{step}
use Rattle.law_runs.specs.PortEvents.{Found, sent_event}
use Rattle.law_examples.proofs.port_laws.found.Goals as goal

pub returns-clause-alert : goal.returns-clause-alert
unfolding step
returns-clause-alert c =
    record { before = _; there = refl; after = _; there_after = refl; found = Found.alert (record { events = 1; user = 4 }) refl }

pub returns-clause-event : goal.returns-clause-event
unfolding step
returns-clause-event c =
    record { before = _; there = refl; after = _; there_after = refl; found = Found.first (sent_event 3 9 ∷ []) [] refl refl refl (lit≤ tt) }
