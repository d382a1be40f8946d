use Rattle.std.proofs.Common.{◌≡◌, ◌-◌, length}
use Rattle.spec_requests.specs.Words.{next_steps}
use Rattle.thread_machine.specs.LastAnswers.{is_met_in}
use Rattle.thread_machine.specs.Places.{StandsAt, steps_from}
use Rattle.thread_machine.proofs.place.Place.settle.Given as goal

abbrev pub invariant-loop-known : goal.invariant-loop-known
invariant-loop-known l =
    StandsAt l.body l.self
    × (next_steps (is_met_in l.known) 0 (steps_from l.body l.initial.self) ≡ next_steps (is_met_in l.known) 0 (steps_from l.body l.self))

abbrev pub decreases-loop-known : goal.decreases-loop-known
decreases-loop-known l = length l.body - l.self.position
