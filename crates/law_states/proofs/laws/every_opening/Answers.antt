use Rattle.law_states.proofs.Openings.{opening_keeps}
use Rattle.law_states.proofs.laws.every_opening.Goals as goal

pub returns : goal.returns
returns c = λ m o. opening_keeps m o
