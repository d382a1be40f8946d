use Rattle.law_states.proofs.Events.{step_keeps}
use Rattle.law_states.proofs.laws.every_event.Goals as goal

-- src/laws.rt:11:1
pub returns : goal.returns
returns c = λ m t q h may. step_keeps m t q h may
