use Rattle.law_channels.proofs.Acts.{step_fits}
use Rattle.law_channels.proofs.laws.every_event.Goals as goal

pub returns : goal.returns
returns c = λ m t q h may. step_fits m t q h may
