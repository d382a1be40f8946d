use Rattle.law_channels.proofs.Runs.{opening_fits}
use Rattle.law_channels.proofs.laws.every_opening.Goals as goal

pub returns : goal.returns
returns c = λ m o. opening_fits m o
