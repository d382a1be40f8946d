use Rattle.law_channels.proofs.Changed.{changes}
use Rattle.law_channels.proofs.changes.every_act.Goals as goal

pub returns : goal.returns
returns c = changes
