use Rattle.law_channels.proofs.Told.{leaves_to_tell}
use Rattle.law_channels.proofs.changes.every_telling.Goals as goal

pub returns : goal.returns
returns c = leaves_to_tell
