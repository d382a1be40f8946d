use Rattle.sys_run.proofs.WholePlays.{refused-play}
use Rattle.sys_run.proofs.laws.refused_plays.Goals as goal

pub returns : goal.returns
returns c = refused-play
