use Rattle.sys_run.proofs.WholePlays.{whole-play}
use Rattle.sys_run.proofs.laws.whole_plays.Goals as goal

pub returns : goal.returns
returns c = whole-play
