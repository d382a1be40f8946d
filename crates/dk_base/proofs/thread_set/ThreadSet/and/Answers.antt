use Rattle.dk_base.proofs.ThreadBits.{has-and}
use Rattle.dk_base.proofs.thread_set.ThreadSet.and.Goals as goal

pub returns : goal.returns
returns c = has-and c.args.self c.args.other
