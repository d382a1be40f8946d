use Rattle.dk_base.proofs.ThreadBits.{has-or}
use Rattle.dk_base.proofs.thread_set.ThreadSet.or.Goals as goal

pub returns : goal.returns
returns c = has-or c.args.self c.args.other
