use Rattle.std.proofs.Common.{arith}
use Rattle.dk_base.proofs.ThreadBits.{has-without}
use Rattle.dk_base.proofs.thread_set.ThreadSet.without.Goals as goal

pub returns : goal.returns
returns c = λ t. has-without c.args.self c.args.other t (omega arith) (omega arith)
