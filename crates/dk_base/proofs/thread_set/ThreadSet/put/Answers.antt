use Rattle.std.proofs.Common.{arith}
use Rattle.dk_base.proofs.ThreadBits.{has-clear, has-set}
use Rattle.dk_base.proofs.thread_set.ThreadSet.put.Goals as goal

pub returns-then-here : goal.returns-then-here
returns-then-here c = λ u. rw c.if-here.true (has-set c.args.self.now c.args.t.0 u c.requires.0 c.requires.1)

pub returns-else-here : goal.returns-else-here
returns-else-here c = λ u. rw c.if-here.false (has-clear c.args.self.now c.args.t.0 u (omega arith) c.requires.0 c.requires.1)
