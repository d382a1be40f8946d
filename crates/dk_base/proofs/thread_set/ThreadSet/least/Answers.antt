use Rattle.std.proofs.Common.{arith}
use Rattle.dk_base.proofs.ThreadBits.{first_is, first_within}
use Rattle.dk_base.proofs.thread_set.ThreadSet.least.Goals as goal

pub returns-clause-first : goal.returns-clause-first
returns-clause-first c = first_is c.args.self (omega arith) c.if-self-eq0.false

pub returns-clause-within : goal.returns-clause-within
returns-clause-within c = first_within c.args.self _ (omega arith) (first_is c.args.self (omega arith) c.if-self-eq0.false).here
