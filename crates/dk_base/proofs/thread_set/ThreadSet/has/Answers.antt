use Rattle.std.proofs.Common.{sym, ap, arith}
use Rattle.dk_base.specs.ThreadSets.{has}
use Rattle.dk_base.proofs.ThreadBits.{has-above, has-tested}
use Rattle.dk_base.proofs.thread_set.ThreadSet.has.Goals as goal
use Rattle.dk_base.proofs.thread_set.ThreadSet.has.Goals.{then-t-eq0-via-then-t-eq0, then-t-eq0-via-else-t-eq0+then-t-gt-THREADS_MAX}

pub returns-then-t-eq0 : goal.returns-then-t-eq0
returns-then-t-eq0 c = elim c.then-t-eq0.branch [
  | then-t-eq0-via-then-t-eq0 w ↦ sym (ap (has c.args.self) w.if-t-eq0.true)
  | then-t-eq0-via-else-t-eq0+then-t-gt-THREADS_MAX w ↦ sym (has-above c.args.self c.args.t.0 (omega arith) w.if-t-gt-THREADS_MAX.true)
]

pub returns : goal.returns
returns c = has-tested c.args.self c.args.t.0 (omega arith)
