use Rattle.std.proofs.Common.{ap, map}
use Rattle.dk_base.specs.Numbers.{tid}
use Rattle.dk_base.proofs.ThreadMembers.{first_taken, none_left}
use Rattle.dk_base.proofs.thread_set.ThreadSet.take.Goals as goal

pub returns-in_err-least-clause-none : goal.returns-in_err-least-clause-none
returns-in_err-least-clause-none c = rw c.from_residual.ensures (none_left c.args.self.now c.in_err-least.ensures.none)

pub returns-clause-some : goal.returns-clause-some
returns-clause-some c =
    let e = c.in_ok-least.ensures in
    ap (map tid) (first_taken c.args.self.now c.put.new.self c.in_ok-least.least.0 e.first c.put.ensures e.within.0 e.within.1)
