use Rattle.std.proofs.Common.{ap, arith, length}
use Rattle.dk_base.proofs.ThreadMembers.{first_taken}
use Rattle.kernel_store.proofs.sets.take_least.Goals as goal

pub returns-clause-fewer : goal.returns-clause-fewer
returns-clause-fewer c =
    let e = c.in_ok-least.ensures in
    let one = ap length (first_taken c.args.set.now c.put.new.self c.in_ok-least.least.0 e.first c.put.ensures e.within.0 e.within.1) in
    omega (arith, one)

pub returns-clause-here : goal.returns-clause-here
returns-clause-here c = c.in_ok-least.ensures.first.here
