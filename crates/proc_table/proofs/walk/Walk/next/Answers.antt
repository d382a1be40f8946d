use Rattle.std.proofs.Common.{refl}
use Rattle.proc_table.proofs.Walking.{ended, steps}
use Rattle.proc_table.proofs.walk.Walk.next.Goals as goal

pub returns-clause-next : goal.returns-clause-next
returns-clause-next c = λ set w. steps set c.args.self.now _ c.in_ok-t.t.0 w c.in_ok-t.ensures.first c.put.ensures refl

pub returns-in_err-t-clause-end : goal.returns-in_err-t-clause-end
returns-in_err-t-clause-end c = λ set w. rw c.from_residual.ensures (ended set c.args.self.now w c.in_err-t.ensures.none)
