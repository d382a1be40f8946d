use Rattle.std.proofs.Common.{arith, ap, ◌∙◌}
use Rattle.call_tree.specs.Words.{calls_in}
use Rattle.call_tree.proofs.Keys.{key_call}
use Rattle.call_tree.proofs.Leaving.{ended_calls, interrupted_calls}
use Rattle.call_tree.proofs.leave.leave.Goals as goal

pub returns-in-Interrupted-clause-made : goal.returns-in-Interrupted-clause-made
returns-in-Interrupted-clause-made c =
    let w = key_call c.args.key c.args.index.now.entries c.requires in
    ap (λ v. v.made) (c.interrupt.ensures.after w.0 w.1)

pub returns-in-Interrupted-clause-calls : goal.returns-in-Interrupted-clause-calls
returns-in-Interrupted-clause-calls c =
    rw c.in-Interrupted.is (λ r l. ap (λ v. calls_in v.entries) (c.interrupt.ensures.after r l) ∙ interrupted_calls c.interrupt.ensures.single c.args.key r l)

pub returns-in-Interrupted-clause-spare : goal.returns-in-Interrupted-clause-spare
returns-in-Interrupted-clause-spare c =
    let w = key_call c.args.key c.args.index.now.entries c.requires in
    let e = ap (λ v. v.spare) (c.interrupt.ensures.after w.0 w.1) in
    omega (arith, e)

pub returns-in-Finished-clause-calls : goal.returns-in-Finished-clause-calls
returns-in-Finished-clause-calls c =
    rw c.in-Finished.is (λ r l. ap (λ v. calls_in v.entries) c.forget.ensures.after ∙ ended_calls c.forget.ensures.single c.args.key r l)
