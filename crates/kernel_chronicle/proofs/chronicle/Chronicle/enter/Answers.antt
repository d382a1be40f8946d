use Rattle.std.proofs.Common.{ℕ, IfErr, sym, subst}
use Rattle.kernel_chronicle.specs.Written.{IsCauseOfEnter, IsReasonOfEnter, Written}
use Rattle.kernel_chronicle.proofs.Reasons.{reason_of_enter}
use Rattle.kernel_chronicle.proofs.chronicle.Chronicle.enter.Goals as goal

pub returns-clause-why : goal.returns-clause-why
returns-clause-why c =
    let q = c.args.asked.now in
    subst (λ (n : ℕ). IsReasonOfEnter c.args.self.now q c.args.data.now c.args.items.now n) (sym c.number_of_turn.ensures)
    (reason_of_enter c.args.self.now q c.args.data.now c.args.items.now c.enter-turn.result
    (subst (λ (w : Written). IfErr c.enter-turn.result (λ why. IsCauseOfEnter w q c.args.data.now c.args.items.now why)) c.self.view_is c.enter-turn.ensures.why))
