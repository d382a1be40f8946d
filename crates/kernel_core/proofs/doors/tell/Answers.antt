use Rattle.std.proofs.Common.{ap, sym, ◌∙◌}
use Rattle.kernel_store.specs.Words.{results_in, stored_state}
use Rattle.spec_kernel.specs.Words.{tables_after_collect}
use Rattle.kernel_core.proofs.Collected.{nothing_collected}
use Rattle.kernel_core.proofs.doors.tell.Goals as goal

pub returns-in-Ended-clause-state : goal.returns-in-Ended-clause-state
returns-in-Ended-clause-state c =
    let m = stored_state c.args.store.now in
    sym
    (ap (λ tables. record m { tables = tables })
    (ap (λ o. tables_after_collect m c.args.p.0 (results_in o)) c.in-Ended.is ∙ nothing_collected m c.args.p.0))
