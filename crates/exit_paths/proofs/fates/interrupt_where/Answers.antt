use Rattle.std.proofs.Common.{sym, ap, ◌∙◌}
use Rattle.spec_records.specs.Words.{change_thread, interrupted_where}
use Rattle.exit_paths.proofs.Fated.{change_nothing}
use Rattle.exit_paths.proofs.fates.interrupt_where.Goals as goal

pub returns-else-interrupted : goal.returns-else-interrupted
returns-else-interrupted c =
    sym (change_nothing c.args.processes.now c.args.t.0)
    ∙ ap (λ b. change_thread c.args.processes.now c.args.t.0 (interrupted_where b)) (sym c.if-interrupted.false)
