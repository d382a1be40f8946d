use Rattle.std.specs.Prelude.{◌≡◌, All}
use Rattle.std.proofs.lemmas.Result.{IfOk-weaker}
use Rattle.spec_kernel.specs.Words.{waiting_threads}
use Rattle.spec_requests.specs.Words.{IsDeclaredThread}
use Rattle.sys_run.proofs.Looks.{waiting-known}
use Rattle.sys_run.proofs.sys.Sys.waiting.Goals as goal

pub returns-clause-declared : goal.returns-clause-declared
returns-clause-declared c =
    rw (← c.self.view_is)
    (IfOk-weaker
    c.all_waiting.result
    (λ waiting. waiting ≡ waiting_threads c.self.inside.kernel)
    (All (IsDeclaredThread c.self.inside.script))
    (λ waiting e. waiting-known _ _ waiting c.self.invariant.journal_is_run c.self.invariant.kernel_stands e)
    c.all_waiting.ensures)
