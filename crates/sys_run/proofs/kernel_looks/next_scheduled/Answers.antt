use Rattle.std.proofs.Common.{ℕ, ap, ap₂, ◌∙◌}
use Rattle.std.specs.Prelude.{nat_lt, slice_get}
use Rattle.sys_run.specs.Sys.{with_journal}
use Rattle.sys_run.proofs.Journals.{events-counted}
use Rattle.sys_run.proofs.Looks.{scheduled-left, scheduled-used}
use Rattle.sys_run.proofs.kernel_looks.next_scheduled.Goals as goal

pub returns-then-has_budget : goal.returns-then-has_budget
returns-then-has_budget c = λ es stands.
    let p = with_journal c.args.script.now es
    in let count = events-counted p _ stands
    in scheduled-left p _ (c.if-has_budget.ensures ∙ ap (λ (n : ℕ). nat_lt n p.script.budget) count)
    (c.thread_at.ensures ∙ ap₂ slice_get (c.slice.ensures ∙ c.schedule.ensures) (c.events.ensures.count ∙ count))

pub returns-else-has_budget : goal.returns-else-has_budget
returns-else-has_budget c = λ es stands.
    let p = with_journal c.args.script.now es
    in scheduled-used p (c.if-has_budget.ensures ∙ ap (λ (n : ℕ). nat_lt n p.script.budget) (events-counted p _ stands))
