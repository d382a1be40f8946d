use Rattle.std.proofs.Common.{ℕ, ap, ◌∙◌}
use Rattle.std.specs.Prelude.{nat_lt}
use Rattle.sys_run.specs.Sys.{state_of_run, with_journal}
use Rattle.sys_run.proofs.Journals.{events-counted}
use Rattle.sys_run.proofs.Looks.{next_turn-least, next_turn-used}
use Rattle.sys_run.proofs.kernel_looks.next_thread.Goals as goal

pub returns-then-has_budget : goal.returns-then-has_budget
returns-then-has_budget c = λ es stands.
    let p = with_journal c.args.script.now es
    in next_turn-least p _ (c.if-has_budget.ensures ∙ ap (λ (n : ℕ). nat_lt n p.script.budget) (events-counted p _ stands))
    (c.least_runnable.ensures.stands (state_of_run p) stands)

pub returns-else-has_budget : goal.returns-else-has_budget
returns-else-has_budget c = λ es stands.
    let p = with_journal c.args.script.now es
    in next_turn-used p (c.if-has_budget.ensures ∙ ap (λ (n : ℕ). nat_lt n p.script.budget) (events-counted p _ stands))
