use Rattle.sys_run.proofs.Looks.{ending-budget, ending-stalled, ending-complete}
use Rattle.sys_run.proofs.kernel_looks.ending_of.Goals as goal

pub returns-in-Some : goal.returns-in-Some
returns-in-Some c = λ m stands. ending-budget m _ (c.in-Some.ensures.stands m stands)

pub returns-in-None : goal.returns-in-None
returns-in-None c = λ m stands. ending-stalled _ m stands (c.in-None.ensures.stands m stands) c.if-is_any_waiting.ensures

pub returns-in-None-2 : goal.returns-in-None-2
returns-in-None-2 c = λ m stands. ending-complete _ m stands (c.in-None-2.ensures.stands m stands) c.if-is_any_waiting.ensures
