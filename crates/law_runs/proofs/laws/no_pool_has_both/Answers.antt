use Rattle.spec_kernel.proofs.Numbers.{no_pool_has_both-state_after}
use Rattle.law_runs.proofs.EveryRun.{none_idle_after}
use Rattle.law_runs.proofs.laws.no_pool_has_both.Goals as goal

pub returns-clause-items : goal.returns-clause-items
returns-clause-items c = none_idle_after

pub returns-clause-calls : goal.returns-clause-calls
returns-clause-calls c = λ m xs opens. no_pool_has_both-state_after xs opens
