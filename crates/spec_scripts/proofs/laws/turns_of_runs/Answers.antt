use Rattle.std.proofs.Common.{sym}
use Rattle.spec_scripts.proofs.Histories.{events-turns_of, length-turns_of, state_after-turns_of}
use Rattle.spec_scripts.proofs.laws.turns_of_runs.Goals as goal

pub returns-clause-state : goal.returns-clause-state
returns-clause-state c = λ script ts. sym (state_after-turns_of script ts)

pub returns-clause-events : goal.returns-clause-events
returns-clause-events c = events-turns_of

pub returns-clause-counted : goal.returns-clause-counted
returns-clause-counted c = length-turns_of
