use Rattle.spec_traces.proofs.Fronts.{front_found}
use Rattle.spec_traces.proofs.FrontsAgain.{front_again}
use Rattle.spec_traces.proofs.laws.fronts_of_runs.Goals as goal

pub returns-clause-found : goal.returns-clause-found
returns-clause-found c = λ source script trace turns written s is front. front_found source script trace turns written s is front

pub returns-clause-again : goal.returns-clause-again
returns-clause-again c = λ script written is. front_again script written is
