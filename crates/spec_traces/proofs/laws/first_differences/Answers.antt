use Rattle.spec_traces.proofs.Differences.{first_difference}
use Rattle.spec_traces.proofs.OneDifference.{difference_again}
use Rattle.spec_traces.proofs.laws.first_differences.Goals as goal

pub returns-clause-found : goal.returns-clause-found
returns-clause-found c = λ source script trace line want have s e. first_difference source script trace line want have s e

pub returns-clause-again : goal.returns-clause-again
returns-clause-again c = λ source script trace line want have s is. difference_again source script trace line want have s is
