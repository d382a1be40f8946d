use Rattle.std.proofs.Common.{◌∙◌, ap}
use Rattle.spec_traces.specs.declared.verdict.Verdict.TheVariants.{Legal}
use Rattle.spec_traces.proofs.Legal.{legal_again, legal_found, one_run}
use Rattle.spec_traces.proofs.laws.legal_traces.Goals as goal

pub returns-clause-found : goal.returns-clause-found
returns-clause-found c = λ source script trace events s e. legal_found source script trace events s e

pub returns-clause-again : goal.returns-clause-again
returns-clause-again c = λ source script trace events s is. legal_again source script trace is.turns s is.is_trace ∙ ap Legal is.count

pub returns-clause-one : goal.returns-clause-one
returns-clause-one c = λ source script trace turns others s first second. one_run source script trace turns others s first second
