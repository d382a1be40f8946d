use Rattle.spec_traces.proofs.Legal.{legal_again, played_trace}
use Rattle.spec_traces.proofs.laws.played_traces.Goals as goal

pub returns-clause-trace : goal.returns-clause-trace
returns-clause-trace c = λ script none. played_trace script none

pub returns-clause-legal : goal.returns-clause-legal
returns-clause-legal c = λ source script none_s none. legal_again source script _ _ none_s (played_trace script none)
