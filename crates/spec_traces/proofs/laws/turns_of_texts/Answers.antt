use Rattle.spec_traces.proofs.Legal.{turns_of_run, turns_of_trace, words_of_trace}
use Rattle.spec_traces.proofs.laws.turns_of_texts.Goals as goal

pub returns-clause-runs : goal.returns-clause-runs
returns-clause-runs c = λ source script turns s allowed. turns_of_run source script turns s allowed

pub returns-clause-traces : goal.returns-clause-traces
returns-clause-traces c = λ source script trace turns s is. turns_of_trace source script turns is.tail trace s is.allowed is.written

pub returns-clause-words : goal.returns-clause-words
returns-clause-words c = λ source script trace turns s is. words_of_trace source script turns is.tail trace s is.allowed is.written
