use Rattle.spec_traces.proofs.TraceParts.{found-parts, no-parts, parts-again}
use Rattle.spec_traces.proofs.laws.parts.Goals as goal

pub returns-clause-found : goal.returns-clause-found
returns-clause-found c = found-parts

pub returns-clause-none : goal.returns-clause-none
returns-clause-none c = no-parts

pub returns-clause-again : goal.returns-clause-again
returns-clause-again c = parts-again
