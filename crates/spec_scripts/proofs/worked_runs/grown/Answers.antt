use Rattle.spec_scripts.proofs.GrownRow.{grown_row}
use Rattle.spec_scripts.proofs.worked_runs.grown.Goals as goal

pub returns : goal.returns
returns c = grown_row
