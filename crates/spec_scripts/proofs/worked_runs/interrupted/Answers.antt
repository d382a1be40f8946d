use Rattle.spec_scripts.proofs.InterruptedRow.{interrupted_row}
use Rattle.spec_scripts.proofs.worked_runs.interrupted.Goals as goal

pub returns : goal.returns
returns c = interrupted_row
