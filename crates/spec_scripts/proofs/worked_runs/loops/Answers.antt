use Rattle.spec_scripts.proofs.LoopsRow.{loops_row}
use Rattle.spec_scripts.proofs.worked_runs.loops.Goals as goal

pub returns : goal.returns
returns c = loops_row
