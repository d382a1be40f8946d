use Rattle.spec_scripts.proofs.NoticedRow.{noticed_row}
use Rattle.spec_scripts.proofs.worked_runs.noticed.Goals as goal

pub returns : goal.returns
returns c = noticed_row
