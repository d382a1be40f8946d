use Rattle.spec_scripts.proofs.RefusedRow.{refused_row}
use Rattle.spec_scripts.proofs.worked_runs.refused.Goals as goal

pub returns : goal.returns
returns c = refused_row
