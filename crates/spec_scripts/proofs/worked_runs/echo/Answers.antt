use Rattle.spec_scripts.proofs.EchoRow.{echo_row}
use Rattle.spec_scripts.proofs.worked_runs.echo.Goals as goal

pub returns : goal.returns
returns c = echo_row
