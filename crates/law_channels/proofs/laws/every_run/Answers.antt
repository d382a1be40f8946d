use Rattle.law_channels.proofs.Runs.{opening_fits, run_fits}
use Rattle.law_channels.proofs.laws.every_run.Goals as goal

pub returns : goal.returns
returns c = λ m xs o run. run_fits m xs (opening_fits m o) run
