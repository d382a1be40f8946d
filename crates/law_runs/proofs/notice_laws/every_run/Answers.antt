use Rattle.law_runs.proofs.Notices.{every_run_has}
use Rattle.law_runs.proofs.notice_laws.every_run.Goals as goal

pub returns : goal.returns
returns c = every_run_has
