use Rattle.history_check.proofs.LinesBefore.{legal_before}
use Rattle.history_check.proofs.laws.lines_before.Goals as goal

pub returns : goal.returns
returns c = legal_before
