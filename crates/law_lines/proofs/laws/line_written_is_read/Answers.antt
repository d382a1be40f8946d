use Rattle.law_lines.proofs.LawsProved.{was_read-again}
use Rattle.law_lines.proofs.laws.line_written_is_read.Goals as goal

pub returns : goal.returns
returns c = was_read-again
