use Rattle.law_lines.proofs.LawsProved.{spelled-read_back}
use Rattle.law_lines.proofs.laws.line_spelled_is_read.Goals as goal

pub returns : goal.returns
returns c = spelled-read_back
