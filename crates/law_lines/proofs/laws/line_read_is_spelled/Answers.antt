use Rattle.law_lines.proofs.LawsProved.{was_read-spelled}
use Rattle.law_lines.proofs.laws.line_read_is_spelled.Goals as goal

pub returns : goal.returns
returns c = was_read-spelled
