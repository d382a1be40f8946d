use Rattle.law_lines.proofs.LineWritten.{line-written, line-words}
use Rattle.law_lines.proofs.laws.line_written_is_spelled.Goals as goal

pub returns : goal.returns
returns c = record { spelled = line-written; words = line-words }
