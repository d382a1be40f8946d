use Rattle.law_lines.proofs.PrintableLine.{line_printable}
use Rattle.law_lines.proofs.laws.line_spelled_is_printable.Goals as goal

pub returns : goal.returns
returns c = line_printable
