use Rattle.std.proofs.Common.{arith}
use Rattle.line_text.proofs.FirstLine.{cut_at, last_line}
use Rattle.line_text.proofs.lines.next_line.Goals as goal

pub returns-in-Some-clause-line : goal.returns-in-Some-clause-line
returns-in-Some-clause-line c = grind (arith, cut_at)

pub returns-in-None-clause-line : goal.returns-in-None-clause-line
returns-in-None-clause-line c = grind (arith, last_line)
