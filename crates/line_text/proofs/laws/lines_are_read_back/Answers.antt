use Rattle.line_text.proofs.TextLines.{lines_of-text_of_lines}
use Rattle.line_text.proofs.laws.lines_are_read_back.Goals as goal

pub returns : goal.returns
returns c = lines_of-text_of_lines
