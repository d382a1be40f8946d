use Rattle.line_text.proofs.DecimalWords.{number_spelled, number_spells}
use Rattle.line_text.proofs.laws.number_is_read_where_spelled.Goals as goal

pub returns : goal.returns
returns c = record { again = number_spelled; found = number_spells }
