use Rattle.history_text.proofs.TextFound.{text_written}
use Rattle.history_text.proofs.laws.read_is_written.Goals as goal

pub returns : goal.returns
returns c = text_written
