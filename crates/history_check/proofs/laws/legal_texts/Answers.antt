use Rattle.history_check.proofs.LegalLines.{is_found, is_legal}
use Rattle.history_check.proofs.laws.legal_texts.Goals as goal

pub returns : goal.returns
returns c = record { found = is_legal c.read_is_written.ensures; again = is_found }
