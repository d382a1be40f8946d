use Rattle.history_check.proofs.CutTexts.{cut_after_feed}
use Rattle.history_check.proofs.laws.cut_texts.Goals as goal

pub returns : goal.returns
returns c = cut_after_feed
