use Rattle.script_lang.proofs.TextDecided.{text_decided}
use Rattle.script_lang.proofs.laws.text_is_decided.Goals as goal

pub returns : goal.returns
returns c = text_decided
