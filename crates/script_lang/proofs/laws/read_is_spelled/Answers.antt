use Rattle.script_lang.proofs.TextFound.{text_found}
use Rattle.script_lang.proofs.laws.read_is_spelled.Goals as goal

pub returns : goal.returns
returns c = text_found
