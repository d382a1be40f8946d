use Rattle.script_lang.proofs.TextOnly.{text_only}
use Rattle.script_lang.proofs.laws.spelled_is_read.Goals as goal

pub returns : goal.returns
returns c = text_only
