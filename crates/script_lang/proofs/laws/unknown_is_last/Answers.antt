use Rattle.script_lang.proofs.UnknownLast.{unknown_last}
use Rattle.script_lang.proofs.laws.unknown_is_last.Goals as goal

pub returns : goal.returns
returns c = unknown_last
