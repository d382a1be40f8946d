use Rattle.script_lang.proofs.CanonicalSpelled.{canonical_spelled}
use Rattle.script_lang.proofs.laws.canonical_is_spelled.Goals as goal

pub returns : goal.returns
returns c = canonical_spelled
