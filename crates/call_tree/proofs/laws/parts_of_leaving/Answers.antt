use Rattle.call_tree.proofs.LeavingParts.{parts_of_leaving}
use Rattle.call_tree.proofs.laws.parts_of_leaving.Goals as goal

pub returns : goal.returns
returns c = parts_of_leaving
