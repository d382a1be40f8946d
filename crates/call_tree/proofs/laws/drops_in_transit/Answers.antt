use Rattle.call_tree.proofs.Transit.{drops_in_transit}
use Rattle.call_tree.proofs.laws.drops_in_transit.Goals as goal

pub returns : goal.returns
returns c = drops_in_transit
