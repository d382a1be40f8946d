use Rattle.spec_requests.proofs.WrittenOut.{tree-copies, nested-tree}
use Rattle.spec_requests.proofs.laws.trees.Goals as goal

pub returns-clause-copies : goal.returns-clause-copies
returns-clause-copies c = tree-copies

pub returns-clause-exist : goal.returns-clause-exist
returns-clause-exist c = nested-tree
