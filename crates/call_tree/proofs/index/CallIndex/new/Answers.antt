use Rattle.std.proofs.Common.{refl}
use Rattle.call_tree.proofs.Collecting.{collecting_none}
use Rattle.call_tree.proofs.Empty.{whole_empty}
use Rattle.call_tree.proofs.index.CallIndex.new.Goals as goal

pub invariant_of-result : goal.invariant_of-result
invariant_of-result c = rw c.new-2.ensures (whole_empty _ _ _ c.new.ensures c.zeros.ensures c.zeros-2.ensures, collecting_none _ _ _ (λ k. refl) c.new-3.ensures)
