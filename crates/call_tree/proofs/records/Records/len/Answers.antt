use Rattle.std.proofs.Common.{arith}
use Rattle.slab.specs.Slab.{get}
use Rattle.call_tree.proofs.Finding.{kept_length}
use Rattle.call_tree.proofs.records.Records.len.Goals as goal

pub returns : goal.returns
returns c =
    let n = kept_length (get c.self.inside.slab) c.self.inside.order.items c.self.invariant in
    rw (← c.self.view_is, c.len.ensures) (omega (arith, n, c.self.inside.order.ok))
