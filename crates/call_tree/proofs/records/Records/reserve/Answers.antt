use Rattle.std.proofs.Common.{subst, sym}
use Rattle.slab.specs.Slab.{get}
use Rattle.call_tree.specs.Kept.{AreKept}
use Rattle.call_tree.proofs.records.Records.reserve.Goals as goal

pub invariant_of-self : goal.invariant_of-self
invariant_of-self c = subst (λ s. AreKept (get s) c.self.inside.order.items) (sym c.reserve.ensures.rest_kept) c.self.invariant

pub invariant_of-self-2 : goal.invariant_of-self-2
invariant_of-self-2 c = rw (c.reserve-2.ensures.items) (subst (λ s. AreKept (get s) c.self.inside.order.items) (sym c.reserve.ensures.rest_kept) c.self.invariant)
