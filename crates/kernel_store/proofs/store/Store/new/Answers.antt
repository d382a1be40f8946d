use Rattle.kernel_store.proofs.Knowing.{knows_none}
use Rattle.std.proofs.Common.{refl}
use Rattle.law_pools.proofs.Starting.{agrees_none}
use Rattle.kernel_store.proofs.Short.{none_short}
use Rattle.kernel_store.proofs.Waits.{waits_none}
use Rattle.kernel_store.proofs.store.Store.new.Goals as goal

pub invariant_of-result : goal.invariant_of-result
invariant_of-result c =
    rw c.new.ensures
    (rw c.in_ok-new.ensures
    (rw (c.new-3.ensures.calls, c.new-3.ensures.tables, c.new-3.ensures.names) (rw c.new-4.ensures (rw c.new-5.ensures (agrees_none, λ d none. refl, tt, knows_none _ _ _ refl, rw c.new-8.ensures none_short, waits_none _ _ _ _ _ _ refl)))))
