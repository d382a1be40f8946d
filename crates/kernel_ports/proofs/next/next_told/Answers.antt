use Rattle.kernel_ports.proofs.Leads.{leads_next, leads_none}
use Rattle.kernel_ports.proofs.next.next_told.Goals as goal

pub loop-c-init : goal.loop-c-init
loop-c-init c = leads_none c.args.assocs.now.list.associations

pub loop-c-preserved : goal.loop-c-preserved
loop-c-preserved c =
    leads_next c.args.assocs.now.list.associations _ c.made.ensures.numbers c.args.changed.now c.loop-c.c-index _ c.loop-c.next _ _ c.loop-c-test.true c.loop-c.invariant c.first_told-number.ensures c.earlier-next.ensures
