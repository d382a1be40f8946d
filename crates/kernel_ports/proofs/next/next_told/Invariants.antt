use Rattle.std.proofs.Common.{take}
use Rattle.kernel_ports.proofs.Leads.{Leads}
use Rattle.kernel_ports.proofs.next.next_told.Given as goal

abbrev pub invariant-loop-c : goal.invariant-loop-c
invariant-loop-c l = Leads l.assocs.list.associations (take l.c-index l.changed) l.next
