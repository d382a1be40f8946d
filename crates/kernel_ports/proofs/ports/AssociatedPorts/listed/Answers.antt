use Rattle.std.proofs.Common.{arith}
use Rattle.spec_records.specs.Words.{association_number, timer_number}
use Rattle.kernel_ports.proofs.Few.{few_made}
use Rattle.kernel_ports.proofs.ports.AssociatedPorts.listed.Goals as goal

pub returns-clause-few : goal.returns-clause-few
returns-clause-few c =
    let assocs = c.self.inside.assocs.list in
    let timers = c.self.inside.timers.list in
    let a = few_made association_number assocs.associations assocs.made c.made-associations.ensures.numbers in
    let t = few_made timer_number timers.timers timers.made c.made-timers.ensures.numbers in
    omega
    (arith, a, t, c.len.ensures.len, c.len-2.ensures.len, c.made-associations.ensures.made, c.made-timers.ensures.made, c.made-associations.type_inv, c.made-timers.type_inv)
