use Rattle.std.proofs.Common.{rules}
use Rattle.kernel_store.proofs.There.{there_fewer}
use Rattle.kernel_store.proofs.Waits.{others_kept}
use Rattle.std.specs.Option.{option_to_list}
use Rattle.spec_records.specs.Words.{object_named, table_in}
use Rattle.kernel_store.proofs.store.Store.close.Goals as goal

pub invariant_of-self : goal.invariant_of-self
invariant_of-self c = (search rules, there_fewer c.self.inside.doors.items c.self.inside.held c.close.new.self c.self.invariant.1 c.close.ensures.references, search rules, search rules, c.self.invariant.4, c.note_references.ensures c.self.inside.held (others_kept c.self.inside.held c.close.new.self (option_to_list (object_named (table_in c.self.inside.held.tables c.args.p.0) c.args.fd)) c.names_port-of_port.result c.names_port-of_port.ensures c.close.ensures.others) c.self.invariant.5)
