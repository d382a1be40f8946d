use Rattle.spec_records.specs.Words.{association_number, is_of_other_process}
use Rattle.spec_records.proofs.NumberedLists.{ascending-filter}
use Rattle.port_assoc.proofs.Counted.{process_counted}
use Rattle.port_assoc.proofs.assocs.Assocs.end_process.Goals as goal

pub invariant_of-self : goal.invariant_of-self
invariant_of-self c =
    rw c.end_process.ensures.items (
      c.end_watches.ensures.watched,
      ascending-filter association_number (is_of_other_process c.args.process.0) c.self.inside.table.items 0 c.self.inside.made c.self.invariant.1,
      process_counted c.args.process.0 c.self.inside.table.items c.self.inside.rows.counts c.end_process-2.new.self.counts c.self.invariant.2 c.end_process-2.ensures.counts,
    )
