use Rattle.std.proofs.Common.{◌≡◌, drop}
use Rattle.spec_records.specs.Words.{retrieve_associations}
use Rattle.port_assoc.specs.Words.{KeepsRoom}
use Rattle.kernel_ports.proofs.ports.retrieve.Given as goal

abbrev pub invariant-loop-id : goal.invariant-loop-id
invariant-loop-id l =
    record {
      list : retrieve_associations l.assocs.list (drop l.id-index l.ids) ≡ retrieve_associations l.fn.assocs.list l.ids;
      room : KeepsRoom l.fn.assocs l.assocs;
    }
