use Rattle.std.proofs.Common.{◌≡◌, length}
use Rattle.spec_records.specs.Words.{associations_of_row, end_row, withdraw_events}
use Rattle.event_port.specs.Words.{KeepsPlaces, KeepsRoom}
use Rattle.kernel_ports.proofs.ports.end_row.Given as goal

abbrev pub invariant-loop-a : goal.invariant-loop-a
invariant-loop-a l =
    record {
      list : end_row l.assocs.list l.process.0 l.fd ≡ end_row l.fn.assocs.list l.process.0 l.fd;
      ports : withdraw_events l.ports.ports (associations_of_row l.assocs.list.associations l.process.0 l.fd)
          ≡ withdraw_events l.fn.ports.ports (associations_of_row l.fn.assocs.list.associations l.process.0 l.fd);
      rooms : KeepsRoom l.fn.ports.rooms l.ports.rooms;
      places : KeepsPlaces l.fn.ports l.ports;
    }

abbrev pub decreases-loop-a : goal.decreases-loop-a
decreases-loop-a l = length l.assocs.list.associations
