use Rattle.std.proofs.Common.{◌≡◌, drop}
use Rattle.event_port.specs.Words.{KeepsPlaces, KeepsRoom}
use Rattle.kernel_ports.specs.Ended.{withdraw_tags}
use Rattle.kernel_ports.proofs.due.withdraw_tags.Given as goal

abbrev pub invariant-loop-tag : goal.invariant-loop-tag
invariant-loop-tag l =
    record {
      ports : withdraw_tags l.ports.ports (drop l.tag-index l.tags) ≡ withdraw_tags l.fn.ports.ports l.tags;
      rooms : KeepsRoom l.fn.ports.rooms l.ports.rooms;
      places : KeepsPlaces l.fn.ports l.ports;
    }
