use Rattle.std.proofs.Common.{◌≡◌, drop}
use Rattle.event_port.specs.Words.{KeepsPlaces, KeepsRoom}
use Rattle.kernel_ports.specs.Ended.{withdraw_each}
use Rattle.kernel_ports.proofs.ports.withdraw_each.Given as goal

abbrev pub invariant-loop-i : goal.invariant-loop-i
invariant-loop-i l =
    record {
      ports : withdraw_each l.ports.ports (drop l.i l.at) (drop l.i l.ids) ≡ withdraw_each l.fn.ports.ports l.at l.ids;
      rooms : KeepsRoom l.fn.ports.rooms l.ports.rooms;
      places : KeepsPlaces l.fn.ports l.ports;
    }
