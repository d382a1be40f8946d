use Rattle.kernel_ports.specs.Words.{HasRoomForArmed}
use Rattle.test_ports.proofs.telling.are_associated.Given as goal

abbrev pub invariant-loop-row : goal.invariant-loop-row
invariant-loop-row l = HasRoomForArmed l.assocs.list.associations l.ports.rooms
