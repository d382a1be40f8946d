use Rattle.std.proofs.Common.{◌≡◌, List, drop}
use Rattle.std.specs.Prelude.{All}
use Rattle.spec_records.specs.declared.timer.Timer.{Timer}
use Rattle.spec_records.specs.Words.{tell_dues}
use Rattle.kernel_ports.specs.Told.{AllFit, IsDueOf, KeepsRoomBesideIdle}
use Rattle.kernel_ports.proofs.due.tell_dues.Given as goal

abbrev pub invariant-loop-due : goal.invariant-loop-due
invariant-loop-due l =
    record {
      ports : tell_dues l.ports.ports (drop l.due-index l.dues) ≡ tell_dues l.fn.ports.ports l.dues;
      fits : AllFit l.ports.ports (drop l.due-index l.dues);
      rooms : (ts : List Timer) → All (IsDueOf ts) l.dues → KeepsRoomBesideIdle ts l.fn.ports l.ports;
    }
