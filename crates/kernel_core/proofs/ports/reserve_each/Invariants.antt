use Rattle.std.proofs.Common.{◌≡◌, All, length, take}
use Rattle.spec_kernel.specs.Words.{port_at}
use Rattle.kernel_store.specs.Words.{HasRoomForEvents, KeepsPools, stored_state}
use Rattle.kernel_core.proofs.ports.reserve_each.Given as goal

abbrev pub invariant-loop-fd : goal.invariant-loop-fd
invariant-loop-fd l =
    record {
      state : stored_state l.store ≡ stored_state l.fn.store;
      keeps : KeepsPools l.fn.store l.store;
      room : All (λ fd. HasRoomForEvents l.store (port_at (stored_state l.fn.store) l.p.0 fd) (length l.fds)) (take l.fd-index l.fds);
    }
