use Rattle.std.proofs.Common.{◌≡◌, ◌+◌, ◌-◌, ◌≤◌, ◌++◌, All, drop, length, map}
use Rattle.spec_kernel.specs.Words.{after_sending_each, errors_of_sending, object_at, port_at, with_ports}
use Rattle.kernel_store.specs.Words.{HasRoomForEvents, KeepsPools, stored_state}
use Rattle.kernel_core.proofs.ports.send_each.Given as goal

abbrev pub invariant-loop-fd : goal.invariant-loop-fd
invariant-loop-fd l =
    let m = stored_state l.fn.store in
    let ports = (stored_state l.store).channels.ports in
    let named = object_at m l.p.0 in
    record {
      state : stored_state l.store ≡ with_ports m ports;
      sent :
          after_sending_each ports (map named (drop l.fd-index l.fds)) l.events l.user
          ≡ after_sending_each m.channels.ports (map named l.fds) l.events l.user;
      told :
          l.errors.items ++ errors_of_sending ports (map named (drop l.fd-index l.fds)) l.events l.user
          ≡ errors_of_sending m.channels.ports (map named l.fds) l.events l.user;
      room : All (λ fd. HasRoomForEvents l.store (port_at m l.p.0 fd) (length l.fds - l.fd-index)) l.fds;
      spare : length l.fds ≤ l.errors.spare + l.fd-index;
      keeps : KeepsPools l.fn.store l.store;
    }
