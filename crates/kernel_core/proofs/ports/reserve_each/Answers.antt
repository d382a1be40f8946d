use Rattle.std.proofs.Common.{All, ap, arith, get_or, length, subst, sym, take, ◌∙◌}
use Rattle.std.proofs.lemmas.List.{take_all}
use Rattle.std.proofs.lemmas.List.Elements.{All-more, All-weaker}
use Rattle.spec_kernel.specs.Types.{Fd}
use Rattle.spec_kernel.specs.Words.{State, port_at}
use Rattle.kernel_store.specs.Words.{HasRoomForEvents, stored_state}
use Rattle.kernel_core.proofs.Sending.{keeps_then}
use Rattle.kernel_core.proofs.ports.reserve_each.Goals as goal

pub loop-fd-preserved : goal.loop-fd-preserved
loop-fd-preserved c =
    let m = stored_state c.args.store.now in
    let i = c.loop-fd.fd-index in
    let fds = c.args.fds.now in
    let new = c.reserve_events.new.self in
    let e = c.reserve_events.ensures in
    let fd = get_or fds i (record { 0 = 0 }) in
    let room = c.in_ok-reserve_events.ensures.room in
    let same = c.port_at-port.ensures ∙ ap (λ (k : State). port_at k c.args.p.0 fd) c.loop-fd.invariant.state in
    record {
      state = e.state ∙ c.loop-fd.invariant.state;
      keeps = keeps_then c.args.store.now c.loop-fd.store new c.loop-fd.invariant.keeps e.keeps;
      room =
          All-more (λ (x : Fd). HasRoomForEvents new (port_at m c.args.p.0 x) (length fds)) fds i (record { 0 = 0 }) (omega arith)
          (All-weaker (λ (x : Fd). HasRoomForEvents c.loop-fd.store (port_at m c.args.p.0 x) (length fds)) (λ (x : Fd). HasRoomForEvents new (port_at m c.args.p.0 x) (length fds))
          (λ x h. e.rooms (port_at m c.args.p.0 x) (length fds) h) (take i fds) c.loop-fd.invariant.room)
          (subst (λ q. HasRoomForEvents new q (length fds)) same room);
    }

pub returns-clause-room : goal.returns-clause-room
returns-clause-room c =
    let m = stored_state c.args.store.now in
    let i = c.loop-fd.fd-index in
    let fds = c.args.fds.now in
    subst (λ (k : State). All (λ (x : Fd). HasRoomForEvents c.loop-fd.store (port_at k c.args.p.0 x) (length fds)) fds) (sym c.loop-fd.invariant.state)
    (subst (All (λ (x : Fd). HasRoomForEvents c.loop-fd.store (port_at m c.args.p.0 x) (length fds))) (take_all i fds (omega arith)) c.loop-fd.invariant.room)
