use Rattle.std.proofs.Common.{◌≡◌, ◌+◌, ◌-◌, ◌++◌, ◌∷◌, [], List, Option, ap, ap₂, append-nil, arith, drop, get_or, length, map, refl, subst, sym, ◌∙◌}
use Rattle.std.proofs.lemmas.List.{drop_all}
use Rattle.std.proofs.lemmas.List.Elements.{All-weaker}
use Rattle.dk_base.specs.declared.answer.Answer.TheVariants as answer
use Rattle.spec_records.specs.Words.{Port}
use Rattle.spec_kernel.specs.Types.{Errno, Fd}
use Rattle.spec_kernel.specs.Words.{State, after_sending, after_sending_each, errors_of_sending, object_at, port_at, sending_error, with_ports}
use Rattle.kernel_store.specs.Words.{HasRoomForEvents, stored_state}
use Rattle.kernel_core.proofs.Sending.{keeps_then, one_more_error, one_more_sent, room_for_fewer, room_for_rest}
use Rattle.kernel_core.proofs.ports.send_each.Goals as goal

pub loop-fd-preserved : goal.loop-fd-preserved
loop-fd-preserved c =
    let m = stored_state c.args.store.now in
    let p = c.args.p.0 in
    let i = c.loop-fd.fd-index in
    let fds = c.args.fds.now in
    let old = c.loop-fd.store in
    let new = c.send_one.new.store in
    let events = c.args.events in
    let user = c.args.user in
    let named = object_at m p in
    let fd = get_or fds i (record { 0 = 0 }) in
    let h = c.loop-fd.invariant in
    let e = c.send_one.ensures in
    let rest = map named (drop (i + 1) fds) in
    let sent_to = after_sending old.ports.ports (named fd) events user in
    let is : stored_state new ≡ with_ports m sent_to = e.state ∙ ap (λ (k : State). with_ports k (after_sending old.ports.ports (object_at k p fd) events user)) h.state in
    let ports : new.ports.ports ≡ sent_to = ap (λ (k : State). k.channels.ports) is in
    let error : c.send_one.result ≡ sending_error old.ports.ports (named fd) = e.error ∙ ap (λ (k : State). sending_error old.ports.ports (object_at k p fd)) h.state in
    record {
      state = is ∙ ap (with_ports m) (sym ports);
      sent =
          ap (λ (ps : List Port). after_sending_each ps rest events user) ports
          ∙ sym (one_more_sent named fds i (record { 0 = 0 }) fd (omega arith) refl old.ports.ports events user)
          ∙ h.sent;
      told =
          ap₂ (λ (xs : List (Option Errno)) (ps : List Port). xs ++ errors_of_sending ps rest events user)
          (c.push.ensures.items ∙ ap (λ x. c.loop-fd.errors.items ++ x ∷ []) error) ports
          ∙ sym (one_more_error named fds i (record { 0 = 0 }) fd (omega arith) refl old.ports.ports events user c.loop-fd.errors.items)
          ∙ h.told;
      room =
          All-weaker (λ (x : Fd). HasRoomForEvents old (port_at m p x) (length fds - i)) (λ (x : Fd). HasRoomForEvents new (port_at m p x) (length fds - (i + 1)))
          (λ x k. room_for_rest old new (port_at m p x) (length fds) i (omega arith) e.rooms k) fds h.room;
      spare = omega (arith, h.spare, c.push.ensures.spare);
      keeps = keeps_then c.args.store.now old new h.keeps e.keeps;
    }

pub send_one-requires : goal.send_one-requires
send_one-requires c =
    let m = stored_state c.args.store.now in
    let i = c.loop-fd.fd-index in
    let fds = c.args.fds.now in
    let fd = get_or fds i (record { 0 = 0 }) in
    let h = c.loop-fd.invariant in
    let room = h.room i (record { 0 = 0 }) (omega arith) in
    subst (λ (k : State). HasRoomForEvents c.loop-fd.store (port_at k c.args.p.0 fd) 1) (sym h.state)
    (room_for_fewer c.loop-fd.store (port_at m c.args.p.0 fd) (length fds - i) 1 (omega arith) room)

pub returns-clause-state : goal.returns-clause-state
returns-clause-state c =
    let m = stored_state c.args.store.now in
    let h = c.loop-fd.invariant in
    let ports = c.loop-fd.store.ports.ports in
    let none : drop c.loop-fd.fd-index c.args.fds.now ≡ [] = drop_all c.loop-fd.fd-index c.args.fds.now (omega arith) in
    h.state
    ∙ ap (with_ports m)
    (sym (ap (λ (fds : List Fd). after_sending_each ports (map (object_at m c.args.p.0) fds) c.args.events c.args.user) none) ∙ h.sent)

pub returns-clause-errors : goal.returns-clause-errors
returns-clause-errors c =
    let m = stored_state c.args.store.now in
    let h = c.loop-fd.invariant in
    let ports = c.loop-fd.store.ports.ports in
    let told = c.loop-fd.errors.items in
    let none : drop c.loop-fd.fd-index c.args.fds.now ≡ [] = drop_all c.loop-fd.fd-index c.args.fds.now (omega arith) in
    ap answer.Errors
    (c.into_list.ensures
    ∙ sym
    (ap (λ (fds : List Fd). told ++ errors_of_sending ports (map (object_at m c.args.p.0) fds) c.args.events c.args.user) none ∙ append-nil told)
    ∙ h.told)
