use Rattle.std.proofs.Common.{◌≡◌, ◌+◌, ap, arith, drop, get_or, refl, subst, sym, ◌∙◌}
use Rattle.spec_records.specs.Words.{tell_dues}
use Rattle.event_port.specs.Words.{HasRoomAt}
use Rattle.kernel_ports.specs.Told.{AllFit}
use Rattle.kernel_ports.specs.Words.{idle_at}
use Rattle.kernel_ports.proofs.Told.{fit_next, no_due, room_of_idle, told_next}
use Rattle.kernel_ports.proofs.due.tell_dues.Goals as goal

pub loop-due-init : goal.loop-due-init
loop-due-init c = record { ports = refl; fits = c.requires.fits; rooms = λ ts all q n h. h }

pub tell_due-requires-clause-fits : goal.tell_due-requires-clause-fits
tell_due-requires-clause-fits c =
    (fit_next c.loop-due.ports.ports c.args.dues.now c.loop-due.due-index no_due (omega arith) c.loop-due.invariant.fits).0

pub tell_due-requires-clause-room : goal.tell_due-requires-clause-room
tell_due-requires-clause-room c none =
    let i = c.loop-due.due-index in
    let d = get_or c.args.dues.now i no_due in
    let ts = c.requires.room.0 in
    let all = c.requires.room.1 in
    let n = idle_at c.args.ports.now.ports ts d.tag.port in
    let left = idle_at c.loop-due.ports.ports ts d.tag.port in
    let alike : n ≡ 0 + n = omega arith in
    let here : left ≡ 0 + left = omega arith in
    room_of_idle c.loop-due.ports d ts (all i no_due (omega arith)) none
    (subst (HasRoomAt c.loop-due.ports.rooms d.tag.port) (sym here)
    (c.loop-due.invariant.rooms ts all d.tag.port 0 (subst (HasRoomAt c.args.ports.now.rooms d.tag.port) alike (c.requires.room.2 d.tag.port))))

pub loop-due-preserved : goal.loop-due-preserved
loop-due-preserved c =
    let i = c.loop-due.due-index in
    let dues = c.args.dues.now in
    let before = c.loop-due.ports.ports in
    record {
      ports =
          ap (λ ports. tell_dues ports (drop (i + 1) dues)) c.tell_due.ensures.ports
          ∙ told_next before dues i no_due (omega arith)
          ∙ c.loop-due.invariant.ports;
      fits =
          subst (λ ports. AllFit ports (drop (i + 1) dues)) (sym c.tell_due.ensures.ports)
          (fit_next before dues i no_due (omega arith) c.loop-due.invariant.fits).1;
      rooms = λ ts all q n h. c.tell_due.ensures.rooms ts (all i no_due (omega arith)) q n (c.loop-due.invariant.rooms ts all q n h);
    }
