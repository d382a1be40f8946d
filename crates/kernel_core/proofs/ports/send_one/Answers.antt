use Rattle.std.proofs.Common.{◌≡◌, Option, Some, ap, if◌then◌else◌, is_none, sym}
use Rattle.spec_records.specs.Words.{send_event, send_tests}
use Rattle.spec_kernel.specs.Types.{Errno}
use Rattle.spec_kernel.specs.Words.{object_at, port, port_at, sending_error, with_ports}
use Rattle.kernel_store.specs.Words.{stored_state}
use Rattle.kernel_core.proofs.ports.send_one.Goals as goal

pub returns-in-Err-clause-error : goal.returns-in-Err-clause-error
returns-in-Err-clause-error c =
    let m = stored_state c.args.store.now in
    sym (c.in-Err.ensures.err (send_tests (port m (port_at m c.args.p.0 c.args.fd))))

pub returns-in-Err-clause-state : goal.returns-in-Err-clause-state
returns-in-Err-clause-state c =
    let m = stored_state c.args.store.now in
    let told : sending_error m.channels.ports (object_at m c.args.p.0 c.args.fd) ≡ Some c.in-Err.error = c.in-Err.ensures.err (send_tests (port m (port_at m c.args.p.0 c.args.fd))) in
    ap
    (λ (o : Option Errno).
    with_ports m (if is_none o then send_event m.channels.ports (port_at m c.args.p.0 c.args.fd) c.args.events c.args.user else m.channels.ports))
    (sym told)
