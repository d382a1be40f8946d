use Rattle.std.proofs.Common.{sym}
use Rattle.spec_records.specs.Words.{get_tests}
use Rattle.spec_kernel.specs.Words.{port, port_at}
use Rattle.kernel_store.specs.Words.{stored_state}
use Rattle.kernel_core.proofs.ports.getting_refusal.Goals as goal

pub returns-in-Err : goal.returns-in-Err
returns-in-Err c =
    let m = stored_state c.args.store.now in
    sym (c.in-Err.ensures.err (get_tests c.args.wait (port m (port_at m c.args.p.0 c.args.fd))))
