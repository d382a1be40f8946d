use Rattle.std.proofs.Common.{ap, ◌∙◌}
use Rattle.spec_records.specs.Words.{create_timer_error, create_timer_tests}
use Rattle.spec_kernel.specs.Words.{State, object_at, port_tests, timers_in}
use Rattle.kernel_store.specs.Words.{stored_state}
use Rattle.kernel_core.proofs.Tests.{none_after}
use Rattle.kernel_core.proofs.timers.create.Goals as goal

pub create_timer-requires-clause-allowed : goal.create_timer-requires-clause-allowed
create_timer-requires-clause-allowed c =
    let m = stored_state c.args.store.now in
    ap (λ (k : State). create_timer_error (timers_in k) c.args.p.0) c.reserve_timer.ensures.state
    ∙ none_after (port_tests (object_at m c.args.p.0 c.args.port)) (create_timer_tests (timers_in m) c.args.p.0) c.requires.allowed
