use Rattle.std.proofs.Common.{sym}
use Rattle.spec_records.specs.Words.{create_timer_tests}
use Rattle.spec_kernel.specs.Words.{timers_in}
use Rattle.kernel_store.specs.Words.{stored_state}
use Rattle.kernel_core.proofs.timers.creating_refusal.Goals as goal

pub returns-in-Err : goal.returns-in-Err
returns-in-Err c = sym (c.in-Err.ensures.err (create_timer_tests (timers_in (stored_state c.args.store.now)) c.args.p.0))
