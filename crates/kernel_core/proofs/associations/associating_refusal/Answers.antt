use Rattle.std.proofs.Common.{sym}
use Rattle.spec_records.specs.Words.{associate_tests}
use Rattle.spec_kernel.specs.Words.{object_at}
use Rattle.kernel_store.specs.Words.{stored_state}
use Rattle.kernel_core.proofs.associations.associating_refusal.Goals as goal

pub returns-in-Err : goal.returns-in-Err
returns-in-Err c = sym (c.in-Err.ensures.err (associate_tests (object_at (stored_state c.args.store.now) c.args.p.0 c.args.object)))
