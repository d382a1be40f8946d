use Rattle.std.proofs.Common.{ap, ◌∙◌}
use Rattle.spec_records.specs.Words.{close_table, end_owner, end_process, is_idle, state_in, with_table}
use Rattle.spec_kernel.specs.Words.{State, state_of, table_of}
use Rattle.kernel_store.specs.Words.{stored_state}
use Rattle.kernel_core.proofs.CanSettle.{parks_then, same_thread}
use Rattle.kernel_core.proofs.Live.{leave_process_stands}
use Rattle.kernel_core.proofs.leaving.leave_process.Goals as goal

pub returns-clause-state : goal.returns-clause-state
returns-clause-state c =
    let p = c.args.p.0 in
    leave_process_stands (stored_state c.args.store.now) (stored_state c.end_process.new.self) p
    (c.end_process.ensures.state
    ∙ ap
    (λ (k : State).
    record k {
      process_table = end_process k.process_table p;
      tables = with_table k.tables p (close_table (table_of k p));
      doors = end_owner k.doors p;
    })
    c.in_ok-parked.ensures.state)

pub returns-clause-parked : goal.returns-clause-parked
returns-clause-parked c =
    parks_then _ c.args.store.now c.leave.new.self c.end_process.new.self c.end_process.ensures.keeps.pools
    (λ t.
    ap (λ (k : State). is_idle (state_of k t)) c.end_process.ensures.state
    ∙ ap (λ o. is_idle (state_in o)) (same_thread (stored_state c.leave.new.self).process_table c.args.p.0 t))
    c.in_ok-parked.ensures.parked
