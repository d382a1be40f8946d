use Rattle.std.proofs.Common.{ap, arith, length, sym, subst, ◌∙◌}
use Rattle.spec_records.specs.declared.record.ThreadState.TheVariants as is
use Rattle.spec_records.specs.Words.{collect_call, is_to_collect_as, live_calls, set_thread_state}
use Rattle.spec_kernel.specs.Words.{State, find_call, now, tables_after_collect}
use Rattle.kernel_store.specs.Words.{IsRoomFor, results_in, stored_state}
use Rattle.kernel_core.proofs.Live.{collect_stands}
use Rattle.kernel_core.proofs.Collected.{told_alike}
use Rattle.kernel_core.proofs.Told.{told_results}
use Rattle.kernel_core.proofs.doors.collect.Goals as goal

pub tell-requires : goal.tell-requires
tell-requires c =
    let o = find_call (stored_state c.args.store.now) (is_to_collect_as c.args.c) in
    let told = told_results o c.collect_call-outcome.result c.collect_call-outcome.ensures.outcome in
    record {
      room = subst (λ os. IsRoomFor (length os) c.args.fds) (sym told) c.requires.room;
      can_hold =
          record {
            there = c.collect_call-outcome.ensures.there;
            room = omega (arith, c.collect_call-outcome.ensures.small, c.collect_call-outcome.ensures.left, c.requires.references);
          };
    }

pub returns-clause-state : goal.returns-clause-state
returns-clause-state c =
    let m = stored_state c.args.store.now in
    let o = find_call m (is_to_collect_as c.args.c) in
    let told = told_results o c.collect_call-outcome.result c.collect_call-outcome.ensures.outcome in
    collect_stands m (stored_state c.tell.new.store) c.args.t.0 c.args.p.0 c.args.c c.requires.none_past
    (c.tell.ensures.state
    ∙ ap (λ (k : State). record k { tables = tables_after_collect k c.args.p.0 (results_in c.collect_call-outcome.result) })
    (c.collect_call-outcome.ensures.state (now m))
    ∙ ap
    (λ os.
    record m {
      process_table = set_thread_state m.process_table c.args.t.0 is.Running;
      tables = tables_after_collect m c.args.p.0 os;
      call_tree = live_calls (collect_call m.call_tree c.args.c (now m));
    })
    told)

pub returns-clause-answer : goal.returns-clause-answer
returns-clause-answer c =
    let m = stored_state c.args.store.now in
    let o = find_call m (is_to_collect_as c.args.c) in
    c.tell.ensures.answer o c.collect_call-outcome.ensures.outcome
    ∙ told_alike m (stored_state c.collect_call-outcome.new.self) c.args.p.0 o (ap (λ (k : State). k.tables) (c.collect_call-outcome.ensures.state 0))
