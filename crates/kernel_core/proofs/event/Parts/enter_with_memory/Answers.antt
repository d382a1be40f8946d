use Rattle.std.proofs.Common.{Some, rules}
use Rattle.kernel_store.specs.Words.{stored_state}
use Rattle.kernel_core.proofs.CanSettle.{settles_entry}
use Rattle.kernel_core.proofs.Finishing.{entry_acted, pipe_taken, rows_taken}
use Rattle.kernel_core.proofs.event.Parts.enter_with_memory.Goals as goal

pub finish-requires-clause-acted : goal.finish-requires-clause-acted
finish-requires-clause-acted c = (
  c.args.self.now,
  c.args.t.0,
  Some c.args.request,
  c.reserve.new.self,
  entry_acted c.args.self.now c.reserve.new.self c.enter.new.store c.args.t.0 c.process_of-p.result.0 c.args.request c.in_ok-taken.taken
      c.in_ok-answer.answer _ _ c.requires.can_step c.requires.noticing c.requires.turning c.reserve.ensures.state c.in_ok-taken.ensures.ready
      (search rules) c.in_ok-answer.ensures.state c.in_ok-answer.ensures.answer c.needs_of-needs.ensures.first c.made_first-first.ensures
      c.in_ok-answer.ensures.keeps (rows_taken c.in_ok-taken.ensures.told.0 c.in_ok-closed.ensures) (pipe_taken c.in_ok-taken.ensures.told.1 c.pipe_readied-pipe.ensures),
)

pub returns-clause-step : goal.returns-clause-step
returns-clause-step c =
    c.finish.ensures.step c.args.self.now c.args.t.0 (Some c.args.request) c.reserve.new.self
    (entry_acted c.args.self.now c.reserve.new.self c.enter.new.store c.args.t.0 c.process_of-p.result.0 c.args.request c.in_ok-taken.taken
    c.in_ok-answer.answer _ _ c.requires.can_step c.requires.noticing c.requires.turning c.reserve.ensures.state c.in_ok-taken.ensures.ready
    (search rules) c.in_ok-answer.ensures.state c.in_ok-answer.ensures.answer c.needs_of-needs.ensures.first c.made_first-first.ensures
    c.in_ok-answer.ensures.keeps (rows_taken c.in_ok-taken.ensures.told.0 c.in_ok-closed.ensures) (pipe_taken c.in_ok-taken.ensures.told.1 c.pipe_readied-pipe.ensures))

pub returns-clause-made : goal.returns-clause-made
returns-clause-made c =
    c.finish.ensures.made c.args.self.now c.args.t.0 (Some c.args.request) c.reserve.new.self
    (entry_acted c.args.self.now c.reserve.new.self c.enter.new.store c.args.t.0 c.process_of-p.result.0 c.args.request c.in_ok-taken.taken
    c.in_ok-answer.answer _ _ c.requires.can_step c.requires.noticing c.requires.turning c.reserve.ensures.state c.in_ok-taken.ensures.ready
    (search rules) c.in_ok-answer.ensures.state c.in_ok-answer.ensures.answer c.needs_of-needs.ensures.first c.made_first-first.ensures
    c.in_ok-answer.ensures.keeps (rows_taken c.in_ok-taken.ensures.told.0 c.in_ok-closed.ensures) (pipe_taken c.in_ok-taken.ensures.told.1 c.pipe_readied-pipe.ensures))

pub finish-requires-clause-can_settle : goal.finish-requires-clause-can_settle
finish-requires-clause-can_settle c =
    let can = c.requires.can_step in
    let acted =
    entry_acted c.args.self.now c.reserve.new.self c.enter.new.store c.args.t.0 c.process_of-p.result.0 c.args.request c.in_ok-taken.taken
    c.in_ok-answer.answer _ _ can c.requires.noticing c.requires.turning c.reserve.ensures.state c.in_ok-taken.ensures.ready
    (search rules) c.in_ok-answer.ensures.state c.in_ok-answer.ensures.answer c.needs_of-needs.ensures.first c.made_first-first.ensures
    c.in_ok-answer.ensures.keeps (rows_taken c.in_ok-taken.ensures.told.0 c.in_ok-closed.ensures) (pipe_taken c.in_ok-taken.ensures.told.1 c.pipe_readied-pipe.ensures) in
    settles_entry (stored_state c.args.self.now.store) c.reserve.new.self.store c.enter.new.store c.args.t.0 c.needs_of-needs.result.touched c.enter.new.parked can.placed
    can.none_lost c.reserve.ensures.state (c.reserve.ensures.rest can.between).given_out c.args.request c.needs_of-needs.ensures.touched acted.acted
    c.requires.none_lost c.in_ok-answer.ensures.others c.in_ok-answer.ensures.parked
