use Rattle.std.proofs.Common.{None}
use Rattle.kernel_store.specs.Words.{stored_state}
use Rattle.kernel_core.proofs.CanSettle.{settles_end}
use Rattle.kernel_core.proofs.Finishing.{end_acted}
use Rattle.kernel_core.proofs.event.Parts.go_on.Goals as goal

pub finish-requires-clause-acted : goal.finish-requires-clause-acted
finish-requires-clause-acted c = (
  c.args.self.now,
  c.args.t.0,
  None,
  c.reserve.new.self,
  end_acted c.args.self.now c.reserve.new.self c.go_on-answer.new.store c.args.t.0 c.in_ok-taken.taken c.go_on-answer.result c.requires.can_step
      c.requires.noticing c.requires.turning c.reserve.ensures.state c.in_ok-taken.ensures.ready c.go_on-answer.ensures.state
      c.go_on-answer.ensures.answer c.go_on-answer.ensures.keeps.kept c.in_ok-taken.ensures.told.0,
)

pub returns-clause-step : goal.returns-clause-step
returns-clause-step c =
    c.finish.ensures.step c.args.self.now c.args.t.0 None c.reserve.new.self
    (end_acted c.args.self.now c.reserve.new.self c.go_on-answer.new.store c.args.t.0 c.in_ok-taken.taken c.go_on-answer.result c.requires.can_step
    c.requires.noticing c.requires.turning c.reserve.ensures.state c.in_ok-taken.ensures.ready c.go_on-answer.ensures.state
    c.go_on-answer.ensures.answer c.go_on-answer.ensures.keeps.kept c.in_ok-taken.ensures.told.0)

pub returns-clause-made : goal.returns-clause-made
returns-clause-made c =
    c.finish.ensures.made c.args.self.now c.args.t.0 None c.reserve.new.self
    (end_acted c.args.self.now c.reserve.new.self c.go_on-answer.new.store c.args.t.0 c.in_ok-taken.taken c.go_on-answer.result c.requires.can_step
    c.requires.noticing c.requires.turning c.reserve.ensures.state c.in_ok-taken.ensures.ready c.go_on-answer.ensures.state
    c.go_on-answer.ensures.answer c.go_on-answer.ensures.keeps.kept c.in_ok-taken.ensures.told.0)

pub finish-requires-clause-can_settle : goal.finish-requires-clause-can_settle
finish-requires-clause-can_settle c =
    let can = c.requires.can_step in
    let acted =
    end_acted c.args.self.now c.reserve.new.self c.go_on-answer.new.store c.args.t.0 c.in_ok-taken.taken c.go_on-answer.result can
    c.requires.noticing c.requires.turning c.reserve.ensures.state c.in_ok-taken.ensures.ready c.go_on-answer.ensures.state
    c.go_on-answer.ensures.answer c.go_on-answer.ensures.keeps.kept c.in_ok-taken.ensures.told.0 in
    settles_end (stored_state c.args.self.now.store) c.reserve.new.self.store c.go_on-answer.new.store c.args.t.0 c.own_pool-touched.result c.new.result can.placed
    can.none_lost c.reserve.ensures.state (c.reserve.ensures.rest can.between).given_out c.own_pool-touched.ensures acted.acted c.go_on-answer.ensures.keeps
