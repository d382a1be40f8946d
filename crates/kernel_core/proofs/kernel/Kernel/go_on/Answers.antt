use Rattle.std.proofs.Common.{None}
use Rattle.kernel_store.specs.Words.{stored_state}
use Rattle.kernel_core.proofs.Kept.{can_step, kept_result, noticing, turning, wait_kept}
use Rattle.kernel_core.proofs.Steps.{step_stands, step_within, step_small}
use Rattle.kernel_core.proofs.kernel.Kernel.go_on.Goals as goal

pub invariant_of-self : goal.invariant_of-self
invariant_of-self c =
    let kept = stored_state c.self.inside.parts.store in
    let new = stored_state c.go_on.new.self.store in (
      kept_result kept c.args.self.now new c.args.t.0 None c.go_on.result c.self.view_is c.self.invariant.0 c.requires c.go_on.ensures.step c.go_on.ensures.err,
      step_within kept c.args.self.now new c.args.t.0 None c.go_on.result c.self.view_is c.self.invariant.1 c.requires.few c.go_on.ensures.step c.go_on.ensures.made c.go_on.ensures.err,
      c.go_on.ensures.between,
    )

pub returns-clause-step : goal.returns-clause-step
returns-clause-step c =
    step_stands (stored_state c.self.inside.parts.store) c.args.self.now (stored_state c.go_on.new.self.store) c.args.t.0 None c.go_on.result c.self.view_is c.go_on.ensures.step

pub returns-clause-small : goal.returns-clause-small
returns-clause-small c =
    step_small (stored_state c.self.inside.parts.store) (stored_state c.go_on.new.self.store) c.args.t.0 None c.go_on.result c.self.invariant.1
    (wait_kept (stored_state c.self.inside.parts.store) c.args.t.0 c.self.invariant.0) c.go_on.ensures.step

pub go_on-requires-clause-can_step : goal.go_on-requires-clause-can_step
go_on-requires-clause-can_step c = can_step c.self.inside.parts c.args.self.now c.self.view_is c.self.invariant c.requires.few

pub go_on-requires-clause-noticing : goal.go_on-requires-clause-noticing
go_on-requires-clause-noticing c =
    noticing (stored_state c.self.inside.parts.store) c.args.self.now c.args.t.0 None c.self.view_is c.self.invariant.0 c.requires

pub go_on-requires-clause-turning : goal.go_on-requires-clause-turning
go_on-requires-clause-turning c = turning (stored_state c.self.inside.parts.store) c.args.self.now c.args.t.0 None c.self.view_is c.self.invariant.0 c.requires
