use Rattle.std.proofs.Common.{◌∙◌, Some, subst, sym}
use Rattle.spec_kernel.specs.Words.{IsFit}
use Rattle.kernel_store.specs.Words.{stored_state}
use Rattle.kernel_core.proofs.Forking.{may_fork}
use Rattle.kernel_core.proofs.Kept.{can_step, kept_result, line_counts, none_lost, noticing, refused_result, refused_stands, turning}
use Rattle.kernel_core.proofs.Steps.{step_stands, step_within, step_small}
use Rattle.kernel_core.proofs.kernel.Kernel.enter.Goals as goal

pub invariant_of-self : goal.invariant_of-self
invariant_of-self c =
    let kept = stored_state c.self.inside.parts.store in
    let new = stored_state c.enter.new.self.store in (
      kept_result kept c.args.self.now new c.args.t.0 (Some c.args.request) c.enter.result c.self.view_is c.self.invariant.0 (record { running = c.requires.running; fit = c.requires.fit; few = c.requires.few }) c.enter.ensures.step c.enter.ensures.err,
      step_within kept c.args.self.now new c.args.t.0 (Some c.args.request) c.enter.result c.self.view_is c.self.invariant.1 c.requires.few c.enter.ensures.step c.enter.ensures.made c.enter.ensures.err,
      c.enter.ensures.between,
    )

pub returns-clause-step : goal.returns-clause-step
returns-clause-step c =
    step_stands (stored_state c.self.inside.parts.store) c.args.self.now (stored_state c.enter.new.self.store) c.args.t.0 (Some c.args.request) c.enter.result c.self.view_is c.enter.ensures.step

pub returns-clause-small : goal.returns-clause-small
returns-clause-small c =
    step_small (stored_state c.self.inside.parts.store) (stored_state c.enter.new.self.store) c.args.t.0 (Some c.args.request) c.enter.result c.self.invariant.1
    (subst (λ m. IsFit m c.args.t.0 c.args.request) (sym c.self.view_is) c.requires.fit) c.enter.ensures.step

pub returns-clause-refused : goal.returns-clause-refused
returns-clause-refused c =
    refused_result (stored_state c.self.inside.parts.store) c.args.self.now (stored_state c.enter.new.self.store) c.args.t.0 c.args.request c.enter.result c.self.view_is c.self.invariant.0 (record { running = c.requires.running; fit = c.requires.fit; few = c.requires.few }) c.enter.ensures.step

pub returns-clause-refused_step : goal.returns-clause-refused_step
returns-clause-refused_step c =
    λ m h e g. refused_stands (stored_state c.self.inside.parts.store) m c.args.t.0 c.args.request e c.self.invariant.0 (c.self.view_is ∙ h) g

pub enter-requires-clause-can_step : goal.enter-requires-clause-can_step
enter-requires-clause-can_step c = can_step c.self.inside.parts c.args.self.now c.self.view_is c.self.invariant c.requires.few

pub enter-requires-clause-may_fork : goal.enter-requires-clause-may_fork
enter-requires-clause-may_fork c = may_fork (stored_state c.self.inside.parts.store) c.args.self.now c.args.t.0 c.args.request c.self.view_is c.self.invariant.0 c.requires.fit

pub enter-requires-clause-none_lost : goal.enter-requires-clause-none_lost
enter-requires-clause-none_lost c =
    λ stays.
    none_lost (stored_state c.self.inside.parts.store) c.args.self.now c.args.t.0 (Some c.args.request) c.self.view_is c.self.invariant.0 (record { running = c.requires.running; fit = c.requires.fit; few = c.requires.few }) stays

pub enter-requires-clause-noticing : goal.enter-requires-clause-noticing
enter-requires-clause-noticing c =
    noticing (stored_state c.self.inside.parts.store) c.args.self.now c.args.t.0 (Some c.args.request) c.self.view_is c.self.invariant.0 (record { running = c.requires.running; fit = c.requires.fit; few = c.requires.few })

pub enter-requires-clause-turning : goal.enter-requires-clause-turning
enter-requires-clause-turning c = turning (stored_state c.self.inside.parts.store) c.args.self.now c.args.t.0 (Some c.args.request) c.self.view_is c.self.invariant.0 (record { running = c.requires.running; fit = c.requires.fit; few = c.requires.few })

pub enter-requires-clause-fit : goal.enter-requires-clause-fit
enter-requires-clause-fit c = subst (λ m. IsFit m c.args.t.0 c.args.request) (sym c.self.view_is) c.requires.fit

pub enter-requires-clause-counts : goal.enter-requires-clause-counts
enter-requires-clause-counts c = line_counts (stored_state c.self.inside.parts.store) c.args.t.0 c.args.request c.self.invariant.0
