use Rattle.std.proofs.Common.{ap, ◌∙◌}
use Rattle.kernel_store.specs.Words.{stored_state}
use Rattle.spec_kernel.specs.Words.{least_runnable}
use Rattle.kernel_core.proofs.Kept.{turns_kept}
use Rattle.kernel_core.proofs.Readers.{least_runnable_stands}
use Rattle.kernel_core.proofs.Turning.{least_is}
use Rattle.kernel_core.proofs.kernel.Kernel.least_runnable.Goals as goal

pub returns-clause-kept : goal.returns-clause-kept
returns-clause-kept c =
    let m = stored_state c.self.inside.parts.store in
    let e = c.least.ensures in
    least_is m c.runnable.result (λ u. c.runnable.ensures u ∙ turns_kept m c.self.invariant.0 u) c.least.result e.first e.within e.none ∙ ap least_runnable c.self.view_is

pub returns-clause-stands : goal.returns-clause-stands
returns-clause-stands c =
    λ m e.
    let kept = stored_state c.self.inside.parts.store in
    let n = c.least.ensures in
    least_is kept c.runnable.result (λ u. c.runnable.ensures u ∙ turns_kept kept c.self.invariant.0 u) c.least.result n.first n.within n.none ∙ least_runnable_stands kept m (c.self.view_is ∙ e)
