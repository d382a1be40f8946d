use Rattle.std.proofs.Common.{ap, ◌∙◌}
use Rattle.kernel_store.specs.Words.{stored_state}
use Rattle.spec_kernel.specs.Words.{is_runnable}
use Rattle.kernel_core.proofs.Kept.{turns_kept}
use Rattle.kernel_core.proofs.Readers.{runnable_stands}
use Rattle.kernel_core.proofs.kernel.Kernel.runnable.Goals as goal

pub returns-clause-kept : goal.returns-clause-kept
returns-clause-kept c =
    let m = stored_state c.self.inside.parts.store in
    c.has.ensures ∙ c.runnable.ensures c.args.t.0 ∙ turns_kept m c.self.invariant.0 c.args.t.0 ∙ ap (λ k. is_runnable k c.args.t.0) c.self.view_is

pub returns-clause-stands : goal.returns-clause-stands
returns-clause-stands c =
    λ m e.
    let kept = stored_state c.self.inside.parts.store in
    c.has.ensures ∙ c.runnable.ensures c.args.t.0 ∙ turns_kept kept c.self.invariant.0 c.args.t.0 ∙ runnable_stands kept m c.args.t.0 (c.self.view_is ∙ e)
