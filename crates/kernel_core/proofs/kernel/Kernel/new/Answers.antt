use Rattle.std.proofs.Common.{ap, arith, ◌∙◌}
use Rattle.spec_kernel.specs.Words.{with_processes}
use Rattle.kernel_store.specs.Words.{stored_state}
use Rattle.kernel_core.proofs.Kept.{processes_kept}
use Rattle.kernel_core.proofs.Steps.{opening-within}
use Rattle.kernel_core.proofs.kernel.Kernel.new.Goals as goal

pub invariant_of-result : goal.invariant_of-result
invariant_of-result c =
    let limits = c.slice.result.now in
    let m = stored_state c.in_ok-store.store in
    let is = c.in_ok-store.ensures.state ∙ ap (λ n. with_processes n limits) c.in_ok-new.ensures.state in
    let rest = c.in_ok-store.ensures.rest 0 c.in_ok-new.ensures.rest in (
      processes_kept limits m is,
      opening-within limits (stored_state c.in_ok-new.field-0) m c.in_ok-new.ensures.state c.in_ok-store.ensures.state,
      record { given_out = rest.given_out; latest = omega (arith, rest.latest) },
    )
