use Rattle.std.proofs.Common.{◌≡◌, ◌≤◌, ◌*◌, ℕ, subst, sym}
use Rattle.dk_base.specs.declared.limits.TheConstants.{ADVANCE_MAX}
use Rattle.spec_kernel.specs.Words.{IsOpening, State}
use Rattle.kernel_store.specs.Words.{stored_state}
use Rattle.kernel_core.proofs.Kept.{clock_kept}
use Rattle.kernel_core.proofs.kernel.Kernel.events.Goals as goal

pub returns-clause-clock : goal.returns-clause-clock
returns-clause-clock c =
    let kept = stored_state c.self.inside.parts.store in
    let told : c.events.result ≡ kept.events = c.events.ensures in
    subst (λ (m : State). m.channels.timers.clock ≤ ADVANCE_MAX * c.events.result) c.self.view_is
    (subst (λ (n : ℕ). kept.channels.timers.clock ≤ ADVANCE_MAX * n) (sym told) (clock_kept kept c.self.invariant.0))

pub returns-clause-opening : goal.returns-clause-opening
returns-clause-opening c = subst (λ (m : State). m.events ≡ 0 → IsOpening m) c.self.view_is c.self.invariant.0.opening
