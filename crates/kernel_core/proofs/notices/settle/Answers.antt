use Rattle.std.proofs.Common.{ap, ◌∙◌}
use Rattle.spec_kernel.specs.Words.{State, fail_returns, give_and_start}
use Rattle.spec_kernel.proofs.Notices.{doors-make_notices}
use Rattle.kernel_store.specs.Words.{stored_state}
use Rattle.kernel_core.proofs.Steps.{first_made}
use Rattle.kernel_core.proofs.notices.settle.Goals as goal

pub settle-requires : goal.settle-requires
settle-requires c = rw c.slice.ensures (c.make_notices.ensures.served c.args.touched c.args.parked c.requires.can_settle)

pub returns-clause-state : goal.returns-clause-state
returns-clause-state c =
    λ before were first.
    let n = stored_state c.args.store.now in
    let made = c.make_notices.ensures.state before were in
    let doors = ap (λ (k : State). k.doors) made ∙ doors-make_notices before n in
    c.settle.ensures.state before (λ p. first_made before (stored_state c.make_notices.new.store) n doors p ∙ first p)
    ∙ ap (λ k. give_and_start before (fail_returns k)) made
