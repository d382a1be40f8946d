use Rattle.std.proofs.Common.{ap, sym, ◌∙◌, arith}
use Rattle.spec_records.specs.Words.{first_refusal, set_param_tests}
use Rattle.spec_kernel.specs.Words.{door_of}
use Rattle.law_pools.proofs.Queues.{agrees_param}
use Rattle.kernel_store.specs.Stored.{StoreValue, stored_state}
use Rattle.kernel_store.proofs.There.{there_doors}
use Rattle.kernel_store.proofs.store.Store.set_param.Goals as goal

pub set_param_allowed-requires : goal.set_param_allowed-requires
set_param_allowed-requires c = (
  c.args.p.0,
  ap (λ (s : StoreValue). first_refusal (set_param_tests c.args.p.0 (door_of (stored_state s) c.args.d) c.args.param c.args.value)) c.self.view_is ∙ c.requires,
)

pub invariant_of-self : goal.invariant_of-self
invariant_of-self c =
    let agreed = agrees_param c.self.invariant.0 c.args.d c.args.param c.args.value in
    rw c.set_param_allowed.ensures
    (agreed, there_doors c.self.inside.doors.items _ c.self.inside.held (omega (arith, sym c.self.invariant.0.private ∙ agreed.private)) c.self.invariant.1, c.self.invariant.2, c.self.invariant.3, c.self.invariant.4, c.self.invariant.5)
