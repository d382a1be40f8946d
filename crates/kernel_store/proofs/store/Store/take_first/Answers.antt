use Rattle.std.proofs.Common.{ap, refl, ◌∙◌}
use Rattle.spec_records.specs.Words.{port_of}
use Rattle.kernel_store.proofs.PortWaits.{port_elsewhere}
use Rattle.kernel_store.proofs.store.Store.take_first.Goals as goal

pub invariant_of-self : goal.invariant_of-self
invariant_of-self c = (
  c.self.invariant.0,
  c.self.invariant.1,
  c.self.invariant.2,
  c.self.invariant.3,
  c.self.invariant.4,
  c.note_port.ensures c.self.inside.held c.self.inside.ports.ports.ports (λ p n. (ap (λ ps. port_of ps p) c.take_first-first.ensures.ports ∙ port_elsewhere c.self.inside.ports.ports.ports c.args.q _ p n, refl)) c.self.invariant.5,
)
