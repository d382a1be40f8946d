use Rattle.std.proofs.Common.{[], ◌∷◌, ap, refl, rules, subst, ◌+◌, ◌≢◌, length, ◌∙◌}
use Rattle.dk_base.specs.declared.object.Obj.TheVariants as obj
use Rattle.spec_records.specs.Words.{port_of}
use Rattle.kernel_store.proofs.There.{there_more}
use Rattle.kernel_store.proofs.PortWaits.{made_elsewhere, not_this_port}
use Rattle.kernel_store.proofs.store.Store.make_port.Goals as goal

pub invariant_of-self : goal.invariant_of-self
invariant_of-self c = (
  search rules,
  there_more c.self.inside.doors.items c.self.inside.held c.insert-fd.new.self (obj.Port c.create-number.result ∷ []) c.self.invariant.1 (λ d none. refl) c.insert-fd.ensures.references,
  search rules,
  search rules,
  c.self.invariant.4,
  c.note_port.ensures c.self.inside.held c.self.inside.ports.ports.ports (λ p n. (ap (λ ps. port_of ps p) c.create-number.ensures.made ∙ made_elsewhere c.self.inside.ports.ports.ports p (subst (λ q. p ≢ q) c.create-number.ensures.number n), c.insert-fd.ensures.others (obj.Port p) (not_this_port p c.create-number.result n))) c.self.invariant.5,
)
