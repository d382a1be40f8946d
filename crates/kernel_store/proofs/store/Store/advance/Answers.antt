use Rattle.std.proofs.Common.{◌≡◌, ap, arith, length, sym, ◌∙◌}
use Rattle.std.proofs.lemmas.Bool.Decides.{nat_tests}
use Rattle.spec_records.specs.Words.{dues}
use Rattle.kernel_store.proofs.PortsTold.{none_due}
use Rattle.kernel_store.proofs.store.Store.advance.Goals as goal

pub invariant_of-self : goal.invariant_of-self
invariant_of-self c = (
  c.self.invariant.0,
  c.self.invariant.1,
  c.self.invariant.2,
  c.self.invariant.3,
  c.self.invariant.4,
  c.note_told.ensures c.self.inside.ports.ports.ports
      (λ none.
      c.advance.ensures.ports ∙ none_due c.self.inside.ports.ports.ports (dues c.self.inside.ports.timers.list c.args.by) (nothing (grind (arith, nat_tests, none))))
      c.self.invariant.5,
)
  where
    nothing : c.len-told.result ≡ 0 → length (dues c.self.inside.ports.timers.list c.args.by) ≡ 0
    nothing e = ap length (sym c.advance.ensures.dues) ∙ sym c.len-told.ensures ∙ e
