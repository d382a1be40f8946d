use Rattle.std.proofs.Common.{List, ap, refl, subst, sym, ◌∙◌}
use Rattle.spec_records.specs.Words.{Port, port_of, timer_at}
use Rattle.kernel_store.specs.Turning.{KnowsPorts}
use Rattle.kernel_store.proofs.PortWaits.{none_unqueued, unqueued_elsewhere}
use Rattle.kernel_store.proofs.store.Store.delete_timer.Goals as goal

pub invariant_of-self-in_default : goal.invariant_of-self-in_default
invariant_of-self-in_default c = (
  c.self.invariant.0,
  c.self.invariant.1,
  c.self.invariant.2,
  c.self.invariant.3,
  c.self.invariant.4,
  subst (λ (ps : List Port). KnowsPorts c.self.inside.processes c.self.inside.held ps c.self.inside.ended)
      (sym (c.delete_timer.ensures.ports ∙ none_unqueued c.self.inside.ports.ports.ports (timer_at c.self.inside.ports.timers.list.timers c.args.process.0 c.args.id) (sym c.in_default.ensures.port)))
      c.self.invariant.5,
)

pub invariant_of-self : goal.invariant_of-self
invariant_of-self c = (
  c.self.invariant.0,
  c.self.invariant.1,
  c.self.invariant.2,
  c.self.invariant.3,
  c.self.invariant.4,
  c.note_port.ensures c.self.inside.held c.self.inside.ports.ports.ports
      (λ p n. (
        ap (λ ps. port_of ps p) c.delete_timer.ensures.ports
            ∙ unqueued_elsewhere c.self.inside.ports.ports.ports (timer_at c.self.inside.ports.timers.list.timers c.args.process.0 c.args.id) c.in-Some.q p
            (sym c.in-Some.ensures.port) n,
        refl,
      )) c.self.invariant.5,
)
