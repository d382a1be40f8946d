use Rattle.std.proofs.Common.{◌≡◌, ◌+◌, ◌++◌, ◌<◌, ◌^◌, ap, arith, subst, sym, ◌∙◌}
use Rattle.std.specs.Prelude.{All}
use Rattle.spec_records.specs.Words.{armed_at, dues, tell_dues}
use Rattle.kernel_ports.specs.Told.{AllFit, IsDueOf}
use Rattle.kernel_ports.specs.Words.{AssociatedPortsValue, idle_at}
use Rattle.kernel_ports.proofs.Rooms.{room_for_fewer}
use Rattle.kernel_ports.proofs.Told.{advanced, counts_fit, dues_are}
use Rattle.kernel_ports.proofs.ports.AssociatedPorts.advance.Goals as goal

pub tell_dues-requires-clause-fits : goal.tell_dues-requires-clause-fits
tell_dues-requires-clause-fits c =
    let timers = c.self.inside.timers.list in
    let early = rw (← c.self.view_is) at c.requires.clock in
    let told : c.slice.result.now ≡ dues timers c.args.by = c.slice.ensures ∙ c.advance.ensures.dues ∙ ap (λ ds. ds ++ dues timers c.args.by) c.requires.none in
    let small : timers.clock + c.args.by < 2 ^ 32 = omega (arith, early, c.requires.by) in
    subst (AllFit c.self.inside.ports.ports) (sym told) (counts_fit c.self.inside.ports c.self.inside.assocs.list timers c.args.by small c.self.invariant)

pub tell_dues-requires-clause-room : goal.tell_dues-requires-clause-room
tell_dues-requires-clause-room c =
    let ports = c.self.inside.ports in
    let list = c.self.inside.assocs.list in
    let timers = c.self.inside.timers.list in
    let told : c.slice.result.now ≡ dues timers c.args.by = c.slice.ensures ∙ c.advance.ensures.dues ∙ ap (λ ds. ds ++ dues timers c.args.by) c.requires.none in (
      timers.timers,
      subst (All (IsDueOf timers.timers)) (sym told) (dues_are timers.clock (timers.clock + c.args.by) timers.timers),
      λ q.
          room_for_fewer ports.rooms q (armed_at list.associations q + idle_at ports.ports timers.timers q) (idle_at ports.ports timers.timers q)
          (omega arith) (c.self.invariant.rooms q),
    )

pub invariant_of-self : goal.invariant_of-self
invariant_of-self c =
    let ports = c.self.inside.ports in
    let list = c.self.inside.assocs.list in
    let timers = c.self.inside.timers.list in
    let early = rw (← c.self.view_is) at c.requires.clock in
    let told : c.slice.result.now ≡ dues timers c.args.by = c.slice.ensures ∙ c.advance.ensures.dues ∙ ap (λ ds. ds ++ dues timers c.args.by) c.requires.none in
    let small : timers.clock + c.args.by < 2 ^ 32 = omega (arith, early, c.requires.by) in
    let all = subst (All (IsDueOf timers.timers)) (sym told) (dues_are timers.clock (timers.clock + c.args.by) timers.timers) in
    advanced ports list timers c.args.by small c.self.invariant c.tell_dues.new.ports c.advance.new.self.list c.advance.ensures.list
    (c.tell_dues.ensures.ports ∙ ap (tell_dues ports.ports) told) (c.tell_dues.ensures.rooms timers.timers all)

pub returns-clause-ports : goal.returns-clause-ports
returns-clause-ports c =
    let ports = c.self.inside.ports in
    let timers = c.self.inside.timers.list in
    let told : c.slice.result.now ≡ dues timers c.args.by = c.slice.ensures ∙ c.advance.ensures.dues ∙ ap (λ ds. ds ++ dues timers c.args.by) c.requires.none in
    c.tell_dues.ensures.ports
    ∙ ap (tell_dues ports.ports) told
    ∙ ap (λ (v : AssociatedPortsValue). tell_dues v.ports.ports (dues v.timers.list c.args.by)) c.self.view_is
