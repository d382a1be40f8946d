use Rattle.std.proofs.Common.{ap, subst, sym, ◌∙◌}
use Rattle.spec_kernel.specs.Words.{fire, references_of}
use Rattle.kernel_ports.specs.Words.{AssociatedPortsValue}
use Rattle.event_port.specs.Words.{PortsValue}
use Rattle.kernel_ports.specs.Words.{AreAllNamed}
use Rattle.kernel_store.specs.Stored.{StoreValue, stored_state}
use Rattle.kernel_store.specs.Telling.{AreNamed, IsOfPipe}
use Rattle.kernel_store.proofs.PortsTold.{all_named, store_fired}
use Rattle.kernel_store.proofs.store.Store.fire.Goals as goal

pub tell-fired-requires-clause-named : goal.tell-fired-requires-clause-named
tell-fired-requires-clause-named c =
    let n = stored_state c.args.self.now in (
      references_of n,
      subst (λ (v : StoreValue). AreAllNamed v.pipes.items (references_of n) c.ends_of-ends.result c.args.gone.now v.assocs.list.associations) (sym c.self.view_is)
          (all_named n c.args.pipe c.ends_of-ends.result c.args.gone.now c.ends_of-ends.ensures c.requires.named),
    )

pub invariant_of-self : goal.invariant_of-self
invariant_of-self c = (
  c.self.invariant.0,
  c.self.invariant.1,
  c.self.invariant.2,
  c.self.invariant.3,
  c.self.invariant.4,
  c.note_told.ensures c.self.inside.ports.ports.ports (λ none. ap (λ (v : PortsValue). v.ports) (c.tell-fired.ensures.none none).1) c.self.invariant.5,
)

pub returns-clause-state : goal.returns-clause-state
returns-clause-state c =
    let s = c.self.inside in
    let v : StoreValue = record {
      processes = s.processes;
      pools = s.pools;
      tables = s.held.tables;
      names = s.held.names;
      doors = s.doors;
      calls = s.held.calls;
      notices = s.notices;
      events = s.events;
      latest = s.latest;
      opening = s.held.opening;
      left = s.held.left;
      short_room = s.short.spare;
      pipes = s.pipes;
      ports = s.ports.ports;
      assocs = s.ports.assocs;
      timers = s.ports.timers;
    } in
    store_fired v c.tell-fired.new.self c.args.pipe c.ends_of-ends.result c.args.gone.now
    (subst (λ (x : StoreValue). IsOfPipe (stored_state x) c.args.pipe c.ends_of-ends.result) (sym c.self.view_is) c.ends_of-ends.ensures)
    (subst (λ (x : StoreValue). AreNamed (stored_state x) c.args.pipe c.args.gone.now) (sym c.self.view_is) c.requires.named)
    c.tell-fired.ensures.list c.tell-fired.ensures.ports c.tell-fired.ensures.timers
    ∙ ap (λ (x : StoreValue). fire (stored_state x)) c.self.view_is
