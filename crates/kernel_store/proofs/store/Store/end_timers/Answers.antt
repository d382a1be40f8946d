use Rattle.std.proofs.Common.{ap, length, subst, sym, ◌∙◌}
use Rattle.law_channels.specs.Ended.{timers_ended}
use Rattle.spec_kernel.specs.Words.{with_channels}
use Rattle.kernel_ports.specs.Words.{HasRoomToEnd}
use Rattle.kernel_store.specs.Stored.{StoreValue, stored_state}
use Rattle.kernel_store.specs.Telling.{closing_of}
use Rattle.kernel_store.proofs.PortsTold.{store_timers_ended}
use Rattle.kernel_store.proofs.store.Store.end_timers.Goals as goal

pub invariant_of-self : goal.invariant_of-self
invariant_of-self c = (
  c.self.invariant.0,
  c.self.invariant.1,
  c.self.invariant.2,
  c.self.invariant.3,
  c.self.invariant.4,
  c.note_told.ensures c.self.inside.ports.ports.ports c.end_timers-ended.ensures.none c.self.invariant.5,
)

pub returns-clause-state : goal.returns-clause-state
returns-clause-state c =
    let s = c.self.inside in
    let v : StoreValue = record {
      processes = s.processes;
      pools = s.pools;
      tables = s.held.tables;
      names = s.held.names;
      doors = s.doors;
      calls = s.held.calls;
      notices = s.notices;
      events = s.events;
      latest = s.latest;
      opening = s.held.opening;
      left = s.held.left;
      short_room = s.short.spare;
      pipes = s.pipes;
      ports = s.ports.ports;
      assocs = s.ports.assocs;
      timers = s.ports.timers;
    } in
    store_timers_ended v c.end_timers-ended.new.ports c.args.closed.now (c.end_timers-ended.ensures.ended s.pipes.items)
    ∙ ap (λ (x : StoreValue). with_channels (stored_state x) (timers_ended (stored_state x).channels (closing_of c.args.closed.now))) c.self.view_is

pub end_timers-ended-requires : goal.end_timers-ended-requires
end_timers-ended-requires c = (c.requires.0, subst (λ (v : StoreValue). HasRoomToEnd c.args.ending.now c.requires.0 (length v.timers.list.timers)) (sym c.self.view_is) c.requires.1)
