use Rattle.std.proofs.Common.{◌≡◌, ℕ, [], ap, length, subst, sym, ◌∙◌, arith}
use Rattle.std.proofs.lemmas.Bool.Decides.{nat_tests}
use Rattle.port_assoc.specs.Words.{AssocsValue}
use Rattle.law_channels.specs.Ended.{empty_rows, ended_by}
use Rattle.spec_kernel.specs.Words.{Channels, with_channels}
use Rattle.kernel_ports.specs.Words.{HasRoomToEnd}
use Rattle.kernel_store.specs.Stored.{StoreValue, stored_state}
use Rattle.kernel_store.specs.Telling.{channels_in, closing_of}
use Rattle.kernel_store.proofs.PortsTold.{store_ended}
use Rattle.kernel_store.proofs.Unended.{count, none_ended}
use Rattle.kernel_store.proofs.store.Store.end_closed.Goals as goal

pub invariant_of-self : goal.invariant_of-self
invariant_of-self c = (
  c.self.invariant.0,
  c.self.invariant.1,
  c.self.invariant.2,
  c.self.invariant.3,
  c.self.invariant.4,
  c.note_told.ensures c.self.inside.ports.ports.ports (λ none. ap (λ (k : Channels). k.ports) (unchanged (grind (arith, nat_tests, none)))) c.self.invariant.5,
)
  where
    held : AssocsValue → ℕ
    held v = length v.list.associations

    unchanged : c.len.result ≡ c.len-before.result → channels_in [] c.end_closed.new.ports ≡ channels_in [] c.self.inside.ports
    unchanged same =
        let as_many = ap held (sym c.assocs-2.ensures) ∙ sym c.len.ensures.len ∙ same ∙ c.len-before.ensures.len ∙ ap held c.assocs.ensures in
        c.end_closed.ensures.ended []
        ∙ none_ended c.self.inside.held.tables (channels_in [] c.self.inside.ports) c.args.closed.now (ap count (sym (c.end_closed.ensures.ended [])) ∙ as_many)

pub returns-clause-state : goal.returns-clause-state
returns-clause-state c =
    let s = c.self.inside in
    let v : StoreValue = record {
      processes = s.processes;
      pools = s.pools;
      tables = s.held.tables;
      names = s.held.names;
      doors = s.doors;
      calls = s.held.calls;
      notices = s.notices;
      events = s.events;
      latest = s.latest;
      opening = s.held.opening;
      left = s.held.left;
      short_room = s.short.spare;
      pipes = s.pipes;
      ports = s.ports.ports;
      assocs = s.ports.assocs;
      timers = s.ports.timers;
    } in
    store_ended v c.end_closed.new.ports c.args.closed.now (c.end_closed.ensures.ended s.pipes.items)
    ∙ ap (λ (x : StoreValue). with_channels (stored_state x) (ended_by (stored_state x).channels (empty_rows (stored_state x) (closing_of c.args.closed.now)))) c.self.view_is

pub end_closed-requires : goal.end_closed-requires
end_closed-requires c = (c.requires.0, subst (λ (v : StoreValue). HasRoomToEnd c.args.ending.now (length v.assocs.list.associations) c.requires.0) (sym c.self.view_is) c.requires.1)
