use Rattle.std.proofs.Common.{◌||◌, ap, subst, ◌∙◌}
use Rattle.std.specs.List.{list_any}
use Rattle.kernel_holdings.specs.Words.{has_lost_all}
use Rattle.spec_records.specs.Words.{is_object}
use Rattle.kernel_store.specs.Stored.{StoreValue, stored_state}
use Rattle.kernel_store.specs.Telling.{AreGone, HasOpened}
use Rattle.kernel_store.proofs.Naming.{gone_is}
use Rattle.kernel_store.proofs.store.Store.gone.Goals as goal

pub returns-clause-gone : goal.returns-clause-gone
returns-clause-gone c = λ m.
    let s = c.self.inside in
    let v : StoreValue = record {
      processes = s.processes;
      pools = s.pools;
      tables = s.held.tables;
      names = s.held.names;
      doors = s.doors;
      calls = s.held.calls;
      notices = s.notices;
      events = s.events;
      latest = s.latest;
      opening = s.held.opening;
      left = s.held.left;
      short_room = s.short.spare;
      pipes = s.pipes;
      ports = s.ports.ports;
      assocs = s.ports.assocs;
      timers = s.ports.timers;
    } in
    subst (λ (x : StoreValue). HasOpened x.opening m → AreGone m (stored_state x) c.gone.new.into.items) c.self.view_is
    (λ opened o.
    c.gone.ensures.members o
    ∙ ap (λ xs. list_any (is_object o) xs || has_lost_all s.held o) c.requires.none
    ∙ gone_is m (stored_state v) s.held.opening o (opened o))
