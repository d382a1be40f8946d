use Rattle.std.proofs.Common.{◌≡◌, filter, sym, subst, ap, ap₂, ◌∙◌}
use Rattle.spec_records.specs.Words.{ProcessTable, begin_process, is_dormant, process_in, state_in}
use Rattle.spec_kernel.specs.Leaving.{bindings_after_fork}
use Rattle.spec_kernel.specs.Words.{State}
use Rattle.server_pool.specs.Words.{PoolsValue, change_at_number, change_spares, item_room_in, queue_in, stack_in}
use Rattle.fork_step.specs.Forking.{bindings_of_child}
use Rattle.law_calls.proofs.Beginning.{backed_begin}
use Rattle.kernel_store.specs.Forking.{AreDormant, stays_spare}
use Rattle.kernel_store.specs.Stored.{StoreValue, stored_state}
use Rattle.kernel_store.proofs.Forking.{agrees_begun, agrees_child_bound, child_bindings, first_calm, knows_begun, nowhere_first, waits_begun}
use Rattle.kernel_store.proofs.Short.{room_bound, room_spares}
use Rattle.kernel_store.proofs.store.Store.begin.Goals as goal

pub fork_binding-requires : goal.fork_binding-requires
fork_binding-requires c =
    let dormant = subst (λ (v : StoreValue). AreDormant c.args.child.0 (stored_state v)) (sym c.self.view_is) c.requires in
    nowhere_first c.self.invariant.0 c.first_thread-first.result (first_calm c.self.inside.processes c.args.child.0 c.first_thread-first.result c.first_thread-first.ensures dormant)

pub invariant_of-self : goal.invariant_of-self
invariant_of-self c =
    let s = c.self.inside in
    let table = s.processes in
    let child = c.args.child.0 in
    let first = c.first_thread-first.result in
    let dormant = subst (λ (v : StoreValue). AreDormant child (stored_state v)) (sym c.self.view_is) c.requires in
    let bindings = bindings_of_child s.pools.bindings c.args.t.0 first in
    let left : c.withdraw_firsts.new.pools ≡ change_spares (record s.pools { bindings = bindings }) child (filter (stays_spare table child)) =
    c.withdraw_firsts.ensures ∙ ap (λ (w : PoolsValue). change_spares w child (filter (stays_spare table child))) c.fork_binding.ensures in
    let bound = agrees_child_bound c.self.invariant.0 c.args.t.0 first (first_calm table child first c.first_thread-first.ensures dormant) in
    rw (c.begin.ensures, left) (
      agrees_begun bound child dormant,
      c.self.invariant.1,
      backed_begin table child (λ t x e own. ap (λ o. is_dormant (state_in o)) (sym e) ∙ dormant t (ap process_in e ∙ own)) s.held.calls.tree.calls c.self.invariant.2,
      knows_begun table child c.self.invariant.3,
      room_spares s.short.items (record s.pools { bindings = bindings }) (room_bound s.short.items s.pools c.self.invariant.4 bindings) (change_at_number s.pools.spares child (filter (stays_spare table child))),
      waits_begun table child c.self.invariant.5,
    )

pub returns-clause-state : goal.returns-clause-state
returns-clause-state c =
    let s = c.self.inside in
    let table = s.processes in
    let child = c.args.child.0 in
    let t = c.args.t.0 in
    let first = c.first_thread-first.result in
    let m : State =
    record {
      process_table = table;
      bindings = s.pools.bindings;
      tables = s.held.tables;
      names = s.held.names.names;
      doors = s.doors.items;
      call_tree = s.held.calls.tree;
      notice_list = s.notices.list;
      channels = record { pipes = s.pipes.items; ports = s.ports.ports.ports; associations = s.ports.assocs.list; timers = s.ports.timers.list };
      events = s.events;
    } in
    let bound : c.withdraw_firsts.new.pools.bindings ≡ bindings_after_fork m t child =
    ap (λ (w : PoolsValue). w.bindings) c.withdraw_firsts.ensures ∙ ap (λ (w : PoolsValue). w.bindings) c.fork_binding.ensures
    ∙ child_bindings table child t s.pools.bindings first c.first_thread-first.ensures in
    ap₂ (λ (u : ProcessTable) bs. record m { process_table = u; bindings = bs }) c.begin.ensures bound
    ∙ ap (λ (v : StoreValue). record (stored_state v) { process_table = begin_process v.processes child; bindings = bindings_after_fork (stored_state v) t child }) c.self.view_is

pub returns-clause-pools : goal.returns-clause-pools
returns-clause-pools c =
    let s = c.self.inside in
    let child = c.args.child.0 in
    let keep = filter (stays_spare s.processes child) in
    let left : c.withdraw_firsts.new.pools ≡ change_spares (record s.pools { bindings = bindings_of_child s.pools.bindings c.args.t.0 c.first_thread-first.result }) child keep =
    c.withdraw_firsts.ensures ∙ ap (λ (w : PoolsValue). change_spares w child keep) c.fork_binding.ensures in
    record {
      stacks = λ pool. ap (λ (w : PoolsValue). stack_in w pool) left ∙ ap (λ (v : StoreValue). stack_in v.pools pool) c.self.view_is;
      queues = λ pool. ap (λ (w : PoolsValue). queue_in w pool) left ∙ ap (λ (v : StoreValue). queue_in v.pools pool) c.self.view_is;
      items = λ pool. ap (λ (w : PoolsValue). item_room_in w pool) left ∙ ap (λ (v : StoreValue). item_room_in v.pools pool) c.self.view_is;
      latest = ap (λ (v : StoreValue). v.latest) c.self.view_is;
      opening = ap (λ (v : StoreValue). v.opening) c.self.view_is;
      left = ap (λ (v : StoreValue). v.left) c.self.view_is;
      notice_room = ap (λ (v : StoreValue). v.notices.spare) c.self.view_is;
      short_room = ap (λ (v : StoreValue). v.short_room) c.self.view_is;
    }
