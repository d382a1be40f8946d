use Rattle.kernel_store.proofs.Knowing.{knows_changed, turned_still}
use Rattle.std.proofs.Common.{◌≡◌, ◌<◌, ◌≤◌, ◌+◌, ℕ, false, ap, refl, sym, ◌∙◌, is_some, true, subst, arith, rules}
use Rattle.dk_base.specs.ByNumber.{at_number}
use Rattle.dk_base.specs.declared.limits.TheConstants.{QUEUE_MAX}
use Rattle.spec_records.specs.declared.record.ThreadState.TheVariants as is
use Rattle.spec_records.specs.Words.{ProcessTable, is_pool, open_call, pool_in, set_thread_state, waiting_call, thread_at_state}
use Rattle.spec_kernel.specs.Types.{Call, Pool}
use Rattle.spec_kernel.specs.Words.{calls_waiting, is_running_state, is_valid, pool_of}
use Rattle.call_tree.specs.Words.{queued_call}
use Rattle.law_calls.proofs.Backing.{call_opened, running_there, running_waits_not}
use Rattle.law_calls.proofs.Free.{is_thread}
use Rattle.server_pool.specs.Words.{PoolsValue, count_calls, enqueue_in, item_room_in, pool_at, queue_in}
use Rattle.law_pools.specs.Words.{Agrees, IsGivenOutIn}
use Rattle.law_pools.proofs.Queues.{agrees_open, queue_length_agrees}
use Rattle.law_pools.proofs.Stacks.{agrees_turn}
use Rattle.kernel_store.specs.Stored.{ArePlaced, HasRoom, StoreValue, stored_state}
use Rattle.kernel_store.proofs.Acts.{running_not_dormant, running_not_idle, state_is}
use Rattle.kernel_store.proofs.ItemRoom.{room_enqueued}
use Rattle.kernel_store.proofs.Made.{given_out_elsewhere, not_too_many, served_there}
use Rattle.kernel_store.proofs.There.{there_more}
use Rattle.kernel_store.proofs.Short.{room_filled}
use Rattle.kernel_store.proofs.Waits.{others_kept, turned_gets_not, waits_changed}
use Rattle.std.specs.List.{list_any}
use Rattle.kernel_store.specs.Turning.{is_port}
use Rattle.kernel_store.proofs.store.Store.open_call.Goals as goal

pub open_call-call-requires-clause-thread : goal.open_call-call-requires-clause-thread
open_call-call-requires-clause-thread c =
    let running = ap is_running_state (state_is c.self.invariant.0 c.self.view_is c.args.t.0) ∙ c.requires.running in
    is_thread c.self.inside.processes c.args.t.0 (running_there _ running) c.thread_count-threads.ensures.few

pub open_call-call-requires-clause-waits_not : goal.open_call-call-requires-clause-waits_not
open_call-call-requires-clause-waits_not c =
    let running = ap is_running_state (state_is c.self.invariant.0 c.self.view_is c.args.t.0) ∙ c.requires.running in
    running_waits_not c.self.inside.processes c.self.inside.held.calls.tree c.self.invariant.0.calls c.self.invariant.2 c.args.t.0 running

pub enqueue_fitting-requires-clause-room : goal.enqueue_fitting-requires-clause-room
enqueue_fitting-requires-clause-room c =
    let room = subst (λ (s : StoreValue). HasRoom s (pool_of (stored_state s) c.args.door)) (sym c.self.view_is) c.requires.can_act.room in
    let door = subst (λ (s : StoreValue). is_valid (stored_state s) c.args.door ≡ true) (sym c.self.view_is) c.requires.door in
    let placed = subst (λ (s : StoreValue). ArePlaced (stored_state s)) (sym c.self.view_is) c.requires.can_act.placed in
    subst (λ pool. 0 < item_room_in c.self.inside.pools pool) (sym c.pool_of-pool.ensures)
    (room.items (served_there c.self.invariant.0 placed c.args.door door))

pub enqueue_fitting-requires-clause-few : goal.enqueue_fitting-requires-clause-few
enqueue_fitting-requires-clause-few c =
    let v : PoolsValue = c.self.inside.pools in
    let pool : Pool = c.pool_of-pool.result in
    let few =
    subst (λ (s : StoreValue). calls_waiting (stored_state s) (pool_of (stored_state s) c.args.door) < QUEUE_MAX) (sym c.self.view_is) c.requires.few in
    let fewer : count_calls (queue_in v pool) < QUEUE_MAX =
    subst (λ (k : ℕ). k < QUEUE_MAX)
    (queue_length_agrees c.self.invariant.0 (pool_in (at_number c.self.inside.doors.items c.args.door))
    ∙ ap (λ pool. count_calls (queue_in v pool)) (sym c.pool_of-pool.ensures)) few in
    not_too_many true (count_calls (queue_in v pool)) fewer

abbrev opened : goal.After-turn → Call
opened c =
    queued_call c.open_call-call.result (c.self.inside.events + 1) c.args.t.0 c.args.door c.args.args.bytes c.args.args.objects c.args.rsize c.args.no_cancel

pub invariant_of-self : goal.invariant_of-self
invariant_of-self c =
    let v : PoolsValue = c.self.inside.pools in
    let pool : Pool = c.pool_of-pool.result in
    let s = c.self.inside in
    let tree = s.held.calls.tree in
    let r = opened c in
    let door = subst (λ (s : StoreValue). is_valid (stored_state s) c.args.door ≡ true) (sym c.self.view_is) c.requires.door in
    let placed = subst (λ (s : StoreValue). ArePlaced (stored_state s)) (sym c.self.view_is) c.requires.can_act.placed in
    let there : is_some (pool_at v pool) ≡ true =
    ap (λ pool. is_some (pool_at v pool)) c.pool_of-pool.ensures ∙ served_there c.self.invariant.0 placed c.args.door door in
    let first : s.latest ≤ s.events = subst (λ (v : StoreValue). v.latest ≤ v.events) (sym c.self.view_is) c.requires.can_act.latest in
    let later : s.latest < s.events + 1 = omega (arith, first) in
    let table : ProcessTable = set_thread_state s.processes c.args.t.0 (is.Calling c.open_call-call.result) in
    let running = ap is_running_state (state_is c.self.invariant.0 c.self.view_is c.args.t.0) ∙ c.requires.running in
    rw (c.open_call-call.ensures.same, c.turn.ensures) (
      subst (λ tree. Agrees (s.events + 1) table s.doors.items tree s.notices.list c.enqueue_fitting.new.self)
          (sym c.open_call-call.ensures.calls)
          (subst
          (Agrees (s.events + 1) table s.doors.items (open_call tree r) s.notices.list)
          (sym c.enqueue_fitting.ensures)
          (agrees_turn (agrees_open c.self.invariant.0 r pool c.open_call-call.ensures.number later refl c.pool_of-pool.ensures there) c.args.t.0
          (is.Calling c.open_call-call.result) (running_not_idle _ running) (running_not_dormant _ running) refl refl)),
      rw c.open_call-call.ensures.same at (there_more s.doors.items s.held c.open_call-call.new.self c.args.args.objects c.self.invariant.1 (rw (← c.self.view_is) at c.requires.there) c.open_call-call.ensures.references),
      rw c.open_call-call.ensures.calls
          (call_opened s.processes tree c.self.invariant.0.calls c.self.invariant.2 c.args.t.0 r running refl refl refl),
      knows_changed s.processes c.args.t.0 (thread_at_state (is.Calling c.open_call-call.result)) (turned_still (is.Calling c.open_call-call.result) (λ path e. absurd cc)) c.self.invariant.3,
      rw (c.push.ensures.items, c.enqueue_fitting.ensures) (room_filled c.self.inside.short.items c.self.inside.pools c.self.invariant.4 pool (waiting_call r)),
      waits_changed s.processes c.args.t.0 (thread_at_state (is.Calling c.open_call-call.result)) (turned_gets_not (is.Calling c.open_call-call.result) refl)
          (rw c.open_call-call.ensures.same at (c.note_references.ensures s.held (others_kept s.held c.open_call-call.new.self c.args.args.objects c.has_port-of_port.result (c.has_port-of_port.ensures ∙ ap (list_any is_port) c.slice.ensures) c.open_call-call.ensures.others) c.self.invariant.5)),
    )

pub returns-clause-keeps : goal.returns-clause-keeps
returns-clause-keeps c = record {
  kept = record {
    latest = search rules;
    opening = search rules;
    notice_room = search rules;
    short_room = search rules;
    items = λ q.
        let v : PoolsValue = c.self.inside.pools in
        let pool : Pool = c.pool_of-pool.result in
        subst (λ (s : StoreValue). item_room_in s.pools q ≤ item_room_in c.enqueue_fitting.new.self q + 1) c.self.view_is
        (subst (λ (w : PoolsValue). item_room_in v q ≤ item_room_in w q + 1) (sym c.enqueue_fitting.ensures) (room_enqueued v pool (waiting_call (opened c)) q));
  };
  given_out = λ h q e.
      let v : PoolsValue = c.self.inside.pools in
      let pool : Pool = c.pool_of-pool.result in
      let other : is_pool pool q ≡ false =
      ap (λ pool. is_pool pool q) c.pool_of-pool.ensures
      ∙ subst (λ (s : StoreValue). is_pool (pool_of (stored_state s) c.args.door) q ≡ false) (sym c.self.view_is) e in
      let before : IsGivenOutIn v q = subst (λ (s : StoreValue). IsGivenOutIn s.pools q) (sym c.self.view_is) (h q) in
      subst (λ (v : PoolsValue). IsGivenOutIn v q) (sym c.enqueue_fitting.ensures)
      (given_out_elsewhere v pool q (enqueue_in (waiting_call (opened c))) other before);
}
