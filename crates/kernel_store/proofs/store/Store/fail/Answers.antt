use Rattle.kernel_store.proofs.Knowing.{knows_changed, turned_still}
use Rattle.std.proofs.Common.{◌≡◌, true, ap, le_refl, refl, subst, ◌∙◌}
use Rattle.server_pool.specs.Words.{change_pool, unpark_in}
use Rattle.kernel_store.proofs.FailedHere.{agrees_failed_here, left_here, state_failed}
use Rattle.spec_records.specs.declared.record.ThreadState.TheVariants as is
use Rattle.spec_records.specs.Words.{is_idle, thread_at_state, unbind_thread}
use Rattle.spec_kernel.specs.Words.{has_lost_door}
use Rattle.law_calls.proofs.Backing.{idle_turns}
use Rattle.kernel_store.specs.contracts.store.Store.{the_view}
use Rattle.kernel_store.specs.Failing.{FailsOn}
use Rattle.kernel_store.specs.Stored.{StoreValue, stored_state}
use Rattle.kernel_store.proofs.Acts.{lost_idle, state_is}
use Rattle.kernel_store.proofs.FailingParts.{fails_on, gone_here}
use Rattle.kernel_store.proofs.Short.{room_bound, room_changed}
use Rattle.kernel_store.proofs.Waits.{turned_gets_not, waits_changed}
use Rattle.kernel_store.proofs.store.Store.fail.Goals as goal

pub invariant_of-self : goal.invariant_of-self
invariant_of-self c = (
  agrees_failed_here c.self.invariant.0 c.self.view_is c.args.t.0 c.own_pool-pool.result c.own_pool-pool.ensures
      c.requires c.fail.new.self c.unpark.new.self c.drop_binding.new.self c.fail.ensures
      c.unpark.ensures.pool c.drop_binding.ensures,
  c.self.invariant.1,
  rw c.fail.ensures
      (idle_turns c.self.inside.processes c.self.inside.held.calls.tree c.self.invariant.0.calls c.self.invariant.2 c.args.t.0
      (ap is_idle (state_is c.self.invariant.0 c.self.view_is c.args.t.0) ∙ lost_idle _ _ c.requires) (thread_at_state is.FailedReturn)),
  rw c.fail.ensures (knows_changed c.self.inside.processes c.args.t.0 (thread_at_state is.FailedReturn) (turned_still is.FailedReturn (λ path e. absurd cc)) c.self.invariant.3),
  rw (c.drop_binding.ensures, c.unpark.ensures.pool)
      (room_bound c.self.inside.short.items (change_pool c.self.inside.pools c.own_pool-pool.result (unpark_in c.args.t.0))
      (room_changed c.self.inside.short.items c.self.inside.pools c.self.invariant.4 c.own_pool-pool.result (unpark_in c.args.t.0) (λ x. le_refl x.item_room))
      (unbind_thread c.self.inside.pools.bindings c.args.t.0)),
  rw c.fail.ensures (waits_changed c.self.inside.processes c.args.t.0 (thread_at_state is.FailedReturn) (turned_gets_not is.FailedReturn refl) c.self.invariant.5),
)

pub returns-clause-failed : goal.returns-clause-failed
returns-clause-failed c =
    let s = the_view c.self.inside in
    let after : StoreValue = record s { processes = c.fail.new.self; pools = c.drop_binding.new.self } in
    let lost : has_lost_door (stored_state s) c.args.t.0 ≡ true = ap (λ (v : StoreValue). has_lost_door (stored_state v) c.args.t.0) c.self.view_is ∙ c.requires in
    let left = left_here s c.args.t.0 c.own_pool-pool.result c.unpark.new.self c.drop_binding.new.self c.unpark.ensures.pool c.drop_binding.ensures in
    subst (λ (v : StoreValue). FailsOn v after) c.self.view_is
    (fails_on s after c.own_pool-pool.result c.args.t.0 lost (state_failed s c.args.t.0 c.own_pool-pool.result c.fail.new.self c.drop_binding.new.self c.fail.ensures left)
    (unbind_thread s.pools.bindings c.args.t.0) left refl)

pub returns-clause-gone : goal.returns-clause-gone
returns-clause-gone c =
    let s = the_view c.self.inside in
    let after : StoreValue = record s { processes = c.fail.new.self; pools = c.drop_binding.new.self } in
    let lost : has_lost_door (stored_state s) c.args.t.0 ≡ true = ap (λ (v : StoreValue). has_lost_door (stored_state v) c.args.t.0) c.self.view_is ∙ c.requires in
    let left = left_here s c.args.t.0 c.own_pool-pool.result c.unpark.new.self c.drop_binding.new.self c.unpark.ensures.pool c.drop_binding.ensures in
    gone_here s after c.own_pool-pool.result c.args.t.0 lost (state_failed s c.args.t.0 c.own_pool-pool.result c.fail.new.self c.drop_binding.new.self c.fail.ensures left)
    (unbind_thread s.pools.bindings c.args.t.0) left refl
