use Rattle.kernel_store.proofs.Knowing.{idle_still, knows_changed}
use Rattle.std.proofs.Common.{subst, sym, ◌+◌, ap, refl, rules, ◌∙◌}
use Rattle.spec_records.specs.Words.{idle_thread, tid}
use Rattle.exit_paths.specs.Words.{own_pool_in}
use Rattle.spec_kernel.specs.Words.{is_running_state}
use Rattle.law_calls.proofs.Backing.{returned_turns}
use Rattle.law_pools.proofs.Noticing.{agrees_end_notice, list_is_kept}
use Rattle.law_pools.proofs.Queues.{agrees_return}
use Rattle.kernel_store.proofs.Acts.{running_not_done, running_not_dormant, running_not_idle, state_is}
use Rattle.kernel_store.proofs.LostDoor.{lost_not_valid}
use Rattle.kernel_store.proofs.Parking.{can_park, parked_here, parked_keeps, parked_queues}
use Rattle.unref_notice.specs.Words.{IsAllEntered}
use Rattle.kernel_store.specs.Held.{AreHeld}
use Rattle.kernel_store.specs.Stored.{StoreValue, stored_state}
use Rattle.kernel_store.proofs.HeldNotices.{entered_held}
use Rattle.kernel_store.proofs.There.{there_more}
use Rattle.kernel_store.proofs.Short.{parked_room}
use Rattle.kernel_store.proofs.Waits.{idle_gets_not, others_kept, waits_changed}
use Rattle.std.specs.List.{list_any}
use Rattle.kernel_store.specs.Turning.{is_port}
use Rattle.kernel_store.proofs.store.Store.return_call.Goals as goal

pub park-requires : goal.park-requires
park-requires c = can_park c.self.invariant.0 c.self.view_is c.args.t.0 c.requires.can_act (running_not_done _ c.requires.running) (lost_not_valid (stored_state c.args.self.now) c.args.t.0 c.requires.parks)

pub end_notice-requires-clause-entered : goal.end_notice-requires-clause-entered
end_notice-requires-clause-entered c =
    let s = c.self.inside in
    subst (λ o. IsAllEntered o c.args.t.0 s.notices.list.notices) (sym c.held_by-serves.ensures) (entered_held s.processes s.notices.list.notices c.args.t.0 (subst (λ (v : StoreValue). AreHeld (stored_state v)) (sym c.self.view_is) c.requires.held))

pub end_notice-requires-clause-kept : goal.end_notice-requires-clause-kept
end_notice-requires-clause-kept c = list_is_kept c.self.invariant.0

pub invariant_of-self : goal.invariant_of-self
invariant_of-self c =
    let s = c.self.inside in
    let ended = c.end_notice.ensures.list in
    let running = c.requires.running in
    rw (c.give_back.ensures.same, c.give_back.ensures.calls, ended, c.park.ensures.thread, c.park.ensures.pools) (
      agrees_end_notice
          (agrees_return
          (parked_here c.self.invariant.0 c.self.view_is c.args.t.0 c.requires.can_act (running_not_done _ running) (lost_not_valid (stored_state c.args.self.now) c.args.t.0 c.requires.parks) (running_not_idle _ running) (running_not_dormant _ running))
          c.args.t.0 c.args.bytes c.args.objects)
          c.args.t.0,
      rw (c.give_back.ensures.same, c.give_back.ensures.calls) at (there_more c.self.inside.doors.items c.self.inside.held c.give_back.new.self c.args.objects c.self.invariant.1 (rw (← c.self.view_is) at c.requires.there) c.give_back.ensures.references),
      returned_turns c.self.inside.processes c.self.inside.held.calls.tree c.self.invariant.0.calls c.self.invariant.2 c.args.t.0
          (ap is_running_state (state_is c.self.invariant.0 c.self.view_is c.args.t.0) ∙ running) c.args.bytes c.args.objects (idle_thread (c.self.inside.events + 1)),
      knows_changed c.self.inside.processes c.args.t.0 _ (idle_still _) c.self.invariant.3,
      parked_room c.self.inside.short.items c.self.inside.pools c.self.invariant.4 (own_pool_in c.self.inside.processes c.self.inside.pools.bindings c.args.t.0)
          (record { thread = tid c.args.t.0; pool = own_pool_in c.self.inside.processes c.self.inside.pools.bindings c.args.t.0; since = c.self.inside.events + 1 }),
      rw (c.give_back.ensures.same, c.give_back.ensures.calls, c.park.ensures.thread) at (c.note_references.ensures c.self.inside.held (others_kept c.self.inside.held c.give_back.new.self c.args.objects c.has_port-of_port.result (c.has_port-of_port.ensures ∙ ap (list_any is_port) c.slice.ensures) c.give_back.ensures.others)
          (rw c.park.ensures.thread (waits_changed c.self.inside.processes c.args.t.0 _ (idle_gets_not _) c.self.invariant.5))),
    )

pub returns-clause-keeps : goal.returns-clause-keeps
returns-clause-keeps c =
    parked_keeps c.self.invariant.0 c.self.view_is c.args.t.0 c.requires.can_act (running_not_done _ c.requires.running) (lost_not_valid (stored_state c.args.self.now) c.args.t.0 c.requires.parks) _ c.park.ensures.pools refl (search rules) (search rules) (search rules)

pub returns-clause-queues : goal.returns-clause-queues
returns-clause-queues c =
    parked_queues c.self.invariant.0 c.self.view_is c.args.t.0 c.requires.can_act (running_not_done _ c.requires.running) (lost_not_valid (stored_state c.args.self.now) c.args.t.0 c.requires.parks) _ c.park.ensures.pools

pub returns-clause-state : goal.returns-clause-state
returns-clause-state c =
    let s = c.self.inside in
    let ended = c.end_notice.ensures.list in
    search (rules, ended)
