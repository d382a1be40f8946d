use Rattle.kernel_store.proofs.Knowing.{idle_still, knows_changed}
use Rattle.std.proofs.Common.{◌+◌, ap, refl, rules, ◌∙◌}
use Rattle.spec_records.specs.Words.{is_done, is_dormant, is_idle, idle_thread, tid}
use Rattle.exit_paths.specs.Words.{own_pool_in}
use Rattle.law_calls.proofs.Backing.{failed_turns, some_call}
use Rattle.law_pools.proofs.Queues.{agrees_fail}
use Rattle.kernel_store.specs.Stored.{stored_state}
use Rattle.kernel_store.proofs.LostDoor.{given_not_lost}
use Rattle.kernel_store.proofs.Parking.{can_park, parked_here, parked_keeps, parked_queues}
use Rattle.kernel_store.proofs.Acts.{state_is}
use Rattle.kernel_store.proofs.There.{there_fewer}
use Rattle.kernel_store.proofs.Short.{parked_room}
use Rattle.kernel_store.proofs.Waits.{idle_gets_not, others_kept, waits_changed}
use Rattle.std.specs.List.{list_any}
use Rattle.kernel_store.specs.Turning.{is_port}
use Rattle.kernel_store.proofs.store.Store.fail_call.Goals as goal

pub park-requires : goal.park-requires
park-requires c = can_park c.self.invariant.0 c.self.view_is c.args.t.0 c.requires.can_act (ap is_done c.requires.given) (given_not_lost (stored_state c.args.self.now) c.args.c c.args.t.0 c.requires.can_act.placed c.requires.there)

pub invariant_of-self : goal.invariant_of-self
invariant_of-self c =
    let given = c.requires.given in
    let x = some_call _ (rw (← c.self.view_is) at c.requires.there) in
    rw (c.fail_call-objects.ensures.same, c.fail_call-objects.ensures.calls, c.park.ensures.thread, c.park.ensures.pools) (
      agrees_fail (parked_here c.self.invariant.0 c.self.view_is c.args.t.0 c.requires.can_act (ap is_done given) (given_not_lost (stored_state c.args.self.now) c.args.c c.args.t.0 c.requires.can_act.placed c.requires.there) (ap is_idle given) (ap is_dormant given)) c.args.c c.args.t.0,
      rw (c.fail_call-objects.ensures.same, c.fail_call-objects.ensures.calls) at (there_fewer c.self.inside.doors.items c.self.inside.held c.fail_call-objects.new.self c.self.invariant.1 c.fail_call-objects.ensures.references),
      failed_turns c.self.inside.processes c.self.inside.held.calls.tree c.self.invariant.0.calls c.self.invariant.2 c.args.c c.args.t.0
          (state_is c.self.invariant.0 c.self.view_is c.args.t.0 ∙ given) x.0 x.1 (idle_thread (c.self.inside.events + 1)),
      knows_changed c.self.inside.processes c.args.t.0 _ (idle_still _) c.self.invariant.3,
      parked_room c.self.inside.short.items c.self.inside.pools c.self.invariant.4 (own_pool_in c.self.inside.processes c.self.inside.pools.bindings c.args.t.0)
          (record { thread = tid c.args.t.0; pool = own_pool_in c.self.inside.processes c.self.inside.pools.bindings c.args.t.0; since = c.self.inside.events + 1 }),
      rw (c.fail_call-objects.ensures.same, c.fail_call-objects.ensures.calls, c.park.ensures.thread) at (c.note_references.ensures c.self.inside.held (others_kept c.self.inside.held c.fail_call-objects.new.self c.fail_call-objects.result c.has_port.result (c.has_port.ensures ∙ ap (list_any is_port) c.slice.ensures) c.fail_call-objects.ensures.others)
          (rw c.park.ensures.thread (waits_changed c.self.inside.processes c.args.t.0 _ (idle_gets_not _) c.self.invariant.5))),
    )

pub returns-clause-keeps : goal.returns-clause-keeps
returns-clause-keeps c =
    parked_keeps c.self.invariant.0 c.self.view_is c.args.t.0 c.requires.can_act (ap is_done c.requires.given) (given_not_lost (stored_state c.args.self.now) c.args.c c.args.t.0 c.requires.can_act.placed c.requires.there) _ c.park.ensures.pools refl (search rules) (search rules) (search rules)

pub returns-clause-queues : goal.returns-clause-queues
returns-clause-queues c =
    parked_queues c.self.invariant.0 c.self.view_is c.args.t.0 c.requires.can_act (ap is_done c.requires.given) (given_not_lost (stored_state c.args.self.now) c.args.c c.args.t.0 c.requires.can_act.placed c.requires.there) _ c.park.ensures.pools
