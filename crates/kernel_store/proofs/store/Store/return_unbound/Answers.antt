use Rattle.kernel_store.proofs.Knowing.{knows_changed, outside_still}
use Rattle.std.proofs.Common.{subst, sym, rules, None, refl, ap, ◌∙◌}
use Rattle.spec_records.specs.Words.{thread_outside, unbind_thread}
use Rattle.law_pools.proofs.Noticing.{agrees_end_notice, list_is_kept}
use Rattle.law_pools.proofs.Queues.{agrees_return}
use Rattle.law_pools.proofs.Unparking.{agrees_alike}
use Rattle.kernel_store.proofs.Acts.{fills, bound, given_out_bound, state_is}
use Rattle.spec_kernel.specs.Words.{is_running_state}
use Rattle.law_calls.proofs.Backing.{returned_turns}
use Rattle.unref_notice.specs.Words.{IsAllEntered}
use Rattle.kernel_store.specs.Held.{AreHeld}
use Rattle.kernel_store.specs.Stored.{StoreValue, stored_state}
use Rattle.kernel_store.proofs.HeldNotices.{entered_held}
use Rattle.kernel_store.proofs.There.{there_more}
use Rattle.kernel_store.proofs.Short.{room_bound}
use Rattle.kernel_store.proofs.Waits.{others_kept, outside_gets_so, waits_changed}
use Rattle.std.specs.List.{list_any}
use Rattle.kernel_store.specs.Turning.{is_port}
use Rattle.kernel_store.proofs.store.Store.return_unbound.Goals as goal

pub end_notice-requires-clause-entered : goal.end_notice-requires-clause-entered
end_notice-requires-clause-entered c =
    let s = c.self.inside in
    subst (λ o. IsAllEntered o c.args.t.0 s.notices.list.notices) (sym c.held_by-serves.ensures) (entered_held s.processes s.notices.list.notices c.args.t.0 (subst (λ (v : StoreValue). AreHeld (stored_state v)) (sym c.self.view_is) c.requires.held))

pub end_notice-requires-clause-kept : goal.end_notice-requires-clause-kept
end_notice-requires-clause-kept c = list_is_kept c.self.invariant.0

pub invariant_of-self : goal.invariant_of-self
invariant_of-self c =
    let s = c.self.inside in
    let ended = c.end_notice.ensures.list in
    rw c.give_back.ensures.same (
      rw c.end_invocation.ensures
          (rw c.give_back.ensures.calls
          (rw c.drop_binding.ensures
          (rw ended
          (agrees_end_notice
          (agrees_return
          (agrees_alike (bound c.self.invariant.0 c.self.view_is c.args.t.0 None c.requires.running) c.args.t.0 thread_outside (λ x b. refl) (λ x p. refl))
          c.args.t.0 c.args.bytes c.args.objects)
          c.args.t.0)))),
      rw c.give_back.ensures.same at (there_more c.self.inside.doors.items c.self.inside.held c.give_back.new.self c.args.objects c.self.invariant.1 (rw (← c.self.view_is) at c.requires.there) c.give_back.ensures.references),
      rw c.end_invocation.ensures
          (rw c.give_back.ensures.calls
          (returned_turns c.self.inside.processes c.self.inside.held.calls.tree c.self.invariant.0.calls c.self.invariant.2 c.args.t.0
          (ap is_running_state (state_is c.self.invariant.0 c.self.view_is c.args.t.0) ∙ c.requires.running) c.args.bytes c.args.objects thread_outside)),
      rw c.end_invocation.ensures (knows_changed c.self.inside.processes c.args.t.0 thread_outside outside_still c.self.invariant.3),
      rw c.drop_binding.ensures (room_bound c.self.inside.short.items c.self.inside.pools c.self.invariant.4 (unbind_thread c.self.inside.pools.bindings c.args.t.0)),
      rw c.give_back.ensures.same at (c.note_references.ensures c.self.inside.held (others_kept c.self.inside.held c.give_back.new.self c.args.objects c.has_port-of_port.result (c.has_port-of_port.ensures ∙ ap (list_any is_port) c.slice.ensures) c.give_back.ensures.others)
          (rw c.end_invocation.ensures (waits_changed c.self.inside.processes c.args.t.0 thread_outside outside_gets_so c.self.invariant.5))),
    )

pub returns-clause-keeps : goal.returns-clause-keeps
returns-clause-keeps c =
    fills
    (λ given. rw c.drop_binding.ensures
    (given_out_bound c.self.view_is (unbind_thread c.self.inside.pools.bindings c.args.t.0) given))
    (search rules) (search rules) (search rules) (search rules) (λ pool. search rules)

pub returns-clause-state : goal.returns-clause-state
returns-clause-state c =
    let s = c.self.inside in
    let ended = c.end_notice.ensures.list in
    search (rules, ended)
