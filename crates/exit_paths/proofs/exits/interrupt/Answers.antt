use Rattle.std.proofs.Common.{inl, ◌≡◌, ◌==◌, ◌&&◌, true, false, not, refl, ap, ap₂, ◌∙◌, subst}
use Rattle.std.specs.List.{list_any}
use Rattle.dk_base.specs.declared.object.Item.TheVariants as item
use Rattle.spec_records.specs.Words.{ProcessTable, change_thread, interrupted_thread, interruption, is_waiting_stage}
use Rattle.server_pool.specs.Words.{is_item}
use Rattle.exit_paths.specs.Words.{became_idle, became_ready, with_deserted}
use Rattle.exit_paths.proofs.CallersLeft.{and_false, caller_goes, interrupted_calls, or_false}
use Rattle.exit_paths.proofs.Exited.{exited, server_parks, server_parks_changed}
use Rattle.exit_paths.proofs.Fated.{agrees_interrupted}
use Rattle.exit_paths.proofs.OneLeaves.{interrupt_parks, interrupt_readies, interrupted_threads, told_one}
use Rattle.exit_paths.proofs.Untaken.{none_untaken}
use Rattle.exit_paths.proofs.exits.interrupt.Goals as goal

pub desert_server-requires : goal.desert_server-requires
desert_server-requires c =
    rw c.interrupt.ensures
    (server_parks_changed c.args.procs.now c.withdraw_caller.new.pools c.args.step c.args.t.0 interrupted_thread (λ x. refl) c.deserted_by-deserted.result
    (server_parks c.requires c.room_for_server.ensures.same c.withdraw_caller.ensures
    (caller_goes c.args.doors.now.items c.args.calls.now.tree c.requires.list.notices (interruption c.args.t.0) c.are_sound.ensures c.args.t.0
    (λ r. or_false (r.caller.0 == c.args.t.0)) (λ d. refl))
    c.args.t.0 c.deserted_by-deserted.result c.deserted_by-deserted.ensures c.in_ok-room_for_server.ensures.room))

pub returns-clause-left : goal.returns-clause-left
returns-clause-left c =
    let tree = c.args.calls.now.tree in
    let t = c.args.t.0 in
    let doors = c.args.doors.now.items in
    let table = c.args.procs.now in
    let after = c.desert_server.new.processes in
    let o = c.deserted_by-deserted.result in
    let moved : after ≡ with_deserted c.args.step o (change_thread table t interrupted_thread) =
    c.desert_server.ensures.thread ∙ ap (λ (x : ProcessTable). with_deserted c.args.step o x) c.interrupt.ensures in
    let calls = c.leave_call-dropped.ensures.tree ∙ interrupted_calls (c.parts_of_leaving.ensures tree c.are_sound.ensures) t in
    exited c.room_for_server.ensures.same c.room_for_server.ensures.kept c.withdraw_caller.ensures
    (λ list h. caller_goes doors tree list.notices (interruption t) c.are_sound.ensures t (λ r. or_false (r.caller.0 == t)) (λ d. refl))
    (moved ∙ ap (λ p. with_deserted c.args.step p (change_thread table t interrupted_thread)) c.deserted_by-deserted.ensures
    ∙ interrupted_threads c.are_sound.ensures table c.requires.placed.thread_number t c.args.step)
    (λ tree list h. c.desert_server.ensures.agreed doors tree list (rw c.interrupt.ensures (agrees_interrupted h t true))) c.desert_server.ensures.keeps
    c.are_sound.ensures
    calls c.leave_call-dropped.ensures.spare
    (inl (c.requires, c.are_few.ensures))
    (record { dropped = c.leave_call-dropped.result; parked = c.list_one.result; woken = c.list_one-2.result; untaken = c.new.result })
    c.leave_call-dropped.ensures.dropped
    (c.list_one.ensures
    ∙ told_one (became_idle table after) c.parked_of-server.result.0 c.has_turned-parks.result
    (c.has_turned-parks.ensures ∙ ap₂ (λ a b. not a && b) c.is_idle_thread-was_idle.ensures c.is_idle_thread.ensures)
    (λ k e.
    ap (λ (x : ProcessTable). became_idle table x k) moved
    ∙ interrupt_parks table c.args.step o t k (subst (λ u. (k == u) ≡ false) c.parked_of-server.ensures e)))
    (c.list_one-2.ensures
    ∙ told_one (became_ready tree c.leave_call-dropped.new.calls.tree) t c.has_turned-wakes.result
    (c.has_turned-wakes.ensures ∙ ap₂ (λ a b. not a && b) c.ready-was_ready.ensures c.ready.ensures)
    (λ k e. ap (λ x. became_ready tree x k) calls ∙ interrupt_readies c.are_sound.ensures t k e))
    (λ list h i n e. ap (list_any (is_item (item.Notice n.number))) c.new.ensures ∙ and_false (is_waiting_stage n.stage))
    (none_untaken (interruption t) doors c.args.pools.now (λ d. refl) c.new.result c.new.ensures)
