use Rattle.std.proofs.Common.{inl, ◌≡◌, ◌==◌, ◌&&◌, false, not, refl, sym, ap, ap₂, ◌∙◌, subst, le_trans}
use Rattle.std.specs.List.{list_any}
use Rattle.dk_base.specs.declared.object.Item.TheVariants as item
use Rattle.spec_records.specs.Words.{ProcessTable, end_thread, thread_end, is_waiting_stage}
use Rattle.server_pool.specs.Words.{is_item}
use Rattle.exit_paths.specs.Words.{DropsTransit, became_idle, became_ready, with_deserted}
use Rattle.exit_paths.proofs.CallersLeft.{and_false, caller_goes, ended_calls, or_false}
use Rattle.exit_paths.proofs.Exited.{exited, server_parks}
use Rattle.exit_paths.proofs.Fated.{keeps_then}
use Rattle.exit_paths.proofs.OneLeaves.{end_parks, end_readies, ended_threads, told_one}
use Rattle.exit_paths.proofs.Transit.{drops_nothing}
use Rattle.call_tree.specs.Words.{lose_server}
use Rattle.exit_paths.proofs.Untaken.{none_untaken}
use Rattle.exit_paths.proofs.exits.thread_exit.Goals as goal

pub desert_server-requires : goal.desert_server-requires
desert_server-requires c =
    server_parks c.requires.can c.room_for_server.ensures.same c.withdraw_caller.ensures
    (caller_goes c.args.doors.now.items c.args.calls.now.tree c.requires.can.list.notices (thread_end c.args.t.0) c.are_sound.ensures c.args.t.0
    (λ r. or_false (r.caller.0 == c.args.t.0)) (λ d. refl))
    c.args.t.0 c.deserted_by-deserted.result c.deserted_by-deserted.ensures c.in_ok-room_for_server.ensures.room

pub returns-clause-left : goal.returns-clause-left
returns-clause-left c =
    let tree = c.args.calls.now.tree in
    let t = c.args.t.0 in
    let doors = c.args.doors.now.items in
    let table = c.args.procs.now in
    let after = c.end_thread.new.processes in
    let o = c.deserted_by-deserted.result in
    let moved : after ≡ end_thread (with_deserted c.args.step o table) t = c.end_thread.ensures.thread ∙ ap (λ (x : ProcessTable). end_thread x t) c.desert_server.ensures.thread in
    let calls =
    c.end_server.ensures.tree ∙ ap (λ x. lose_server x t) c.end_caller.ensures.tree ∙ ended_calls (c.parts_of_leaving.ensures tree c.are_sound.ensures) t in
    exited c.room_for_server.ensures.same c.room_for_server.ensures.kept c.withdraw_caller.ensures
    (λ list h. caller_goes doors tree list.notices (thread_end t) c.are_sound.ensures t (λ r. or_false (r.caller.0 == t)) (λ d. refl))
    (moved ∙ ap (λ p. end_thread (with_deserted c.args.step p table) t) c.deserted_by-deserted.ensures
    ∙ ended_threads c.are_sound.ensures table c.requires.can.placed.thread_number t c.args.step)
    (λ tree list h. c.end_thread.ensures.agreed c.args.step doors tree list (c.desert_server.ensures.agreed doors tree list h))
    (keeps_then c.withdraw_caller.new.pools c.desert_server.new.pools c.end_thread.new.pools c.desert_server.ensures.keeps c.end_thread.ensures.keeps)
    c.are_sound.ensures
    calls (le_trans c.end_caller.ensures.spare c.end_server.ensures.spare)
    (inl (c.requires.can, c.are_few.ensures))
    (record { dropped = c.into_list.result; parked = c.list_one.result; woken = c.list_one-2.result; untaken = c.new.result })
    (subst (DropsTransit tree.calls c.end_server.new.calls.tree.calls) (sym c.into_list.ensures)
    (c.end_server.ensures.dropped tree.calls (c.end_caller.ensures.dropped tree.calls (subst (DropsTransit tree.calls tree.calls) (sym c.in_ok-dropped.ensures.empty) (drops_nothing tree.calls)))))
    (c.list_one.ensures
    ∙ told_one (became_idle table after) c.parked_of-server.result.0 c.has_turned-parks.result
    (c.has_turned-parks.ensures ∙ ap₂ (λ a b. not a && b) c.is_idle_thread-was_idle.ensures c.is_idle_thread.ensures)
    (λ k e.
    ap (λ (x : ProcessTable). became_idle table x k) moved
    ∙ end_parks table c.args.step o t k (subst (λ u. (k == u) ≡ false) c.parked_of-server.ensures e)))
    (c.list_one-2.ensures
    ∙ told_one (became_ready tree c.end_server.new.calls.tree) c.woken_of-client.result.0 c.has_turned-wakes.result
    (c.has_turned-wakes.ensures ∙ ap₂ (λ a b. not a && b) c.ready-was_ready.ensures c.ready.ensures)
    (λ k e. ap (λ x. became_ready tree x k) calls ∙ end_readies c.are_sound.ensures t k (subst (λ u. (k == u) ≡ false) c.woken_of-client.ensures e)))
    (λ list h i n e. ap (list_any (is_item (item.Notice n.number))) c.new.ensures ∙ and_false (is_waiting_stage n.stage))
    (none_untaken (thread_end t) doors c.args.pools.now (λ d. refl) c.new.result c.new.ensures)
