use Rattle.std.proofs.Common.{inl, ◌≡◌, ◌++◌, length, map, refl, sym, ap, ◌∙◌, subst₂, arith}
use Rattle.std.proofs.lemmas.List.{length-map}
use Rattle.std.specs.List.{list_any}
use Rattle.dk_base.specs.declared.limits.TheConstants.{THREADS_MAX}
use Rattle.dk_base.specs.declared.object.Item.TheVariants as item
use Rattle.spec_records.specs.Words.{CallTree, forking, is_waiting_stage, numbers_where, tid}
use Rattle.server_pool.specs.Words.{is_item}
use Rattle.fork_step.specs.Forking.{abandon_each, dropped_by_each}
use Rattle.dk_base.specs.ThreadSets.{members}
use Rattle.dk_base.specs.Words.{has}
use Rattle.exit_paths.specs.Words.{DropsTransit, has_ready, is_idle_at}
use Rattle.exit_paths.proofs.CallersLeft.{and_false}
use Rattle.exit_paths.proofs.Exited.{earlier_there, exited, room_there, somehow}
use Rattle.exit_paths.proofs.ForkLeft.{callers_go, each_drops, forked_calls, stays_forked}
use Rattle.exit_paths.proofs.Untaken.{none_untaken}
use Rattle.exit_paths.proofs.Walked.{few_members, members_are}
use Rattle.exit_paths.proofs.exits.fork_exit.Goals as goal

pub list-requires : goal.list-requires
list-requires c = omega (arith, few_members c.fellow_callers-callers.result, c.in_ok-those.ensures.spare)

pub leave_threads-requires-clause-agreed : goal.leave_threads-requires-clause-agreed
leave_threads-requires-clause-agreed c =
    somehow c.requires.can c.make_room.ensures.same c.withdraw_callers.ensures
    (callers_go c.args.doors.now.items c.args.calls.now.tree c.requires.can.list.notices c.are_sound.ensures c.args.procs.now c.args.t.0
    (has c.fellow_callers-callers.result) c.fellow_callers-callers.ensures)

pub leave_threads-requires-clause-room : goal.leave_threads-requires-clause-room
leave_threads-requires-clause-room c = λ u here given.
    room_there c.requires.can c.make_room.ensures.same c.withdraw_callers.ensures
    (callers_go c.args.doors.now.items c.args.calls.now.tree c.requires.can.list.notices c.are_sound.ensures c.args.procs.now c.args.t.0
    (has c.fellow_callers-callers.result) c.fellow_callers-callers.ensures) u
    (c.in_ok-make_room.ensures.room u here) (c.servers_of-touched.ensures.there u here) given

pub leave_threads-requires-clause-others : goal.leave_threads-requires-clause-others
leave_threads-requires-clause-others c = λ doors u x other there.
    stays_forked c.servers_of-touched.result c.args.procs.now c.args.calls.now.tree c.are_sound.ensures c.args.t.0
    (λ k e. c.servers_of-touched.ensures.servers k (c.fellow_callers-callers.ensures k ∙ e)) c.args.step u x (c.requires.can.placed.thread_number u x there) other there

pub leave_threads-requires-clause-earlier : goal.leave_threads-requires-clause-earlier
leave_threads-requires-clause-earlier c =
    earlier_there c.requires.can c.make_room.ensures.same c.withdraw_callers.ensures
    (callers_go c.args.doors.now.items c.args.calls.now.tree c.requires.can.list.notices c.are_sound.ensures c.args.procs.now c.args.t.0
    (has c.fellow_callers-callers.result) c.fellow_callers-callers.ensures)

pub fork_calls-requires-clause-parked_room : goal.fork_calls-requires-clause-parked_room
fork_calls-requires-clause-parked_room c =
    let callers = c.fellow_callers-callers.result in
    let those : c.into_list.result ≡ map tid (members callers) =
    c.into_list.ensures ∙ c.list.ensures ∙ ap (λ xs. xs ++ map tid (members callers)) c.in_ok-those.ensures.empty in
    omega (arith, ap length those, length-map (members callers) tid, few_members callers, c.in_ok-given.ensures.spare)

pub fork_calls-requires-clause-cancelled_room : goal.fork_calls-requires-clause-cancelled_room
fork_calls-requires-clause-cancelled_room c =
    let callers = c.fellow_callers-callers.result in
    let those : c.into_list.result ≡ map tid (members callers) =
    c.into_list.ensures ∙ c.list.ensures ∙ ap (λ xs. xs ++ map tid (members callers)) c.in_ok-those.ensures.empty in
    omega (arith, ap length those, length-map (members callers) tid, few_members callers, c.in_ok-cancelled.ensures.spare)

pub returns-clause-left : goal.returns-clause-left
returns-clause-left c =
    let tree = c.args.calls.now.tree in
    let t = c.args.t.0 in
    let doors = c.args.doors.now.items in
    let table = c.args.procs.now in
    let after = c.leave_threads.new.processes in
    let callers = c.fellow_callers-callers.result in
    let sound = c.are_sound.ensures in
    let those : c.into_list.result ≡ map tid (numbers_where (has callers) THREADS_MAX) =
    c.into_list.ensures ∙ c.list.ensures ∙ ap (λ xs. xs ++ map tid (members callers)) c.in_ok-those.ensures.empty ∙ ap (map tid) (members_are callers) in
    let dropped : c.into_list-2.result ≡ dropped_by_each tree c.into_list.result =
    c.into_list-2.ensures ∙ c.fork_calls-2.ensures.dropped ∙ ap (λ xs. xs ++ dropped_by_each tree c.into_list.result) c.in_ok-dropped.ensures.empty in
    exited c.make_room.ensures.same c.make_room.ensures.kept c.withdraw_callers.ensures
    (λ list h. callers_go doors tree list.notices sound table t (has callers) c.fellow_callers-callers.ensures)
    (c.leave_threads.ensures.threads doors) (λ tree list h. c.leave_threads.ensures.agreed doors tree list h) c.leave_threads.ensures.keeps
    sound
    (c.fork_calls-2.ensures.tree ∙ ap (abandon_each tree) those
    ∙ forked_calls (c.parts_of_leaving.ensures tree sound) table t (has callers) c.fellow_callers-callers.ensures c.are_few.ensures)
    c.fork_calls-2.ensures.spare
    (inl (c.requires.can, c.are_few.ensures))
    (record { dropped = c.into_list-2.result; parked = c.list_new.result; woken = c.list_new-2.result; untaken = c.new.result })
    (subst₂ (λ (x : CallTree) out. DropsTransit tree.calls x.calls out) (sym c.fork_calls-2.ensures.tree) (sym dropped) (each_drops tree c.into_list.result))
    (c.list_new.ensures (is_idle_at table) (is_idle_at after) c.idle-was_idle.ensures c.idle.ensures)
    (c.list_new-2.ensures (has_ready tree) (has_ready c.fork_calls-2.new.calls.tree) c.collecting-was_ready.ensures c.collecting.ensures)
    (λ list h i n e. ap (list_any (is_item (item.Notice n.number))) c.new.ensures ∙ and_false (is_waiting_stage n.stage))
    (none_untaken (forking table t) doors c.args.pools.now (λ d. refl) c.new.result c.new.ensures)
