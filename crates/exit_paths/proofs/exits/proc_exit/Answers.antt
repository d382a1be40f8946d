use Rattle.std.proofs.Common.{inl, ◌≡◌, ◌==◌, ◌++◌, length, sym, ap, ◌∙◌, subst, le_trans}
use Rattle.spec_records.specs.Words.{ProcessTable, process_end}
use Rattle.exit_paths.specs.Words.{DropsTransit, dropped_items, has_ready, is_idle_at, is_thread_of}
use Rattle.exit_paths.proofs.Alike.{agrees_same}
use Rattle.exit_paths.proofs.Untaken.{lost_same, tells_calls, tells_dropped, untaken_there}
use Rattle.exit_paths.proofs.DoorsLost.{process_calls, process_goes}
use Rattle.exit_paths.proofs.Exited.{exited, room_there, somehow}
use Rattle.exit_paths.proofs.ItemsLeft.{left_then}
use Rattle.exit_paths.proofs.LeftThreads.{process_kept}
use Rattle.exit_paths.proofs.Transit.{drops_nothing}
use Rattle.exit_paths.proofs.Walked.{stays}
use Rattle.std.proofs.lemmas.List.{length-map}
use Rattle.exit_paths.proofs.exits.proc_exit.Goals as goal

pub leave_threads-requires-clause-agreed : goal.leave_threads-requires-clause-agreed
leave_threads-requires-clause-agreed c =
    somehow c.requires.can c.make_room.ensures.same (left_then c.drop_doors.ensures.left c.withdraw_all.ensures)
    (process_goes c.requires.can.agreed c.are_sound.ensures c.args.p.0 c.args.lost.now c.requires.declared c.requires.lost)

pub leave_threads-requires-clause-room : goal.leave_threads-requires-clause-room
leave_threads-requires-clause-room c = λ t here given.
    room_there c.requires.can c.make_room.ensures.same (left_then c.drop_doors.ensures.left c.withdraw_all.ensures)
    (process_goes c.requires.can.agreed c.are_sound.ensures c.args.p.0 c.args.lost.now c.requires.declared c.requires.lost) t
    (c.in_ok-make_room.ensures.room t here) (c.touched_by-touched.ensures.there t here) given

pub leave_threads-requires-clause-others : goal.leave_threads-requires-clause-others
leave_threads-requires-clause-others c = λ doors t x other there.
    stays c.touched_by-touched.result c.args.procs.now doors c.args.calls.now.tree c.are_sound.ensures c.args.p.0 c.requires.declared c.touched_by-touched.ensures.own
    c.touched_by-touched.ensures.servers c.args.step t x (c.requires.can.placed.thread_number t x there) other there

pub returns-clause-left : goal.returns-clause-left
returns-clause-left c =
    let tree = c.args.calls.now.tree in
    let p = c.args.p.0 in
    let doors = c.args.doors.now.items in
    let table = c.args.procs.now in
    let after = c.leave_threads.new.processes in
    let parts = c.parts_of_leaving.ensures tree c.are_sound.ensures in
    let refused = c.refuse_lost.ensures.tree table in
    let told : c.into_list-2.result ≡ dropped_items doors c.args.lost.now c.make_room.new.pools =
    c.into_list-2.ensures ∙ c.drop_doors.ensures.told ∙ ap (λ xs. xs ++ dropped_items doors c.args.lost.now c.make_room.new.pools) c.in_ok-untaken.ensures.empty in
    let items : c.slice.result.now ≡ dropped_items doors c.args.lost.now c.make_room.new.pools =
    c.slice.ensures ∙ c.drop_doors.ensures.told ∙ ap (λ xs. xs ++ dropped_items doors c.args.lost.now c.make_room.new.pools) c.in_ok-untaken.ensures.empty in
    exited c.make_room.ensures.same c.make_room.ensures.kept (left_then c.drop_doors.ensures.left c.withdraw_all.ensures)
    (λ list h. process_goes h c.are_sound.ensures p c.args.lost.now c.requires.declared c.requires.lost)
    (c.leave_threads.ensures.threads doors) (λ tree list h. c.leave_threads.ensures.agreed doors tree list h) c.leave_threads.ensures.keeps
    c.are_sound.ensures
    (process_calls table after doors p parts c.requires.declared
    (λ t. ap (λ (x : ProcessTable). is_thread_of x p t) (c.leave_threads.ensures.threads doors)
    ∙ ap (λ k. k == p) (process_kept (process_end table doors p) c.args.step tree.calls table t))
    (ap (λ (x : ProcessTable). length x.threads) (c.leave_threads.ensures.threads doors) ∙ length-map table.threads _) refused
    (tells_calls (agrees_same c.requires.can.agreed c.make_room.ensures.same) (process_end table doors p) c.args.lost.now
    (lost_same (process_end table doors p) c.args.lost.now c.make_room.ensures.same c.requires.lost) c.slice.result.now items)
    (c.end_all.ensures.tree tree refused.refused c.are_sound.ensures refused.so_far))
    (le_trans c.refuse_lost.ensures.spare c.end_all.ensures.spare)
    (inl (c.requires.can, c.are_few.ensures))
    (record { dropped = c.into_list.result; parked = c.list_new.result; woken = c.list_new-2.result; untaken = c.into_list-2.result })
    (subst (DropsTransit tree.calls c.end_all.new.calls.tree.calls) (sym c.into_list.ensures)
    (c.end_all.ensures.dropped tree.calls
    (c.refuse_lost.ensures.dropped tree.calls (subst (DropsTransit tree.calls tree.calls) (sym c.in_ok-dropped.ensures.empty) (drops_nothing tree.calls)))))
    (c.list_new.ensures (is_idle_at table) (is_idle_at after) c.idle-was_idle.ensures c.idle.ensures)
    (c.list_new-2.ensures (has_ready tree) (has_ready c.end_all.new.calls.tree) c.collecting-was_ready.ensures c.collecting.ensures)
    (λ list h.
    tells_dropped (agrees_same h c.make_room.ensures.same) (process_end table doors p) c.args.lost.now
    (lost_same (process_end table doors p) c.args.lost.now c.make_room.ensures.same c.requires.lost) c.into_list-2.result told)
    (untaken_there c.args.lost.now doors c.make_room.ensures.same c.requires.lost c.into_list-2.result told)
