use Rattle.std.proofs.Common.{inr, ◌≡◌, ◌∷◌, ◌++◌, [], sym, ap, ◌∙◌, subst}
use Rattle.spec_records.specs.Words.{revocation}
use Rattle.exit_paths.specs.Words.{DropsTransit, dropped_items, has_ready}
use Rattle.exit_paths.proofs.DoorsLost.{door_goes, revoked_calls}
use Rattle.exit_paths.proofs.Exited.{exited}
use Rattle.exit_paths.proofs.Fated.{keeps_self}
use Rattle.exit_paths.proofs.MadeRoom.{holds_self, room_self}
use Rattle.exit_paths.proofs.Transit.{drops_nothing}
use Rattle.exit_paths.proofs.Unmoved.{none_idle, revoked_threads}
use Rattle.exit_paths.proofs.Untaken.{lost_alone, tells_calls, tells_dropped, untaken_there}
use Rattle.exit_paths.proofs.exits.revoke_all.Goals as goal

pub returns-clause-left : goal.returns-clause-left
returns-clause-left c = λ step.
    let tree = c.args.calls.now.tree in
    let d = c.args.d in
    let doors = c.args.doors.now.items in
    let table = c.args.procs.now in
    let v = c.args.pools.now in
    let told : c.into_list-2.result ≡ dropped_items doors (d ∷ []) v =
    c.into_list-2.ensures ∙ c.drop_doors.ensures.told ∙ ap (λ xs. xs ++ dropped_items doors (d ∷ []) v) c.in_ok-untaken.ensures.empty in
    let items : c.slice.result.now ≡ dropped_items doors (d ∷ []) v =
    c.slice.ensures ∙ c.drop_doors.ensures.told ∙ ap (λ xs. xs ++ dropped_items doors (d ∷ []) v) c.in_ok-untaken.ensures.empty in
    exited (holds_self v) (room_self v) c.drop_doors.ensures.left
    (λ list h. door_goes doors tree.calls list.notices d)
    (revoked_threads d step tree.calls table) (λ tree list h. h) (keeps_self c.drop_doors.new.pools) c.are_sound.ensures
    (revoked_calls (c.parts_of_leaving.ensures tree c.are_sound.ensures) d (c.refuse_lost.ensures.tree table)
    (tells_calls c.requires.can.1.agreed (revocation d) (d ∷ []) (lost_alone d v) c.slice.result.now items))
    c.refuse_lost.ensures.spare
    (inr (λ q. c.drop_doors.ensures.left.stacks q))
    (record { dropped = c.into_list.result; parked = c.new.result; woken = c.list_new.result; untaken = c.into_list-2.result })
    (subst (DropsTransit tree.calls c.refuse_lost.new.calls.tree.calls) (sym c.into_list.ensures)
    (c.refuse_lost.ensures.dropped tree.calls (subst (DropsTransit tree.calls tree.calls) (sym c.in_ok-dropped.ensures.empty) (drops_nothing tree.calls))))
    (c.new.ensures ∙ sym (none_idle table))
    (c.list_new.ensures (has_ready tree) (has_ready c.refuse_lost.new.calls.tree) c.collecting-was_ready.ensures c.collecting.ensures)
    (λ list h.
    tells_dropped h (revocation d) (d ∷ []) (lost_alone d v) c.into_list-2.result told)
    (untaken_there (d ∷ []) doors (holds_self v) (lost_alone d v) c.into_list-2.result told)
