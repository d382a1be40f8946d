use Rattle.std.proofs.Common.{find, length, refl, ap, arith}
use Rattle.spec_records.specs.Words.{is_served_by}
use Rattle.exit_paths.proofs.Transit.{drops_then, lost_drops}
use Rattle.exit_paths.proofs.calls.end_server.Goals as goal

pub append-requires : goal.append-requires
append-requires c =
    let tree = c.args.calls.now.tree in
    let d = lost_drops tree c.args.u.0 (find (is_served_by c.args.u.0) tree.calls) refl in
    omega (arith, d.in_all, ap length c.slice.ensures, ap length c.server_left-dropped.ensures.objects, c.requires)

pub returns-clause-dropped : goal.returns-clause-dropped
returns-clause-dropped c = λ first h.
    let tree = c.args.calls.now.tree in
    let d = lost_drops tree c.args.u.0 (find (is_served_by c.args.u.0) tree.calls) refl in
    rw c.server_left-dropped.ensures.tree
    (rw c.append.ensures.items (rw c.slice.ensures (rw c.server_left-dropped.ensures.objects (drops_then h d))))

pub returns-clause-room : goal.returns-clause-room
returns-clause-room c =
    let tree = c.args.calls.now.tree in
    let d = lost_drops tree c.args.u.0 (find (is_served_by c.args.u.0) tree.calls) refl in
    rw c.server_left-dropped.ensures.tree
    (omega (arith, d.in_all, ap length c.slice.ensures, ap length c.server_left-dropped.ensures.objects, c.append.ensures.spare, c.requires))
