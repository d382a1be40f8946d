use Rattle.std.proofs.Common.{length, ap, arith}
use Rattle.dk_base.specs.declared.error.Errno.TheVariants.{EBADF}
use Rattle.exit_paths.proofs.Transit.{drops_then, queued_waits, refused_drops}
use Rattle.exit_paths.proofs.calls.refuse.Goals as goal

pub refuse-dropped-requires : goal.refuse-dropped-requires
refuse-dropped-requires c = queued_waits c.args.calls.now.tree c.are_sound.ensures c.args.c c.requires.queued

pub append-requires : goal.append-requires
append-requires c =
    let d = refused_drops c.args.calls.now.tree c.are_sound.ensures c.args.c EBADF c.requires.queued in
    omega (arith, d.in_all, ap length c.slice.ensures, ap length c.refuse-dropped.ensures.objects, c.requires.room)

pub returns-clause-dropped : goal.returns-clause-dropped
returns-clause-dropped c = λ first h.
    let d = refused_drops c.args.calls.now.tree c.are_sound.ensures c.args.c EBADF c.requires.queued in
    rw c.refuse-dropped.ensures.tree
    (rw c.append.ensures.items (rw c.slice.ensures (rw c.refuse-dropped.ensures.objects (drops_then h d))))

pub returns-clause-room : goal.returns-clause-room
returns-clause-room c =
    let d = refused_drops c.args.calls.now.tree c.are_sound.ensures c.args.c EBADF c.requires.queued in
    rw c.refuse-dropped.ensures.tree
    (omega (arith, d.in_all, ap length c.slice.ensures, ap length c.refuse-dropped.ensures.objects, c.append.ensures.spare, c.requires.room))
