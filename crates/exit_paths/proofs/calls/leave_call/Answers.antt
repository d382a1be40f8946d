use Rattle.call_tree.specs.Words.{is_called_by}
use Rattle.std.proofs.Common.{find, refl}
use Rattle.exit_paths.proofs.Transit.{abandoned_drops}
use Rattle.exit_paths.proofs.calls.leave_call.Goals as goal

pub returns-clause-dropped : goal.returns-clause-dropped
returns-clause-dropped c =
    let tree = c.args.calls.now.tree in
    rw c.abandon.ensures.tree (rw c.abandon.ensures.dropped (abandoned_drops tree c.args.t.0 c.args.why (find (is_called_by c.args.t.0) tree.calls) refl))
