use Rattle.exit_paths.proofs.First.{can_exit_first}
use Rattle.test_tables.proofs.exits.tells_nothing.Goals as goal

pub leaves_nothing-requires-clause-can : goal.leaves_nothing-requires-clause-can
leaves_nothing-requires-clause-can c =
    rw c.new-procs.ensures (rw c.in-Ok.ensures (rw c.new-doors.ensures (can_exit_first c.new-calls.result c.new-calls.ensures)))
