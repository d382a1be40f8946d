use Rattle.std.proofs.Common.{◌≡◌}
use Rattle.spec_records.proofs.NumberedLists.{map_first}
use Rattle.proc_table.specs.Ends.{ended_where_of}
use Rattle.proc_table.proofs.procs.end_threads.Given as goal

abbrev pub invariant-loop-i : goal.invariant-loop-i
invariant-loop-i l = l.threads ≡ map_first (ended_where_of l.p.0) l.i l.fn.threads
