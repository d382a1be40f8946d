use Rattle.std.proofs.Common.{◌≡◌}
use Rattle.spec_records.proofs.NumberedLists.{map_first}
use Rattle.spec_records.specs.Words.{begun_thread}
use Rattle.proc_table.proofs.procs.begin_threads.Given as goal

abbrev pub invariant-loop-i : goal.invariant-loop-i
invariant-loop-i l = l.threads ≡ map_first (begun_thread l.p.0) l.i l.fn.threads
