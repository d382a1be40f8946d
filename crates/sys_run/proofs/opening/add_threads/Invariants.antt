use Rattle.std.proofs.Common.{◌≡◌, drop, length}
use Rattle.spec_scripts.specs.Words.{with_script_threads}
use Rattle.sys_run.proofs.opening.add_threads.Given as goal

abbrev pub invariant-loop-below : goal.invariant-loop-below
invariant-loop-below l =
    (with_script_threads l.initial.kernel l.script.threads ≡ with_script_threads l.kernel (drop l.below l.script.threads))
    × (l.kernel.events ≡ 0)
    × (length l.kernel.process_table.processes ≡ length l.script.processes)
