use Rattle.std.proofs.Common.{◌≡◌, drop}
use Rattle.spec_scripts.specs.Words.{with_children}
use Rattle.sys_run.proofs.Opens.{OpensChildren}
use Rattle.sys_run.proofs.opening.make_children.Given as goal

abbrev pub invariant-loop-below : goal.invariant-loop-below
invariant-loop-below l =
    (with_children l.initial.kernel 0 l.script.processes ≡ with_children l.kernel l.below (drop l.below l.script.processes))
    × OpensChildren l.script l.kernel
