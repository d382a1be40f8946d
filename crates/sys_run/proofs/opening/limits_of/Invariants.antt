use Rattle.std.proofs.Common.{◌≡◌, take}
use Rattle.std.specs.Prelude.{map}
use Rattle.spec_scripts.specs.Words.{limit_of}
use Rattle.sys_run.proofs.opening.limits_of.Given as goal

abbrev pub invariant-loop-below : goal.invariant-loop-below
invariant-loop-below l = l.limits ≡ map limit_of (take l.below l.script.processes)
