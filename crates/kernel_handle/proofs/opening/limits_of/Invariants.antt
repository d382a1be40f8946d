use Rattle.std.proofs.Common.{◌≡◌, ◌≤◌, map, take}
use Rattle.std.specs.List.{AllByRecursion}
use Rattle.dk_base.specs.declared.limits.TheConstants.{DESCRIPTORS_MAX}
use Rattle.spec_histories.specs.Openings.{limit_of}
use Rattle.kernel_handle.proofs.opening.limits_of.Given as goal

abbrev pub invariant-loop-process : goal.invariant-loop-process
invariant-loop-process l =
    (l.limits ≡ map limit_of (take l.process-index l.processes)) × AllByRecursion (λ n. n ≤ DESCRIPTORS_MAX) l.limits
