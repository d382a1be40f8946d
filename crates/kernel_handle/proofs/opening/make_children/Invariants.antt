use Rattle.std.proofs.Common.{◌≡◌, drop}
use Rattle.spec_histories.specs.Openings.{with_children}
use Rattle.kernel_handle.proofs.Opens.{OpensChildren}
use Rattle.kernel_handle.proofs.opening.make_children.Given as goal

abbrev pub invariant-loop-place : goal.invariant-loop-place
invariant-loop-place l =
    (with_children l.initial.kernel 0 l.processes ≡ with_children l.kernel l.place (drop l.place l.processes))
    × OpensChildren l.processes l.kernel
