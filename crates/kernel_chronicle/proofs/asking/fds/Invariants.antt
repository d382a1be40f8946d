use Rattle.std.proofs.Common.{◌≡◌, take}
use Rattle.kernel_chronicle.specs.Asks.{fds_of}
use Rattle.kernel_chronicle.proofs.asking.fds.Given as goal

abbrev pub invariant-loop-item : goal.invariant-loop-item
invariant-loop-item l =
    l.list ≡ fds_of (take l.item-index l.items)
