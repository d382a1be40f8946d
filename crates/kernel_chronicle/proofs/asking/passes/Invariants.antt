use Rattle.std.proofs.Common.{◌≡◌, take}
use Rattle.kernel_chronicle.specs.Asks.{passes_of}
use Rattle.kernel_chronicle.proofs.asking.passes.Given as goal

abbrev pub invariant-loop-item : goal.invariant-loop-item
invariant-loop-item l =
    l.list ≡ passes_of (take l.item-index l.items)
