use Rattle.std.proofs.Common.{◌≡◌, ◌++◌, drop}
use Rattle.law_channels.specs.Closed.{released}
use Rattle.kernel_core.proofs.telling.released.Given as goal

abbrev pub invariant-loop-x : goal.invariant-loop-x
invariant-loop-x l = l.room.items ++ released (drop l.x-index l.items) ≡ released l.items
