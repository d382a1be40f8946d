use Rattle.std.proofs.Common.{drop}
use Rattle.exit_paths.specs.Words.{HasNoLessRoom, HoldsSame}
use Rattle.kernel_store.specs.Noticing.{HaveItemRoomBut}
use Rattle.kernel_store.proofs.notices.renew_room.Given as goal

abbrev pub invariant-loop-pool : goal.invariant-loop-pool
invariant-loop-pool l =
    HoldsSame l.fn.pools l.pools × HasNoLessRoom l.fn.pools l.pools × HaveItemRoomBut (drop l.pool-index l.short) l.pools
