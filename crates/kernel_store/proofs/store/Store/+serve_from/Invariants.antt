use Rattle.std.proofs.Common.{◌-◌, length}
use Rattle.kernel_store.proofs.store.Store.+serve_from.Given as goal

abbrev pub decreases-serve_from : goal.decreases-serve_from
decreases-serve_from l = length l.doors.now - l.place
