use Rattle.std.proofs.Common.{length}
use Rattle.dk_base.specs.Words.{members}
use Rattle.kernel_store.proofs.store.Store.+serve_parked.Given as goal

abbrev pub decreases-serve_parked : goal.decreases-serve_parked
decreases-serve_parked l = length (members l.threads)
