use Rattle.std.proofs.Common.{◌≡◌, min, sum_by, take}
use Rattle.server_pool.specs.Words.{pool_size}
use Rattle.server_pool.proofs.pool_list.size_of.Given as goal

abbrev pub invariant-loop-pool : goal.invariant-loop-pool
invariant-loop-pool l = l.size ≡ min (sum_by pool_size (take l.pool-index l.pools)) 18446744073709551615
