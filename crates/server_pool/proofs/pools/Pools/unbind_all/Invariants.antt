use Rattle.std.proofs.Common.{◌≡◌, take}
use Rattle.server_pool.specs.Words.{unbind_each}
use Rattle.server_pool.proofs.pools.Pools.unbind_all.Given as goal

abbrev pub invariant-loop-t : goal.invariant-loop-t
invariant-loop-t l = l.self ≡ record l.fn.self { bindings = unbind_each l.fn.self.bindings (take l.t-index l.threads) }
