use Rattle.std.proofs.Common.{◌≡◌, ℕ, List, Option, refl, ap, ◌∙◌}
use Rattle.std.specs.List.{list_any}
use Rattle.spec_records.specs.declared.pool.Pool.{Pool}
use Rattle.spec_records.specs.declared.pool.Pool.TheVariants.{Common, Private}
use Rattle.server_pool.specs.Words.{PoolsValue, is_thread, stack_in}
use Rattle.test_tables.proofs.forking.is_bound_to_lost.Goals as goal

-- stacks do not tell of bindings
same_stack : (v w : PoolsValue) (bindings : List (Option ℕ)) → w ≡ record v { bindings = bindings } → (pool : Pool) → stack_in w pool ≡ stack_in v pool
same_stack v w bindings e pool = ap (λ (u : PoolsValue). stack_in u pool) e ∙ go pool
  where
    go : (q : Pool) → stack_in (record v { bindings = bindings }) q ≡ stack_in v q
    go (Common p) = refl
    go (Private d) = refl

pub fork_binding-requires-2 : goal.fork_binding-requires-2
fork_binding-requires-2 c = λ pool.
    ap (list_any (is_thread 2))
    (same_stack c.fork_binding.new.pools c.bind.new.self _ c.bind.ensures pool ∙ same_stack c.args.pools.now c.fork_binding.new.pools _ c.fork_binding.ensures pool ∙ c.requires pool)
