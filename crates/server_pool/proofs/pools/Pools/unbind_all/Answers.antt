use Rattle.std.proofs.Common.{◌≡◌, ℕ, zero, suc, ◌<◌, List, [], ◌∷◌, Option, get_or, length, take, refl, ap, ◌∙◌, add-one, arith}
use Rattle.dk_base.specs.declared.number.Tid.{Tid}
use Rattle.spec_records.specs.Words.{unbind_thread}
use Rattle.server_pool.specs.Words.{PoolsValue, unbind_each}
use Rattle.server_pool.proofs.pools.Pools.unbind_all.Goals as goal

-- one thread more
one_more : (bindings : List (Option ℕ)) (ts : List Tid) (i : ℕ) (d : Tid) → i < length ts → unbind_thread (unbind_each bindings (take i ts)) (get_or ts i d).0 ≡ unbind_each bindings (take (suc i) ts)
one_more bindings [] i d l = absurd (omega arith)
one_more bindings (t ∷ ts) zero d l = refl
one_more bindings (t ∷ ts) (suc i) d l = one_more (unbind_thread bindings t.0) ts i d (omega arith)

pub loop-t-preserved : goal.loop-t-preserved
loop-t-preserved c =
    let v = c.args.self.now in
    let ts = c.args.threads.now in
    let i = c.loop-t.t-index in
    rw add-one
    (c.drop_binding.ensures
    ∙ ap (λ (w : PoolsValue). record w { bindings = unbind_thread w.bindings (get_or ts i (record { 0 = 0 })).0 }) c.loop-t.invariant
    ∙ ap (λ bs. record v { bindings = bs }) (one_more v.bindings ts i (record { 0 = 0 }) c.loop-t-test.true))
