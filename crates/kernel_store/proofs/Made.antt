-- Calls that are made, which wait in the pool of their door.
use Rattle.std.proofs.Common.{◌≡◌, inl, inr, refl, Some, ℕ, ◌<◌, ◌&&◌, Bool, true, false, nat_le, List, is_some, ◌∙◌, arith, None, Option}
use Rattle.std.proofs.lemmas.Bool.Decides.{nat_tests}
use Rattle.dk_base.specs.ByNumber.{at_number}
use Rattle.dk_base.specs.declared.limits.TheConstants.{QUEUE_MAX}
use Rattle.spec_records.specs.Words.{CallTree, NoticeList, is_pool, is_valid_in, pool_in, ProcessTable}
use Rattle.spec_kernel.specs.Types.{Door, Pool}
use Rattle.server_pool.specs.Words.{PoolValue, PoolsValue, change_pool, pool_at}
use Rattle.law_pools.specs.Words.{Agrees, HasPlaces, IsGivenOutIn}
use Rattle.law_pools.proofs.Queues.{door_pool_there}
use Rattle.law_pools.proofs.Readers.{queue-change_other, stack-change_other}

-- the pool of a valid door
pub served_there :
    {n : ℕ} {table : ProcessTable} {doors : List Door} {tree : CallTree} {list : NoticeList} {v : PoolsValue} → Agrees n table doors tree list v →
    HasPlaces table v.bindings doors tree.calls list.notices → (d : ℕ) → is_valid_in (at_number doors d) ≡ true →
    is_some (pool_at v (pool_in (at_number doors d))) ≡ true
served_there {n} {table} {doors} {tree} {list} {v} h places d e = go (at_number doors d) refl e
  where
    go : (o : Option Door) → at_number doors d ≡ o → is_valid_in o ≡ true → is_some (pool_at v (pool_in (at_number doors d))) ≡ true
    go None f k = grind arith
    go (Some x) f k = door_pool_there h places d x f k

pub not_too_many : (b : Bool) (k : ℕ) → k < QUEUE_MAX → (b && nat_le QUEUE_MAX k) ≡ false
not_too_many true k l = grind (arith, nat_tests)
not_too_many false k l = refl

-- the other pools, after one of them changed
pub given_out_elsewhere :
    (v : PoolsValue) (pool q : Pool) (change : PoolValue → PoolValue) → is_pool pool q ≡ false → IsGivenOutIn v q →
    IsGivenOutIn (change_pool v pool change) q
given_out_elsewhere v pool q change e (inl s) = inl (stack-change_other v pool q change e ∙ s)
given_out_elsewhere v pool q change e (inr s) = inr (queue-change_other v pool q change e ∙ s)
