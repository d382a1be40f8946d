-- What is given out stays so, in pools that hold the same threads and items, or no more of either.
use Rattle.std.proofs.Common.{◌≡◌, inl, inr, ℕ, ◌+◌, ◌≤◌, ◌==◌, Bool, true, false, if◌then◌else◌, List, [], ◌∷◌, ◌++◌, Some, length, refl, sym, ap, ◌∙◌, subst, le_refl, arith}
use Rattle.std.proofs.lemmas.Bool.Decides.{nat_tests}
use Rattle.dk_base.specs.ByNumber.{at_number}
use Rattle.spec_records.specs.declared.pool.Pool.TheVariants.{Common, Private}
use Rattle.spec_kernel.specs.Types.{Pool}
use Rattle.spec_records.proofs.Lists.{numbered_past, numbered_push}
use Rattle.server_pool.specs.Words.{PoolValue, PoolsValue, empty_pool, item_room_in, pool_at, pool_or_empty, queue_in, stack_in}
use Rattle.law_pools.specs.Words.{IsGivenOut, IsGivenOutIn}
use Rattle.exit_paths.specs.Words.{HoldsSame}

-- what is given out stays so, where no thread and no item is added
pub given_out_less :
    (v w : PoolsValue) → ((pool : Pool) → stack_in w pool ≡ stack_in v pool) →
    ((pool : Pool) → queue_in v pool ≡ [] → queue_in w pool ≡ []) → IsGivenOut v → IsGivenOut w
given_out_less v w stacks queues h pool = go (h pool)
  where
    go : IsGivenOutIn v pool → IsGivenOutIn w pool
    go (inl e) = inl (stacks pool ∙ e)
    go (inr e) = inr (queues pool e)

pub given_out_same : (v w : PoolsValue) → HoldsSame v w → IsGivenOut v → IsGivenOut w
given_out_same v w same = given_out_less v w same.stacks (λ q e. same.queues q ∙ e)

-- what is made with nothing in it leaves what is given out
pub given_out_made :
    (v w : PoolsValue) → ((pool : Pool) → pool_or_empty (pool_at w pool) ≡ pool_or_empty (pool_at v pool)) → IsGivenOut v → IsGivenOut w
given_out_made v w same =
    given_out_less v w (λ q. ap (λ (x : PoolValue). x.parked) (same q)) (λ q e. ap (λ (x : PoolValue). x.waiting) (same q) ∙ e)

made_empty : (xs : List PoolValue) (k : ℕ) → pool_or_empty (at_number (xs ++ empty_pool ∷ []) k) ≡ pool_or_empty (at_number xs k)
made_empty xs k = ap pool_or_empty (numbered_push xs empty_pool k) ∙ go (k == length xs + 1) refl
  where
    go : (b : Bool) → (k == length xs + 1) ≡ b → pool_or_empty (if b then Some empty_pool else at_number xs k) ≡ pool_or_empty (at_number xs k)
    go true e = sym (ap pool_or_empty (numbered_past xs k (grind (arith, nat_tests))))
    go false e = refl

pub given_out_door :
    (v w : PoolsValue) → w.common ≡ v.common → w.private ≡ v.private ++ empty_pool ∷ [] → IsGivenOut v → IsGivenOut w
given_out_door v w common private = given_out_made v w same
  where
    same : (pool : Pool) → pool_or_empty (pool_at w pool) ≡ pool_or_empty (pool_at v pool)
    same (Common p) = ap (λ xs. pool_or_empty (at_number xs p.0)) common
    same (Private d) = ap (λ xs. pool_or_empty (at_number xs d)) private ∙ made_empty v.private d

pub items_door :
    (v w : PoolsValue) → w.common ≡ v.common → w.private ≡ v.private ++ empty_pool ∷ [] → (pool : Pool) → item_room_in v pool ≤ item_room_in w pool
items_door v w common private pool = subst (λ n. item_room_in v pool ≤ n) (sym (same pool)) (le_refl (item_room_in v pool))
  where
    same : (q : Pool) → item_room_in w q ≡ item_room_in v q
    same (Common p) = ap (λ xs. (pool_or_empty (at_number xs p.0)).item_room) common
    same (Private d) = ap (λ xs. (pool_or_empty (at_number xs d)).item_room) private ∙ ap (λ (x : PoolValue). x.item_room) (made_empty v.private d)

pub given_out_process :
    (v w : PoolsValue) → w.private ≡ v.private → w.common ≡ v.common ++ empty_pool ∷ [] → IsGivenOut v → IsGivenOut w
given_out_process v w private common = given_out_made v w same
  where
    same : (pool : Pool) → pool_or_empty (pool_at w pool) ≡ pool_or_empty (pool_at v pool)
    same (Common p) = ap (λ xs. pool_or_empty (at_number xs p.0)) common ∙ made_empty v.common p.0
    same (Private d) = ap (λ xs. pool_or_empty (at_number xs d)) private

pub items_process :
    (v w : PoolsValue) → w.private ≡ v.private → w.common ≡ v.common ++ empty_pool ∷ [] → (pool : Pool) → item_room_in v pool ≤ item_room_in w pool
items_process v w private common pool = subst (λ n. item_room_in v pool ≤ n) (sym (same pool)) (le_refl (item_room_in v pool))
  where
    same : (q : Pool) → item_room_in w q ≡ item_room_in v q
    same (Common p) = ap (λ xs. (pool_or_empty (at_number xs p.0)).item_room) common ∙ ap (λ (x : PoolValue). x.item_room) (made_empty v.common p.0)
    same (Private d) = ap (λ xs. (pool_or_empty (at_number xs d)).item_room) private
