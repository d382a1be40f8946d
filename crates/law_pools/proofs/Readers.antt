-- The readers of pools after one of them changed, or the spare threads of one process.
use Rattle.std.proofs.Common.{◌≡◌, ℕ, ◌==◌, true, false, List, ◌∷◌, Option, None, Some, is_some, length, refl, sym, ap, ◌∙◌, arith}
use Rattle.std.proofs.lemmas.Bool.Decides.{nat_tests}
use Rattle.spec_records.specs.declared.pool.Pool.{Pool}
use Rattle.spec_records.specs.declared.pool.Pool.TheVariants.{Common, Private}
use Rattle.spec_records.specs.declared.pool.Waiting.{Waiting}
use Rattle.dk_base.specs.ByNumber.{at_number}
use Rattle.spec_records.specs.Words.{is_pool}
use Rattle.server_pool.specs.Words.{PoolValue, PoolsValue, change_at_number, change_item, change_pool, change_spares, pool_at, pool_or_empty, queue_in, spares_of, spares_or_none, stack_in}
use Rattle.spec_records.proofs.Lists.{at_number-renumbered_there, length-with_at_number}

-- lists that are numbered from 1

pub at_number-change_same :
    {X : Type 0} (xs : List X) (n : ℕ) (f : X → X) (x : X) → at_number xs n ≡ Some x → at_number (change_at_number xs n f) n ≡ Some (f x)
at_number-change_same xs n f x e =
    ap (λ o. at_number (change_item xs n f o) n) e ∙ at_number-renumbered_there xs n n (f x) x e ∙ grind (arith, nat_tests)

pub at_number-change_other :
    {X : Type 0} (xs : List X) (n k : ℕ) (f : X → X) → (n == k) ≡ false → at_number (change_at_number xs n f) k ≡ at_number xs k
at_number-change_other xs n k f other = go (at_number xs n) refl
  where
    go : (o : Option _) → at_number xs n ≡ o → at_number (change_item xs n f o) k ≡ at_number xs k
    go None e = refl
    go (Some x) e = at_number-renumbered_there xs n k (f x) x e ∙ grind (arith, nat_tests)

pub length-change_at_number : {X : Type 0} (xs : List X) (n : ℕ) (f : X → X) → length (change_at_number xs n f) ≡ length xs
length-change_at_number xs n f = go (at_number xs n)
  where
    go : (o : Option _) → length (change_item xs n f o) ≡ length xs
    go None = refl
    go (Some x) = length-with_at_number xs n (f x)

-- equal tests of pools

pub same_number : (m n : ℕ) → (m == n) ≡ true → m ≡ n
same_number m n e = grind (arith, nat_tests)

pub is_pool-self : (p : Pool) → is_pool p p ≡ true
is_pool-self (Common p) = grind (arith, nat_tests)
is_pool-self (Private d) = grind (arith, nat_tests)

pub is_pool-sym : (p q : Pool) → is_pool p q ≡ is_pool q p
is_pool-sym (Common p) (Common q) = grind (arith, nat_tests)
is_pool-sym (Private d) (Private e) = grind (arith, nat_tests)
is_pool-sym (Common p) (Private e) = refl
is_pool-sym (Private d) (Common q) = refl

-- pools

pub there_is : {X : Type 0} (o : Option X) → is_some o ≡ true → (x : X) × (o ≡ Some x)
there_is None e = cc
there_is (Some x) e = (x, refl)

-- and one where something waits
pub pool_there-queue : (v : PoolsValue) (p : Pool) (x : Waiting) (xs : List Waiting) → queue_in v p ≡ x ∷ xs → is_some (pool_at v p) ≡ true
pool_there-queue v p x xs e = go (pool_at v p) e
  where
    go : (o : Option PoolValue) → (pool_or_empty o).waiting ≡ x ∷ xs → is_some o ≡ true
    go None f = cc
    go (Some pool) f = refl

numbered-change_same :
    (xs : List PoolValue) (n k : ℕ) (f : PoolValue → PoolValue) → (n == k) ≡ true → is_some (at_number xs n) ≡ true →
    at_number (change_at_number xs n f) k ≡ Some (f (pool_or_empty (at_number xs n)))
numbered-change_same xs n k f same there =
    let x : (x : PoolValue) × (at_number xs n ≡ Some x) = there_is (at_number xs n) there in
    ap (at_number (change_at_number xs n f)) (sym (same_number n k same))
    ∙ at_number-change_same xs n f x.0 x.1
    ∙ ap (λ o. Some (f (pool_or_empty o))) (sym x.1)

pub pool-change_same :
    (v : PoolsValue) (p q : Pool) (f : PoolValue → PoolValue) → is_pool p q ≡ true → is_some (pool_at v p) ≡ true →
    pool_at (change_pool v p f) q ≡ Some (f (pool_or_empty (pool_at v p)))
pool-change_same v (Common p) (Common q) f same there = numbered-change_same v.common p.0 q.0 f same there
pool-change_same v (Private d) (Private e) f same there = numbered-change_same v.private d e f same there
pool-change_same v (Common p) (Private e) f same there = cc
pool-change_same v (Private d) (Common q) f same there = cc

pub pool-change_other :
    (v : PoolsValue) (p q : Pool) (f : PoolValue → PoolValue) → is_pool p q ≡ false → pool_at (change_pool v p f) q ≡ pool_at v q
pool-change_other v (Common p) (Common q) f other = at_number-change_other v.common p.0 q.0 f other
pool-change_other v (Private d) (Private e) f other = at_number-change_other v.private d e f other
pool-change_other v (Common p) (Private e) f other = refl
pool-change_other v (Private d) (Common q) f other = refl

pub stack-change_same :
    (v : PoolsValue) (p q : Pool) (f : PoolValue → PoolValue) → is_pool p q ≡ true → is_some (pool_at v p) ≡ true →
    stack_in (change_pool v p f) q ≡ (f (pool_or_empty (pool_at v p))).parked
stack-change_same v p q f same there = ap (λ o. (pool_or_empty o).parked) (pool-change_same v p q f same there)

pub stack-change_other :
    (v : PoolsValue) (p q : Pool) (f : PoolValue → PoolValue) → is_pool p q ≡ false → stack_in (change_pool v p f) q ≡ stack_in v q
stack-change_other v p q f other = ap (λ o. (pool_or_empty o).parked) (pool-change_other v p q f other)

pub queue-change_same :
    (v : PoolsValue) (p q : Pool) (f : PoolValue → PoolValue) → is_pool p q ≡ true → is_some (pool_at v p) ≡ true →
    queue_in (change_pool v p f) q ≡ (f (pool_or_empty (pool_at v p))).waiting
queue-change_same v p q f same there = ap (λ o. (pool_or_empty o).waiting) (pool-change_same v p q f same there)

pub queue-change_other :
    (v : PoolsValue) (p q : Pool) (f : PoolValue → PoolValue) → is_pool p q ≡ false → queue_in (change_pool v p f) q ≡ queue_in v q
queue-change_other v p q f other = ap (λ o. (pool_or_empty o).waiting) (pool-change_other v p q f other)

-- what a change of a pool leaves

pub bindings-change_pool : (v : PoolsValue) (p : Pool) (f : PoolValue → PoolValue) → (change_pool v p f).bindings ≡ v.bindings
bindings-change_pool v (Common p) f = refl
bindings-change_pool v (Private d) f = refl

pub spares-change_pool : (v : PoolsValue) (p : Pool) (f : PoolValue → PoolValue) → (change_pool v p f).spares ≡ v.spares
spares-change_pool v (Common p) f = refl
spares-change_pool v (Private d) f = refl

pub common-change_pool : (v : PoolsValue) (p : Pool) (f : PoolValue → PoolValue) → length (change_pool v p f).common ≡ length v.common
common-change_pool v (Common p) f = length-change_at_number v.common p.0 f
common-change_pool v (Private d) f = refl

pub private-change_pool : (v : PoolsValue) (p : Pool) (f : PoolValue → PoolValue) → length (change_pool v p f).private ≡ length v.private
private-change_pool v (Common p) f = refl
private-change_pool v (Private d) f = length-change_at_number v.private d f

-- spare threads

pub spares-change_same :
    (v : PoolsValue) (p : ℕ) (f : List ℕ → List ℕ) → is_some (at_number v.spares p) ≡ true →
    spares_of (change_spares v p f) p ≡ f (spares_of v p)
spares-change_same v p f there =
    let x : (x : List ℕ) × (at_number v.spares p ≡ Some x) = there_is (at_number v.spares p) there in
    ap spares_or_none (at_number-change_same v.spares p f x.0 x.1) ∙ ap (λ o. f (spares_or_none o)) (sym x.1)

pub spares-change_other :
    (v : PoolsValue) (p q : ℕ) (f : List ℕ → List ℕ) → (p == q) ≡ false → spares_of (change_spares v p f) q ≡ spares_of v q
spares-change_other v p q f other = ap spares_or_none (at_number-change_other v.spares p q f other)
