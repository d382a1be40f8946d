-- What a change of one pool leaves, for the crates above.
use Rattle.std.proofs.Common.{◌≡◌, ℕ, zero, suc, ◌-◌, ◌<◌, ◌==◌, true, false, List, [], ◌∷◌, Option, Some, None, is_some, option_map, set, slice_get, refl, sym, ap, subst, ◌∙◌, arith}
use Rattle.std.proofs.lemmas.Bool.Decides.{nat_tests}
use Rattle.dk_base.specs.ByNumber.{at_number, with_at_number}
use Rattle.spec_records.specs.declared.pool.Pool.{Pool}
use Rattle.spec_records.specs.declared.pool.Pool.TheVariants.{Common, Private}
use Rattle.spec_records.specs.Words.{is_pool}
use Rattle.server_pool.specs.Words.{PoolValue, PoolsValue, change_at_number, change_item, change_pool, empty_pool, pool_at, pool_or_empty, thread_room_in}

-- an item of a list

got_set : {X : Type 0} (xs : List X) (i : ℕ) (x y : X) → slice_get xs i ≡ Some x → slice_get (set xs i y) i ≡ Some y
got_set [] i x y e = cc
got_set (z ∷ zs) zero x y e = refl
got_set (z ∷ zs) (suc i) x y e = got_set zs i x y e

got_set_other : {X : Type 0} (xs : List X) (i j : ℕ) (y : X) → (i ≡ j → ⊥) → slice_get (set xs i y) j ≡ slice_get xs j
got_set_other [] i j y ne = refl
got_set_other (z ∷ zs) zero zero y ne = absurd (ne refl)
got_set_other (z ∷ zs) zero (suc j) y ne = refl
got_set_other (z ∷ zs) (suc i) zero y ne = refl
got_set_other (z ∷ zs) (suc i) (suc j) y ne = got_set_other zs i j y (λ e. ne (ap suc e))

sub_suc_one : (k : ℕ) → suc k - 1 ≡ k
sub_suc_one k = omega arith

at_suc : {X : Type 0} (xs : List X) (k : ℕ) → at_number xs (suc k) ≡ slice_get xs k
at_suc xs k = grind (arith, nat_tests, sub_suc_one k)

with_at_suc : {X : Type 0} (xs : List X) (k : ℕ) (y : X) → with_at_number xs (suc k) y ≡ set xs k y
with_at_suc xs k y = grind (arith, nat_tests, sub_suc_one k)

written_here : {X : Type 0} (xs : List X) (n : ℕ) (x y : X) → at_number xs n ≡ Some x → at_number (with_at_number xs n y) n ≡ Some y
written_here xs zero x y e = cc
written_here xs (suc k) x y e =
    ap (λ ys. at_number ys (suc k)) (with_at_suc xs k y) ∙ at_suc (set xs k y) k ∙ got_set xs k x y (sym (at_suc xs k) ∙ e)

written_elsewhere : {X : Type 0} (xs : List X) (n m : ℕ) (y : X) → (n ≡ m → ⊥) → at_number (with_at_number xs n y) m ≡ at_number xs m
written_elsewhere xs zero m y ne = refl
written_elsewhere xs (suc k) zero y ne = refl
written_elsewhere xs (suc k) (suc j) y ne =
    ap (λ ys. at_number ys (suc j)) (with_at_suc xs k y) ∙ at_suc (set xs k y) j
    ∙ got_set_other xs k j y (λ e. ne (ap suc e))
    ∙ sym (at_suc xs j)

-- the item that was changed, and the others

pub changed_here : {X : Type 0} (xs : List X) (n : ℕ) (change : X → X) → at_number (change_at_number xs n change) n ≡ option_map change (at_number xs n)
changed_here {X} xs n change = go (at_number xs n) refl
  where
    go : (o : Option X) → at_number xs n ≡ o → at_number (change_item xs n change o) n ≡ option_map change o
    go None e = e
    go (Some x) e = written_here xs n x (change x) e

pub changed_elsewhere : {X : Type 0} (xs : List X) (n m : ℕ) (change : X → X) → (n ≡ m → ⊥) → at_number (change_at_number xs n change) m ≡ at_number xs m
changed_elsewhere {X} xs n m change ne = go (at_number xs n)
  where
    go : (o : Option X) → at_number (change_item xs n change o) m ≡ at_number xs m
    go None = refl
    go (Some x) = written_elsewhere xs n m (change x) ne

-- a pool

same_number : (n m : ℕ) → (n == m) ≡ true → n ≡ m
same_number n m e = grind (arith, nat_tests)

other_number : (n m : ℕ) → (n == m) ≡ false → n ≡ m → ⊥
other_number n m e h = grind (arith, nat_tests)

changed_at : (xs : List PoolValue) (n m : ℕ) (change : PoolValue → PoolValue) → n ≡ m → at_number (change_at_number xs n change) m ≡ option_map change (at_number xs m)
changed_at xs n m change e = subst (λ k. at_number (change_at_number xs n change) k ≡ option_map change (at_number xs k)) e (changed_here xs n change)

-- the pool that was changed
pub pool_changed :
    (pools : PoolsValue) (pool other : Pool) (change : PoolValue → PoolValue) → is_pool pool other ≡ true →
    pool_at (change_pool pools pool change) other ≡ option_map change (pool_at pools other)
pool_changed pools (Common p) (Common q) change e = changed_at pools.common p.0 q.0 change (same_number p.0 q.0 e)
pool_changed pools (Common p) (Private d) change e = cc
pool_changed pools (Private d) (Common p) change e = cc
pool_changed pools (Private d) (Private e) change h = changed_at pools.private d e change (same_number d e h)

-- another pool
pub pool_kept :
    (pools : PoolsValue) (pool other : Pool) (change : PoolValue → PoolValue) → is_pool pool other ≡ false →
    pool_at (change_pool pools pool change) other ≡ pool_at pools other
pool_kept pools (Common p) (Common q) change e = changed_elsewhere pools.common p.0 q.0 change (other_number p.0 q.0 e)
pool_kept pools (Common p) (Private d) change e = refl
pool_kept pools (Private d) (Common p) change e = refl
pool_kept pools (Private d) (Private e) change h = changed_elsewhere pools.private d e change (other_number d e h)

-- a pool that has room is there

there_with : (o : Option PoolValue) (room : PoolValue → ℕ) → room empty_pool ≡ 0 → 0 < room (pool_or_empty o) → is_some o ≡ true
there_with None room e h = absurd (omega (arith, e, h))
there_with (Some pool) room e h = refl

pub thread_room_there : (pools : PoolsValue) (pool : Pool) → 0 < thread_room_in pools pool → is_some (pool_at pools pool) ≡ true
thread_room_there pools pool h = there_with (pool_at pools pool) (λ p. p.thread_room) refl h

changed_there : (o : Option PoolValue) (change : PoolValue → PoolValue) → is_some o ≡ true → pool_or_empty (option_map change o) ≡ change (pool_or_empty o)
changed_there None change h = cc
changed_there (Some pool) change h = refl

-- a pool that is there, as it was changed
pub pool_is :
    (pools : PoolsValue) (pool other : Pool) (change : PoolValue → PoolValue) → is_some (pool_at pools other) ≡ true → is_pool pool other ≡ true →
    pool_or_empty (pool_at (change_pool pools pool change) other) ≡ change (pool_or_empty (pool_at pools other))
pool_is pools pool other change there e =
    ap pool_or_empty (pool_changed pools pool other change e) ∙ changed_there (pool_at pools other) change there
