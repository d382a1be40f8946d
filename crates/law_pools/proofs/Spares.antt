-- The spare threads of a process: the lowest of them, and those that are left when it starts.
use Rattle.std.proofs.Common.{◌≡◌, ⊎_elim, ℕ, zero, suc, ◌+◌, ◌<◌, ◌≤◌, ◌==◌, ◌&&◌, Bool, true, false, if◌then◌else◌, cond, not, List, [], ◌∷◌, ◌++◌, Option, Some, None, length, slice_get, position, refl, sym, ap, ap₂, ◌∙◌, subst, eq-or-lt_of_le, add-one, arith}
use Rattle.std.specs.List.{position_or_len}
use Rattle.std.proofs.lemmas.Bool.Decides.{nat_tests}
use Rattle.std.proofs.lemmas.Option.{slice_get_within}
use Rattle.spec_records.specs.declared.record.Thread.{Thread}
use Rattle.spec_records.specs.declared.record.ThreadState.TheVariants as is
use Rattle.spec_records.specs.Words.{ProcessTable, is_dormant, is_spare_of, set_thread_state, start_spare, start_thread_at, state_in, thread_at}
use Rattle.spec_records.proofs.Lists.{at_number-suc}
use Rattle.law_pools.specs.Words.{spare_at, spare_in, spares_among}

-- one thread

spare_test : (p t : ℕ) (x : Thread) (b : Bool) → is_spare_of p x ≡ b → spare_in p t (Some x) ≡ (if b then t ∷ [] else [])
spare_test p t x b e = ap (λ c. if c then t ∷ [] else []) e

pub not_spare_in : (p t : ℕ) (o : Option Thread) → is_dormant (state_in o) ≡ false → spare_in p t o ≡ []
not_spare_in p t None e = refl
not_spare_in p t (Some x) e = spare_test p t x false (grind (arith, nat_tests))

pub not_spare : (table : ProcessTable) (p t : ℕ) → is_dormant (state_in (thread_at table t)) ≡ false → spare_at table p t ≡ []
not_spare table p t e = not_spare_in p t (thread_at table t) e

pub record IsSpare (p t : ℕ) (o : Option Thread) : Type 0 where
  pub thread : Thread
  pub there : o ≡ Some thread
  pub spare : is_spare_of p thread ≡ true

from_spare : (p t u : ℕ) (us : List ℕ) (o : Option Thread) → spare_in p t o ≡ u ∷ us → (u ≡ t) × IsSpare p t o
from_spare p t u us None e = cc
from_spare p t u us (Some x) e = go (is_spare_of p x) refl e
  where
    go : (b : Bool) → is_spare_of p x ≡ b → (if b then t ∷ [] else []) ≡ u ∷ us → (u ≡ t) × IsSpare p t (Some x)
    go true f g = (cc, record { thread = x; there = refl; spare = f })
    go false f g = cc

is_spare_there : (p t : ℕ) (o : Option Thread) → IsSpare p t o → spare_in p t o ≡ t ∷ []
is_spare_there p t o h = ap (spare_in p t) h.there ∙ spare_test p t h.thread true h.spare

from_no_spare : (p t : ℕ) (o : Option Thread) (x : Thread) → spare_in p t o ≡ [] → o ≡ Some x → is_spare_of p x ≡ false
from_no_spare p t o x e f = go (is_spare_of p x) refl (sym (ap (spare_in p t) f) ∙ e)
  where
    go : (b : Bool) → is_spare_of p x ≡ b → (if b then t ∷ [] else []) ≡ [] → is_spare_of p x ≡ false
    go true g h = cc
    go false g h = g

pub spare_dormant : (p t : ℕ) (o : Option Thread) → IsSpare p t o → is_dormant (state_in o) ≡ true
spare_dormant p t o h = ap (λ o. is_dormant (state_in o)) h.there ∙ second (h.thread.process.0 == p) (is_dormant h.thread.state) h.spare
  where
    second : (b c : Bool) → b && c ≡ true → c ≡ true
    second true c e = e
    second false c e = cc

pub spare_of_one : (p q t : ℕ) (o : Option Thread) → IsSpare p t o → (p == q) ≡ false → spare_in q t o ≡ []
spare_of_one p q t o h other =
    let spare : is_spare_of p h.thread ≡ true = h.spare in
    ap (spare_in q t) h.there ∙ spare_test q t h.thread false (apart h.thread.process.0 (is_dormant h.thread.state) spare)
  where
    apart : (r : ℕ) (b : Bool) → (r == p) && b ≡ true → (r == q) && b ≡ false
    apart r b e = grind (arith, nat_tests)

-- those among the threads 1 to n

pub spares_same :
    (table after : ProcessTable) (p n : ℕ) → ((u : ℕ) → u ≤ n → spare_at after p u ≡ spare_at table p u) →
    spares_among after p n ≡ spares_among table p n
spares_same table after p zero h = refl
spares_same table after p (suc n) h = ap₂ (λ us vs. us ++ vs) (spares_same table after p n (λ u l. h u (omega arith))) (h (suc n) (omega arith))

no_spares_below : (table : ProcessTable) (p n : ℕ) → ((u : ℕ) → u ≤ n → spare_at table p u ≡ []) → spares_among table p n ≡ []
no_spares_below table p zero h = refl
no_spares_below table p (suc n) h = ap₂ (λ us vs. us ++ vs) (no_spares_below table p n (λ u l. h u (omega arith))) (h (suc n) (omega arith))

append_none : {X : Type 0} (xs ys : List X) → xs ++ ys ≡ [] → (xs ≡ []) × (ys ≡ [])
append_none [] ys e = (refl, e)
append_none (x ∷ xs) ys e = cc

none_among : (table : ProcessTable) (p n : ℕ) → spares_among table p n ≡ [] → (u : ℕ) → u ≤ n → spare_at table p u ≡ []
none_among table p zero e u l = ap (spare_at table p) zero_is
  where
    zero_is : u ≡ 0
    zero_is = omega arith
none_among table p (suc n) e u l =
    let h : (spares_among table p n ≡ []) × (spare_at table p (suc n) ≡ []) = append_none (spares_among table p n) (spare_at table p (suc n)) e in
    ⊎_elim (λ same. ap (spare_at table p) same ∙ h.1) (λ below. none_among table p n h.0 u (omega (arith, below))) (eq-or-lt_of_le l)

-- t is the lowest of them
pub record IsLowest (table : ProcessTable) (p n t : ℕ) : Type 0 where
  pub low : 1 ≤ t
  pub high : t ≤ n
  pub spare : IsSpare p t (thread_at table t)
  pub below : (u : ℕ) → u < t → spare_at table p u ≡ []

pub lowest_of : (table : ProcessTable) (p n t : ℕ) (rest : List ℕ) → spares_among table p n ≡ t ∷ rest → IsLowest table p n t
lowest_of table p zero t rest e = cc
lowest_of table p (suc n) t rest e = go (spares_among table p n) refl e (λ us f. lowest_of table p n t us f)
  where
    go :
        (us : List ℕ) → spares_among table p n ≡ us → us ++ spare_at table p (suc n) ≡ t ∷ rest →
        ((vs : List ℕ) → spares_among table p n ≡ t ∷ vs → IsLowest table p n t) → IsLowest table p (suc n) t
    go [] f g ih =
        let h : (t ≡ suc n) × IsSpare p (suc n) (thread_at table (suc n)) = from_spare p (suc n) t rest (thread_at table (suc n)) g in
        let number : t ≡ suc n = h.0 in
        record {
          low = omega arith;
          high = omega arith;
          spare = subst (λ u. IsSpare p u (thread_at table u)) (sym number) h.1;
          below = λ u l. none_among table p n f u (omega arith);
        }
    go (u ∷ us) f g ih =
        let same : u ≡ t = cc in
        let h : IsLowest table p n t = ih us (f ∙ ap (λ w. w ∷ us) same) in
        record { low = h.low; high = omega (arith, h.high); spare = h.spare; below = h.below }

-- the others are left where it is one no more
pub spares_left :
    (table after : ProcessTable) (p n t : ℕ) → IsLowest table p n t → spare_at after p t ≡ [] →
    ((u : ℕ) → (u == t) ≡ false → spare_at after p u ≡ spare_at table p u) → (m : ℕ) → t ≤ m →
    spares_among table p m ≡ t ∷ spares_among after p m
spares_left table after p n t h gone others zero l = absurd (omega (arith, h.low))
spares_left table after p n t h gone others (suc m) l =
    ⊎_elim here (λ k. past (spares_left table after p n t h gone others m (omega (arith, k))) k) (eq-or-lt_of_le l)
  where
    left : (u : ℕ) → u < t → spare_at after p u ≡ []
    left u k = others u (grind (arith, nat_tests)) ∙ h.below u k

    here : t ≡ suc m → spares_among table p (suc m) ≡ t ∷ spares_among after p (suc m)
    here e =
        ap₂ (λ us vs. us ++ vs) (no_spares_below table p m (λ u k. h.below u (omega (arith, e, k))))
        (ap (spare_at table p) (sym e) ∙ is_spare_there p t (thread_at table t) h.spare)
        ∙ ap (λ us. t ∷ us) (sym (ap₂ (λ us vs. us ++ vs) (no_spares_below after p m (λ u k. left u (omega (arith, e, k)))) (ap (spare_at after p) (sym e) ∙ gone)))

    past :
        spares_among table p m ≡ t ∷ spares_among after p m → t < suc m →
        spares_among table p (suc m) ≡ t ∷ spares_among after p (suc m)
    past ih k = ap₂ (λ us vs. us ++ vs) ih (sym (others (suc m) (grind (arith, nat_tests))))

-- the first item that passes a test

first_passes :
    {X : Type 0} (test : X → Bool) (xs : List X) (k : ℕ) (x : X) → slice_get xs k ≡ Some x → test x ≡ true →
    ((j : ℕ) (y : X) → j < k → slice_get xs j ≡ Some y → test y ≡ false) → position_or_len test xs ≡ k
first_passes test [] k x e f h = cc
first_passes test (y ∷ ys) zero x e f h =
    let same : y ≡ x = cc in
    ap (λ b. cond (not b) (1 + position_or_len test ys) 0) (ap test same ∙ f)
first_passes test (y ∷ ys) (suc k) x e f h =
    let rest : position_or_len test ys ≡ k = first_passes test ys k x e f (λ j z l g. h (suc j) z (omega (arith, l)) g) in
    ap (λ b. cond (not b) (1 + position_or_len test ys) 0) (h 0 y (omega arith) refl) ∙ omega arith

none_passes : {X : Type 0} (test : X → Bool) (xs : List X) → ((j : ℕ) (y : X) → slice_get xs j ≡ Some y → test y ≡ false) → position_or_len test xs ≡ length xs
none_passes test [] h = refl
none_passes test (x ∷ xs) h =
    let rest : position_or_len test xs ≡ length xs = none_passes test xs (λ j y e. h (suc j) y e) in
    ap (λ b. cond (not b) (1 + position_or_len test xs) 0) (h 0 x refl) ∙ omega arith

pub start_first :
    (table : ProcessTable) (p n t : ℕ) → IsLowest table p n t → start_spare table p ≡ set_thread_state table t is.Running
start_first table p n zero h = absurd (omega (arith, h.low))
start_first table p n (suc k) h =
    let e : position_or_len (is_spare_of p) table.threads ≡ k =
    first_passes (is_spare_of p) table.threads k h.spare.thread (sym (at_number-suc table.threads k) ∙ h.spare.there) h.spare.spare
    (λ j y l f. from_no_spare p (suc j) (thread_at table (suc j)) y (h.below (suc j) (omega arith)) (at_number-suc table.threads j ∙ f)) in
    let l : k < length table.threads = slice_get_within table.threads k h.spare.thread (sym (at_number-suc table.threads k) ∙ h.spare.there) in
    let found : position (is_spare_of p) table.threads ≡ Some k = grind (arith, nat_tests) in
    ap (start_thread_at table) found ∙ ap (λ t. set_thread_state table t is.Running) (add-one k)

pub start_none :
    (table : ProcessTable) (p : ℕ) → spares_among table p (length table.threads) ≡ [] → start_spare table p ≡ table
start_none table p e =
    let f : position_or_len (is_spare_of p) table.threads ≡ length table.threads =
    none_passes (is_spare_of p) table.threads
    (λ j y g.
    let l : j < length table.threads = slice_get_within table.threads j y g in
    from_no_spare p (suc j) (thread_at table (suc j)) y (none_among table p (length table.threads) e (suc j) (omega arith)) (at_number-suc table.threads j ∙ g)) in
    let found : position (is_spare_of p) table.threads ≡ None = grind (arith, nat_tests) in
    ap (start_thread_at table) found
