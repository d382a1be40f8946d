-- The room of threads that is left: a pool has at most so many more parked threads as became Idle in it.
use Rattle.std.proofs.Common.{◌≡◌, ⊎_elim, ℕ, zero, suc, ◌+◌, ◌≤◌, ◌==◌, ◌&&◌, ◌||◌, not, Bool, true, false, if◌then◌else◌, List, [], ◌∷◌, Option, Some, None, count_by, length, map, slice_get, refl, sym, ap, ap₂, ◌∙◌, subst, le_refl, length-append, arith}
use Rattle.std.specs.List.{AllByRecursion, list_any}
use Rattle.std.proofs.lemmas.Bool.Decides.{nat_tests}
use Rattle.std.proofs.lemmas.List.{map-append}
use Rattle.dk_base.specs.declared.number.Tid.{Tid}
use Rattle.dk_base.specs.declared.limits.TheConstants.{THREADS_MAX}
use Rattle.spec_records.specs.declared.record.ThreadState.TheVariants as is
use Rattle.spec_records.specs.Words.{CallTree, NoticeList, ProcessTable, bound_at, is_idle, is_pool, numbers_where, parked_at, parked_in, parked_thread, pool_of_thread, process_in, state_in, thread_at, tid}
use Rattle.spec_kernel.specs.Types.{Door, Parked, Pool, Thread, ThreadState}
use Rattle.spec_kernel.proofs.Places.{IsIn, place_of}
use Rattle.server_pool.specs.Words.{IsStack, ParkedBefore, PoolsValue, is_thread, stack_in}
use Rattle.law_pools.specs.Words.{Agrees, IsListed, IsParkedIn, pool_by}
use Rattle.law_pools.proofs.Parked.{all_in, not_both, parked_number, parked_within}
use Rattle.law_pools.proofs.Readers.{same_number}
use Rattle.law_pools.proofs.Stacks.{not_parked}
use Rattle.law_pools.proofs.Unparking.{parked_in_own}
use Rattle.exit_paths.specs.Words.{became_idle, is_idle_at, parks_in, threads_where}
use Rattle.exit_paths.proofs.Alone.{none_low, none_zero, one_number}
use Rattle.exit_paths.proofs.ItemsLeft.{count_cons}
use Rattle.exit_paths.proofs.LeftThreads.{or_later}
use Rattle.exit_paths.proofs.Transit.{count_append}
use Rattle.exit_paths.proofs.Unmoved.{numbers_none}

-- how many numbers pass a test

abbrev weight : Bool → ℕ
weight b = if b then 1 else 0

abbrev count : (ℕ → Bool) → ℕ → ℕ
count test n = length (numbers_where test n)

one_more : (test : ℕ → Bool) (n : ℕ) → count test (suc n) ≡ count test n + weight (test (suc n))
one_more test n = length-append (numbers_where test n) (if test (suc n) then suc n ∷ [] else []) ∙ ap (λ k. count test n + k) (go (test (suc n)))
  where
    go : (b : Bool) → length (if b then suc n ∷ [] else []) ≡ weight b
    go true = refl
    go false = refl

-- those that pass one test, counted by another
counted_both : (p : ℕ → Bool) (q : Tid → Bool) (n : ℕ) → count_by q (map tid (numbers_where p n)) ≡ count (λ k. p k && q (tid k)) n
counted_both p q zero = refl
counted_both p q (suc n) =
    ap (count_by q) (map-append tid (numbers_where p n) (if p (suc n) then suc n ∷ [] else []))
    ∙ count_append q (map tid (numbers_where p n)) (map tid (if p (suc n) then suc n ∷ [] else []))
    ∙ ap₂ (λ a b. a + b) (counted_both p q n) (go (p (suc n)))
    ∙ sym (one_more (λ k. p k && q (tid k)) n)
  where
    one : (b : Bool) → q (tid (suc n)) ≡ b → count_by q (tid (suc n) ∷ []) ≡ weight b
    one b e = count_cons q (tid (suc n)) [] ∙ ap (λ c. weight c + 0) e ∙ plus (weight b)
      where
        plus : (m : ℕ) → m + 0 ≡ m
        plus m = omega arith

    go : (b : Bool) → count_by q (map tid (if b then suc n ∷ [] else [])) ≡ weight (b && q (tid (suc n)))
    go true = one (q (tid (suc n))) refl
    go false = refl

-- each that passes one test passes one of two others
among_two : (p q r : ℕ → Bool) → ((k : ℕ) → weight (p k) ≤ weight (q k) + weight (r k)) → (n : ℕ) → count p n ≤ count q n + count r n
among_two p q r h zero = omega arith
among_two p q r h (suc n) =
    let a : count p (suc n) ≡ count p n + weight (p (suc n)) = one_more p n in
    let b : count q (suc n) ≡ count q n + weight (q (suc n)) = one_more q n in
    let c : count r (suc n) ≡ count r n + weight (r (suc n)) = one_more r n in
    let ih : count p n ≤ count q n + count r n = among_two p q r h n in
    let here : weight (p (suc n)) ≤ weight (q (suc n)) + weight (r (suc n)) = h (suc n) in omega arith

-- each passes at most one of two tests, and then a third
both_among : (p q r : ℕ → Bool) → ((k : ℕ) → weight (p k) + weight (q k) ≤ weight (r k)) → (n : ℕ) → count p n + count q n ≤ count r n
both_among p q r h zero = omega arith
both_among p q r h (suc n) =
    let a : count p (suc n) ≡ count p n + weight (p (suc n)) = one_more p n in
    let b : count q (suc n) ≡ count q n + weight (q (suc n)) = one_more q n in
    let c : count r (suc n) ≡ count r n + weight (r (suc n)) = one_more r n in
    let ih : count p n + count q n ≤ count r n = both_among p q r h n in
    let here : weight (p (suc n)) + weight (q (suc n)) ≤ weight (r (suc n)) = h (suc n) in omega arith

abbrev is_number : ℕ → ℕ → Bool
is_number u k = (k == u) && true

at_most_one : (u n : ℕ) → count (is_number u) n ≤ 1
at_most_one zero n = subst (λ (xs : List ℕ). length xs ≤ 1) (sym (none_zero n true)) (omega arith)
at_most_one (suc u) n =
    ⊎_elim (λ l. subst (λ (xs : List ℕ). length xs ≤ 1) (sym (one_number (suc u) n (omega arith) l)) (omega arith))
    (λ l. subst (λ (xs : List ℕ). length xs ≤ 1) (sym (none_low (suc u) n l)) (omega arith)) (or_later (suc u) n)

-- the threads of a stack

abbrev stands_in : List Parked → ℕ → Bool
stands_in xs t = list_any (is_thread t) xs

same_test : (j k : ℕ) → (j == k) ≡ (k == j)
same_test j k = grind (arith, nat_tests)

no_more_numbers : (xs : List Parked) (n : ℕ) → count (stands_in xs) n ≤ length xs
no_more_numbers [] n = subst (λ (ys : List ℕ). length ys ≤ 0) (sym (numbers_none (λ t. false) (λ t. refl) n)) (le_refl 0)
no_more_numbers (x ∷ xs) n =
    let a : count (stands_in (x ∷ xs)) n ≤ count (is_number x.thread.0) n + count (stands_in xs) n = among_two (stands_in (x ∷ xs)) (is_number x.thread.0) (stands_in xs) each n in
    let b : count (is_number x.thread.0) n ≤ 1 = at_most_one x.thread.0 n in
    let c : count (stands_in xs) n ≤ length xs = no_more_numbers xs n in omega arith
  where
    go : (b c : Bool) → weight (b || c) ≤ weight (b && true) + weight c
    go true c = omega arith
    go false c = omega arith

    each : (k : ℕ) → weight (stands_in (x ∷ xs) k) ≤ weight (is_number x.thread.0 k) + weight (stands_in xs k)
    each k = subst (λ b. weight (b || stands_in xs k) ≤ weight ((k == x.thread.0) && true) + weight (stands_in xs k)) (same_test k x.thread.0) (go (k == x.thread.0) (stands_in xs k))

-- each is parked as the records say, so none stands there twice
module _ (at : ℕ → Option Parked) where
  abbrev IsAt : Parked → Type 0
  IsAt x = at x.thread.0 ≡ Some x

  alone : (x : Parked) (xs : List Parked) → IsAt x → AllByRecursion IsAt xs → AllByRecursion (ParkedBefore x) xs → stands_in xs x.thread.0 ≡ false
  alone x [] e a b = refl
  alone x (y ∷ ys) e a b = go (y.thread.0 == x.thread.0) refl (alone x ys e a.1 b.1)
    where
      go : (c : Bool) → (y.thread.0 == x.thread.0) ≡ c → stands_in ys x.thread.0 ≡ false → (c || stands_in ys x.thread.0) ≡ false
      go true i rest =
          let same : Some x ≡ Some y = sym e ∙ ap at (sym (same_number y.thread.0 x.thread.0 i)) ∙ a.0 in
          let one : x ≡ y = cc in absurd (not_both x x (subst (ParkedBefore x) (sym one) b.0) (subst (ParkedBefore x) (sym one) b.0))
      go false i rest = rest

  no_fewer_numbers : (n : ℕ) (xs : List Parked) → AllByRecursion IsAt xs → AllByRecursion (λ x. (1 ≤ x.thread.0) × (x.thread.0 ≤ n)) xs → IsStack xs → length xs ≤ count (stands_in xs) n
  no_fewer_numbers n [] a w s = omega arith
  no_fewer_numbers n (x ∷ xs) a w s =
      let one : count (is_number x.thread.0) n ≡ 1 = ap length (one_number x.thread.0 n (w.0).0 (w.0).1) in
      let rest : length xs ≤ count (stands_in xs) n = no_fewer_numbers n xs a.1 w.1 s.1 in
      let both : count (is_number x.thread.0) n + count (stands_in xs) n ≤ count (stands_in (x ∷ xs)) n = both_among (is_number x.thread.0) (stands_in xs) (stands_in (x ∷ xs)) each n in
      omega arith
    where
      go : (k : ℕ) (b : Bool) → (k == x.thread.0) ≡ b → weight (b && true) + weight (stands_in xs k) ≤ weight (b || stands_in xs k)
      go k true e = subst (λ c. 1 + weight c ≤ 1) (sym (ap (stands_in xs) (same_number k x.thread.0 e) ∙ alone x xs a.0 a.1 s.0)) (omega arith)
      go k false e = omega arith

      each : (k : ℕ) → weight (is_number x.thread.0 k) + weight (stands_in xs k) ≤ weight (stands_in (x ∷ xs) k)
      each k =
          subst (λ b. weight ((k == x.thread.0) && true) + weight (stands_in xs k) ≤ weight (b || stands_in xs k)) (same_test k x.thread.0) (go k (k == x.thread.0) refl)

-- who stands there

found : (t : ℕ) (xs : List Parked) → stands_in xs t ≡ true → (i : ℕ) × (y : Parked) × (slice_get xs i ≡ Some y) × (y.thread.0 ≡ t)
found t [] e = cc
found t (x ∷ xs) e = go (x.thread.0 == t) refl e (found t xs)
  where
    go :
        (b : Bool) → (x.thread.0 == t) ≡ b → (b || stands_in xs t) ≡ true →
        (stands_in xs t ≡ true → (i : ℕ) × (y : Parked) × (slice_get xs i ≡ Some y) × (y.thread.0 ≡ t)) → (i : ℕ) × (y : Parked) × (slice_get (x ∷ xs) i ≡ Some y) × (y.thread.0 ≡ t)
    go true k f later = (0, x, refl, same_number x.thread.0 t k)
    go false k f later = let r = later f in (suc r.0, r.1, r.2, r.3)

stands : (t i : ℕ) (xs : List Parked) (y : Parked) → slice_get xs i ≡ Some y → y.thread.0 ≡ t → stands_in xs t ≡ true
stands t i [] y e n = cc
stands t zero (x ∷ xs) y e n = let same : x ≡ y = cc in ap (λ b. b || stands_in xs t) (equal x.thread.0 t (ap (λ (z : Parked). z.thread.0) same ∙ n))
  where
    equal : (j k : ℕ) → j ≡ k → (j == k) ≡ true
    equal j k m = grind (arith, nat_tests)
stands t (suc i) (x ∷ xs) y e n = ap (λ b. (x.thread.0 == t) || b) (stands t i xs y e n) ∙ last (x.thread.0 == t)
  where
    last : (b : Bool) → (b || true) ≡ true
    last true = refl
    last false = refl

-- an idle thread is parked
parked_idle : (table : ProcessTable) (bindings : List (Option ℕ)) (t : ℕ) → is_idle_at table t ≡ true → (x : Parked) × (parked_at table bindings t ≡ Some x)
parked_idle table bindings t e = go (thread_at table t) e
  where
    at_state : (pool : Pool) (s : ThreadState) → is_idle s ≡ true → (x : Parked) × (parked_in t pool s ≡ Some x)
    at_state pool (is.Idle since) f = (record { thread = tid t; pool = pool; since = since }, refl)
    at_state pool _ f = cc

    go : (o : Option Thread) → is_idle (state_in o) ≡ true → (x : Parked) × (parked_thread bindings t o ≡ Some x)
    go None f = cc
    go (Some x) f = at_state (pool_of_thread x (bound_at bindings t)) x.state f

module _
    {n m : ℕ} {table after : ProcessTable} {doors ends : List Door} {tree left : CallTree} {list kept : NoticeList} {v w : PoolsValue}
    (h : Agrees n table doors tree list v) (k : Agrees m after ends left kept w) (processes : (t : ℕ) → process_in (thread_at after t) ≡ process_in (thread_at table t))
    (bindings : w.bindings ≡ v.bindings) (few : length after.threads ≤ THREADS_MAX) (q : Pool) where
  abbrev came : ℕ → Bool
  came t = became_idle table after t && parks_in after w.bindings q (tid t)

  -- a thread that is parked here was parked here, or became Idle
  was_there : (t : ℕ) → stands_in (stack_in w q) t ≡ true → (stands_in (stack_in v q) t || came t) ≡ true
  was_there t s = go (is_idle_at table t) refl (is_idle_at after t) refl
    where
      y : (i : ℕ) × (y : Parked) × (slice_get (stack_in w q) i ≡ Some y) × (y.thread.0 ≡ t)
      y = found t (stack_in w q) s

      in_pool : IsParkedIn after w.bindings m q y.1
      in_pool = (k.stacks q).parked y.0 y.1 y.2

      parked : parked_at after w.bindings t ≡ Some y.1
      parked = ap (parked_at after w.bindings) (sym y.3) ∙ in_pool.parked

      own : parks_in after w.bindings q (tid t) ≡ true
      own = ap (is_pool q) (sym (parked_in_own after w.bindings t y.1 parked)) ∙ in_pool.same_pool

      or_true : (b : Bool) → (b || true) ≡ true
      or_true true = refl
      or_true false = refl

      before : is_idle_at table t ≡ true → stands_in (stack_in v q) t ≡ true
      before e =
          let z : (x : Parked) × (parked_at table v.bindings t ≡ Some x) = parked_idle table v.bindings t e in
          let same : z.0.pool ≡ y.1.pool =
          parked_in_own table v.bindings t z.0 z.1 ∙ ap₂ (λ p bs. pool_by p (bound_at bs t)) (sym (processes t)) (sym bindings)
          ∙ sym (parked_in_own after w.bindings t y.1 parked) in
          let listed : IsListed (stack_in v q) z.0 = (h.stacks q).all t z.0 z.1 (ap (is_pool q) same ∙ in_pool.same_pool) in
          stands t listed.place (stack_in v q) z.0 listed.there (parked_number table v.bindings t z.0 z.1)

      go : (b : Bool) → is_idle_at table t ≡ b → (c : Bool) → is_idle_at after t ≡ c → (stands_in (stack_in v q) t || ((not b && c) && parks_in after w.bindings q (tid t))) ≡ true
      go true e c f = ap (λ b. b || ((not true && c) && parks_in after w.bindings q (tid t))) (before e)
      go false e true f = ap (λ b. stands_in (stack_in v q) t || b) own ∙ or_true (stands_in (stack_in v q) t)
      go false e false f = let none : Some y.1 ≡ None = sym parked ∙ not_parked after w.bindings t f in cc

  pub stack_left : length (stack_in w q) ≤ length (stack_in v q) + count_by (parks_in after w.bindings q) (threads_where (became_idle table after))
  stack_left =
      let a : length (stack_in w q) ≤ count (stands_in (stack_in w q)) THREADS_MAX =
      no_fewer_numbers (parked_at after w.bindings) THREADS_MAX (stack_in w q)
      (all_in (λ x. parked_at after w.bindings x.thread.0 ≡ Some x) (stack_in w q) (λ x i. parked x i))
      (all_in (λ x. (1 ≤ x.thread.0) × (x.thread.0 ≤ THREADS_MAX)) (stack_in w q) (λ x i. let r = parked_within after w.bindings x.thread.0 x (parked x i) in (r.0, omega (arith, r.1, few))))
      (k.stacks q).in_order in
      let b : count (stands_in (stack_in w q)) THREADS_MAX ≤ count (stands_in (stack_in v q)) THREADS_MAX + count came THREADS_MAX =
      among_two (stands_in (stack_in w q)) (stands_in (stack_in v q)) came (λ t. each (stands_in (stack_in w q) t) (stands_in (stack_in v q) t) (came t) (was_there t)) THREADS_MAX in
      let c : count (stands_in (stack_in v q)) THREADS_MAX ≤ length (stack_in v q) = no_more_numbers (stack_in v q) THREADS_MAX in
      let d : count_by (parks_in after w.bindings q) (threads_where (became_idle table after)) ≡ count came THREADS_MAX =
      counted_both (became_idle table after) (parks_in after w.bindings q) THREADS_MAX in
      omega arith
    where
      parked : (x : Parked) → IsIn x (stack_in w q) → parked_at after w.bindings x.thread.0 ≡ Some x
      parked x i = let r : (j : ℕ) × (slice_get (stack_in w q) j ≡ Some x) = place_of x (stack_in w q) i in ((k.stacks q).parked r.0 x r.1).parked

      each : (p q r : Bool) → (p ≡ true → (q || r) ≡ true) → weight p ≤ weight q + weight r
      each false q r e = omega arith
      each true true r e = omega arith
      each true false true e = omega arith
      each true false false e = let f : false ≡ true = e refl in cc
