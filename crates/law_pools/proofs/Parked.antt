-- Stacks of parked threads, over what each thread's record says of it: one more at the end, the last one gone, and the pick.
use Rattle.std.proofs.Common.{◌≡◌, ◌⊎◌, inl, inr, ⊎_elim, ℕ, zero, suc, ◌<◌, ◌≤◌, Bool, true, false, if◌then◌else◌, nat_le, List, [], ◌∷◌, ◌++◌, Option, Some, None, length, slice_get, refl, sym, ap, ◌∙◌, subst, true≢false, eq-or-lt_of_le, arith}
use Rattle.std.specs.List.{AllByRecursion, fold}
use Rattle.std.proofs.lemmas.Bool.Decides.{nat_tests}
use Rattle.spec_records.specs.declared.pool.Parked.{Parked}
use Rattle.spec_records.specs.declared.pool.Pool.{Pool}
use Rattle.spec_records.specs.declared.record.ThreadState.{ThreadState}
use Rattle.spec_records.specs.declared.record.ThreadState.TheVariants as is
use Rattle.spec_records.specs.declared.record.Thread.{Thread}
use Rattle.spec_records.specs.Words.{ProcessTable, better_parked, bound_at, is_pool, later_parked, parked_at, parked_in, parked_thread, pick_among, pick_parked, pool_of_thread, thread_at}
use Rattle.server_pool.specs.Words.{IsStack, ParkedBefore, pick_of}
use Rattle.spec_records.proofs.Lists.{numbered_within}
use Rattle.spec_kernel.proofs.Places.{IsIn, place_of}
use Rattle.law_pools.specs.Words.{IsListed, IsParkedIn, IsStackOf}

-- items of lists

pub in_at : {X : Type 0} (xs : List X) (i : ℕ) (x : X) → slice_get xs i ≡ Some x → IsIn x xs
in_at [] i x e = cc
in_at (y ∷ ys) zero x e = let k : y ≡ x = cc in inl (sym k)
in_at (y ∷ ys) (suc i) x e = inr (in_at ys i x e)

pub all_in : {X : Type 0} (P : X → Type 0) (xs : List X) → ((x : X) → IsIn x xs → P x) → AllByRecursion P xs
all_in P [] h = tt
all_in P (x ∷ xs) h = (h x (inl refl), all_in P xs (λ y k. h y (inr k)))

pub in_all : {X : Type 0} (P : X → Type 0) (xs : List X) (x : X) → AllByRecursion P xs → IsIn x xs → P x
in_all P [] x a h = absurd h
in_all P (y ∷ ys) x a (inl e) = subst P (sym e) a.0
in_all P (y ∷ ys) x a (inr h) = in_all P ys x a.1 h

pub in_push : {X : Type 0} (xs : List X) (x y : X) → IsIn x (xs ++ y ∷ []) → IsIn x xs ⊎ (x ≡ y)
in_push [] x y (inl e) = inr e
in_push [] x y (inr h) = absurd h
in_push (z ∷ zs) x y (inl e) = inl (inl e)
in_push (z ∷ zs) x y (inr h) = ⊎_elim (λ k. inl (inr k)) inr (in_push zs x y h)

pub in_front : {X : Type 0} (xs : List X) (x y : X) → IsIn x xs → IsIn x (xs ++ y ∷ [])
in_front [] x y h = absurd h
in_front (z ∷ zs) x y (inl e) = inl e
in_front (z ∷ zs) x y (inr h) = inr (in_front zs x y h)

pub in_last : {X : Type 0} (xs : List X) (y : X) → IsIn y (xs ++ y ∷ [])
in_last [] y = inl refl
in_last (x ∷ xs) y = inr (in_last xs y)

-- the order in which threads parked

before_trans : (x y z : Parked) → ParkedBefore x y → ParkedBefore y z → ParkedBefore x z
before_trans x y z (inl h) (inl k) = inl (omega arith)
before_trans x y z (inl h) (inr k) = let e = k.0 in inl (omega arith)
before_trans x y z (inr h) (inl k) = let e = h.0 in inl (omega arith)
before_trans x y z (inr h) (inr k) = let e = h.0 in let f = h.1 in let g = k.0 in let l = k.1 in inr (omega arith, omega arith)

pub not_both : (x y : Parked) → ParkedBefore x y → ParkedBefore y x → ⊥
not_both x y (inl h) (inl k) = omega arith
not_both x y (inl h) (inr k) = let e = k.0 in omega arith
not_both x y (inr h) (inl k) = let e = h.0 in omega arith
not_both x y (inr h) (inr k) = let e = h.1 in let f = k.1 in omega arith

before_by_number : (x y : Parked) → x.since ≤ y.since → x.thread.0 < y.thread.0 → ParkedBefore x y
before_by_number x y h k = ⊎_elim (λ e. inr (e, k)) inl (eq-or-lt_of_le h)

-- the last of them that parked, where there are any
abbrev pub IsTop : (Parked → Type 0) → Option Parked → Type 0
IsTop Member None = (z : Parked) → Member z → ⊥
IsTop Member (Some x) = Member x × ((z : Parked) → Member z → (z ≡ x) ⊎ ParkedBefore z x)

pub top_unique :
    (M N : Parked → Type 0) (o p : Option Parked) → ((z : Parked) → M z → N z) → ((z : Parked) → N z → M z) → IsTop M o → IsTop N p →
    o ≡ p
top_unique M N None None to from h k = refl
top_unique M N None (Some y) to from h k = absurd (h y (from y k.0))
top_unique M N (Some x) None to from h k = absurd (k x (to x h.0))
top_unique M N (Some x) (Some y) to from h k = go (k.1 x (to x h.0)) (h.1 y (from y k.0))
  where
    go : (x ≡ y) ⊎ ParkedBefore x y → (y ≡ x) ⊎ ParkedBefore y x → Some x ≡ Some y
    go (inl e) b = ap Some e
    go (inr a) (inl e) = ap Some (sym e)
    go (inr a) (inr b) = absurd (not_both x y a b)

-- of a stack: the one that is picked

not_after : (x y : Parked) → ParkedBefore x y → nat_le x.since y.since ≡ true
not_after x y (inl h) = grind (arith, nat_tests)
not_after x y (inr h) = let e = h.0 in grind (arith, nat_tests)

top_more :
    (x y : Parked) (ys : List Parked) (o : Option Parked) → AllByRecursion (ParkedBefore x) (y ∷ ys) → IsTop (λ z. IsIn z (y ∷ ys)) o →
    IsTop (λ z. IsIn z (x ∷ y ∷ ys)) o
top_more x y ys None a h = λ z k. h y (inl refl)
top_more x y ys (Some w) a h = (
  inr h.0,
  λ z k. ⊎_elim (λ e. inr (subst (λ v. ParkedBefore v w) (sym e) (in_all (ParkedBefore x) (y ∷ ys) w a h.0))) (h.1 z) k,
)

top_above :
    (x : Parked) (xs : List Parked) → AllByRecursion (ParkedBefore x) xs → IsStack xs →
    IsTop (λ z. IsIn z (x ∷ xs)) (fold later_parked (Some x) xs)
top_above x [] a o = (inl refl, λ z h. ⊎_elim inl (λ k. absurd k) h)
top_above x (y ∷ ys) a o =
    subst (λ b. IsTop (λ z. IsIn z (x ∷ y ∷ ys)) (fold later_parked (if b then Some y else Some x) ys)) (sym (not_after x y a.0))
    (top_more x y ys (fold later_parked (Some y) ys) a (top_above y ys o.0 o.1))

pub top_of_stack : (xs : List Parked) → IsStack xs → IsTop (λ z. IsIn z xs) (pick_of xs)
top_of_stack [] o = λ z h. h
top_of_stack (x ∷ xs) o = top_above x xs o.0 o.1

-- of the threads 1 to n

-- one more thread, of a greater number than those before
top_later :
    (M N : Parked → Type 0) (best : Option Parked) (x : Parked) → N x → ((z : Parked) → M z → N z) →
    ((z : Parked) → N z → (z ≡ x) ⊎ M z) → ((z : Parked) → M z → z.thread.0 < x.thread.0) → IsTop M best → IsTop N (later_parked best x)
top_later M N None x new keep only below h = (new, λ z k. ⊎_elim inl (λ m. absurd (h z m)) (only z k))
top_later M N (Some best) x new keep only below h = go (nat_le best.since x.since) refl
  where
    past : best.since ≤ x.since → (z : Parked) → M z → ParkedBefore z x
    past l z m =
        let k : ParkedBefore best x = before_by_number best x l (below best h.0) in
        ⊎_elim (λ e. subst (λ w. ParkedBefore w x) (sym e) k) (λ a. before_trans z best x a k) (h.1 z m)

    go : (b : Bool) → nat_le best.since x.since ≡ b → IsTop N (if b then Some x else Some best)
    go true e =
        let l : best.since ≤ x.since = grind (arith, nat_tests) in
        (new, λ z k. ⊎_elim inl (λ m. inr (past l z m)) (only z k))
    go false e =
        let l : x.since < best.since = grind (arith, nat_tests) in
        (keep best h.0, λ z k. ⊎_elim (λ f. inr (subst (λ w. ParkedBefore w best) (sym f) (inl l))) (h.1 z) (only z k))

top_same : (M N : Parked → Type 0) (o : Option Parked) → ((z : Parked) → M z → N z) → ((z : Parked) → N z → M z) → IsTop M o → IsTop N o
top_same M N None to from h = λ z k. h z (from z k)
top_same M N (Some x) to from h = (to x h.0, λ z k. h.1 z (from z k))

record IsAmong (table : ProcessTable) (bindings : List (Option ℕ)) (pool : Pool) (n : ℕ) (x : Parked) : Type 0 where
  high : 0 < x.thread.0
  low : x.thread.0 ≤ n
  parked : parked_at table bindings x.thread.0 ≡ Some x
  same_pool : is_pool pool x.pool ≡ true

parked_in_number : (t : ℕ) (pool : Pool) (s : ThreadState) (y : Parked) → parked_in t pool s ≡ Some y → y.thread.0 ≡ t
parked_in_number t pool (is.Idle since) y e = grind arith
parked_in_number t pool _ y e = grind arith

pub parked_number : (table : ProcessTable) (bindings : List (Option ℕ)) (t : ℕ) (y : Parked) → parked_at table bindings t ≡ Some y → y.thread.0 ≡ t
parked_number table bindings t y e = go (thread_at table t) e
  where
    go : (o : Option Thread) → parked_thread bindings t o ≡ Some y → y.thread.0 ≡ t
    go None f = grind arith
    go (Some x) f = parked_in_number t (pool_of_thread x (bound_at bindings t)) x.state y f

pub parked_within :
    (table : ProcessTable) (bindings : List (Option ℕ)) (t : ℕ) (y : Parked) → parked_at table bindings t ≡ Some y →
    (1 ≤ t) × (t ≤ length table.threads)
parked_within table bindings t y e = go (thread_at table t) refl e
  where
    go : (o : Option Thread) → thread_at table t ≡ o → parked_thread bindings t o ≡ Some y → (1 ≤ t) × (t ≤ length table.threads)
    go None f g = absurd (grind arith)
    go (Some x) f g = numbered_within table.threads t x f

top_among :
    (table : ProcessTable) (bindings : List (Option ℕ)) (pool : Pool) (n : ℕ) →
    IsTop (IsAmong table bindings pool n) (pick_among table bindings pool n)
top_among table bindings pool zero = λ z h. omega (arith, h.high, h.low)
top_among table bindings pool (suc n) = go (parked_at table bindings (suc n)) refl (top_among table bindings pool n)
  where
    keep : (z : Parked) → IsAmong table bindings pool n z → IsAmong table bindings pool (suc n) z
    keep z h = record { high = h.high; low = omega (arith, h.low); parked = h.parked; same_pool = h.same_pool }

    split : (z : Parked) → IsAmong table bindings pool (suc n) z → (z.thread.0 ≡ suc n) ⊎ IsAmong table bindings pool n z
    split z h =
        ⊎_elim inl (λ l. inr (record { high = h.high; low = omega (arith, l); parked = h.parked; same_pool = h.same_pool }))
        (eq-or-lt_of_le h.low)

    at_last :
        (o : Option Parked) (z : Parked) → parked_at table bindings (suc n) ≡ o → z.thread.0 ≡ suc n →
        IsAmong table bindings pool (suc n) z → Some z ≡ o
    at_last o z e f h = sym h.parked ∙ ap (parked_at table bindings) f ∙ e

    in_pool :
        (x : Parked) (b : Bool) → is_pool pool x.pool ≡ b → parked_at table bindings (suc n) ≡ Some x →
        IsTop (IsAmong table bindings pool n) (pick_among table bindings pool n) →
        IsTop (IsAmong table bindings pool (suc n)) (if b then later_parked (pick_among table bindings pool n) x else pick_among table bindings pool n)
    in_pool x true f e h =
        let number : x.thread.0 ≡ suc n = parked_number table bindings (suc n) x e in
        top_later (IsAmong table bindings pool n) (IsAmong table bindings pool (suc n)) (pick_among table bindings pool n) x
        (record {
          high = omega arith;
          low = omega arith;
          parked = ap (parked_at table bindings) number ∙ e;
          same_pool = f;
        })
        keep
        (λ z k. ⊎_elim (λ l. let same : Some z ≡ Some x = at_last (Some x) z e l k in let same' : z ≡ x = cc in inl same') inr (split z k))
        (λ z k. omega (arith, k.low))
        h
    in_pool x false f e h =
        top_same (IsAmong table bindings pool n) (IsAmong table bindings pool (suc n)) (pick_among table bindings pool n) keep
        (λ z k. ⊎_elim
        (λ l.
        let same : Some z ≡ Some x = at_last (Some x) z e l k in
        let same' : z ≡ x = cc in
        absurd (true≢false (sym k.same_pool ∙ ap (λ (w : Parked). is_pool pool w.pool) same' ∙ f)))
        (λ m. m) (split z k))
        h

    go :
        (o : Option Parked) → parked_at table bindings (suc n) ≡ o →
        IsTop (IsAmong table bindings pool n) (pick_among table bindings pool n) →
        IsTop (IsAmong table bindings pool (suc n)) (better_parked pool (pick_among table bindings pool n) o)
    go None e h =
        top_same (IsAmong table bindings pool n) (IsAmong table bindings pool (suc n)) (pick_among table bindings pool n) keep
        (λ z k. ⊎_elim (λ l. let none : Some z ≡ None = at_last None z e l k in absurd cc) (λ m. m) (split z k))
        h
    go (Some x) e h = in_pool x (is_pool pool x.pool) refl e h

-- the pick of a stack is that of the records

pub pick_of_stack :
    (table : ProcessTable) (bindings : List (Option ℕ)) (latest : ℕ) (pool : Pool) (stack : List Parked) →
    IsStackOf table bindings latest pool stack → pick_parked table bindings pool ≡ pick_of stack
pick_of_stack table bindings latest pool stack h =
    top_unique (IsAmong table bindings pool (length table.threads)) (λ z. IsIn z stack) (pick_parked table bindings pool) (pick_of stack)
    (λ z k. let p : IsListed stack z = h.all z.thread.0 z k.parked k.same_pool in in_at stack p.place z p.there)
    (λ z k.
    let p : (i : ℕ) × (slice_get stack i ≡ Some z) = place_of z stack k in
    let q : IsParkedIn table bindings latest pool z = h.parked p.0 z p.1 in
    let w : (1 ≤ z.thread.0) × (z.thread.0 ≤ length table.threads) = parked_within table bindings z.thread.0 z q.parked in
    record { high = omega (arith, w.0); low = w.1; parked = q.parked; same_pool = q.same_pool })
    (top_among table bindings pool (length table.threads))
    (top_of_stack stack h.in_order)

-- it is parked there
pub pick_parked_in :
    (table : ProcessTable) (bindings : List (Option ℕ)) (latest : ℕ) (pool : Pool) (stack : List Parked) (x : Parked) →
    IsStackOf table bindings latest pool stack → pick_of stack ≡ Some x → IsParkedIn table bindings latest pool x
pick_parked_in table bindings latest pool stack x h e =
    let top : IsTop (λ z. IsIn z stack) (Some x) = subst (IsTop (λ z. IsIn z stack)) e (top_of_stack stack h.in_order) in
    let p : (i : ℕ) × (slice_get stack i ≡ Some x) = place_of x stack top.0 in
    h.parked p.0 x p.1
