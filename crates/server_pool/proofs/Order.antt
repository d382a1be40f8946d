-- Lists in order: one more item at the end, and some fewer.
use Rattle.std.proofs.Common.{◌≡◌, inl, inr, ℕ, zero, suc, ◌-◌, Bool, true, false, cond, ◌<◌, nat_le, nat_lt, ◌&&◌, List, [], ◌∷◌, ◌++◌, Option, Some, None, length, take, filter, slice_get, refl, sym, ap, subst, ◌∙◌, arith}
use Rattle.std.proofs.lemmas.Option.{same_Some}
use Rattle.std.specs.List.{AllByRecursion, fold, list_all}
use Rattle.std.proofs.lemmas.Bool.Decides.{nat_tests}
use Rattle.spec_records.specs.declared.pool.Parked.{Parked}
use Rattle.spec_records.specs.Words.{later_parked}
use Rattle.server_pool.specs.Words.{AllBelow, AllParkedBefore, IsOrderedBy, IsStack, ParkedBefore, pick_of}

-- all items of a list, by recursion

pub all_push : {X : Type 0} (P : X → Type 0) (xs : List X) (y : X) → AllByRecursion P xs → P y → AllByRecursion P (xs ++ y ∷ [])
all_push P [] y a p = (p, tt)
all_push P (x ∷ xs) y a p = (a.0, all_push P xs y a.1 p)

all_filter : {X : Type 0} (P : X → Type 0) (p : X → Bool) (xs : List X) → AllByRecursion P xs → AllByRecursion P (filter p xs)
all_filter P p [] a = tt
all_filter P p (x ∷ xs) a = go (p x) (all_filter P p xs a.1)
  where
    go : (b : Bool) → AllByRecursion P (filter p xs) → AllByRecursion P (cond b (x ∷ filter p xs) (filter p xs))
    go true rest = (a.0, rest)
    go false rest = rest

all_take : {X : Type 0} (P : X → Type 0) (n : ℕ) (xs : List X) → AllByRecursion P xs → AllByRecursion P (take n xs)
all_take P zero xs a = tt
all_take P (suc n) [] a = tt
all_take P (suc n) (x ∷ xs) a = (a.0, all_take P n xs a.1)

-- lists in order

pub ordered_push :
    {X : Type 0} (Before : X → X → Type 0) (xs : List X) (y : X) → IsOrderedBy Before xs → AllByRecursion (λ x. Before x y) xs →
    IsOrderedBy Before (xs ++ y ∷ [])
ordered_push Before [] y o a = (tt, tt)
ordered_push Before (x ∷ xs) y o a = (all_push (Before x) xs y o.0 a.0, ordered_push Before xs y o.1 a.1)

pub ordered_filter : {X : Type 0} (Before : X → X → Type 0) (p : X → Bool) (xs : List X) → IsOrderedBy Before xs → IsOrderedBy Before (filter p xs)
ordered_filter Before p [] o = tt
ordered_filter Before p (x ∷ xs) o = go (p x) (ordered_filter Before p xs o.1)
  where
    go : (b : Bool) → IsOrderedBy Before (filter p xs) → IsOrderedBy Before (cond b (x ∷ filter p xs) (filter p xs))
    go true rest = (all_filter (Before x) p xs o.0, rest)
    go false rest = rest

pub ordered_take : {X : Type 0} (Before : X → X → Type 0) (n : ℕ) (xs : List X) → IsOrderedBy Before xs → IsOrderedBy Before (take n xs)
ordered_take Before zero xs o = tt
ordered_take Before (suc n) [] o = tt
ordered_take Before (suc n) (x ∷ xs) o = (all_take (Before x) n xs o.0, ordered_take Before n xs o.1)

all_less : {X : Type 0} (P : X → Type 0) (xs : List X) (y : X) → AllByRecursion P (xs ++ y ∷ []) → AllByRecursion P xs
all_less P [] y a = tt
all_less P (x ∷ xs) y a = (a.0, all_less P xs y a.1)

pub ordered_less : {X : Type 0} (Before : X → X → Type 0) (xs : List X) (y : X) → IsOrderedBy Before (xs ++ y ∷ []) → IsOrderedBy Before xs
ordered_less Before [] y o = tt
ordered_less Before (x ∷ xs) y o = (all_less (Before x) xs y o.0, ordered_less Before xs y o.1)

-- a thread parks on top of a stack
pub stack_push : (xs ys : List Parked) (x : Parked) → ys ≡ xs ++ x ∷ [] → IsStack xs → AllParkedBefore xs x → IsStack ys
stack_push xs ys x e o a = subst IsStack (sym e) (ordered_push ParkedBefore xs x o a)

-- the pick of a stack is its last thread

abbrev last_or : Option Parked → List Parked → Option Parked
last_or o [] = o
last_or o (x ∷ xs) = last_or (Some x) xs

not_after : (x y : Parked) → ParkedBefore x y → nat_le x.since y.since ≡ true
not_after x y (inl h) = grind (arith, nat_tests)
not_after x y (inr h) = let e = h.0 in grind (arith, nat_tests)

later_is : (x y : Parked) → ParkedBefore x y → later_parked (Some x) y ≡ Some y
later_is x y h = ap (λ b. cond b (Some y) (Some x)) (not_after x y h)

-- over the threads above one that is the best so far
best_above : (x : Parked) (xs : List Parked) → AllByRecursion (ParkedBefore x) xs → IsStack xs → fold later_parked (Some x) xs ≡ last_or (Some x) xs
best_above x [] a o = refl
best_above x (y ∷ ys) a o = ap (λ best. fold later_parked best ys) (later_is x y a.0) ∙ best_above y ys o.0 o.1

pick_is_last : (xs : List Parked) → IsStack xs → pick_of xs ≡ last_or None xs
pick_is_last [] o = refl
pick_is_last (x ∷ xs) o = best_above x xs o.0 o.1

last_place : (x : Parked) (xs : List Parked) → slice_get (x ∷ xs) (length xs) ≡ last_or (Some x) xs
last_place x [] = refl
last_place x (y ∷ ys) = last_place y ys

sub_suc_one : (n : ℕ) → suc n - 1 ≡ n
sub_suc_one n = omega arith

last_got : (xs : List Parked) → slice_get xs (length xs - 1) ≡ last_or None xs
last_got [] = refl
last_got (x ∷ xs) = ap (λ n. slice_get (x ∷ xs) n) (sub_suc_one (length xs)) ∙ last_place x xs

pub picked : (xs : List Parked) → IsStack xs → slice_get xs (length xs - 1) ≡ pick_of xs
picked xs o = last_got xs ∙ sym (pick_is_last xs o)

last_pushed : (o : Option Parked) (xs : List Parked) (x : Parked) → last_or o (xs ++ x ∷ []) ≡ Some x
last_pushed o [] x = refl
last_pushed o (y ∷ ys) x = last_pushed (Some y) ys x

-- of a stack, the thread on top
pub top_picked : (xs : List Parked) (x : Parked) → IsStack (xs ++ x ∷ []) → pick_of (xs ++ x ∷ []) ≡ Some x
top_picked xs x o = pick_is_last (xs ++ x ∷ []) o ∙ last_pushed None xs x

-- to park after all of a stack is to park after its pick

before_both : (x y z : Parked) → ParkedBefore x y → ParkedBefore y z → ParkedBefore x z
before_both x y z (inl h) (inl k) = inl (omega arith)
before_both x y z (inl h) (inr k) = let e = k.0 in inl (omega arith)
before_both x y z (inr h) (inl k) = let e = h.0 in inl (omega arith)
before_both x y z (inr h) (inr k) = inr (h.0 ∙ k.0, let a = h.1 in let b = k.1 in omega arith)

after_last : (x top : Parked) (y : Parked) (ys : List Parked) → IsStack (y ∷ ys) → last_or (Some y) ys ≡ Some top → ParkedBefore top x → AllParkedBefore (y ∷ ys) x
after_last x top y [] o e h = (subst (λ z. ParkedBefore z x) (sym (same_Some y top e)) h, tt)
after_last x top y (z ∷ zs) o e h =
    let rest = after_last x top z zs o.1 e h in
    (before_both y z x o.0.0 rest.0, rest)

last_before : (x top : Parked) (y : Parked) (ys : List Parked) → AllParkedBefore (y ∷ ys) x → last_or (Some y) ys ≡ Some top → ParkedBefore top x
last_before x top y [] a e = subst (λ z. ParkedBefore z x) (same_Some y top e) a.0
last_before x top y (z ∷ zs) a e = last_before x top z zs a.1 e

some_last : (y : Parked) (ys : List Parked) → last_or (Some y) ys ≡ None → ⊥
some_last y [] e = cc
some_last y (z ∷ zs) e = some_last z zs e

pub after_pick : (xs : List Parked) (x top : Parked) → IsStack xs → pick_of xs ≡ Some top → ParkedBefore top x → AllParkedBefore xs x
after_pick [] x top o e h = tt
after_pick (y ∷ ys) x top o e h = after_last x top y ys o (sym (pick_is_last (y ∷ ys) o) ∙ e) h

pub pick_before : (xs : List Parked) (x top : Parked) → IsStack xs → AllParkedBefore xs x → pick_of xs ≡ Some top → ParkedBefore top x
pick_before [] x top o a e = cc
pick_before (y ∷ ys) x top o a e = last_before x top y ys a (sym (pick_is_last (y ∷ ys) o) ∙ e)

pub none_parked : (xs : List Parked) → IsStack xs → pick_of xs ≡ None → xs ≡ []
none_parked [] o e = refl
none_parked (y ∷ ys) o e = absurd (some_last y ys (sym (pick_is_last (y ∷ ys) o) ∙ e))

-- numbers that are all below one

below_first : (u t : ℕ) (rest : Bool) → (nat_lt u t && rest) ≡ true → (u < t) × (rest ≡ true)
below_first u t true e = (grind (arith, nat_tests), refl)
below_first u t false e = absurd (grind (arith, nat_tests))

below_also : (u t : ℕ) (rest : Bool) → u < t → rest ≡ true → (nat_lt u t && rest) ≡ true
below_also u t rest h e = grind (arith, nat_tests)

pub all_below_is : (t : ℕ) (us : List ℕ) → list_all (λ u. nat_lt u t) us ≡ true → AllBelow t us
all_below_is t [] e = tt
all_below_is t (u ∷ us) e =
    let both = below_first u t (list_all (λ v. nat_lt v t) us) e in
    (both.0, all_below_is t us both.1)

pub is_all_below : (t : ℕ) (us : List ℕ) → AllBelow t us → list_all (λ u. nat_lt u t) us ≡ true
is_all_below t [] a = refl
is_all_below t (u ∷ us) a = below_also u t (list_all (λ v. nat_lt v t) us) a.0 (is_all_below t us a.1)
