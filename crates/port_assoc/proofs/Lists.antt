-- Lists as one item leaves, or changes.
use Rattle.std.proofs.Common.{◌≡◌, ℕ, suc, ◌+◌, ◌<◌, ◌≤◌, ◌&&◌, not, Bool, true, false, cond, if◌then◌else◌, List, [], ◌∷◌, ◌++◌, None, Some, position, remove, slice_get, find, filter, length, map, refl, sym, ap, ◌∙◌, arith}
use Rattle.std.specs.List.{position_or_len}
use Rattle.std.proofs.lemmas.Bool.Decides.{nat_tests}
use Rattle.std.proofs.lemmas.List.Folds.{find_at}
use Rattle.spec_records.specs.Words.{change_first}
use Rattle.spec_records.proofs.Places.{position_is}
use Rattle.port_assoc.specs.Lists.{without_first}

-- by its place

removed_first : {X : Type 0} (p : X → Bool) (xs : List X) → position_or_len p xs < length xs → remove xs (position_or_len p xs) ≡ without_first p xs
removed_first p [] h = absurd (omega arith)
removed_first p (x ∷ xs) h =
    elim (p x) as (λ b. cond (not b) (1 + position_or_len p xs) 0 < suc (length xs) → remove (x ∷ xs) (cond (not b) (1 + position_or_len p xs) 0) ≡ (if b then xs else x ∷ without_first p xs))
    [ true ↦ λ _. refl | false ↦ λ k. let e : 1 + position_or_len p xs ≡ suc (position_or_len p xs) = omega arith in rw e (ap (λ ys. x ∷ ys) (removed_first p xs (omega arith))) ] h

none_removed : {X : Type 0} (p : X → Bool) (xs : List X) → length xs ≤ position_or_len p xs → without_first p xs ≡ xs
none_removed p [] h = refl
none_removed p (x ∷ xs) h =
    elim (p x) as (λ b. suc (length xs) ≤ cond (not b) (1 + position_or_len p xs) 0 → (if b then xs else x ∷ without_first p xs) ≡ x ∷ xs)
    [ true ↦ λ k. absurd (omega arith) | false ↦ λ k. ap (λ ys. x ∷ ys) (none_removed p xs (omega arith)) ] h

pub place_out : {X : Type 0} (test : X → Bool) (xs : List X) (i : ℕ) → position test xs ≡ Some i → remove xs i ≡ without_first test xs
place_out test xs i h =
    let e = position_is test xs i h in
    let l : position_or_len test xs < length xs = grind (arith, nat_tests) in rw e (removed_first test xs l)

pub none_out : {X : Type 0} (test : X → Bool) (xs : List X) → position test xs ≡ None → without_first test xs ≡ xs
none_out test xs h = let l : length xs ≤ position_or_len test xs = grind (arith, nat_tests) in none_removed test xs l

pub find_place : {X : Type 0} (test : X → Bool) (xs : List X) (i : ℕ) → position test xs ≡ Some i → slice_get xs i ≡ find test xs
find_place test xs i h = let e = position_is test xs i h in rw e (sym (find_at test xs))

-- what is found, and what is left

module _ {X : Type 0} (p q : X → Bool) where
  pub find-filter : (xs : List X) → find q (filter p xs) ≡ find (λ x. p x && q x) xs
  find-filter [] = refl
  find-filter (x ∷ xs) = grind (arith, find-filter xs)

  -- the first of these that meets a test leaves their list, as it turns to what is none of them
  pub filter-turned :
      (d : X → X) → ((x : X) → p (d x) ≡ false) → (xs : List X) →
      filter p (change_first (λ x. p x && q x) d xs) ≡ without_first q (filter p xs)
  filter-turned d off [] = refl
  filter-turned d off (x ∷ xs) = grind (arith, filter-turned d off xs, off x)

  -- one that is none of these changes, and is none of them afterwards
  pub filter-others :
      (d : X → X) → ((x : X) → q x ≡ true → p x ≡ false) → ((x : X) → p x ≡ false → p (d x) ≡ false) → (xs : List X) →
      filter p (change_first q d xs) ≡ filter p xs
  filter-others d apart off [] = refl
  filter-others d apart off (x ∷ xs) = grind (arith, filter-others d apart off xs, apart x, off x)

  -- the first that meets a test leaves: it is one of these, or not
  pub filter-left : (xs : List X) (a : X) → find q xs ≡ Some a → p a ≡ true → filter p (without_first q xs) ≡ without_first q (filter p xs)
  filter-left [] a found one = cc
  filter-left (x ∷ xs) a found one = go (q x) (p x) refl refl found (λ h. filter-left xs a h one)
    where
      go :
          (b c : Bool) → q x ≡ b → p x ≡ c → (if b then Some x else find q xs) ≡ Some a →
          (find q xs ≡ Some a → filter p (without_first q xs) ≡ without_first q (filter p xs)) →
          filter p (if b then xs else x ∷ without_first q xs) ≡ without_first q (if c then x ∷ filter p xs else filter p xs)
      go true true e f h ih = grind arith
      go true false e f h ih = cc
      go false true e f h ih = let k = ih h in grind (arith, k)
      go false false e f h ih = let k = ih h in grind (arith, k)

  pub filter-stays : (xs : List X) (a : X) → find q xs ≡ Some a → p a ≡ false → filter p (without_first q xs) ≡ filter p xs
  filter-stays [] a found none = cc
  filter-stays (x ∷ xs) a found none = go (q x) refl found (λ h. filter-stays xs a h none)
    where
      go :
          (b : Bool) → q x ≡ b → (if b then Some x else find q xs) ≡ Some a →
          (find q xs ≡ Some a → filter p (without_first q xs) ≡ filter p xs) →
          filter p (if b then xs else x ∷ without_first q xs) ≡ (if p x then x ∷ filter p xs else filter p xs)
      go true e h ih = grind arith
      go false e h ih = let k = ih h in grind (arith, k)

pub append-nothing : {X : Type 0} (xs : List X) → xs ++ [] ≡ xs
append-nothing [] = refl
append-nothing (x ∷ xs) = ap (λ ys. x ∷ ys) (append-nothing xs)

pub ++-assoc : {X : Type 0} (xs ys zs : List X) → (xs ++ ys) ++ zs ≡ xs ++ (ys ++ zs)
++-assoc [] ys zs = refl
++-assoc (x ∷ xs) ys zs = ap (λ us. x ∷ us) (++-assoc xs ys zs)

-- all that meet a test leave, one after the other
module _ {X : Type 0} (test : X → Bool) where
  pub others-left : (xs : List X) → filter (λ x. not (test x)) (without_first test xs) ≡ filter (λ x. not (test x)) xs
  others-left [] = refl
  others-left (x ∷ xs) = grind (arith, others-left xs)

  pub others-alone : (xs : List X) → find test xs ≡ None → filter (λ x. not (test x)) xs ≡ xs
  others-alone [] h = refl
  others-alone (x ∷ xs) h = go (test x) refl h (others-alone xs)
    where
      go :
          (b : Bool) → test x ≡ b → (if b then Some x else find test xs) ≡ None →
          (find test xs ≡ None → filter (λ x. not (test x)) xs ≡ xs) → filter (λ x. not (test x)) (x ∷ xs) ≡ x ∷ xs
      go true e k ih = cc
      go false e k ih = let j = ih k in grind (arith, j)

  pub first-of : (xs : List X) (a : X) → find test xs ≡ Some a → filter test xs ≡ a ∷ filter test (without_first test xs)
  first-of [] a h = cc
  first-of (x ∷ xs) a h = go (test x) refl h (first-of xs a)
    where
      go :
          (b : Bool) → test x ≡ b → (if b then Some x else find test xs) ≡ Some a →
          (find test xs ≡ Some a → filter test xs ≡ a ∷ filter test (without_first test xs)) →
          filter test (x ∷ xs) ≡ a ∷ filter test (if b then xs else x ∷ without_first test xs)
      go true e k ih = grind arith
      go false e k ih = let j = ih k in grind (arith, j)

  pub none-of : (xs : List X) → find test xs ≡ None → filter test xs ≡ []
  none-of [] h = refl
  none-of (x ∷ xs) h = go (test x) refl h (none-of xs)
    where
      go :
          (b : Bool) → test x ≡ b → (if b then Some x else find test xs) ≡ None → (find test xs ≡ None → filter test xs ≡ []) →
          filter test (x ∷ xs) ≡ []
      go true e k ih = cc
      go false e k ih = let j = ih k in grind (arith, j)

  pub fewer-left : (xs : List X) (a : X) → find test xs ≡ Some a → length (without_first test xs) + 1 ≡ length xs
  fewer-left [] a h = cc
  fewer-left (x ∷ xs) a h = go (test x) h (fewer-left xs a)
    where
      go :
          (b : Bool) → (if b then Some x else find test xs) ≡ Some a → (find test xs ≡ Some a → length (without_first test xs) + 1 ≡ length xs) →
          length (if b then xs else x ∷ without_first test xs) + 1 ≡ suc (length xs)
      go true k ih = omega arith
      go false k ih = let j = ih k in omega (arith, j)

  pub none-left : (xs : List X) → find test xs ≡ None → without_first test xs ≡ xs
  none-left [] h = refl
  none-left (x ∷ xs) h = go (test x) h (none-left xs)
    where
      go :
          (b : Bool) → (if b then Some x else find test xs) ≡ None → (find test xs ≡ None → without_first test xs ≡ xs) →
          (if b then xs else x ∷ without_first test xs) ≡ x ∷ xs
      go true k ih = cc
      go false k ih = ap (λ ys. x ∷ ys) (ih k)

  pub none-among-others : (xs : List X) → find test (filter (λ x. not (test x)) xs) ≡ None
  none-among-others [] = refl
  none-among-others (x ∷ xs) = grind (arith, none-among-others xs)

  -- what is told of those that leave, one more and all
  module _ {Y : Type 0} (f : X → Y) (us : List Y) where
    pub one-told : (xs : List X) (a : X) → find test xs ≡ Some a → (us ++ f a ∷ []) ++ map f (filter test (without_first test xs)) ≡ us ++ map f (filter test xs)
    one-told xs a h =
        ++-assoc us (f a ∷ []) (map f (filter test (without_first test xs))) ∙ ap (λ ys. us ++ map f ys) (sym (first-of xs a h))

    pub all-told : (xs : List X) → find test xs ≡ None → us ++ map f (filter test xs) ≡ us
    all-told xs h = ap (λ ys. us ++ map f ys) (none-of xs h) ∙ append-nothing us
