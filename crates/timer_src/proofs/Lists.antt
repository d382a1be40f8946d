-- Lists: what is told item by item.
use Rattle.std.proofs.Common.{◌≡◌, ℕ, zero, suc, ◌+◌, ◌<◌, Bool, true, false, if◌then◌else◌, List, [], ◌∷◌, ◌++◌, None, Some, drop, filter, length, map, slice_get, take, refl, sym, ap, ◌∙◌, arith}

pub append-nothing : {X : Type 0} (xs : List X) → xs ++ [] ≡ xs
append-nothing [] = refl
append-nothing (x ∷ xs) = ap (λ ys. x ∷ ys) (append-nothing xs)

pub ++-assoc : {X : Type 0} (xs ys zs : List X) → (xs ++ ys) ++ zs ≡ xs ++ (ys ++ zs)
++-assoc [] ys zs = refl
++-assoc (x ∷ xs) ys zs = ap (λ us. x ∷ us) (++-assoc xs ys zs)

pub front_of : {X : Type 0} (xs ys : List X) → take (length xs) (xs ++ ys) ≡ xs
front_of [] ys = refl
front_of (x ∷ xs) ys = ap (λ us. x ∷ us) (front_of xs ys)

-- each place has an item
pub is_there : {X : Type 0} (xs : List X) (i : ℕ) → i < length xs → None ≡ slice_get xs i → ⊥
is_there [] i l h = absurd (omega arith)
is_there (x ∷ xs) zero l h = cc
is_there (x ∷ xs) (suc i) l h = is_there xs i (omega arith) h

pub after : {X : Type 0} (xs : List X) (i : ℕ) (a : X) → slice_get xs i ≡ Some a → drop i xs ≡ a ∷ drop (i + 1) xs
after [] i a h = cc
after (x ∷ xs) zero a h = let same : x ≡ a = cc in ap (λ y. y ∷ xs) same
after (x ∷ xs) (suc i) a h =
    let next : suc i + 1 ≡ suc (i + 1) = omega arith in
    after xs i a h ∙ ap (λ k. a ∷ drop k (x ∷ xs)) (sym next)

-- what is told of those that pass, one by one
module _ {X Y : Type 0} (test : X → Bool) (f : X → Y) where
  abbrev pub told_of : List X → List Y
  told_of xs = map f (filter test xs)

  pub told_next :
      (us : List Y) (xs : List X) (i : ℕ) (a : X) → slice_get xs i ≡ Some a → test a ≡ true →
      (us ++ f a ∷ []) ++ told_of (drop (i + 1) xs) ≡ us ++ told_of (drop i xs)
  told_next us xs i a h e =
      ++-assoc us (f a ∷ []) (told_of (drop (i + 1) xs))
      ∙ ap (λ b. us ++ map f (if b then a ∷ filter test (drop (i + 1) xs) else filter test (drop (i + 1) xs))) (sym e)
      ∙ ap (λ ys. us ++ told_of ys) (sym (after xs i a h))

  pub told_still :
      (us : List Y) (xs : List X) (i : ℕ) (a : X) → slice_get xs i ≡ Some a → test a ≡ false →
      us ++ told_of (drop (i + 1) xs) ≡ us ++ told_of (drop i xs)
  told_still us xs i a h e =
      ap (λ b. us ++ map f (if b then a ∷ filter test (drop (i + 1) xs) else filter test (drop (i + 1) xs))) (sym e)
      ∙ ap (λ ys. us ++ told_of ys) (sym (after xs i a h))

  -- how many are left
  pub left_next : (xs : List X) (i : ℕ) (a : X) → slice_get xs i ≡ Some a → test a ≡ true → length (filter test (drop i xs)) ≡ length (filter test (drop (i + 1) xs)) + 1
  left_next xs i a h e =
      ap (λ ys. length (filter test ys)) (after xs i a h)
      ∙ ap (λ b. length (if b then a ∷ filter test (drop (i + 1) xs) else filter test (drop (i + 1) xs))) e
      ∙ omega arith

  pub left_still : (xs : List X) (i : ℕ) (a : X) → slice_get xs i ≡ Some a → test a ≡ false → length (filter test (drop i xs)) ≡ length (filter test (drop (i + 1) xs))
  left_still xs i a h e =
      ap (λ ys. length (filter test ys)) (after xs i a h)
      ∙ ap (λ b. length (if b then a ∷ filter test (drop (i + 1) xs) else filter test (drop (i + 1) xs))) e
