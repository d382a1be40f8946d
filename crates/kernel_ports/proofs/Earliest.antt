-- The first of a list, in order of number, that meets one of two tests.
use Rattle.std.proofs.Common.{◌≡◌, ℕ, ◌<◌, ◌≤◌, ◌||◌, Bool, true, false, if◌then◌else◌, List, [], ◌∷◌, None, Some, find, refl, subst, ap, ap₂, arith}
use Rattle.spec_records.specs.Words.{IsAscending}

-- tests that agree find the same
pub find-same : {X : Type 0} (p q : X → Bool) → ((x : X) → p x ≡ q x) → (xs : List X) → find p xs ≡ find q xs
find-same p q same [] = refl
find-same p q same (x ∷ xs) = ap₂ (λ b r. if b then Some x else r) (same x) (find-same p q same xs)

pub find-nothing : {X : Type 0} (xs : List X) → find (λ x. false) xs ≡ None
find-nothing [] = refl
find-nothing (x ∷ xs) = find-nothing xs

module _ {X : Type 0} (p q : X → Bool) where
  abbrev pub either : X → Bool
  either x = p x || q x

  pub first_alone : (xs : List X) → find q xs ≡ None → find either xs ≡ find p xs
  first_alone [] h = refl
  first_alone (x ∷ xs) h = go (p x) (q x) h (first_alone xs)
    where
      go :
          (b c : Bool) → (if c then Some x else find q xs) ≡ None → (find q xs ≡ None → find either xs ≡ find p xs) →
          (if b || c then Some x else find either xs) ≡ (if b then Some x else find p xs)
      go true c h ih = refl
      go false true h ih = cc
      go false false h ih = ih h

  pub second_alone : (xs : List X) → find p xs ≡ None → find either xs ≡ find q xs
  second_alone [] h = refl
  second_alone (x ∷ xs) h = go (p x) (q x) h (second_alone xs)
    where
      go :
          (b c : Bool) → (if b then Some x else find p xs) ≡ None → (find p xs ≡ None → find either xs ≡ find q xs) →
          (if b || c then Some x else find either xs) ≡ (if c then Some x else find q xs)
      go true c h ih = cc
      go false true h ih = refl
      go false false h ih = ih h

module _ {X : Type 0} (number : X → ℕ) where
  above : (q : X → Bool) (xs : List X) (low made : ℕ) (b : X) → IsAscending number low made xs → find q xs ≡ Some b → low < number b
  above q [] low made b h e = cc
  above q (x ∷ xs) low made b h e = go (q x) e (above q xs (number x) made b h.2)
    where
      go : (c : Bool) → (if c then Some x else find q xs) ≡ Some b → (find q xs ≡ Some b → number x < number b) → low < number b
      go true e ih = let same : x ≡ b = cc in subst (λ y. low < number y) same h.0
      go false e ih = let one : low < number x = h.0 in let more = ih e in omega (arith, one, more)

  module _ (p q : X → Bool) where
    pub first_earlier :
        (xs : List X) (low made : ℕ) (a b : X) → IsAscending number low made xs → find p xs ≡ Some a → find q xs ≡ Some b →
        number a ≤ number b → find (either p q) xs ≡ Some a
    first_earlier [] low made a b h e f le = cc
    first_earlier (x ∷ xs) low made a b h e f le =
        go (p x) (q x) e f (above p xs (number x) made a h.2) (λ e f. first_earlier xs (number x) made a b h.2 e f le)
      where
        go :
            (d c : Bool) → (if d then Some x else find p xs) ≡ Some a → (if c then Some x else find q xs) ≡ Some b →
            (find p xs ≡ Some a → number x < number a) → (find p xs ≡ Some a → find q xs ≡ Some b → find (either p q) xs ≡ Some a) →
            (if d || c then Some x else find (either p q) xs) ≡ Some a
        go true c e f up ih = e
        go false true e f up ih =
            let same : x ≡ b = cc in
            let one = up e in
            let is = ap number same in absurd (omega (arith, one, is, le))
        go false false e f up ih = ih e f

    pub second_earlier :
        (xs : List X) (low made : ℕ) (a b : X) → IsAscending number low made xs → find p xs ≡ Some a → find q xs ≡ Some b →
        number b < number a → find (either p q) xs ≡ Some b
    second_earlier [] low made a b h e f lt = cc
    second_earlier (x ∷ xs) low made a b h e f lt =
        go (p x) (q x) e f (above q xs (number x) made b h.2) (λ e f. second_earlier xs (number x) made a b h.2 e f lt)
      where
        go :
            (d c : Bool) → (if d then Some x else find p xs) ≡ Some a → (if c then Some x else find q xs) ≡ Some b →
            (find q xs ≡ Some b → number x < number b) → (find p xs ≡ Some a → find q xs ≡ Some b → find (either p q) xs ≡ Some b) →
            (if d || c then Some x else find (either p q) xs) ≡ Some b
        go true true e f up ih =
            let one : x ≡ a = cc in
            let two : x ≡ b = cc in
            let is = ap number one in
            let was = ap number two in absurd (omega (arith, is, was, lt))
        go true false e f up ih =
            let one : x ≡ a = cc in
            let is = ap number one in
            let more = up f in absurd (omega (arith, is, more, lt))
        go false true e f up ih = f
        go false false e f up ih = ih e f
