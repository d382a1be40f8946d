-- Lists of records that carry numbers.
use Rattle.std.proofs.Common.{◌≡◌, ℕ, zero, suc, ◌+◌, ◌<◌, ◌≤◌, ◌==◌, Bool, true, false, if◌then◌else◌, List, [], ◌∷◌, ◌++◌, Some, None, is_some, length, map, filter, find, slice_get, option_map, refl, sym, subst, ap, ap₂, true≢false, ◌∙◌, arith}
use Rattle.std.proofs.lemmas.Bool.Decides.{nat_tests}
use Rattle.spec_records.specs.Lists.{change_first}
use Rattle.spec_records.specs.NumberedLists.{IsAscending, IsCounted, is_numbered}

-- the first n records changed

abbrev pub map_first : {X : Type 0} → (X → X) → ℕ → List X → List X
map_first change zero xs = xs
map_first change (suc n) [] = []
map_first change (suc n) (x ∷ xs) = change x ∷ map_first change n xs

pub map_first-all : {X : Type 0} (change : X → X) (n : ℕ) (xs : List X) → length xs ≤ n → map_first change n xs ≡ map change xs
map_first-all change zero [] l = refl
map_first-all change zero (x ∷ xs) l = absurd (omega arith)
map_first-all change (suc n) [] l = refl
map_first-all change (suc n) (x ∷ xs) l = ap (λ ys. change x ∷ ys) (map_first-all change n xs (omega arith))

pub map-map_first :
    {X Y : Type 0} (f : X → Y) (change : X → X) → ((x : X) → f (change x) ≡ f x) → (n : ℕ) (xs : List X) →
    map f (map_first change n xs) ≡ map f xs
map-map_first f change same zero xs = refl
map-map_first f change same (suc n) [] = refl
map-map_first f change same (suc n) (x ∷ xs) = ap₂ (λ y ys. y ∷ ys) (same x) (map-map_first f change same n xs)

-- two changes of first records that do not meet
module _
    {X : Type 0} (p q : X → Bool) (f g : X → X) (apart : (x : X) → p x ≡ true → q x ≡ false)
    (after_f : (x : X) → p x ≡ true → q (f x) ≡ false) (after_g : (x : X) → q x ≡ true → p (g x) ≡ false) where
  pub change_first-swap : (xs : List X) → change_first p f (change_first q g xs) ≡ change_first q g (change_first p f xs)
  change_first-swap [] = refl
  change_first-swap (x ∷ xs) = go (p x) refl (q x) refl (change_first-swap xs)
    where
      go :
          (b : Bool) → p x ≡ b → (c : Bool) → q x ≡ c → change_first p f (change_first q g xs) ≡ change_first q g (change_first p f xs) →
          change_first p f (if c then g x ∷ xs else x ∷ change_first q g xs)
          ≡ change_first q g (if b then f x ∷ xs else x ∷ change_first p f xs)
      go true e true h ih = absurd (true≢false (sym h ∙ apart x e))
      go true e false h ih =
          ap (λ b. if b then f x ∷ change_first q g xs else x ∷ change_first p f (change_first q g xs)) e
          ∙ sym (ap (λ b. if b then g (f x) ∷ xs else f x ∷ change_first q g xs) (after_f x e))
      go false e true h ih =
          ap (λ b. if b then f (g x) ∷ xs else g x ∷ change_first p f xs) (after_g x h)
          ∙ sym (ap (λ b. if b then g x ∷ change_first p f xs else x ∷ change_first q g (change_first p f xs)) h)
      go false e false h ih =
          ap (λ b. if b then f x ∷ change_first q g xs else x ∷ change_first p f (change_first q g xs)) e
          ∙ ap (λ us. x ∷ us) ih
          ∙ sym (ap (λ b. if b then g x ∷ change_first p f xs else x ∷ change_first q g (change_first p f xs)) h)

-- look-ups

pub find-passes : {X : Type 0} (test : X → Bool) (xs : List X) (x : X) → find test xs ≡ Some x → test x ≡ true
find-passes test [] x e = grind arith
find-passes test (y ∷ ys) x e = grind (arith, find-passes test ys x)

module _ {X : Type 0} (number : X → ℕ) where
  pub find-number : (xs : List X) (c : ℕ) (x : X) → find (is_numbered number c) xs ≡ Some x → number x ≡ c
  find-number [] c x e = grind arith
  find-number (y ∷ ys) c x e = grind (arith, nat_tests, find-number ys c x)

  -- a record that a test finds

  -- what a number finds does not pass where the test finds none
  pub find-none :
      (test : X → Bool) (xs : List X) (c : ℕ) (x : X) → find test xs ≡ None → find (is_numbered number c) xs ≡ Some x → test x ≡ false
  find-none test [] c x e f = grind arith
  find-none test (y ∷ ys) c x e f = grind (arith, nat_tests, find-none test ys c x)

  -- what a number finds, where only records of that number pass
  pub find-as :
      (test : X → Bool) (xs : List X) (c : ℕ) (x : X) → ((y : X) → test y ≡ true → number y ≡ c) →
      find (is_numbered number c) xs ≡ Some x → test x ≡ true → find test xs ≡ Some x
  find-as test [] c x g e f = grind arith
  find-as test (y ∷ ys) c x g e f = grind (arith, nat_tests, find-as test ys c x g, g y)

  -- each record changed
  pub find-map :
      (f : X → X) → ((x : X) → number (f x) ≡ number x) → (xs : List X) (c : ℕ) →
      find (is_numbered number c) (map f xs) ≡ option_map f (find (is_numbered number c) xs)
  find-map f g [] c = refl
  find-map f g (x ∷ xs) c = grind (arith, nat_tests, find-map f g xs c, g x)

  -- numbers that go up by one

  pub find-before : (xs : List X) (n c : ℕ) → IsCounted number n xs → c ≤ n → find (is_numbered number c) xs ≡ None
  find-before [] n c h l = refl
  find-before (x ∷ xs) n c h l = grind (arith, nat_tests, find-before xs (n + 1) c)

  pub find-past : (xs : List X) (n c : ℕ) → IsCounted number n xs → n + length xs < c → find (is_numbered number c) xs ≡ None
  find-past [] n c h l = refl
  find-past (x ∷ xs) n c h l = grind (arith, nat_tests, find-past xs (n + 1) c)

  pub find-within : (xs : List X) (n c : ℕ) → IsCounted number n xs → n < c → c ≤ n + length xs → is_some (find (is_numbered number c) xs) ≡ true
  find-within [] n c h l g = absurd (omega (arith, l, g))
  find-within (x ∷ xs) n c h l g = grind (arith, nat_tests, find-within xs (n + 1) c h.1)

  pub counted-above : (xs : List X) (n i : ℕ) (x : X) → IsCounted number n xs → slice_get xs i ≡ Some x → n < number x
  counted-above [] n i x h e = grind arith
  counted-above (y ∷ ys) n zero x h e = grind (arith, nat_tests, h.0)
  counted-above (y ∷ ys) n (suc i) x h e = let more = counted-above ys (n + 1) i x h.1 e in omega (arith, more)

  -- a record of the list is found by its number
  pub find-slice_get :
      (xs : List X) (n i : ℕ) (x : X) → IsCounted number n xs → slice_get xs i ≡ Some x → find (is_numbered number (number x)) xs ≡ Some x
  find-slice_get [] n i x h e = grind arith
  find-slice_get (y ∷ ys) n zero x h e = grind (arith, nat_tests)
  find-slice_get (y ∷ ys) n (suc i) x h e =
      grind (arith, nat_tests, find-slice_get ys (n + 1) i x h.1, counted-above ys (n + 1) i x h.1, h.0)

  pub counted-ascending : (xs : List X) (n made : ℕ) → IsCounted number n xs → n + length xs ≤ made → IsAscending number n made xs
  counted-ascending [] n made h l = tt
  counted-ascending (x ∷ xs) n made h l =
      let e : number x ≡ n + 1 = h.0 in
      (omega arith, omega arith, subst (λ k. IsAscending number k made xs) (sym e) (counted-ascending xs (n + 1) made h.1 (omega arith)))

  pub find-push :
      (xs : List X) (n : ℕ) (x : X) (j : ℕ) → IsCounted number n xs → number x ≡ n + length xs + 1 →
      find (is_numbered number j) (xs ++ x ∷ []) ≡ (if j == number x then Some x else find (is_numbered number j) xs)
  find-push [] n x j h e = grind (arith, nat_tests)
  find-push (y ∷ ys) n x j h e = grind (arith, nat_tests, find-push ys (n + 1) x j h.1)

  pub counted-push : (xs : List X) (n : ℕ) (x : X) → IsCounted number n xs → number x ≡ n + length xs + 1 → IsCounted number n (xs ++ x ∷ [])
  counted-push [] n x h e = (grind arith, tt)
  counted-push (y ∷ ys) n x h e = (h.0, counted-push ys (n + 1) x h.1 (grind arith))

  -- a list of the same numbers
  pub counted-same : (xs ys : List X) (n : ℕ) → map number ys ≡ map number xs → IsCounted number n xs → IsCounted number n ys
  counted-same [] [] n e h = tt
  counted-same [] (y ∷ ys) n e h = absurd (cc e)
  counted-same (x ∷ xs) [] n e h = absurd (cc e)
  counted-same (x ∷ xs) (y ∷ ys) n e h =
      let first : number y ≡ number x = cc in
      let rest : map number ys ≡ map number xs = cc in (first ∙ h.0, counted-same xs ys (n + 1) rest h.1)

  -- what a test finds is what its number finds
  pub find-found :
      (test : X → Bool) (xs : List X) (n : ℕ) (x : X) → IsCounted number n xs → find test xs ≡ Some x →
      find (is_numbered number (number x)) xs ≡ Some x
  find-found test [] n x h e = grind arith
  find-found test (y ∷ ys) n x h e =
      grind (arith, nat_tests, find-found test ys (n + 1) x h.1, find-before ys (n + 1) (number x) h.1)

  pub counted-map :
      (f : X → X) → ((x : X) → number (f x) ≡ number x) → (xs : List X) (n : ℕ) → IsCounted number n xs →
      IsCounted number n (map f xs)
  counted-map f g [] n h = h
  counted-map f g (x ∷ xs) n h = (g x ∙ h.0, counted-map f g xs (n + 1) h.1)

  -- the first record that meets a test, changed
  module _ (test : X → Bool) (change : X → X) (same : (x : X) → number (change x) ≡ number x) where
    pub counted-change_first : (xs : List X) (n : ℕ) → IsCounted number n xs → IsCounted number n (change_first test change xs)
    counted-change_first [] n h = h
    counted-change_first (x ∷ xs) n h = grind (arith, counted-change_first xs (n + 1) h.1, same x)

    pub find-change_first :
        (xs : List X) (n : ℕ) (x : X) (j : ℕ) → IsCounted number n xs → find test xs ≡ Some x →
        find (is_numbered number j) (change_first test change xs) ≡ (if j == number x then Some (change x) else find (is_numbered number j) xs)
    find-change_first [] n x j h e = grind arith
    find-change_first (y ∷ ys) n x j h e =
        grind (arith, nat_tests, find-change_first ys (n + 1) x j h.1, find-found test ys (n + 1) x h.1, find-before ys (n + 1) (number x) h.1, same y)

  -- numbers that go up

  pub ascending-lower : (xs : List X) (low high made : ℕ) → low ≤ high → IsAscending number high made xs → IsAscending number low made xs
  ascending-lower [] low high made l h = tt
  ascending-lower (x ∷ xs) low high made l h = let a : high < number x = h.0 in (omega arith, h.1, h.2)

  pub ascending-push :
      (xs : List X) (low made : ℕ) (x : X) → low ≤ made → number x ≡ made + 1 → IsAscending number low made xs →
      IsAscending number low (number x) (xs ++ x ∷ [])
  ascending-push [] low made x l e h = (omega arith, omega arith, tt)
  ascending-push (y ∷ ys) low made x l e h =
      let a : number y ≤ made = h.1 in (h.0, omega arith, ascending-push ys (number y) made x a e h.2)

  pub ascending-filter :
      (keep : X → Bool) (xs : List X) (low made : ℕ) → IsAscending number low made xs → IsAscending number low made (filter keep xs)
  ascending-filter keep [] low made h = h
  ascending-filter keep (x ∷ xs) low made h = go (keep x) (ascending-filter keep xs (number x) made h.2)
    where
      go : (b : Bool) → IsAscending number (number x) made (filter keep xs) → IsAscending number low made (if b then x ∷ filter keep xs else filter keep xs)
      go true rest = (h.0, h.1, rest)
      go false rest = let a : low < number x = h.0 in ascending-lower (filter keep xs) low (number x) made (omega arith) rest

  -- those behind the first have greater numbers
  pub ascending-above : (xs : List X) (low made i : ℕ) (x : X) → IsAscending number low made xs → slice_get xs i ≡ Some x → low < number x
  ascending-above [] low made i x h e = cc
  ascending-above (y ∷ ys) low made zero x h e = let same : y ≡ x = cc in subst (λ z. low < number z) same h.0
  ascending-above (y ∷ ys) low made (suc i) x h e =
      let a : low < number y = h.0 in
      let b : number y < number x = ascending-above ys (number y) made i x h.2 e in omega arith

  pub ascending-found :
      (test : X → Bool) (xs : List X) (low made : ℕ) (x : X) (more : List X) → IsAscending number low made xs → filter test xs ≡ x ∷ more →
      low < number x
  ascending-found test [] low made x more h e = cc
  ascending-found test (y ∷ ys) low made x more h e = go (test y) (ascending-found test ys (number y) made x more h.2) e
    where
      go :
          (b : Bool) → (filter test ys ≡ x ∷ more → number y < number x) → (if b then y ∷ filter test ys else filter test ys) ≡ x ∷ more →
          low < number x
      go true ih f = let same : y ≡ x = cc in subst (λ z. low < number z) same h.0
      go false ih f =
          let a : low < number y = h.0 in
          let b : number y < number x = ih f in omega arith

  module _ (change : X → X) (same : (x : X) → number (change x) ≡ number x) where
    pub ascending-change_first :
        (test : X → Bool) (xs : List X) (low made : ℕ) → IsAscending number low made xs → IsAscending number low made (change_first test change xs)
    ascending-change_first test [] low made h = h
    ascending-change_first test (x ∷ xs) low made h = go (test x) (ascending-change_first test xs (number x) made h.2)
      where
        go :
            (b : Bool) → IsAscending number (number x) made (change_first test change xs) →
            IsAscending number low made (if b then change x ∷ xs else x ∷ change_first test change xs)
        go true rest = subst (λ n. (low < n) × (n ≤ made) × IsAscending number n made xs) (sym (same x)) h
        go false rest = (h.0, h.1, rest)

    pub ascending-map_first : (n : ℕ) (xs : List X) (low made : ℕ) → IsAscending number low made xs → IsAscending number low made (map_first change n xs)
    ascending-map_first zero xs low made h = h
    ascending-map_first (suc n) [] low made h = h
    ascending-map_first (suc n) (x ∷ xs) low made h =
        subst (λ k. (low < k) × (k ≤ made) × IsAscending number k made (map_first change n xs)) (sym (same x))
        (h.0, h.1, ascending-map_first n xs (number x) made h.2)
