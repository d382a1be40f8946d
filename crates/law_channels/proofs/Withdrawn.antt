-- Events are withdrawn in whatever order: those of several tests, one test after another.
use Rattle.std.specs.Prelude.{ℕ, ◌≡◌, ◌||◌, List, [], ◌∷◌, Option, Bool, true, false, if◌then◌else◌, not, Some, None, zero, suc, slice_get, slice_set, filter, All}
use Rattle.std.proofs.Common.{refl, sym, ap, ap₂, ◌∙◌}
use Rattle.std.proofs.lemmas.List.Elements.{All-head, All-tail}
use Rattle.spec_records.specs.declared.association.Association.{Association}
use Rattle.spec_records.specs.declared.port.Queued.{Queued}
use Rattle.spec_records.specs.Words.{Port, change_at_number, change_found, is_other_event, withdraw_event, withdraw_events, without_event}
use Rattle.spec_records.proofs.Lists.{at_number-suc, with_at_number-suc}

-- changes of places

module _ {X : Type 0} where
  abbrev change_at : (X → X) → List X → ℕ → List X
  change_at f [] k = []
  change_at f (x ∷ xs) zero = f x ∷ xs
  change_at f (x ∷ xs) (suc k) = x ∷ change_at f xs k

  abbrev set_found : (X → X) → List X → ℕ → Option X → List X
  set_found f xs k None = xs
  set_found f xs k (Some x) = slice_set xs k (f x)

  set_found-is : (f : X → X) (xs : List X) (k : ℕ) → set_found f xs k (slice_get xs k) ≡ change_at f xs k
  set_found-is f [] k = refl
  set_found-is f (x ∷ xs) zero = refl
  set_found-is f (x ∷ xs) (suc k) = go (slice_get xs k) ∙ ap (λ ys. x ∷ ys) (set_found-is f xs k)
    where
      go : (o : Option X) → set_found f (x ∷ xs) (suc k) o ≡ x ∷ set_found f xs k o
      go None = refl
      go (Some y) = refl

  changed-is : (f : X → X) (xs : List X) (k : ℕ) → change_at_number xs (suc k) f ≡ change_at f xs k
  changed-is f xs k = ap (change_found xs (suc k) f) (at_number-suc xs k) ∙ go (slice_get xs k) ∙ set_found-is f xs k
    where
      go : (o : Option X) → change_found xs (suc k) f o ≡ set_found f xs k o
      go None = refl
      go (Some x) = with_at_number-suc xs k (f x)

  module _ (f g : X → X) (swaps : (x : X) → f (g x) ≡ g (f x)) where
    at-swap : (xs : List X) (k l : ℕ) → change_at f (change_at g xs l) k ≡ change_at g (change_at f xs k) l
    at-swap [] k l = refl
    at-swap (x ∷ xs) zero zero = ap (λ y. y ∷ xs) (swaps x)
    at-swap (x ∷ xs) zero (suc l) = refl
    at-swap (x ∷ xs) (suc k) zero = refl
    at-swap (x ∷ xs) (suc k) (suc l) = ap (λ ys. x ∷ ys) (at-swap xs k l)

    number-swap : (xs : List X) (k l : ℕ) → change_at_number (change_at_number xs l g) k f ≡ change_at_number (change_at_number xs k f) l g
    number-swap xs zero l = refl
    number-swap xs (suc k) zero = refl
    number-swap xs (suc k) (suc l) =
        changed-is f (change_at_number xs (suc l) g) k
        ∙ ap (λ ys. change_at f ys k) (changed-is g xs l)
        ∙ at-swap xs k l
        ∙ sym (changed-is g (change_at_number xs (suc k) f) l ∙ ap (λ ys. change_at g ys l) (changed-is f xs k))

-- filters

module _ {X : Type 0} where
  filter-swap : (p q : X → Bool) (xs : List X) → filter p (filter q xs) ≡ filter q (filter p xs)
  filter-swap p q [] = refl
  filter-swap p q (x ∷ xs) = go (p x) refl (q x) refl (filter-swap p q xs)
    where
      go :
          (b : Bool) → p x ≡ b → (c : Bool) → q x ≡ c → filter p (filter q xs) ≡ filter q (filter p xs) →
          filter p (if c then x ∷ filter q xs else filter q xs) ≡ filter q (if b then x ∷ filter p xs else filter p xs)
      go true e true f rest =
          ap (λ (b : Bool). if b then x ∷ filter p (filter q xs) else filter p (filter q xs)) e
          ∙ ap (λ ys. x ∷ ys) rest
          ∙ sym (ap (λ (b : Bool). if b then x ∷ filter q (filter p xs) else filter q (filter p xs)) f)
      go true e false f rest = rest ∙ sym (ap (λ (b : Bool). if b then x ∷ filter q (filter p xs) else filter q (filter p xs)) f)
      go false e true f rest = ap (λ (b : Bool). if b then x ∷ filter p (filter q xs) else filter p (filter q xs)) e ∙ rest
      go false e false f rest = rest

  -- what passes neither of two tests
  pub filter-neither :
      (p q : X → Bool) (xs : List X) → filter (λ x. not (p x || q x)) xs ≡ filter (λ x. not (q x)) (filter (λ x. not (p x)) xs)
  filter-neither p q [] = refl
  filter-neither p q (x ∷ xs) = go (p x) (filter-neither p q xs)
    where
      go :
          (b : Bool) → filter (λ y. not (p y || q y)) xs ≡ filter (λ y. not (q y)) (filter (λ y. not (p y)) xs) →
          (if not (b || q x) then x ∷ filter (λ y. not (p y || q y)) xs else filter (λ y. not (p y || q y)) xs)
          ≡ filter (λ y. not (q y)) (if not b then x ∷ filter (λ y. not (p y)) xs else filter (λ y. not (p y)) xs)
      go true rest = rest
      go false rest = ap (λ ys. if not (q x) then x ∷ ys else ys) rest

  pub filter-same : (p q : X → Bool) (xs : List X) → All (λ x. p x ≡ q x) xs → filter p xs ≡ filter q xs
  filter-same p q [] h = refl
  filter-same p q (x ∷ xs) h =
      ap₂ (λ (b : Bool) ys. if b then x ∷ ys else ys) (All-head (λ y. p y ≡ q y) x xs h)
      (filter-same p q xs (All-tail (λ y. p y ≡ q y) x xs h))

-- withdrawals

without-swap : (n k : ℕ) (x : Port) → without_event n (without_event k x) ≡ without_event k (without_event n x)
without-swap n k x = ap (λ (queue : List Queued). record x { queue = queue }) (filter-swap (is_other_event n) (is_other_event k) x.queue)

abbrev withdraw_one : List Port → Association → List Port
withdraw_one ports a = withdraw_event ports a.key.port a.number

one-swap : (ports : List Port) (a b : Association) → withdraw_one (withdraw_one ports b) a ≡ withdraw_one (withdraw_one ports a) b
one-swap ports a b =
    number-swap (without_event a.number) (without_event b.number) (without-swap a.number b.number) ports a.key.port b.key.port

withdraw-later :
    (ports : List Port) (xs : List Association) (a : Association) → withdraw_events (withdraw_one ports a) xs ≡ withdraw_one (withdraw_events ports xs) a
withdraw-later ports [] a = refl
withdraw-later ports (b ∷ xs) a =
    ap (λ k. withdraw_events k xs) (one-swap ports b a) ∙ withdraw-later (withdraw_one ports b) xs a

-- those of either test are those of one, and then those of the other that are left
module _ (p q : Association → Bool) where
  abbrev Parts : List Port → List Association → Type 0
  Parts ports xs =
      withdraw_events ports (filter (λ a. p a || q a) xs)
      ≡ withdraw_events (withdraw_events ports (filter p xs)) (filter q (filter (λ a. not (p a)) xs))

  pub withdraw-either : (ports : List Port) (xs : List Association) → Parts ports xs
  withdraw-either ports [] = refl
  withdraw-either ports (a ∷ xs) = go (p a) (q a) refl (λ k. withdraw-either k xs)
    where
      left : List Association
      left = filter (λ x. not (p x)) xs

      go :
          (b c : Bool) → q a ≡ c → ((k : List Port) → Parts k xs) →
          withdraw_events ports (if b || c then a ∷ filter (λ x. p x || q x) xs else filter (λ x. p x || q x) xs)
          ≡ withdraw_events (withdraw_events ports (if b then a ∷ filter p xs else filter p xs)) (filter q (if not b then a ∷ left else left))
      go true c e rest = rest (withdraw_one ports a)
      go false true e rest =
          rest (withdraw_one ports a)
          ∙ ap (λ k. withdraw_events k (filter q left)) (withdraw-later ports (filter p xs) a)
          ∙ sym (ap (λ (b : Bool). withdraw_events (withdraw_events ports (filter p xs)) (if b then a ∷ filter q left else filter q left)) e)
      go false false e rest =
          rest ports
          ∙ sym (ap (λ (b : Bool). withdraw_events (withdraw_events ports (filter p xs)) (if b then a ∷ filter q left else filter q left)) e)
