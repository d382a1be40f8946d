-- What holds of each element of a list holds of those that are found in it.
use Rattle.std.proofs.Common.{◌≡◌, ℕ, ◌≤◌, ◌-◌, ◌==◌, ◌||◌, List, [], ◌∷◌, Some, None, Bool, true, false, if◌then◌else◌, length, map, arith, suc, refl, subst}
use Rattle.std.specs.Prelude.{All, find, option_map, slice_get}
use Rattle.std.specs.List.{list_any}
use Rattle.std.proofs.lemmas.Bool.Decides.{nat_tests}
use Rattle.std.proofs.lemmas.List.Elements.{All-nil, All-cons, All-head, All-tail}
use Rattle.std.proofs.lemmas.Option.{slice_get-map, slice_get_within, get_or_from_slice_get}
use Rattle.dk_base.specs.ByNumber.{at_number}

pub All-slice_get : {X : Type 0} (P : X → Type 0) (xs : List X) (k : ℕ) (x : X) → All P xs → slice_get xs k ≡ Some x → P x
All-slice_get P xs k x all e = subst P (get_or_from_slice_get xs k x x e) (all k x (slice_get_within xs k x e))

pub All-at_number : {X : Type 0} (P : X → Type 0) (xs : List X) (k : ℕ) (x : X) → All P xs → at_number xs k ≡ Some x → P x
All-at_number P xs k x all e = by_test (k == 0) e
  where
    by_test : (b : Bool) → (if b then None else slice_get xs (k - 1)) ≡ Some x → P x
    by_test true h = cc
    by_test false h = All-slice_get P xs (k - 1) x all h

pub All-find : {X : Type 0} (P : X → Type 0) (p : X → Bool) (xs : List X) (x : X) → All P xs → find p xs ≡ Some x → P x
All-find P p [] x all e = cc
All-find P p (y ∷ ys) x all e = by_test (All-find P p ys x (All-tail P y ys all)) (p y) e
  where
    by_test : (find p ys ≡ Some x → P x) → (b : Bool) → (if b then Some y else find p ys) ≡ Some x → P x
    by_test rest true h = let same : y ≡ x = cc in subst P same (All-head P y ys all)
    by_test rest false h = rest h

-- a number that is there is one of the list's
pub at_number-within : {X : Type 0} (xs : List X) (k : ℕ) (x : X) → at_number xs k ≡ Some x → (1 ≤ k) × (k ≤ length xs)
at_number-within xs k x e = by_test (k == 0) refl e
  where
    by_test : (b : Bool) → (k == 0) ≡ b → (if b then None else slice_get xs (k - 1)) ≡ Some x → (1 ≤ k) × (k ≤ length xs)
    by_test true zero h = cc
    by_test false some h = grind (arith, nat_tests, slice_get_within xs (k - 1) x h)

pub at_number-map : {X Y : Type 0} (f : X → Y) (xs : List X) (k : ℕ) → at_number (map f xs) k ≡ option_map f (at_number xs k)
at_number-map {X} {Y} f xs k = by_test (k == 0)
  where
    by_test : (b : Bool) → (if b then None else slice_get (map f xs) (k - 1)) ≡ option_map f (if b then None else slice_get xs (k - 1))
    by_test true = refl
    by_test false = slice_get-map f xs (k - 1)

sub-suc-one : (k : ℕ) → suc k - 1 ≡ k
sub-suc-one k = omega arith

pub at_number-suc : {X : Type 0} (xs : List X) (k : ℕ) → at_number xs (suc k) ≡ slice_get xs k
at_number-suc xs k = grind (arith, nat_tests, sub-suc-one k)

-- a test that no element passes
pub All-none : {X : Type 0} (p : X → Bool) (xs : List X) → list_any p xs ≡ false → All (λ x. p x ≡ false) xs
All-none p [] h = All-nil (λ x. p x ≡ false)
All-none p (x ∷ xs) h = by_test (All-none p xs) (p x) refl h
  where
    by_test :
        (list_any p xs ≡ false → All (λ y. p y ≡ false) xs) → (b : Bool) → p x ≡ b → (b || list_any p xs) ≡ false →
        All (λ y. p y ≡ false) (x ∷ xs)
    by_test rest true e f = cc
    by_test rest false e f = All-cons (λ y. p y ≡ false) x xs e (rest f)
