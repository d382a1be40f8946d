-- Lists whose items are numbered from 1: reads after writes.
use Rattle.std.proofs.Common.{◌≡◌, ℕ, zero, suc, ◌+◌, ◌-◌, ◌<◌, ◌≤◌, false, if◌then◌else◌, nat_lt, nat_le, ◌&&◌, ◌==◌, List, [], ◌∷◌, ◌++◌, Option, None, Some, IsSome, is_some, option_map, length, map, slice_get, slice_set, refl, sym, subst, ap, ap₂, ◌∙◌, arith, append-nil, append_assoc, length-set}
use Rattle.std.proofs.lemmas.List.{length-map}
use Rattle.std.proofs.lemmas.Bool.Decides.{nat_tests}
use Rattle.std.proofs.lemmas.Option.{slice_get-map}
use Rattle.dk_base.specs.ByNumber.{at_number, with_at_number}

-- places

sub-suc-one : (k : ℕ) → suc k - 1 ≡ k
sub-suc-one k = omega arith

pub slice_get-slice_set :
    {X : Type 0} (xs : List X) (i j : ℕ) (x : X) →
    slice_get (slice_set xs i x) j ≡ (if (j == i) && is_some (slice_get xs i) then Some x else slice_get xs j)
slice_get-slice_set [] i j x = grind arith
slice_get-slice_set (y ∷ ys) zero zero x = refl
slice_get-slice_set (y ∷ ys) zero (suc j) x = grind (arith, nat_tests)
slice_get-slice_set (y ∷ ys) (suc i) zero x = grind (arith, nat_tests)
slice_get-slice_set (y ∷ ys) (suc i) (suc j) x = grind (arith, nat_tests, slice_get-slice_set ys i j x)

pub slice_get_push :
    {X : Type 0} (xs : List X) (y : X) (k : ℕ) →
    slice_get (xs ++ y ∷ []) k ≡ (if k == length xs then Some y else slice_get xs k)
slice_get_push [] y zero = refl
slice_get_push [] y (suc k) = grind (arith, nat_tests)
slice_get_push (x ∷ xs) y zero = grind (arith, nat_tests)
slice_get_push (x ∷ xs) y (suc k) = grind (arith, nat_tests, slice_get_push xs y k)

pub is_some-slice_get : {X : Type 0} (xs : List X) (k : ℕ) → is_some (slice_get xs k) ≡ nat_lt k (length xs)
is_some-slice_get [] k = grind (arith, nat_tests)
is_some-slice_get (x ∷ xs) zero = grind (arith, nat_tests)
is_some-slice_get (x ∷ xs) (suc k) = grind (arith, nat_tests, is_some-slice_get xs k)

-- numbers

pub at_number-suc : {X : Type 0} (xs : List X) (k : ℕ) → at_number xs (suc k) ≡ slice_get xs k
at_number-suc xs k = grind (arith, nat_tests, sub-suc-one k)

pub with_at_number-suc : {X : Type 0} (xs : List X) (k : ℕ) (x : X) → with_at_number xs (suc k) x ≡ slice_set xs k x
with_at_number-suc xs k x = grind (arith, nat_tests, sub-suc-one k)

pub length-with_at_number : {X : Type 0} (xs : List X) (n : ℕ) (x : X) → length (with_at_number xs n x) ≡ length xs
length-with_at_number xs zero x = refl
length-with_at_number xs (suc n) x = ap length (with_at_number-suc xs n x) ∙ length-set xs n x

pub at_number-with_at_number :
    {X : Type 0} (xs : List X) (n k : ℕ) (x : X) →
    at_number (with_at_number xs n x) k ≡ (if (k == n) && is_some (at_number xs n) then Some x else at_number xs k)
at_number-with_at_number xs zero k x = grind (arith, nat_tests)
at_number-with_at_number xs (suc n) zero x = grind (arith, nat_tests)
at_number-with_at_number xs (suc n) (suc k) x =
    ap (λ ys. at_number ys (suc k)) (with_at_number-suc xs n x)
    ∙ at_number-suc (slice_set xs n x) k
    ∙ slice_get-slice_set xs n k x
    ∙ grind (arith, nat_tests, at_number-suc xs n, at_number-suc xs k)

-- where the number is there
pub at_number-renumbered_there :
    {X : Type 0} (xs : List X) (n k : ℕ) (x y : X) → at_number xs n ≡ Some y →
    at_number (with_at_number xs n x) k ≡ (if k == n then Some x else at_number xs k)
at_number-renumbered_there xs n k x y e = at_number-with_at_number xs n k x ∙ grind (arith, nat_tests)

pub numbered_push :
    {X : Type 0} (xs : List X) (y : X) (k : ℕ) →
    at_number (xs ++ y ∷ []) k ≡ (if k == length xs + 1 then Some y else at_number xs k)
numbered_push xs y zero = grind (arith, nat_tests)
numbered_push xs y (suc k) = at_number-suc (xs ++ y ∷ []) k ∙ slice_get_push xs y k ∙ grind (arith, nat_tests, at_number-suc xs k)

pub at_number-set :
    {X : Type 0} (xs : List X) (i k : ℕ) (x : X) → i < length xs →
    at_number (slice_set xs i x) k ≡ (if k == suc i then Some x else at_number xs k)
at_number-set xs i zero x h = grind (arith, nat_tests)
at_number-set xs i (suc k) x h =
    at_number-suc (slice_set xs i x) k
    ∙ slice_get-slice_set xs i k x
    ∙ grind (arith, nat_tests, is_some-slice_get xs i, at_number-suc xs k)

pub at_number-push :
    {X : Type 0} (xs : List X) (y : X) (k : ℕ) →
    at_number (xs ++ y ∷ []) k ≡ (if k == suc (length xs) then Some y else at_number xs k)
at_number-push xs y k =
    let next : length xs + 1 ≡ suc (length xs) = omega arith in
    subst (λ n. at_number (xs ++ y ∷ []) k ≡ (if k == n then Some y else at_number xs k)) next (numbered_push xs y k)

pub at_number-map : {X Y : Type 0} (f : X → Y) (xs : List X) (k : ℕ) → at_number (map f xs) k ≡ option_map f (at_number xs k)
at_number-map f xs zero = refl
at_number-map f xs (suc k) = at_number-suc (map f xs) k ∙ slice_get-map f xs k ∙ ap (option_map f) (sym (at_number-suc xs k))

pub is_some-at_number : {X : Type 0} (xs : List X) (k : ℕ) → is_some (at_number xs k) ≡ (nat_le 1 k && nat_le k (length xs))
is_some-at_number xs zero = grind (arith, nat_tests)
is_some-at_number xs (suc k) = ap is_some (at_number-suc xs k) ∙ is_some-slice_get xs k ∙ grind (arith, nat_tests)

pub numbered_within : {X : Type 0} (xs : List X) (k : ℕ) (x : X) → at_number xs k ≡ Some x → (1 ≤ k) × (k ≤ length xs)
numbered_within xs k x e = grind (arith, nat_tests, is_some-at_number xs k)

pub numbered_there : {X : Type 0} (xs : List X) (k : ℕ) → 1 ≤ k → k ≤ length xs → IsSome (at_number xs k)
numbered_there xs k l h = is_some-at_number xs k ∙ grind (arith, nat_tests)

pub numbered_past : {X : Type 0} (xs : List X) (k : ℕ) → length xs < k → at_number xs k ≡ None
numbered_past xs k h = none_from_test (at_number xs k) (is_some-at_number xs k ∙ grind (arith, nat_tests))
  where
    none_from_test : {X : Type 0} (o : Option X) → is_some o ≡ false → o ≡ None
    none_from_test None e = refl
    none_from_test (Some x) e = cc

-- what is added at the end hides nothing
pub numbered_front :
    {X : Type 0} (xs ys : List X) (k : ℕ) (x : X) → at_number xs k ≡ Some x → at_number (xs ++ ys) k ≡ Some x
numbered_front xs ys zero x e = e
numbered_front xs ys (suc k) x e =
    at_number-suc (xs ++ ys) k ∙ slice_get_front xs ys k x (sym (at_number-suc xs k) ∙ e)
  where
    slice_get_front :
        {X : Type 0} (xs ys : List X) (k : ℕ) (x : X) → slice_get xs k ≡ Some x → slice_get (xs ++ ys) k ≡ Some x
    slice_get_front [] ys k x e = cc
    slice_get_front (y ∷ zs) ys zero x e = e
    slice_get_front (y ∷ zs) ys (suc k) x e = slice_get_front zs ys k x e

-- changes that a reader does not see

map-slice_set :
    {X Y : Type 0} (f : X → Y) (xs : List X) (i : ℕ) (x : X) → ((y : X) → slice_get xs i ≡ Some y → f x ≡ f y) →
    map f (slice_set xs i x) ≡ map f xs
map-slice_set f [] i x h = refl
map-slice_set f (y ∷ ys) zero x h = ap (λ z. z ∷ map f ys) (h y refl)
map-slice_set f (y ∷ ys) (suc i) x h = ap (λ zs. f y ∷ zs) (map-slice_set f ys i x h)

pub map-with_at_number :
    {X Y : Type 0} (f : X → Y) (xs : List X) (n : ℕ) (x : X) → ((y : X) → at_number xs n ≡ Some y → f x ≡ f y) →
    map f (with_at_number xs n x) ≡ map f xs
map-with_at_number f xs zero x h = refl
map-with_at_number f xs (suc n) x h =
    ap (map f) (with_at_number-suc xs n x) ∙ map-slice_set f xs n x (λ y e. h y (at_number-suc xs n ∙ e))

pub map-map_same :
    {X Y : Type 0} (f : X → Y) (g : X → X) → ((x : X) → f (g x) ≡ f x) → (xs : List X) → map f (map g xs) ≡ map f xs
map-map_same f g h [] = refl
map-map_same f g h (x ∷ xs) = ap₂ (λ y ys. y ∷ ys) (h x) (map-map_same f g h xs)

pub map-same : {X Y : Type 0} (f g : X → Y) → ((x : X) → f x ≡ g x) → (xs : List X) → map f xs ≡ map g xs
map-same f g h [] = refl
map-same f g h (x ∷ xs) = ap₂ (λ y ys. y ∷ ys) (h x) (map-same f g h xs)

-- lists that a reader sees alike

pub same_length : {X Y : Type 0} (f : X → Y) (xs ys : List X) → map f xs ≡ map f ys → length xs ≡ length ys
same_length f xs ys e = sym (length-map xs f) ∙ ap length e ∙ length-map ys f

pub same_numbered :
    {X Y : Type 0} (f : X → Y) (xs ys : List X) (k : ℕ) → map f xs ≡ map f ys →
    option_map f (at_number xs k) ≡ option_map f (at_number ys k)
same_numbered f xs ys k e = sym (at_number-map f xs k) ∙ ap (λ zs. at_number zs k) e ∙ at_number-map f ys k

-- a list and the same with more at its end

pub record Extends {X : Type 0} (xs ys : List X) : Type 0 where
  pub rest : List X
  pub is : ys ≡ xs ++ rest

pub Extends-same : {X : Type 0} (xs ys : List X) → ys ≡ xs → Extends xs ys
Extends-same xs ys e = record { rest = []; is = e ∙ sym (append-nil xs) }

pub Extends-then : {X : Type 0} {xs ys zs : List X} → Extends xs ys → Extends ys zs → Extends xs zs
Extends-then {xs} h k =
    record { rest = h.rest ++ k.rest; is = k.is ∙ ap (λ us. us ++ k.rest) h.is ∙ append_assoc xs h.rest k.rest }

pub at_number-extends :
    {X : Type 0} {xs ys : List X} → Extends xs ys → (k : ℕ) (x : X) → at_number xs k ≡ Some x → at_number ys k ≡ Some x
at_number-extends {xs} h k x e = ap (λ us. at_number us k) h.is ∙ numbered_front xs h.rest k x e
