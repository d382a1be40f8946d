-- One item of a list whose items are numbered from 1, changed, and seen through a reader.
use Rattle.std.proofs.Common.{◌≡◌, ℕ, zero, suc, ◌+◌, ◌-◌, ◌<◌, List, [], ◌∷◌, Option, Some, None, length, map, option_map, set, slice_get, get_or, refl, sym, ap, subst, ◌∙◌, arith}
use Rattle.std.proofs.lemmas.Bool.Decides.{nat_tests}
use Rattle.std.proofs.lemmas.List.{map-set}
use Rattle.std.proofs.lemmas.Option.{slice_get-get_or}
use Rattle.dk_base.specs.ByNumber.{at_number, with_at_number}
use Rattle.spec_records.specs.Words.{change_at_number, change_found}

sub_suc_one : (k : ℕ) → suc k - 1 ≡ k
sub_suc_one k = omega arith

at_suc : {X : Type 0} (xs : List X) (k : ℕ) → at_number xs (suc k) ≡ slice_get xs k
at_suc xs k = grind (arith, nat_tests, sub_suc_one k)

with_at_suc : {X : Type 0} (xs : List X) (k : ℕ) (y : X) → with_at_number xs (suc k) y ≡ set xs k y
with_at_suc xs k y = grind (arith, nat_tests, sub_suc_one k)

pub got_map : {X Y : Type 0} (h : X → Y) (xs : List X) (i : ℕ) → slice_get (map h xs) i ≡ option_map h (slice_get xs i)
got_map h [] i = refl
got_map h (x ∷ xs) zero = refl
got_map h (x ∷ xs) (suc i) = got_map h xs i

pub at_number-map : {X Y : Type 0} (h : X → Y) (xs : List X) (n : ℕ) → at_number (map h xs) n ≡ option_map h (at_number xs n)
at_number-map h xs zero = refl
at_number-map h xs (suc k) = at_suc (map h xs) k ∙ got_map h xs k ∙ ap (option_map h) (sym (at_suc xs k))

-- the item at a place, by its number
pub numbered_at : {X : Type 0} (xs : List X) (n i : ℕ) (x : X) → i + 1 ≡ n → i < length xs → x ≡ get_or xs i x → at_number xs n ≡ Some x
numbered_at xs n i x e h is =
    let next : suc i ≡ i + 1 = omega arith in
    subst (λ m. at_number xs m ≡ Some x) (next ∙ e) (at_suc xs i ∙ slice_get-get_or xs i x h ∙ ap Some (sym is))

pub set_same : {X : Type 0} (xs : List X) (i : ℕ) (x : X) → slice_get xs i ≡ Some x → set xs i x ≡ xs
set_same [] i x e = refl
set_same (z ∷ zs) zero x e = cc
set_same (z ∷ zs) (suc i) x e = ap (λ ys. z ∷ ys) (set_same zs i x e)

-- a number that nothing has
pub change_at_number-none : {X : Type 0} (xs : List X) (n : ℕ) (change : X → X) → at_number xs n ≡ None → change_at_number xs n change ≡ xs
change_at_number-none xs n change e = ap (change_found xs n change) e

-- a change that changes nothing
pub change_at_number-same : {X : Type 0} (xs : List X) (n : ℕ) (change : X → X) → ((x : X) → change x ≡ x) → change_at_number xs n change ≡ xs
change_at_number-same {X} xs n change same = go n (at_number xs n) refl
  where
    go : (n : ℕ) (o : Option X) → at_number xs n ≡ o → change_found xs n change o ≡ xs
    go n None e = refl
    go zero (Some x) e = refl
    go (suc k) (Some x) e = with_at_suc xs k (change x) ∙ ap (set xs k) (same x) ∙ set_same xs k x (sym (at_suc xs k) ∙ e)

changed_suc : {X : Type 0} (xs : List X) (k : ℕ) (x : X) (change : X → X) → slice_get xs k ≡ Some x → change_at_number xs (suc k) change ≡ set xs k (change x)
changed_suc xs k x change e = ap (change_found xs (suc k) change) (at_suc xs k ∙ e) ∙ with_at_suc xs k (change x)

-- the item at a place is changed, as a reader sees it
pub changed_through :
    {X Y : Type 0} (h : X → Y) (g : Y → Y) (xs : List X) (n i : ℕ) (x y : X) → i + 1 ≡ n → i < length xs → x ≡ get_or xs i x → h y ≡ g (h x) →
    map h (set xs i y) ≡ change_at_number (map h xs) n g
changed_through h g xs n i x y e below is same =
    let next : suc i ≡ i + 1 = omega arith in
    let there = slice_get-get_or xs i x below ∙ ap Some (sym is) in
    map-set h xs i y ∙ ap (set (map h xs) i) same
    ∙ sym (changed_suc (map h xs) i (h x) g (got_map h xs i ∙ ap (option_map h) there))
    ∙ ap (λ m. change_at_number (map h xs) m g) (next ∙ e)
