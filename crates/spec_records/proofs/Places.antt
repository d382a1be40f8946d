-- The place of the first item that meets a test, and of the item of a number; the first that meets a test is changed.
use Rattle.std.proofs.Common.{◌≡◌, ℕ, suc, ◌+◌, ◌-◌, ◌<◌, ◌≤◌, not, Bool, true, false, List, [], ◌∷◌, Some, None, if◌then◌else◌, length, map, get_or, set, cond, refl, sym, ap, ◌∙◌, arith, find, position}
use Rattle.std.specs.List.{position_or_len}
use Rattle.std.proofs.lemmas.Bool.Decides.{nat_tests}
use Rattle.std.proofs.lemmas.List.Quantifiers.{position-Some}
use Rattle.std.proofs.lemmas.Option.{slice_get-get_or}
use Rattle.dk_base.specs.ByNumber.{at_number}
use Rattle.spec_records.specs.Words.{change_first}

pub numbered_here : {X : Type 0} (xs : List X) (n : ℕ) (d : X) → 0 < n → n - 1 < length xs → at_number xs n ≡ Some (get_or xs (n - 1) d)
numbered_here xs n d p h = let e = slice_get-get_or xs (n - 1) d h in grind (arith, nat_tests)

pub position_is : {X : Type 0} (p : X → Bool) (xs : List X) (i : ℕ) → position p xs ≡ Some i → i ≡ position_or_len p xs
position_is p xs i h = grind (arith, nat_tests)

none_there : {X : Type 0} (p : X → Bool) (xs : List X) → position p xs ≡ None → length xs ≤ position_or_len p xs
none_there p xs h = grind (arith, nat_tests)

find_first : {X : Type 0} (p : X → Bool) (xs : List X) (d : X) → position_or_len p xs < length xs → find p xs ≡ Some (get_or xs (position_or_len p xs) d)
find_first p [] d h = absurd (omega arith)
find_first p (x ∷ xs) d h =
    elim (p x) as (λ b. cond (not b) (1 + position_or_len p xs) 0 < suc (length xs) → cond b (Some x) (find p xs) ≡ Some (get_or (x ∷ xs) (cond (not b) (1 + position_or_len p xs) 0) d))
    [ true ↦ λ _. refl | false ↦ λ k. let e : 1 + position_or_len p xs ≡ suc (position_or_len p xs) = omega arith in rw e (find_first p xs d (omega arith)) ] h

find_none : {X : Type 0} (p : X → Bool) (xs : List X) → length xs ≤ position_or_len p xs → find p xs ≡ None
find_none p [] h = refl
find_none p (x ∷ xs) h =
    elim (p x) as (λ b. suc (length xs) ≤ cond (not b) (1 + position_or_len p xs) 0 → cond b (Some x) (find p xs) ≡ None)
    [ true ↦ λ k. absurd (omega arith) | false ↦ λ k. find_none p xs (omega arith) ] h

find_at : {X : Type 0} (test : X → Bool) (xs : List X) (i : ℕ) (d : X) → position test xs ≡ Some i → find test xs ≡ Some (get_or xs i d)
find_at test xs i d h =
    let e = position_is test xs i h in
    let w = position-Some test xs i d h in
    grind (arith, find_first test xs d)

pub find_nowhere : {X : Type 0} (test : X → Bool) (xs : List X) → position test xs ≡ None → find test xs ≡ None
find_nowhere test xs h = find_none test xs (none_there test xs h)

-- the first that meets a test, changed

changed_first :
    {X : Type 0} (test : X → Bool) (change : X → X) (xs : List X) (d : X) → position_or_len test xs < length xs →
    change_first test change xs ≡ set xs (position_or_len test xs) (change (get_or xs (position_or_len test xs) d))
changed_first test change [] d h = absurd (omega arith)
changed_first test change (x ∷ xs) d h =
    elim (test x) as (λ b. cond (not b) (1 + position_or_len test xs) 0 < suc (length xs) → cond b (change x ∷ xs) (x ∷ change_first test change xs) ≡ set (x ∷ xs) (cond (not b) (1 + position_or_len test xs) 0) (change (get_or (x ∷ xs) (cond (not b) (1 + position_or_len test xs) 0) d)))
    [ true ↦ λ _. refl | false ↦ λ k. let e : 1 + position_or_len test xs ≡ suc (position_or_len test xs) = omega arith in rw e (ap (λ zs. x ∷ zs) (changed_first test change xs d (omega arith))) ] h

pub changed_at :
    {X : Type 0} (test : X → Bool) (change : X → X) (xs : List X) (i : ℕ) (d : X) → position test xs ≡ Some i →
    change_first test change xs ≡ set xs i (change (get_or xs i d))
changed_at test change xs i d h =
    let e = position_is test xs i h in
    let w = position-Some test xs i d h in
    grind (arith, changed_first test change xs d)

changed_none : {X : Type 0} (test : X → Bool) (change : X → X) (xs : List X) → length xs ≤ position_or_len test xs → change_first test change xs ≡ xs
changed_none test change [] h = refl
changed_none test change (x ∷ xs) h =
    elim (test x) as (λ b. suc (length xs) ≤ cond (not b) (1 + position_or_len test xs) 0 → cond b (change x ∷ xs) (x ∷ change_first test change xs) ≡ x ∷ xs)
    [ true ↦ λ k. absurd (omega arith) | false ↦ λ k. ap (λ zs. x ∷ zs) (changed_none test change xs (omega arith)) ] h

pub changed_nowhere : {X : Type 0} (test : X → Bool) (change : X → X) (xs : List X) → position test xs ≡ None → change_first test change xs ≡ xs
changed_nowhere test change xs h = changed_none test change xs (none_there test xs h)

-- one that is changed at its place
pub changed_there :
    {X : Type 0} (test : X → Bool) (change : X → X) (xs : List X) (i : ℕ) (d new : X) → position test xs ≡ Some i →
    new ≡ change (get_or xs i d) → set xs i new ≡ change_first test change xs
changed_there test change xs i d new h is = ap (set xs i) is ∙ sym (changed_at test change xs i d h)

pub found_there :
    {X : Type 0} (test : X → Bool) (xs : List X) (i : ℕ) (d old : X) → position test xs ≡ Some i → old ≡ get_or xs i d →
    Some old ≡ find test xs
found_there test xs i d old h is = ap Some is ∙ sym (find_at test xs i d h)

-- where none is found, none is changed
pub change_first-none : {X : Type 0} (test : X → Bool) (change : X → X) (xs : List X) → find test xs ≡ None → change_first test change xs ≡ xs
change_first-none test change [] e = refl
change_first-none test change (x ∷ xs) e = go (test x) e (λ f. change_first-none test change xs f)
  where
    go :
        (b : Bool) → (if b then Some x else find test xs) ≡ None → (find test xs ≡ None → change_first test change xs ≡ xs) →
        (if b then change x ∷ xs else x ∷ change_first test change xs) ≡ x ∷ xs
    go true f same = cc
    go false f same = ap (λ ys. x ∷ ys) (same f)

-- a reader that does not see the change
pub map-change_first :
    {X Y : Type 0} (f : X → Y) (test : X → Bool) (change : X → X) → ((x : X) → f (change x) ≡ f x) → (xs : List X) →
    map f (change_first test change xs) ≡ map f xs
map-change_first f test change same [] = refl
map-change_first f test change same (x ∷ xs) = go (test x) (map-change_first f test change same xs)
  where
    go :
        (b : Bool) → map f (change_first test change xs) ≡ map f xs →
        map f (if b then change x ∷ xs else x ∷ change_first test change xs) ≡ map f (x ∷ xs)
    go true ih = ap (λ y. y ∷ map f xs) (same x)
    go false ih = ap (λ ys. f x ∷ ys) ih

pub length-change_first : {X : Type 0} (test : X → Bool) (change : X → X) (xs : List X) → length (change_first test change xs) ≡ length xs
length-change_first test change [] = refl
length-change_first test change (x ∷ xs) = grind (arith, length-change_first test change xs)
