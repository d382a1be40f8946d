-- The line at a position of a body, and the lines from it on.
use Rattle.std.proofs.Common.{◌≡◌, ℕ, ◌<◌, ◌≤◌, List, [], ◌∷◌, length, drop, get_or, Some, None, refl, subst, arith, zero, suc}
use Rattle.std.specs.Prelude.{slice_get}

pub drop-at : {A : Type 0} (xs : List A) (k : ℕ) (x : A) → slice_get xs k ≡ Some x → drop k xs ≡ x ∷ drop (suc k) xs
drop-at [] k x h = cc
drop-at (y ∷ ys) zero x h = let e : y ≡ x = cc in rw e refl
drop-at (y ∷ ys) (suc k) x h = drop-at ys k x h

pub drop-end : {A : Type 0} (xs : List A) (k : ℕ) → slice_get xs k ≡ None → drop k xs ≡ []
drop-end [] zero h = refl
drop-end [] (suc k) h = refl
drop-end (y ∷ ys) zero h = cc
drop-end (y ∷ ys) (suc k) h = drop-end ys k h

pub drop-past : {A : Type 0} (xs : List A) (k : ℕ) → length xs ≤ k → drop k xs ≡ []
drop-past [] zero h = refl
drop-past [] (suc k) h = refl
drop-past (y ∷ ys) zero h = absurd (omega arith)
drop-past (y ∷ ys) (suc k) h = let few : length ys ≤ k = omega arith in drop-past ys k few

pub slice_get-index :
    {A : Type 0} (xs : List A) (k : ℕ) (x : A) → k < length xs → x ≡ get_or xs k x → slice_get xs k ≡ Some x
slice_get-index [] k x h e = absurd (omega arith)
slice_get-index (y ∷ ys) zero x h e = rw (← e) refl
slice_get-index (y ∷ ys) (suc k) x h e = let few : k < length ys = omega arith in slice_get-index ys k x few e

pub slice_get-past : {A : Type 0} (xs : List A) (k : ℕ) → length xs ≤ k → slice_get xs k ≡ None
slice_get-past [] k h = refl
slice_get-past (y ∷ ys) zero h = absurd (omega arith)
slice_get-past (y ∷ ys) (suc k) h = let few : length ys ≤ k = omega arith in slice_get-past ys k few

pub slice_get-seen :
    {A : Type 0} (seen xs : List A) (k : ℕ) (x : A) → seen ≡ xs → k < length seen → x ≡ get_or seen k x → slice_get xs k ≡ Some x
slice_get-seen seen xs k x is h e = subst (λ (ys : List _). slice_get ys k ≡ Some x) is (slice_get-index seen k x h e)

pub slice_get-none : {A : Type 0} (seen xs : List A) (k : ℕ) → seen ≡ xs → length seen ≤ k → slice_get xs k ≡ None
slice_get-none seen xs k is h = subst (λ (ys : List _). slice_get ys k ≡ None) is (slice_get-past seen k h)
