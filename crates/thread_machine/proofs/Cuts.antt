-- Lists that are cut to their first items.
use Rattle.std.proofs.Common.{◌≡◌, ℕ, ◌-◌, ◌<◌, ◌≤◌, List, [], ◌∷◌, ◌++◌, length, take, refl, ap, ◌∙◌, sym, arith, zero, suc}
use Rattle.std.specs.Prelude.{flat_map, slice_get}

pub take-nil : {A : Type 0} (n : ℕ) (xs : List A) → xs ≡ [] → take n xs ≡ []
take-nil zero xs h = refl
take-nil (suc n) [] h = refl
take-nil (suc n) (x ∷ xs) h = cc

pub take-in_room : {A : Type 0} (n : ℕ) (xs ys : List A) → length xs ≤ n → take n (xs ++ ys) ≡ xs ++ take (n - length xs) ys
take-in_room n [] ys h = let e : n - 0 ≡ n = omega arith in rw e refl
take-in_room zero (x ∷ xs) ys h = absurd (omega arith)
take-in_room (suc n) (x ∷ xs) ys h =
    let e : suc n - suc (length xs) ≡ n - length xs = omega arith
    in let few : length xs ≤ n = omega arith
    in rw e (ap (λ (zs : List _). x ∷ zs) (take-in_room n xs ys few))

pub take-take : {A : Type 0} (n m : ℕ) (xs : List A) → n ≤ m → take n (take m xs) ≡ take n xs
take-take zero m xs h = refl
take-take (suc n) zero xs h = absurd (omega arith)
take-take (suc n) (suc m) [] h = refl
take-take (suc n) (suc m) (x ∷ xs) h =
    let few : n ≤ m = omega arith in ap (λ (zs : List _). x ∷ zs) (take-take n m xs few)

-- what is appended to a cut list is cut as it were after the whole
pub take-cut : {A : Type 0} (n : ℕ) (xs ys : List A) → take n (take n xs ++ ys) ≡ take n (xs ++ ys)
take-cut zero xs ys = refl
take-cut (suc n) [] ys = refl
take-cut (suc n) (x ∷ xs) ys = ap (λ (zs : List _). x ∷ zs) (take-cut n xs ys)

pub take-both : {A : Type 0} (n m : ℕ) (xs ys : List A) → n ≤ m → take n (xs ++ ys) ≡ take n (take n xs ++ take m ys)
take-both zero m xs ys h = refl
take-both (suc n) m [] ys h = sym (take-take (suc n) m ys h)
take-both (suc n) m (x ∷ xs) ys h =
    let few : n ≤ m = omega arith in ap (λ (zs : List _). x ∷ zs) (take-both n m xs ys few)

-- cut pieces give the same cut whole
pub take-flat_map :
    {A : Type 0} {B : Type 0} (n : ℕ) (f g : A → List B) (xs : List A) → ((x : A) → take n (f x) ≡ take n (g x)) →
    take n (flat_map f xs) ≡ take n (flat_map g xs)
take-flat_map n f g [] h = refl
take-flat_map n f g (x ∷ xs) h =
    let here : take n (f x) ≡ take n (g x) = h x
    in let there : take n (flat_map f xs) ≡ take n (flat_map g xs) = take-flat_map n f g xs h
    in let left : take n (f x ++ flat_map f xs) ≡ take n (take n (f x) ++ take n (flat_map f xs)) =
    take-both n n (f x) (flat_map f xs) (omega arith)
    in let right : take n (g x ++ flat_map g xs) ≡ take n (take n (g x) ++ take n (flat_map g xs)) =
    take-both n n (g x) (flat_map g xs) (omega arith)
    in left ∙ rw (here, there) (sym right)

pub slice_get-take : {A : Type 0} (n k : ℕ) (xs : List A) → k < n → slice_get (take n xs) k ≡ slice_get xs k
slice_get-take zero k xs h = absurd (omega arith)
slice_get-take (suc n) k [] h = refl
slice_get-take (suc n) zero (x ∷ xs) h = refl
slice_get-take (suc n) (suc k) (x ∷ xs) h = let few : k < n = omega arith in slice_get-take n k xs few
