-- Lines, the different ones among them, and the first so many of these.
use Rattle.std.proofs.Common.{◌≡◌, ℕ, zero, suc, Bool, true, false, cond, not, ◌&&◌, ◌||◌, nat_lt, List, [], ◌∷◌, ◌++◌, filter, length, take, refl, sym, ap, subst, ◌∙◌, arith}
use Rattle.std.proofs.lemmas.Bool.Decides.{nat_tests}
use Rattle.std.proofs.lemmas.Bool.{false≢true}
use Rattle.std.proofs.lemmas.Cmp.{nat_list_eq_equiv}
use Rattle.std.proofs.lemmas.List.Elements.{filter-append}
use Rattle.std.proofs.lemmas.Map.Keys.{IsDistinct-head, IsDistinct-tail}
use Rattle.std.specs.Cmp.Lexicographic.{same_text}
use Rattle.std.specs.List.{AllByRecursion, IsDistinct, list_any}
use Rattle.std.specs.Prelude.{bytes_eq}
use Rattle.ncd_app.specs.Definition.{after, different, without}

-- the list without the first line that passes
abbrev pub without_first : (List ℕ → Bool) → List (List ℕ) → List (List ℕ)
without_first test [] = []
without_first test (x ∷ xs) = cond (test x) xs (x ∷ without_first test xs)

pub same_line : (x y : List ℕ) → bytes_eq x y ≡ true → x ≡ y
same_line x y h = same_text x y (sym h)

-- ---- whether a line is among others

filtered_if : (x y : List ℕ) (ys : List (List ℕ)) (kept : Bool) → bytes_eq x y ≡ false → list_any (bytes_eq x) ys ≡ false → list_any (bytes_eq x) (cond kept (y ∷ ys) ys) ≡ false
filtered_if x y ys true a b = ap (λ c. c || list_any (bytes_eq x) ys) a ∙ b
filtered_if x y ys false a b = b

pub either_false : (a b : Bool) → (a || b) ≡ false → (a ≡ false) × (b ≡ false)
either_false true b h = absurd (false≢true (sym h))
either_false false b h = (refl, h)

any_filtered : (x : List ℕ) (p : List ℕ → Bool) (xs : List (List ℕ)) → list_any (bytes_eq x) xs ≡ false → list_any (bytes_eq x) (filter p xs) ≡ false
any_filtered x p [] h = refl
any_filtered x p (y ∷ ys) h =
    let parts = either_false (bytes_eq x y) (list_any (bytes_eq x) ys) h in
    filtered_if x y (filter p ys) (p y) parts.0 (any_filtered x p ys parts.1)

any_taken : (x : List ℕ) (n : ℕ) (xs : List (List ℕ)) → list_any (bytes_eq x) xs ≡ false → list_any (bytes_eq x) (take n xs) ≡ false
any_taken x zero xs h = refl
any_taken x (suc n) [] h = refl
any_taken x (suc n) (y ∷ ys) h =
    let parts = either_false (bytes_eq x y) (list_any (bytes_eq x) ys) h in
    ap (λ b. b || list_any (bytes_eq x) (take n ys)) parts.0 ∙ any_taken x n ys parts.1

-- a line stands where the lines before it are fewer than n
pub stands_at : (x : List ℕ) (n : ℕ) (front rest : List (List ℕ)) → list_any (bytes_eq x) front ≡ false → list_any (bytes_eq x) (take n (front ++ x ∷ rest)) ≡ nat_lt (length front) n
stands_at x zero [] rest h = refl
stands_at x zero (y ∷ ys) rest h = grind (arith, nat_tests)
stands_at x (suc n) [] rest h = ap (λ b. b || list_any (bytes_eq x) (take n rest)) (nat_list_eq_equiv.refl x) ∙ grind (arith, nat_tests)
stands_at x (suc n) (y ∷ ys) rest h =
    let parts = either_false (bytes_eq x y) (list_any (bytes_eq x) ys) h in
    let more : nat_lt (length ys) n ≡ nat_lt (suc (length ys)) (suc n) = grind (arith, nat_tests) in
    ap (λ b. b || list_any (bytes_eq x) (take n (ys ++ x ∷ rest))) parts.0 ∙ stands_at x n ys rest parts.1 ∙ more

-- ---- the different lines

without_more : (a x : List ℕ) (front rest : List (List ℕ)) → bytes_eq x a ≡ false → without a (front ++ x ∷ rest) ≡ without a front ++ x ∷ without a rest
without_more a x front rest h =
    filter-append (λ other. not (bytes_eq a other)) front (x ∷ rest)
    ∙ ap (λ b. without a front ++ cond (not b) (x ∷ without a rest) (without a rest)) (nat_list_eq_equiv.symm a x ∙ h)

-- a line that is among them stands behind the different ones after its last place
pub record IsSplit (x : List ℕ) (lines : List (List ℕ)) : Type 0 where
  pub rest : List (List ℕ)
  pub whole : different lines ≡ different (after x lines) ++ x ∷ rest
  pub new : list_any (bytes_eq x) (different (after x lines)) ≡ false

split_first : (x a : List ℕ) (lines : List (List ℕ)) (b : Bool) → bytes_eq x a ≡ b → (list_any (bytes_eq x) lines ≡ true → IsSplit x lines) → (b || list_any (bytes_eq x) lines) ≡ true
    → (rest : List (List ℕ)) × (different (a ∷ lines) ≡ different (cond b [] (a ∷ after x lines)) ++ x ∷ rest) × (list_any (bytes_eq x) (different (cond b [] (a ∷ after x lines))) ≡ false)
split_first x a lines true e later h = (without a (different lines), ap (λ y. y ∷ without a (different lines)) (sym (same_line x a e)), refl)
split_first x a lines false e later h =
    let s = later h in (
      without a s.rest,
      ap (λ l. a ∷ without a l) s.whole ∙ ap (λ l. a ∷ l) (without_more a x (different (after x lines)) s.rest e),
      ap (λ b. b || list_any (bytes_eq x) (without a (different (after x lines)))) e ∙ any_filtered x (λ other. not (bytes_eq a other)) (different (after x lines)) s.new,
    )

pub split : (x : List ℕ) (lines : List (List ℕ)) → list_any (bytes_eq x) lines ≡ true → IsSplit x lines
split x [] h = absurd (false≢true h)
split x (a ∷ lines) h =
    let s = split_first x a lines (bytes_eq x a) refl (split x lines) h in
    record { rest = s.0; whole = s.1; new = s.2 }

not_among : (x : List ℕ) (lines : List (List ℕ)) → list_any (bytes_eq x) lines ≡ false → list_any (bytes_eq x) (different lines) ≡ false
not_among x [] h = refl
not_among x (a ∷ lines) h =
    let parts = either_false (bytes_eq x a) (list_any (bytes_eq x) lines) h in
    ap (λ b. b || list_any (bytes_eq x) (without a (different lines))) parts.0
    ∙ any_filtered x (λ other. not (bytes_eq a other)) (different lines) (not_among x lines parts.1)

-- whether a line is among the first n different ones, by what stands between
recent_if : (x : List ℕ) (n : ℕ) (lines : List (List ℕ)) (b : Bool) → list_any (bytes_eq x) lines ≡ b → (b && nat_lt (length (different (after x lines))) n) ≡ list_any (bytes_eq x) (take n (different lines))
recent_if x n lines true h =
    let s = split x lines h in
    sym (ap (λ l. list_any (bytes_eq x) (take n l)) s.whole ∙ stands_at x n (different (after x lines)) s.rest s.new)
recent_if x n lines false h = sym (any_taken x n (different lines) (not_among x lines h))

pub recent : (x : List ℕ) (n : ℕ) (lines : List (List ℕ)) → (list_any (bytes_eq x) lines && nat_lt (length (different (after x lines))) n) ≡ list_any (bytes_eq x) (take n (different lines))
recent x n lines = recent_if x n lines (list_any (bytes_eq x) lines) refl

-- ---- they are different

other_apart : (x y : List ℕ) (ys : List (List ℕ)) (b : Bool) → bytes_eq x y ≡ b → AllByRecursion (λ z. bytes_eq x z ≡ false) ys → AllByRecursion (λ z. bytes_eq x z ≡ false) (cond (not b) (y ∷ ys) ys)
other_apart x y ys true e all = all
other_apart x y ys false e all = (e, all)

others_apart : (x : List ℕ) (xs : List (List ℕ)) → AllByRecursion (λ y. bytes_eq x y ≡ false) (without x xs)
others_apart x [] = tt
others_apart x (y ∷ ys) = other_apart x y (without x ys) (bytes_eq x y) refl (others_apart x ys)

all_filtered_if : (P : List ℕ → Type 0) (x : List ℕ) (xs : List (List ℕ)) (kept : Bool) → P x → AllByRecursion P xs → AllByRecursion P (cond kept (x ∷ xs) xs)
all_filtered_if P x xs true p all = (p, all)
all_filtered_if P x xs false p all = all

all_filtered : (P : List ℕ → Type 0) (p : List ℕ → Bool) (xs : List (List ℕ)) → AllByRecursion P xs → AllByRecursion P (filter p xs)
all_filtered P p [] all = tt
all_filtered P p (x ∷ xs) all = all_filtered_if P x (filter p xs) (p x) all.0 (all_filtered P p xs all.1)

distinct_if : (x : List ℕ) (xs : List (List ℕ)) (kept : Bool) → AllByRecursion (λ y. bytes_eq x y ≡ false) xs → IsDistinct bytes_eq xs → IsDistinct bytes_eq (cond kept (x ∷ xs) xs)
unfolding IsDistinct
distinct_if x xs true apart d = (apart, d)
distinct_if x xs false apart d = d

distinct_filtered : (p : List ℕ → Bool) (xs : List (List ℕ)) → IsDistinct bytes_eq xs → IsDistinct bytes_eq (filter p xs)
unfolding IsDistinct
distinct_filtered p [] d = tt
distinct_filtered p (x ∷ xs) d = distinct_if x (filter p xs) (p x) (all_filtered (λ y. bytes_eq x y ≡ false) p xs d.0) (distinct_filtered p xs d.1)

pub distinct : (lines : List (List ℕ)) → IsDistinct bytes_eq (different lines)
unfolding IsDistinct
distinct [] = tt
distinct (a ∷ lines) = (others_apart a (different lines), distinct_filtered (λ other. not (bytes_eq a other)) (different lines) (distinct lines))

-- ---- the first so many, with a line put first

none_left : (x : List ℕ) (xs : List (List ℕ)) → AllByRecursion (λ y. bytes_eq x y ≡ false) xs → without x xs ≡ xs
none_left x [] all = refl
none_left x (y ∷ ys) all = λ i. cond (not (all.0 i)) (y ∷ none_left x ys all.1 i) (none_left x ys all.1 i)

abbrev TakesAgain : List ℕ → ℕ → List (List ℕ) → Type 0
TakesAgain x n xs = without_first (bytes_eq x) (take (suc n) xs) ≡ take n (without x xs)

again_if : (x y : List ℕ) (n : ℕ) (ys : List (List ℕ)) (b : Bool) → bytes_eq x y ≡ b → AllByRecursion (λ z. bytes_eq y z ≡ false) ys → (b || list_any (bytes_eq x) (take n ys)) ≡ true
    → ((m : ℕ) → n ≡ suc m → list_any (bytes_eq x) (take n ys) ≡ true → without_first (bytes_eq x) (take n ys) ≡ take m (without x ys))
    → cond b (take n ys) (y ∷ without_first (bytes_eq x) (take n ys)) ≡ take n (cond (not b) (y ∷ without x ys) (without x ys))
again_if x y n ys true e apart h later =
    ap (take n) (sym (ap (λ z. without z ys) (same_line x y e) ∙ none_left y ys apart))
again_if x y zero ys false e apart h later = absurd (false≢true h)
again_if x y (suc m) ys false e apart h later = ap (λ l. y ∷ l) (later m refl h)

same_number : (n m : ℕ) → suc n ≡ suc m → n ≡ m
same_number n m e = omega arith

no_number : (m : ℕ) → zero ≡ suc m → ⊥
no_number m e = omega arith

-- a line that is among the first n + 1 goes first
pub takes_again : (x : List ℕ) (n : ℕ) (xs : List (List ℕ)) → IsDistinct bytes_eq xs → list_any (bytes_eq x) (take (suc n) xs) ≡ true → TakesAgain x n xs
takes_again x n [] d h = absurd (false≢true h)
takes_again x zero (y ∷ ys) d h =
    again_if x y zero ys (bytes_eq x y) refl (IsDistinct-head bytes_eq y ys d) h (λ m e more. absurd (no_number m e))
takes_again x (suc n) (y ∷ ys) d h =
    again_if x y (suc n) ys (bytes_eq x y) refl (IsDistinct-head bytes_eq y ys d) h
    (λ m e more. subst (λ k. without_first (bytes_eq x) (take (suc n) ys) ≡ take k (without x ys)) (same_number n m e) (takes_again x n ys (IsDistinct-tail bytes_eq y ys d) more))

-- a line that is not among the first n + 1 goes first
pub takes_new : (x : List ℕ) (n : ℕ) (xs : List (List ℕ)) → list_any (bytes_eq x) (take (suc n) xs) ≡ false → take n xs ≡ take n (without x xs)
takes_new x n [] h = refl
takes_new x zero (y ∷ ys) h = refl
takes_new x (suc n) (y ∷ ys) h =
    let parts = either_false (bytes_eq x y) (list_any (bytes_eq x) (take (suc n) ys)) h in
    ap (λ l. y ∷ l) (takes_new x n ys parts.1) ∙ ap (λ b. take (suc n) (cond (not b) (y ∷ without x ys) (without x ys))) (sym parts.0)
