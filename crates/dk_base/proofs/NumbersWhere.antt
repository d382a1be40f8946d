-- The numbers from 1 to n that pass a test.
use Rattle.std.proofs.Common.{◌≡◌, ◌≢◌, ℕ, zero, suc, ◌+◌, ◌<◌, ◌≤◌, ◌==◌, ◌&&◌, ◌||◌, Bool, true, false, if◌then◌else◌, nat_le, List, [], ◌∷◌, ◌++◌, length, filter, refl, sym, subst, ap, ap₂, ◌∙◌, arith, append-nil, length-append, true≢false, IsPermutation}
use Rattle.std.proofs.lemmas.Bool.Decides.{nat_tests}
use Rattle.std.proofs.lemmas.List.Elements.{All-append, All-cons, All-nil, All-weaker, filter-append}
use Rattle.std.proofs.lemmas.List.Folds.{list_any-append}
use Rattle.std.proofs.lemmas.List.Sorted.{IsPermutation-append_left, IsPermutation-sym, IsPermutation-to_front}
use Rattle.std.specs.List.{All, list_any}
use Rattle.dk_base.specs.Numbers.{numbers_where}

pub numbers_where-below : (p q : ℕ → Bool) (n : ℕ) → ((d : ℕ) → d ≤ n → p d ≡ q d) → numbers_where p n ≡ numbers_where q n
numbers_where-below p q zero same = refl
numbers_where-below p q (suc n) same =
    ap₂ (λ ds (b : Bool). ds ++ (if b then suc n ∷ [] else [])) (numbers_where-below p q n (λ d l. same d (omega arith)))
    (same (suc n) (omega arith))

pub numbers_where-same : (p q : ℕ → Bool) → ((d : ℕ) → p d ≡ q d) → (n : ℕ) → numbers_where p n ≡ numbers_where q n
numbers_where-same p q same n = numbers_where-below p q n (λ d _. same d)

pub filter-numbers_where : (q p : ℕ → Bool) (n : ℕ) → filter q (numbers_where p n) ≡ numbers_where (λ d. p d && q d) n
filter-numbers_where q p zero = refl
filter-numbers_where q p (suc n) =
    filter-append q (numbers_where p n) (if p (suc n) then suc n ∷ [] else [])
    ∙ ap₂ (λ ds es. ds ++ es) (filter-numbers_where q p n) (go (p (suc n)))
  where
    go : (b : Bool) → filter q (if b then suc n ∷ [] else []) ≡ (if b && q (suc n) then suc n ∷ [] else [])
    go true = refl
    go false = refl

-- none passes that is greater
pub numbers_where-past : (p : ℕ → Bool) (k n : ℕ) → k ≤ n → ((d : ℕ) → k < d → p d ≡ false) → numbers_where p n ≡ numbers_where p k
numbers_where-past p k zero h none = let e : 0 ≡ k = omega arith in ap (numbers_where p) e
numbers_where-past p k (suc n) h none = go (λ l. numbers_where-past p k n l none) (nat_le k n) refl
  where
    go : (k ≤ n → numbers_where p n ≡ numbers_where p k) → (b : Bool) → nat_le k n ≡ b → numbers_where p (suc n) ≡ numbers_where p k
    go ih true e =
        ap₂ (λ ds (b : Bool). ds ++ (if b then suc n ∷ [] else [])) (ih (grind (arith, nat_tests)))
        (none (suc n) (grind (arith, nat_tests)))
        ∙ append-nil (numbers_where p k)
    go ih false e = let same : suc n ≡ k = grind (arith, nat_tests) in ap (numbers_where p) same

-- none passes at all
pub numbers_where-none : (p : ℕ → Bool) (n : ℕ) → ((d : ℕ) → p d ≡ false) → numbers_where p n ≡ []
numbers_where-none p n none = numbers_where-past p 0 n (omega arith) (λ d _. none d)

last_more : (b : Bool) (ds : List ℕ) (m : ℕ) → length (ds ++ (if b then m ∷ [] else [])) ≤ suc (length ds)
last_more true ds m = omega (arith, length-append ds (m ∷ []))
last_more false ds m = omega (arith, ap length (append-nil ds))

pub length-numbers_where : (p : ℕ → Bool) (n : ℕ) → length (numbers_where p n) ≤ n
length-numbers_where p zero = omega arith
length-numbers_where p (suc n) = omega (arith, length-numbers_where p n, last_more (p (suc n)) (numbers_where p n) (suc n))

-- one does not pass
pub fewer-numbers_where : (p : ℕ → Bool) (n d : ℕ) → 1 ≤ d → d ≤ n → p d ≡ false → length (numbers_where p n) < n
fewer-numbers_where p zero d l h e = absurd (omega arith)
fewer-numbers_where p (suc n) d l h e = go (λ k. fewer-numbers_where p n d l k e) (nat_le d n) refl
  where
    go : (d ≤ n → length (numbers_where p n) < n) → (b : Bool) → nat_le d n ≡ b → length (numbers_where p (suc n)) < suc n
    go ih true t = let below : d ≤ n = grind (arith, nat_tests) in omega (arith, ih below, last_more (p (suc n)) (numbers_where p n) (suc n))
    go ih false t =
        let here : d ≡ suc n = grind (arith, nat_tests) in
        let out : length (numbers_where p (suc n)) ≡ length (numbers_where p n) =
        ap (λ (b : Bool). length (numbers_where p n ++ (if b then suc n ∷ [] else []))) (ap p (sym here) ∙ e) ∙ ap length (append-nil (numbers_where p n)) in
        omega (arith, length-numbers_where p n, out)

pub all-numbers_where : (p : ℕ → Bool) (n : ℕ) → All (λ d. (p d ≡ true) × (1 ≤ d) × (d ≤ n)) (numbers_where p n)
all-numbers_where p zero = All-nil (λ d. (p d ≡ true) × (1 ≤ d) × (d ≤ 0))
all-numbers_where p (suc n) =
    All-append (λ d. (p d ≡ true) × (1 ≤ d) × (d ≤ suc n)) (numbers_where p n) (if p (suc n) then suc n ∷ [] else [])
    (All-weaker (λ d. (p d ≡ true) × (1 ≤ d) × (d ≤ n)) (λ d. (p d ≡ true) × (1 ≤ d) × (d ≤ suc n)) (λ d h. (h.0, h.1, omega arith)) (numbers_where p n) (all-numbers_where p n))
    (last (p (suc n)) refl)
  where
    last : (b : Bool) → p (suc n) ≡ b → All (λ d. (p d ≡ true) × (1 ≤ d) × (d ≤ suc n)) (if b then suc n ∷ [] else [])
    last true e = All-cons (λ d. (p d ≡ true) × (1 ≤ d) × (d ≤ suc n)) (suc n) [] (e, omega arith, omega arith) (All-nil (λ d. (p d ≡ true) × (1 ≤ d) × (d ≤ suc n)))
    last false e = All-nil (λ d. (p d ≡ true) × (1 ≤ d) × (d ≤ suc n))

pub there-numbers_where : (p : ℕ → Bool) (n d : ℕ) → 1 ≤ d → d ≤ n → p d ≡ true → list_any (λ e. e == d) (numbers_where p n) ≡ true
there-numbers_where p zero d l h e = absurd (omega arith)
there-numbers_where p (suc n) d l h e =
    list_any-append (λ e. e == d) (numbers_where p n) (if p (suc n) then suc n ∷ [] else [])
    ∙ go (λ k. there-numbers_where p n d l k e) (nat_le d n) refl
  where
    either : (b c : Bool) → b ≡ true → (b || c) ≡ true
    either b c h = grind arith

    other : (b c : Bool) → c ≡ true → (b || c) ≡ true
    other b c h = grind arith

    last : (b : Bool) → b ≡ true → d ≡ suc n → list_any (λ e. e == d) (if b then suc n ∷ [] else []) ≡ true
    last true t here = grind (arith, nat_tests)
    last false t here = absurd (true≢false (sym t))

    go :
        (d ≤ n → list_any (λ e. e == d) (numbers_where p n) ≡ true) → (b : Bool) → nat_le d n ≡ b →
        (list_any (λ e. e == d) (numbers_where p n) || list_any (λ e. e == d) (if p (suc n) then suc n ∷ [] else [])) ≡ true
    go ih true t =
        either (list_any (λ e. e == d) (numbers_where p n)) (list_any (λ e. e == d) (if p (suc n) then suc n ∷ [] else [])) (ih (grind (arith, nat_tests)))
    go ih false t =
        let here : d ≡ suc n = grind (arith, nat_tests) in
        other (list_any (λ e. e == d) (numbers_where p n)) (list_any (λ e. e == d) (if p (suc n) then suc n ∷ [] else [])) (last (p (suc n)) (ap p (sym here) ∙ e) here)

-- one more passes
pub more-numbers_where :
    (p q : ℕ → Bool) (n d : ℕ) → 1 ≤ d → d ≤ n → p d ≡ false → q d ≡ true → ((e : ℕ) → e ≢ d → p e ≡ q e) →
    IsPermutation (d ∷ numbers_where p n) (numbers_where q n)
more-numbers_where p q zero d l h out there same = absurd (omega arith)
more-numbers_where p q (suc n) d l h out there same = go (λ k. more-numbers_where p q n d l k out there same) (nat_le d n) refl
  where
    here : (b c : Bool) (ds es : List ℕ) → ds ≡ es → b ≡ false → c ≡ true → IsPermutation (d ∷ (ds ++ (if b then suc n ∷ [] else []))) (es ++ (if c then d ∷ [] else []))
    here true c ds es k f g = absurd (true≢false f)
    here false false ds es k f g = absurd (true≢false (sym g))
    here false true ds es k f g = rw (append-nil, ← k) (IsPermutation-sym (ds ++ d ∷ []) (d ∷ ds) (IsPermutation-to_front ds d))

    go : (d ≤ n → IsPermutation (d ∷ numbers_where p n) (numbers_where q n)) → (b : Bool) → nat_le d n ≡ b → IsPermutation (d ∷ numbers_where p (suc n)) (numbers_where q (suc n))
    go ih true t =
        let below : d ≤ n = grind (arith, nat_tests) in
        let apart : suc n ≢ d = omega arith in
        subst (λ (b : Bool). IsPermutation (d ∷ (numbers_where p n ++ (if p (suc n) then suc n ∷ [] else []))) (numbers_where q n ++ (if b then suc n ∷ [] else []))) (same (suc n) apart)
        (IsPermutation-append_left (if p (suc n) then suc n ∷ [] else []) (d ∷ numbers_where p n) (numbers_where q n) (ih below))
    go ih false t =
        let last : d ≡ suc n = grind (arith, nat_tests) in
        subst (λ m. IsPermutation (d ∷ (numbers_where p n ++ (if p (suc n) then suc n ∷ [] else []))) (numbers_where q n ++ (if q (suc n) then m ∷ [] else []))) last
        (here (p (suc n)) (q (suc n)) (numbers_where p n) (numbers_where q n) (numbers_where-below p q n (λ e k. let apart : e ≢ d = omega arith in same e apart)) (ap p (sym last) ∙ out) (ap q (sym last) ∙ there))
