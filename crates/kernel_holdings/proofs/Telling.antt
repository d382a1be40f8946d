-- The doors that fell, of which those are kept that take notices, are the doors that take notices, of which those are kept that fell.
use Rattle.std.proofs.Common.{◌≡◌, ℕ, zero, suc, ◌+◌, ◌<◌, ◌≤◌, ◌==◌, ◌&&◌, Bool, true, false, cond, if◌then◌else◌, nat_lt, List, [], ◌∷◌, ◌++◌, Option, filter, length, refl, sym, subst, ap, ap₂, ◌∙◌, arith, append-nil, IsSorted}
use Rattle.std.proofs.lemmas.Bool.Decides.{nat_tests}
use Rattle.std.proofs.lemmas.List.Sorted.{IsNonDecreasingBy-from_sort}
use Rattle.std.proofs.lemmas.List.Sums.{sum_by-append, sum_by-cons}
use Rattle.std.specs.List.Sorted.{IsNonDecreasing}
use Rattle.std.specs.Ordering.{nat_cmp}
use Rattle.dk_base.specs.declared.object.Obj.TheVariants as obj
use Rattle.spec_records.specs.Words.{AreNumbered, notice_doors, numbers_where, takes_notices_in}
use Rattle.spec_records.proofs.DoorNumbers.{notice_doors_numbered}
use Rattle.spec_records.proofs.Lists.{numbered_past}
use Rattle.unref_notice.specs.Words.{CountsValue, has_fallen, how_many, was_shared}
use Rattle.spec_kernel.specs.Types.{Call, Door, Name, Obj}
use Rattle.kernel_holdings.specs.Words.{IsCountOf, references_in, takes}

abbrev pub once : Bool → ℕ
once b = cond b 1 0

-- numbers that do not fall, from this one on
abbrev Rises : ℕ → List ℕ → Type 0
Rises low [] = Unit {0}
Rises low (x ∷ xs) = (low ≤ x) × Rises x xs

rises_lower : (low high : ℕ) (xs : List ℕ) → low ≤ high → Rises high xs → Rises low xs
rises_lower low high [] l h = tt
rises_lower low high (x ∷ xs) l h = (omega (arith, h.0), h.1)

rises_sorted : (low : ℕ) (xs : List ℕ) → IsNonDecreasing (low ∷ xs) → Rises low xs
rises_sorted low [] up = tt
rises_sorted low (x ∷ xs) up =
    let first : low ≤ x = up 0 1 0 (omega arith) (omega arith) in
    (first, rises_sorted x xs (λ i j d l m. up (suc i) (suc j) d (omega arith) (omega arith)))

rises : (xs : List ℕ) → IsNonDecreasing xs → Rises 0 xs
rises [] up = tt
rises (x ∷ xs) up = (omega arith, rises_sorted x xs up)

rises_filter : (q : ℕ → Bool) (low : ℕ) (xs : List ℕ) → Rises low xs → Rises low (filter q xs)
rises_filter q low [] h = tt
rises_filter q low (x ∷ xs) h = go (q x) (rises_filter q x xs h.1)
  where
    go : (b : Bool) → Rises x (filter q xs) → Rises low (cond b (x ∷ filter q xs) (filter q xs))
    go true rest = (h.0, rest)
    go false rest = rises_lower low x (filter q xs) h.0 rest

count-cons : (d x : ℕ) (xs : List ℕ) → how_many d (x ∷ xs) ≡ once (x == d) + how_many d xs
count-cons d x xs = sum_by-cons (λ y. cond (y == d) 1 0) x xs

none_before : (d low : ℕ) (xs : List ℕ) → d < low → Rises low xs → how_many d xs ≡ 0
none_before d low [] l h = refl
none_before d low (x ∷ xs) l h =
    let rest = none_before d x xs (omega (arith, h.0)) h.1 in
    let other : (x == d) ≡ false = let least = h.0 in grind (arith, nat_tests) in
    omega (arith, count-cons d x xs, rest, ap once other)

one_here : (x : ℕ) (xs : List ℕ) → how_many x (x ∷ xs) ≡ 1 + how_many x xs
one_here x xs = let same : (x == x) ≡ true = grind (arith, nat_tests) in omega (arith, count-cons x x xs, ap once same)

same_rising : (low high : ℕ) (xs ys : List ℕ) → Rises low xs → Rises high ys → ((d : ℕ) → how_many d xs ≡ how_many d ys) → xs ≡ ys
same_rising low high [] [] h k same = refl
same_rising low high [] (y ∷ ys) h k same = absurd (omega (arith, same y, one_here y ys))
same_rising low high (x ∷ xs) [] h k same = absurd (omega (arith, same x, one_here x xs))
same_rising low high (x ∷ xs) (y ∷ ys) h k same =
    ap₂ (λ z zs. z ∷ zs) heads
    (same_rising x y xs ys h.1 k.1 (λ d. omega (arith, same d, count-cons d x xs, count-cons d y ys, ap (λ z. once (z == d)) heads)))
  where
    heads : x ≡ y
    heads = go (nat_lt x y) refl (nat_lt y x) refl
      where
        go : (b : Bool) → nat_lt x y ≡ b → (c : Bool) → nat_lt y x ≡ c → x ≡ y
        go true e c f = let less : x < y = grind (arith, nat_tests) in absurd (omega (arith, same x, one_here x xs, none_before x y (y ∷ ys) less (omega arith, k.1)))
        go false e true f = let less : y < x = grind (arith, nat_tests) in absurd (omega (arith, same y, one_here y ys, none_before y x (x ∷ xs) less (omega arith, h.1)))
        go false e false f = grind (arith, nat_tests)

count-filter : (q : ℕ → Bool) (d : ℕ) (xs : List ℕ) → how_many d (filter q xs) ≡ cond (q d) (how_many d xs) 0
count-filter q d [] = none (q d)
  where
    none : (b : Bool) → how_many d [] ≡ cond b (how_many d []) 0
    none true = refl
    none false = refl
count-filter q d (x ∷ xs) = go (q x) refl (x == d) refl (q d) refl (count-filter q d xs)
  where
    go :
        (b : Bool) → q x ≡ b → (c : Bool) → (x == d) ≡ c → (e : Bool) → q d ≡ e → how_many d (filter q xs) ≡ cond e (how_many d xs) 0 →
        how_many d (cond b (x ∷ filter q xs) (filter q xs)) ≡ cond e (how_many d (x ∷ xs)) 0
    go true f c g true k ih = omega (arith, count-cons d x (filter q xs), count-cons d x xs, ih)
    go true f true g false k ih = let same : x ≡ d = grind (arith, nat_tests) in let differ = ap q same in cc
    go true f false g false k ih = omega (arith, count-cons d x (filter q xs), ap once g, ih)
    go false f true g true k ih = let same : x ≡ d = grind (arith, nat_tests) in let differ = ap q same in cc
    go false f false g true k ih = omega (arith, count-cons d x xs, ap once g, ih)
    go false f c g false k ih = ih

-- the numbers of the doors that take notices

count-numbers : (p : ℕ → Bool) (n d : ℕ) → 1 ≤ d → how_many d (numbers_where p n) ≡ cond (nat_lt n d) 0 (once (p d))
count-numbers p zero d one = let past : nat_lt 0 d ≡ true = grind (arith, nat_tests) in sym (ap (λ b. cond b 0 (once (p d))) past)
count-numbers p (suc n) d one =
    sum_by-append (λ x. cond (x == d) 1 0) (numbers_where p n) (if p (suc n) then suc n ∷ [] else [])
    ∙ go (p (suc n)) refl (suc n == d) refl (count-numbers p n d one)
  where
    go :
        (b : Bool) → p (suc n) ≡ b → (c : Bool) → (suc n == d) ≡ c → how_many d (numbers_where p n) ≡ cond (nat_lt n d) 0 (once (p d)) →
        how_many d (numbers_where p n) + how_many d (if b then suc n ∷ [] else []) ≡ cond (nat_lt (suc n) d) 0 (once (p d))
    go true e true f ih =
        let same : suc n ≡ d = grind (arith, nat_tests) in
        let there = ap p same in
        let before : nat_lt n d ≡ true = grind (arith, nat_tests) in
        let now : nat_lt (suc n) d ≡ false = grind (arith, nat_tests) in
        omega (arith, ih, ap (λ b. cond b 0 (once (p d))) before, ap (λ b. cond b 0 (once (p d))) now, ap once (sym there ∙ e), count-cons d (suc n) [], ap once f)
    go true e false f ih =
        let now : nat_lt (suc n) d ≡ nat_lt n d = grind (arith, nat_tests) in
        omega (arith, ih, ap (λ b. cond b 0 (once (p d))) now, count-cons d (suc n) [], ap once f)
    go false e true f ih =
        let same : suc n ≡ d = grind (arith, nat_tests) in
        let there = ap p same in
        let before : nat_lt n d ≡ true = grind (arith, nat_tests) in
        let now : nat_lt (suc n) d ≡ false = grind (arith, nat_tests) in
        omega (arith, ih, ap (λ b. cond b 0 (once (p d))) before, ap (λ b. cond b 0 (once (p d))) now, ap once (sym there ∙ e))
    go false e false f ih =
        let now : nat_lt (suc n) d ≡ nat_lt n d = grind (arith, nat_tests) in
        omega (arith, ih, ap (λ b. cond b 0 (once (p d))) now)

abbrev Within : ℕ → List ℕ → Type 0
Within top [] = Unit {0}
Within top (x ∷ xs) = (x ≤ top) × Within top xs

within_more : (low high : ℕ) (xs : List ℕ) → low ≤ high → Within low xs → Within high xs
within_more low high [] l h = tt
within_more low high (x ∷ xs) l h = (omega (arith, l, h.0), within_more low high xs l h.1)

rises_push : (low top : ℕ) (xs : List ℕ) → Rises low xs → Within top xs → low ≤ top → Rises low (xs ++ top ∷ [])
rises_push low top [] h w l = (l, tt)
rises_push low top (x ∷ xs) h w l = (h.0, rises_push x top xs h.1 w.1 w.0)

within_push : (top : ℕ) (xs : List ℕ) → Within top xs → Within top (xs ++ top ∷ [])
within_push top [] w = (omega arith, tt)
within_push top (x ∷ xs) w = (w.0, within_push top xs w.1)

numbers_rise : (p : ℕ → Bool) (n : ℕ) → Rises 1 (numbers_where p n) × Within n (numbers_where p n)
numbers_rise p zero = (tt, tt)
numbers_rise p (suc n) = go (p (suc n)) (numbers_rise p n)
  where
    go :
        (b : Bool) → Rises 1 (numbers_where p n) × Within n (numbers_where p n) →
        Rises 1 (numbers_where p n ++ (if b then suc n ∷ [] else [])) × Within (suc n) (numbers_where p n ++ (if b then suc n ∷ [] else []))
    go true h =
        let within = within_more n (suc n) (numbers_where p n) (omega arith) h.1 in
        (rises_push 1 (suc n) (numbers_where p n) h.0 within (omega arith), within_push (suc n) (numbers_where p n) within)
    go false h =
        subst (λ ds. Rises 1 ds × Within (suc n) ds) (sym (append-nil (numbers_where p n)))
        (h.0, within_more n (suc n) (numbers_where p n) (omega arith) h.1)

taken : (doors : List Door) (d : ℕ) → how_many d (numbers_where (takes doors) (length doors)) ≡ once (takes doors d)
taken doors zero = none_before 0 1 (numbers_where (takes doors) (length doors)) (omega arith) (numbers_rise (takes doors) (length doors)).0
taken doors (suc d) = count-numbers (takes doors) (length doors) (suc d) (omega arith) ∙ go (nat_lt (length doors) (suc d)) refl
  where
    go : (b : Bool) → nat_lt (length doors) (suc d) ≡ b → cond b 0 (once (takes doors (suc d))) ≡ once (takes doors (suc d))
    go true e =
        let past = numbered_past doors (suc d) (grind (arith, nat_tests)) in
        sym (ap (λ o. once (takes_notices_in o)) past)
    go false e = refl

pub told_are :
    (doors : List Door) (fell : ℕ → Bool) (fallen : List ℕ) → AreNumbered doors → IsSorted nat_cmp fallen → ((d : ℕ) → how_many d fallen ≡ once (fell d)) →
    filter (takes doors) fallen ≡ filter fell (notice_doors doors)
told_are doors fell fallen numbered sorted each =
    same_rising 0 1 (filter (takes doors) fallen) (filter fell (numbers_where (takes doors) (length doors)))
    (rises_filter (takes doors) 0 fallen (rises fallen (IsNonDecreasingBy-from_sort (λ x. x) fallen sorted)))
    (rises_filter fell 1 (numbers_where (takes doors) (length doors)) (numbers_rise (takes doors) (length doors)).0)
    (λ d.
    count-filter (takes doors) d fallen
    ∙ both (takes doors d) (fell d) (how_many d fallen) (how_many d (numbers_where (takes doors) (length doors))) (each d) (taken doors d)
    ∙ sym (count-filter fell d (numbers_where (takes doors) (length doors))))
    ∙ ap (filter fell) (sym (notice_doors_numbered doors numbered))
  where
    both : (a b : Bool) (m n : ℕ) → m ≡ once b → n ≡ once a → cond a m 0 ≡ cond b n 0
    both true true m n e f = e ∙ sym f
    both true false m n e f = e
    both false true m n e f = sym f
    both false false m n e f = refl

-- of a count that is that of what is held
module _ (counts : CountsValue) (tables : List (List (Option Obj))) (names : List Name) (calls : List Call) (held : IsCountOf counts.counts tables names calls) where
  abbrev pub fell_to_one : ℕ → Bool
  fell_to_one d = was_shared counts.opening d && (references_in tables names calls d == 1)

  pub told_held :
      (doors : List Door) (fallen : List ℕ) → AreNumbered doors → IsSorted nat_cmp fallen → ((d : ℕ) → how_many d fallen ≡ once (has_fallen counts d)) →
      filter (takes doors) fallen ≡ filter fell_to_one (notice_doors doors)
  told_held doors fallen numbered sorted each =
      told_are doors fell_to_one fallen numbered sorted (λ d. each d ∙ ap (λ n. once (was_shared counts.opening d && (n == 1))) (held (obj.Door d)))

  pub fewer_fell : (ds : List ℕ) → length (filter fell_to_one ds) ≤ length (filter (was_shared counts.opening) ds)
  fewer_fell [] = omega arith
  fewer_fell (d ∷ ds) = go (was_shared counts.opening d) (references_in tables names calls d == 1) (fewer_fell ds)
    where
      go :
          (b c : Bool) → length (filter fell_to_one ds) ≤ length (filter (was_shared counts.opening) ds) →
          length (cond (b && c) (d ∷ filter fell_to_one ds) (filter fell_to_one ds)) ≤ length (cond b (d ∷ filter (was_shared counts.opening) ds) (filter (was_shared counts.opening) ds))
      go true true h = omega (arith, h)
      go true false h = omega (arith, h)
      go false c h = h
