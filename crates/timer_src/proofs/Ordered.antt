-- Those that have a moment to come, in order of number, and the place of a number among them.
use Rattle.std.proofs.Common.{◌≡◌, ℕ, zero, suc, ◌+◌, ◌<◌, ◌≤◌, nat_lt, true, false, if◌then◌else◌, List, [], ◌∷◌, ◌++◌, drop, filter, get_or, length, set, take, refl, sym, ap, ◌∙◌, arith}
use Rattle.std.proofs.lemmas.Bool.Decides.{nat_tests}
use Rattle.std.specs.List.{insert, remove}
use Rattle.std.specs.List.Sorted.{IsPartitionPoint, IsPartitionedBy}
use Rattle.spec_records.specs.Words.{IsAscending}
use Rattle.timer_src.specs.declared.pending.Pending.{Pending}
use Rattle.timer_src.specs.Pending.{is_above, is_at, is_below, pending_number}

-- those of smaller numbers stand first

above :
    (ps : List Pending) (low made i : ℕ) (d : Pending) → IsAscending pending_number low made ps → i < length ps →
    low < (get_or ps i d).number
above [] low made i d h l = absurd (omega arith)
above (p ∷ ps) low made zero d h l = h.0
above (p ∷ ps) low made (suc i) d h l = omega (arith, h.0, above ps p.number made i d h.2 (omega arith))

rises :
    (ps : List Pending) (low made i j : ℕ) (d : Pending) → IsAscending pending_number low made ps → i ≤ j → j < length ps →
    (get_or ps i d).number ≤ (get_or ps j d).number
rises [] low made i j d h l m = absurd (omega arith)
rises (p ∷ ps) low made zero zero d h l m = omega arith
rises (p ∷ ps) low made (suc i) zero d h l m = absurd (omega arith)
rises (p ∷ ps) low made zero (suc j) d h l m = omega (arith, above ps p.number made j d h.2 (omega arith))
rises (p ∷ ps) low made (suc i) (suc j) d h l m = rises ps p.number made i j d h.2 (omega arith) (omega arith)

less_first : (x y n : ℕ) → x ≤ y → nat_lt y n ≡ true → nat_lt x n ≡ true
less_first x y n l h = grind (arith, nat_tests)

pub parted : (n : ℕ) (ps : List Pending) (made : ℕ) → IsAscending pending_number 0 made ps → IsPartitionedBy (is_below n) ps
parted n ps made h i j d l m = less_first _ _ n (rises ps 0 made i j d h l m)

-- where all are above

pub none_below : (n : ℕ) (ps : List Pending) (low made : ℕ) → n ≤ low + 1 → IsAscending pending_number low made ps → filter (is_below n) ps ≡ []
none_below n [] low made l h = refl
none_below n (p ∷ ps) low made l h =
    let past : low < p.number = h.0 in
    let rest = none_below n ps p.number made (omega arith) h.2 in
    grind (arith, nat_tests, past, l, rest)

pub all_above : (n : ℕ) (ps : List Pending) (low made : ℕ) → n ≤ low → IsAscending pending_number low made ps → filter (is_above n) ps ≡ ps
all_above n [] low made l h = refl
all_above n (p ∷ ps) low made l h =
    let past : low < p.number = h.0 in
    let rest = all_above n ps p.number made (omega arith) h.2 in
    grind (arith, nat_tests, past, l, rest)

-- the place after those of smaller numbers

abbrev pub IsPoint : ℕ → List Pending → ℕ → Type 0
IsPoint n ps i = IsPartitionPoint (λ p. is_below n p ≡ true) (λ p. is_below n p ≡ false) ps i

least : (k n : ℕ) → nat_lt k n ≡ false → n ≤ k
least k n f = grind (arith, nat_tests)

pub front : (n : ℕ) (ps : List Pending) (low made i : ℕ) → IsAscending pending_number low made ps → i ≤ length ps → IsPoint n ps i → take i ps ≡ filter (is_below n) ps
front n [] low made zero h l point = refl
front n [] low made (suc i) h l point = absurd (omega arith)
front n (p ∷ ps) low made zero h l point =
    let here = point.1 0 p (omega arith) (omega arith) in
    let first = least p.number n here in
    sym (ap (λ b. if b then p ∷ filter (is_below n) ps else filter (is_below n) ps) here ∙ none_below n ps p.number made (omega arith) h.2)
front n (p ∷ ps) low made (suc i) h l point =
    let here = point.0 0 p (omega arith) (omega arith) in
    ap (λ qs. p ∷ qs) (front n ps p.number made i h.2 (omega arith) (λ k d u v. point.0 (suc k) d (omega arith) (omega arith), λ k d u v. point.1 (suc k) d (omega arith) (omega arith)))
    ∙ ap (λ b. if b then p ∷ filter (is_below n) ps else filter (is_below n) ps) (sym here)

-- where the number is not at that place
pub back :
    (n : ℕ) (ps : List Pending) (low made i : ℕ) → IsAscending pending_number low made ps → i ≤ length ps → IsPoint n ps i →
    is_at n ps i ≡ false → drop i ps ≡ filter (is_above n) ps
back n [] low made zero h l point other = refl
back n [] low made (suc i) h l point other = absurd (omega arith)
back n (p ∷ ps) low made zero h l point other =
    let here = point.1 0 p (omega arith) (omega arith) in
    let first = least p.number n here in
    let past : nat_lt n p.number ≡ true = grind (arith, nat_tests) in
    sym (ap (λ b. if b then p ∷ filter (is_above n) ps else filter (is_above n) ps) past ∙ ap (λ qs. p ∷ qs) (all_above n ps p.number made (omega arith) h.2))
back n (p ∷ ps) low made (suc i) h l point other =
    let here = point.0 0 p (omega arith) (omega arith) in
    let not_past : nat_lt n p.number ≡ false = grind (arith, nat_tests) in
    back n ps p.number made i h.2 (omega arith) (λ k d u v. point.0 (suc k) d (omega arith) (omega arith), λ k d u v. point.1 (suc k) d (omega arith) (omega arith)) other
    ∙ ap (λ b. if b then p ∷ filter (is_above n) ps else filter (is_above n) ps) (sym not_past)

-- where it is
pub behind :
    (n : ℕ) (ps : List Pending) (low made i : ℕ) → IsAscending pending_number low made ps → i ≤ length ps → IsPoint n ps i →
    is_at n ps i ≡ true → drop (suc i) ps ≡ filter (is_above n) ps
behind n [] low made i h l point same = cc
behind n (p ∷ ps) low made zero h l point same =
    let not_past : nat_lt n p.number ≡ false = grind (arith, nat_tests) in
    let near : n ≤ p.number = grind (arith, nat_tests) in
    sym (ap (λ b. if b then p ∷ filter (is_above n) ps else filter (is_above n) ps) not_past ∙ all_above n ps p.number made near h.2)
behind n (p ∷ ps) low made (suc i) h l point same =
    let here = point.0 0 p (omega arith) (omega arith) in
    let not_past : nat_lt n p.number ≡ false = grind (arith, nat_tests) in
    behind n ps p.number made i h.2 (omega arith) (λ k e u v. point.0 (suc k) e (omega arith) (omega arith), λ k e u v. point.1 (suc k) e (omega arith) (omega arith)) same
    ∙ ap (λ b. if b then p ∷ filter (is_above n) ps else filter (is_above n) ps) (sym not_past)

pub within : (n : ℕ) (ps : List Pending) (i : ℕ) → is_at n ps i ≡ true → i < length ps
within n [] i h = cc
within n (p ∷ ps) zero h = omega arith
within n (p ∷ ps) (suc i) h = let l = within n ps i h in omega arith

written : (ps : List Pending) (i : ℕ) (p : Pending) → i < length ps → set ps i p ≡ take i ps ++ p ∷ drop (suc i) ps
written [] i p l = absurd (omega arith)
written (q ∷ ps) zero p l = refl
written (q ∷ ps) (suc i) p l = ap (λ qs. q ∷ qs) (written ps i p (omega arith))

module _ (n : ℕ) (ps : List Pending) (made i : ℕ) (h : IsAscending pending_number 0 made ps) (l : i ≤ length ps) (point : IsPoint n ps i) where
  pub put_over : (p : Pending) → is_at n ps i ≡ true → set ps i p ≡ filter (is_below n) ps ++ p ∷ filter (is_above n) ps
  put_over p same =
      written ps i p (within n ps i same) ∙ ap (λ qs. qs ++ p ∷ drop (suc i) ps) (front n ps 0 made i h l point)
      ∙ ap (λ qs. filter (is_below n) ps ++ p ∷ qs) (behind n ps 0 made i h l point same)

  pub put_between : (p : Pending) → is_at n ps i ≡ false → insert ps i p ≡ filter (is_below n) ps ++ p ∷ filter (is_above n) ps
  put_between p other =
      ap (λ qs. qs ++ p ∷ drop i ps) (front n ps 0 made i h l point)
      ∙ ap (λ qs. filter (is_below n) ps ++ p ∷ qs) (back n ps 0 made i h l point other)

  pub taken_out : is_at n ps i ≡ true → remove ps i ≡ filter (is_below n) ps ++ filter (is_above n) ps
  taken_out same =
      ap (λ qs. qs ++ drop (suc i) ps) (front n ps 0 made i h l point)
      ∙ ap (λ qs. filter (is_below n) ps ++ qs) (behind n ps 0 made i h l point same)

  pub not_there : is_at n ps i ≡ false → ps ≡ filter (is_below n) ps ++ filter (is_above n) ps
  not_there other =
      sym (joined i ps)
      ∙ ap (λ qs. qs ++ drop i ps) (front n ps 0 made i h l point)
      ∙ ap (λ qs. filter (is_below n) ps ++ qs) (back n ps 0 made i h l point other)
    where
      joined : (k : ℕ) (qs : List Pending) → take k qs ++ drop k qs ≡ qs
      joined zero qs = refl
      joined (suc k) [] = refl
      joined (suc k) (q ∷ qs) = ap (λ rs. q ∷ rs) (joined k qs)
