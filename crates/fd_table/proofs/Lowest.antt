-- The lowest free row and the number of free rows, after a row is taken or closed.
use Rattle.std.proofs.Common.{◌≡◌, ℕ, zero, suc, ◌+◌, ◌<◌, ◌≤◌, min, cond, inl, inr, true, false, List, [], ◌∷◌, Option, Some, None, is_none, is_some, length, get_or, set, drop, slice_get, refl, sym, ap, ◌∙◌, arith, length-drop}
use Rattle.std.specs.Option.{unwrap_or}
use Rattle.std.proofs.lemmas.Bool.{cases_lt}
use Rattle.std.proofs.lemmas.Bool.Decides.{nat_tests}
use Rattle.std.proofs.lemmas.List.Folds.{sum_by-replicate}
use Rattle.std.proofs.lemmas.List.Sums.{sum_by-cons, sum_by-set, passes_at_first, count_by-le-length}
use Rattle.dk_base.specs.declared.object.Obj.{Obj}
use Rattle.spec_records.specs.Words.{close_table, empty_table, free_place, free_rows, insert_row, lowest_free, object_in}
use Rattle.fd_table.specs.Rows.{lowest_row}

pub lowest_within : (t : List (Option Obj)) → lowest_row t ≤ length t
lowest_within [] = omega arith
lowest_within (None ∷ t) = omega arith
lowest_within (Some o ∷ t) = omega (arith, lowest_within t)

pub free_within : (t : List (Option Obj)) → free_rows t ≤ length t
free_within t = count_by-le-length is_none t

-- a row is free exactly where the lowest free row is one of the table's

pub free_there : (t : List (Option Obj)) → 0 < free_rows t → lowest_row t < length t
free_there [] h = absurd (omega arith)
free_there (None ∷ t) h = omega arith
free_there (Some o ∷ t) h = omega (arith, free_there t h)

pub none_free : (t : List (Option Obj)) → free_rows t ≡ 0 → length t ≤ lowest_row t
none_free [] h = omega arith
none_free (None ∷ t) h = let e = sum_by-cons (λ (row : Option Obj). cond (is_none row) 1 0) None t in absurd (omega arith)
none_free (Some o ∷ t) h = omega (arith, none_free t h)

pub lowest_some : (t : List (Option Obj)) → lowest_row t < length t → lowest_free t ≡ Some (lowest_row t)
lowest_some t h = grind (arith, nat_tests)

pub lowest_none : (t : List (Option Obj)) → length t ≤ lowest_row t → lowest_free t ≡ None
lowest_none t h = grind (arith, nat_tests)

pub place_is : (t : List (Option Obj)) → lowest_row t < length t → free_place t ≡ lowest_row t
place_is t h = ap (λ r. unwrap_or r 0) (lowest_some t h)

pub some_place : (t : List (Option Obj)) → 0 < free_rows t → lowest_free t ≡ Some (free_place t)
some_place t h = let there = free_there t h in lowest_some t there ∙ ap (λ p. Some p) (sym (place_is t there))

pub some_free : (t : List (Option Obj)) → is_some (lowest_free t) ≡ true → 0 < free_rows t
some_free t h =
    elim (cases_lt 0 (free_rows t)) [
      | inl some ↦ some
      | inr none ↦ let e = ap is_some (lowest_none t (none_free t (omega arith))) in cc
    ]

pub free_some : (t : List (Option Obj)) → 0 < free_rows t → is_some (lowest_free t) ≡ true
free_some t h = ap is_some (some_place t h)

pub full_none : (t : List (Option Obj)) → is_none (lowest_free t) ≡ true → lowest_free t ≡ None
full_none t h = grind (arith, nat_tests)

-- from a row on, below which each is taken

lowest_ahead : (t : List (Option Obj)) (n : ℕ) → n ≤ lowest_row t → lowest_row t ≡ n + lowest_row (drop n t)
lowest_ahead t zero h = omega arith
lowest_ahead [] (suc n) h = absurd (omega arith)
lowest_ahead (None ∷ t) (suc n) h = absurd (omega arith)
lowest_ahead (Some o ∷ t) (suc n) h = omega (arith, lowest_ahead t n (omega arith))

found_is : (t : List (Option Obj)) (k : ℕ) → lowest_free t ≡ Some k → (k ≡ lowest_row t) × (k < length t)
found_is t k h = (grind (arith, nat_tests), grind (arith, nat_tests))

nowhere_is : (t : List (Option Obj)) → lowest_free t ≡ None → lowest_row t ≡ length t
nowhere_is t h = let w = lowest_within t in grind (arith, nat_tests)

pub found_ahead : (t : List (Option Obj)) (n k : ℕ) → n ≤ lowest_row t → lowest_free (drop n t) ≡ Some k → n + k ≡ lowest_row t
found_ahead t n k h is = let found = found_is (drop n t) k is in omega (arith, found.0, lowest_ahead t n h)

pub nowhere_ahead : (t : List (Option Obj)) (n : ℕ) → n ≤ lowest_row t → lowest_free (drop n t) ≡ None → length t ≡ lowest_row t
nowhere_ahead t n h is =
    let all = nowhere_is (drop n t) is in
    omega (arith, all, lowest_ahead t n h, lowest_within t, length-drop n t)

-- the lowest free row is taken

pub lowest_taken : (t : List (Option Obj)) (o : Obj) → lowest_row t < length t → lowest_row t + 1 ≤ lowest_row (set t (lowest_row t) (Some o))
lowest_taken [] o h = absurd (omega arith)
lowest_taken (None ∷ t) o h = omega arith
lowest_taken (Some x ∷ t) o h =
    let e : 1 + lowest_row t ≡ suc (lowest_row t) = omega arith in
    rw e (omega (arith, lowest_taken t o (omega arith)))

pub lowest_taken_at : (t : List (Option Obj)) (n : ℕ) (o : Obj) → n ≡ lowest_row t → n < length t → n + 1 ≤ lowest_row (set t n (Some o))
lowest_taken_at t n o is h = let k : lowest_row t < length t = omega arith in rw is (lowest_taken t o k)

free_taken : (t : List (Option Obj)) (o : Obj) → lowest_row t < length t → free_rows (set t (lowest_row t) (Some o)) + 1 ≡ free_rows t
free_taken t o h =
    let e = sum_by-set (λ (row : Option Obj). cond (is_none row) 1 0) t (lowest_row t) (Some o) None h in
    let f = passes_at_first is_none t None h in
    let k = rw f at e in
    omega arith

pub free_taken_at : (t : List (Option Obj)) (n : ℕ) (o : Obj) → n ≡ lowest_row t → n < length t → free_rows (set t n (Some o)) + 1 ≡ free_rows t
free_taken_at t n o is h = let k : lowest_row t < length t = omega arith in rw is (free_taken t o k)

pub row_taken : (t : List (Option Obj)) (n : ℕ) (o : Obj) → n ≡ lowest_row t → n < length t → set t n (Some o) ≡ insert_row t o
row_taken t n o is h =
    let k : lowest_row t < length t = omega arith in
    ap (λ p. set t p (Some o)) (is ∙ sym (place_is t k))

-- any free row is taken

pub row_free : (t : List (Option Obj)) (n : ℕ) → n < length t → object_in (slice_get t n) ≡ None → is_none (get_or t n None) ≡ true
row_free [] n h e = absurd (omega arith)
row_free (None ∷ t) zero h e = refl
row_free (Some o ∷ t) zero h e = cc
row_free (row ∷ t) (suc n) h e = row_free t n (omega arith) e

-- one that is not the lowest
pub lowest_put :
    (t : List (Option Obj)) (n : ℕ) (o : Obj) → n < length t → is_none (get_or t n None) ≡ true → (n ≡ lowest_row t → ⊥) →
    lowest_row (set t n (Some o)) ≡ lowest_row t
lowest_put [] n o h read not = absurd (omega arith)
lowest_put (None ∷ t) zero o h read not = absurd (not (omega arith))
lowest_put (Some x ∷ t) zero o h read not = cc
lowest_put (None ∷ t) (suc n) o h read not = omega arith
lowest_put (Some x ∷ t) (suc n) o h read not = omega (arith, lowest_put t n o (omega arith) read (λ e. not (omega (arith, e))))

pub free_put : (t : List (Option Obj)) (n : ℕ) (o : Obj) → n < length t → is_none (get_or t n None) ≡ true → free_rows (set t n (Some o)) + 1 ≡ free_rows t
free_put t n o h read =
    let e = sum_by-set (λ (row : Option Obj). cond (is_none row) 1 0) t n (Some o) None h in
    let k = rw read at e in
    omega arith

pub there_put : (t : List (Option Obj)) (n : ℕ) (o : Obj) → n < length t → object_in (slice_get (set t n (Some o)) n) ≡ Some o
there_put [] n o h = absurd (omega arith)
there_put (row ∷ t) zero o h = refl
there_put (row ∷ t) (suc n) o h = there_put t n o (omega arith)

pub others_put : (t : List (Option Obj)) (n m : ℕ) (o : Obj) → (m ≡ n → ⊥) → object_in (slice_get (set t n (Some o)) m) ≡ object_in (slice_get t m)
others_put [] n m o not = refl
others_put (row ∷ t) zero zero o not = absurd (not refl)
others_put (row ∷ t) zero (suc m) o not = refl
others_put (row ∷ t) (suc n) zero o not = refl
others_put (row ∷ t) (suc n) (suc m) o not = others_put t n m o (λ e. not (ap suc e))

-- a row is closed

pub named_there : (t : List (Option Obj)) (n : ℕ) → is_some (object_in (slice_get t n)) ≡ true → (n < length t) × (is_none (get_or t n None) ≡ false)
named_there [] n h = cc
named_there (None ∷ t) zero h = cc
named_there (Some o ∷ t) zero h = (omega arith, refl)
named_there (row ∷ t) (suc n) h = let there = named_there t n h in (omega arith, there.1)

pub lowest_closed : (t : List (Option Obj)) (n : ℕ) → n < length t → lowest_row (set t n None) ≡ min (lowest_row t) n
lowest_closed [] n h = absurd (omega arith)
lowest_closed (None ∷ t) zero h = omega arith
lowest_closed (Some o ∷ t) zero h = omega arith
lowest_closed (None ∷ t) (suc n) h = omega arith
lowest_closed (Some o ∷ t) (suc n) h = omega (arith, lowest_closed t n (omega arith))

pub free_closed : (t : List (Option Obj)) (n : ℕ) → n < length t → is_none (get_or t n None) ≡ false → free_rows (set t n None) ≡ free_rows t + 1
free_closed t n h read =
    let e = sum_by-set (λ (row : Option Obj). cond (is_none row) 1 0) t n None None h in
    let k = rw read at e in
    omega arith

-- all rows are free

pub lowest_all_closed : (t : List (Option Obj)) → lowest_row (close_table t) ≡ 0
lowest_all_closed [] = refl
lowest_all_closed (row ∷ t) = refl

pub free_all_closed : (t : List (Option Obj)) → free_rows (close_table t) ≡ length t
free_all_closed [] = refl
free_all_closed (row ∷ t) =
    let e = sum_by-cons (λ (r : Option Obj). cond (is_none r) 1 0) None (close_table t) in
    omega (arith, free_all_closed t)

pub lowest_empty : (n : ℕ) → lowest_row (empty_table n) ≡ 0
lowest_empty zero = refl
lowest_empty (suc n) = refl

pub free_empty : (n : ℕ) → free_rows (empty_table n) ≡ n
free_empty n =
    let no_object : Option Obj = None in
    let e = sum_by-replicate (λ (row : Option Obj). cond (is_none row) 1 0) n no_object in
    omega arith
