-- A table whose passed descriptors are released: what its descriptors name, how many are free, and how often an object is named.
use Rattle.std.proofs.Common.{◌≡◌, ℕ, zero, suc, ◌+◌, ◌≤◌, ◌||◌, ◌&&◌, ◌==◌, cond, inl, inr, Bool, true, false, List, [], ◌∷◌, Option, Some, None, is_none, length, slice_get, get_or, filter, not, All, refl, sym, ap, ◌∙◌, arith, length-set}
use Rattle.std.specs.List.{cons_option, list_any}
use Rattle.std.specs.Option.{option_to_list}
use Rattle.std.proofs.lemmas.Bool.{cases_Bool, cases_eq, cases_lt, eqb-false, eqb-true, or_cases, or_from, or_parts}
use Rattle.std.proofs.lemmas.List.{set_past}
use Rattle.std.proofs.lemmas.List.Elements.{All-cons, All-nil}
use Rattle.std.proofs.lemmas.List.Sums.{sum_by-cons, sum_by-set}
use Rattle.dk_base.specs.declared.number.Fd.{Fd}
use Rattle.dk_base.specs.declared.object.Obj.{Obj}
use Rattle.dk_base.specs.declared.object.Pass.{Pass}
use Rattle.spec_records.specs.Passing.{has_double_release, is_double, object_passed, objects_passed, release_row, release_rows}
use Rattle.spec_records.specs.Tables.{close_row, count_object, free_rows, is_object, object_in, object_named, objects_of}

-- a descriptor that is closed

closed_there : (t : List (Option Obj)) (n : ℕ) → object_in (slice_get (close_row t n) n) ≡ None
closed_there [] n = refl
closed_there (row ∷ t) zero = refl
closed_there (row ∷ t) (suc n) = closed_there t n

closed_elsewhere : (t : List (Option Obj)) (n k : ℕ) → (n ≡ k → ⊥) → slice_get (close_row t n) k ≡ slice_get t k
closed_elsewhere [] n k other = refl
closed_elsewhere (row ∷ t) zero zero other = absurd (other refl)
closed_elsewhere (row ∷ t) zero (suc k) other = refl
closed_elsewhere (row ∷ t) (suc n) zero other = refl
closed_elsewhere (row ∷ t) (suc n) (suc k) other = closed_elsewhere t n k (λ e. other (ap suc e))

closed_at : (t : List (Option Obj)) (n k : ℕ) → n ≡ k → object_in (slice_get (close_row t n) k) ≡ None
closed_at t n k e = ap (λ i. object_in (slice_get (close_row t n) i)) (sym e) ∙ closed_there t n

close_free_row : (t : List (Option Obj)) (n : ℕ) → object_in (slice_get t n) ≡ None → close_row t n ≡ t
close_free_row [] n h = refl
close_free_row (None ∷ t) zero h = refl
close_free_row (Some o ∷ t) zero h = cc
close_free_row (row ∷ t) (suc n) h = ap (λ rows. row ∷ rows) (close_free_row t n h)

-- closing a descriptor that names nothing changes nothing
pub close_row-unnamed : (t : List (Option Obj)) (fd : Fd) → object_named t fd ≡ None → close_row t fd.0 ≡ t
close_row-unnamed t fd h = close_free_row t fd.0 h

-- one that is passed: `b` is whether it is released

row_kept : (t : List (Option Obj)) (b : Bool) (n k : ℕ) → (b && (n == k)) ≡ false → slice_get (cond b (close_row t n) t) k ≡ slice_get t k
row_kept t true n k h = closed_elsewhere t n k (eqb-false n k h)
row_kept t false n k h = refl

row_released : (t : List (Option Obj)) (b : Bool) (n k : ℕ) → (b && (n == k)) ≡ true → object_in (slice_get (cond b (close_row t n) t) k) ≡ None
row_released t true n k h = closed_at t n k (eqb-true n k h)
row_released t false n k h = cc

row_still_free : (t : List (Option Obj)) (b : Bool) (n k : ℕ) → object_in (slice_get t k) ≡ None → object_in (slice_get (cond b (close_row t n) t) k) ≡ None
row_still_free t true n k h = elim (cases_eq n k) [ inl e ↦ closed_at t n k e | inr other ↦ ap object_in (closed_elsewhere t n k other) ∙ h ]
row_still_free t false n k h = h

row_length : (t : List (Option Obj)) (b : Bool) (n : ℕ) → length (cond b (close_row t n) t) ≡ length t
row_length t true n = length-set t n None
row_length t false n = refl

-- what descriptors name after a release

-- whether a passed descriptor is released under this number
abbrev pub releases : Fd → Pass → Bool
releases fd x = x.release && (x.fd.0 == fd.0)

-- one that names nothing does not come to name anything
pub object_named-unnamed : (t : List (Option Obj)) (pass : List Pass) (fd : Fd) → object_named t fd ≡ None → object_named (release_rows t pass) fd ≡ None
object_named-unnamed t [] fd h = h
object_named-unnamed t (x ∷ xs) fd h = object_named-unnamed (release_row t x) xs fd (row_still_free t x.release x.fd.0 fd.0 h)

-- a released descriptor names nothing
pub object_named-released :
    (t : List (Option Obj)) (pass : List Pass) (fd : Fd) → list_any (releases fd) pass ≡ true → object_named (release_rows t pass) fd ≡ None
object_named-released t [] fd h = cc
object_named-released t (x ∷ xs) fd h =
    elim (or_cases (releases fd x) (list_any (releases fd) xs) h) [
      | inl here ↦ object_named-unnamed (release_row t x) xs fd (row_released t x.release x.fd.0 fd.0 here)
      | inr later ↦ object_named-released (release_row t x) xs fd later
    ]

-- one that is not released names what it named
pub object_named-kept :
    (t : List (Option Obj)) (pass : List Pass) (fd : Fd) → list_any (releases fd) pass ≡ false →
    object_named (release_rows t pass) fd ≡ object_named t fd
object_named-kept t [] fd h = refl
object_named-kept t (x ∷ xs) fd h =
    let parts = or_parts (releases fd x) (list_any (releases fd) xs) h in
    object_named-kept (release_row t x) xs fd parts.1 ∙ ap object_in (row_kept t x.release x.fd.0 fd.0 parts.0)

-- a release names nothing new
pub object_named-before :
    (t : List (Option Obj)) (pass : List Pass) (fd : Fd) (o : Obj) → object_named (release_rows t pass) fd ≡ Some o → object_named t fd ≡ Some o
object_named-before t pass fd o h =
    elim (cases_Bool (list_any (releases fd) pass)) [
      | inl released ↦ let none = object_named-released t pass fd released in cc
      | inr kept ↦ sym (object_named-kept t pass fd kept) ∙ h
    ]

pub length-release_rows : (t : List (Option Obj)) (pass : List Pass) → length (release_rows t pass) ≡ length t
length-release_rows t [] = refl
length-release_rows t (x ∷ xs) = length-release_rows (release_row t x) xs ∙ row_length t x.release x.fd.0

-- how many descriptors are free

free_one : (row : Option Obj) → cond (is_none row) 1 0 ≤ 1
free_one None = omega arith
free_one (Some o) = omega arith

closed_free : (t : List (Option Obj)) (n : ℕ) → free_rows t ≤ free_rows (close_row t n)
closed_free t n =
    elim (cases_lt n (length t)) [
      | inl there ↦
          let closed = sum_by-set (λ (row : Option Obj). cond (is_none row) 1 0) t n None None there in
          omega (arith, closed, free_one (get_or t n None))
      | inr past ↦ let same = ap free_rows (set_past t n None past) in omega arith
    ]

row_free : (t : List (Option Obj)) (b : Bool) (n : ℕ) → free_rows t ≤ free_rows (cond b (close_row t n) t)
row_free t true n = closed_free t n
row_free t false n = omega arith

-- the objects that are passed

all_more : (P : Obj → Type 0) (o : Option Obj) (os : List Obj) → ((p : Obj) → o ≡ Some p → P p) → All P os → All P (cons_option o os)
all_more P None os h rest = rest
all_more P (Some p) os h rest = All-cons P p os (h p refl) rest

-- what holds of each object that the table names holds of each that goes
pub All-objects_passed :
    (P : Obj → Type 0) (t : List (Option Obj)) (pass : List Pass) → ((fd : Fd) (o : Obj) → object_named t fd ≡ Some o → P o) →
    All P (objects_passed t pass)
All-objects_passed P t [] h = All-nil P
All-objects_passed P t (x ∷ xs) h = all_more P (object_passed t x) (objects_passed t xs) (h x.fd) (All-objects_passed P t xs h)

no_double : (same b c : Bool) → (same && (b || c)) ≡ false → (b && same) ≡ false
no_double true true c h = h
no_double true false c h = refl
no_double false true c h = refl
no_double false false c h = refl

-- the release of one does not change what a later one names
pub object_passed-later : (t : List (Option Obj)) (x y : Pass) → is_double x y ≡ false → object_passed (release_row t x) y ≡ object_passed t y
object_passed-later t x y h =
    ap object_in (row_kept t x.release x.fd.0 y.fd.0 (no_double (x.fd.0 == y.fd.0) x.release y.release h))

pub objects_passed-later :
    (t : List (Option Obj)) (x : Pass) (xs : List Pass) → list_any (is_double x) xs ≡ false →
    objects_passed (release_row t x) xs ≡ objects_passed t xs
objects_passed-later t x [] h = refl
objects_passed-later t x (y ∷ xs) h =
    let parts = or_parts (is_double x y) (list_any (is_double x) xs) h in
    let one = object_passed-later t x y parts.0 in
    let rest = objects_passed-later t x xs parts.1 in
    cc

-- references: what a release closes is what the released ones named

abbrev pub is_released : Pass → Bool
is_released x = x.release

-- what the descriptors that are released name, in order
abbrev pub objects_released : List (Option Obj) → List Pass → List Obj
objects_released t pass = objects_passed t (filter is_released pass)

closed_count :
    (o : Obj) (t : List (Option Obj)) (n : ℕ) →
    count_object o (objects_of (close_row t n)) + count_object o (option_to_list (object_in (slice_get t n))) ≡ count_object o (objects_of t)
closed_count o [] n = refl
closed_count o (None ∷ t) zero = omega arith
closed_count o (Some p ∷ t) zero = omega (arith, sum_by-cons (λ q. cond (is_object o q) 1 0) p (objects_of t))
closed_count o (None ∷ t) (suc n) = closed_count o t n
closed_count o (Some p ∷ t) (suc n) =
    let before = sum_by-cons (λ q. cond (is_object o q) 1 0) p (objects_of t) in
    let after = sum_by-cons (λ q. cond (is_object o q) 1 0) p (objects_of (close_row t n)) in
    omega (arith, before, after, closed_count o t n)

count_more : (o : Obj) (p : Option Obj) (os : List Obj) → count_object o (cons_option p os) ≡ count_object o (option_to_list p) + count_object o os
count_more o None os = omega arith
count_more o (Some p) os = omega (arith, sum_by-cons (λ q. cond (is_object o q) 1 0) p os)

row_count :
    (o : Obj) (t : List (Option Obj)) (x : Pass) (b : Bool) (xs : List Pass) →
    count_object o (objects_of (cond b (close_row t x.fd.0) t)) + count_object o (objects_passed t (cond b (x ∷ xs) xs))
    ≡ count_object o (objects_of t) + count_object o (objects_passed t xs)
row_count o t x true xs =
    omega (arith, closed_count o t x.fd.0, count_more o (object_passed t x) (objects_passed t xs))
row_count o t x false xs = refl

none_kept : (test : Pass → Bool) (b : Bool) (x : Pass) (xs : List Pass) → test x ≡ false → list_any test xs ≡ false → list_any test (cond b (x ∷ xs) xs) ≡ false
none_kept test true x xs h rest = or_from (test x) (list_any test xs) h rest
none_kept test false x xs h rest = rest

none_filtered : (test keep : Pass → Bool) (xs : List Pass) → list_any test xs ≡ false → list_any test (filter keep xs) ≡ false
none_filtered test keep [] h = refl
none_filtered test keep (x ∷ xs) h =
    let parts = or_parts (test x) (list_any test xs) h in
    none_kept test (keep x) x (filter keep xs) parts.0 (none_filtered test keep xs parts.1)

pub count_object-release_rows :
    (o : Obj) (t : List (Option Obj)) (pass : List Pass) → has_double_release pass ≡ false →
    count_object o (objects_of (release_rows t pass)) + count_object o (objects_released t pass) ≡ count_object o (objects_of t)
count_object-release_rows o t [] h = omega arith
count_object-release_rows o t (x ∷ xs) h =
    let parts = or_parts (list_any (is_double x) xs) (has_double_release xs) h in
    let rest = count_object-release_rows o (release_row t x) xs parts.1 in
    let released = filter is_released xs in
    let same = ap (count_object o) (objects_passed-later t x released (none_filtered (is_double x) is_released xs parts.0)) in
    omega (arith, rest, same, row_count o t x x.release released)

-- what the others name, in order
abbrev pub is_kept : Pass → Bool
is_kept x = not x.release
