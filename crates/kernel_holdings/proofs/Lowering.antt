-- How often an object is named by the first descriptors of a table or of a list, and by one more.
use Rattle.std.proofs.Common.{◌≡◌, ℕ, zero, suc, ◌+◌, ◌<◌, ◌≤◌, ◌||◌, Bool, cond, true, false, if◌then◌else◌, List, [], ◌∷◌, Option, None, Some, is_none, length, get_or, take, drop, filter, slice_get, refl, ap, ap₂, arith}
use Rattle.std.specs.List.{cons_option, list_any}
use Rattle.std.specs.Option.{option_to_list}
use Rattle.std.proofs.lemmas.List.{length-append, take-append-drop, take_more}
use Rattle.std.proofs.lemmas.List.Sums.{count_by-le-length, sum_by-cons}
use Rattle.spec_records.proofs.Passing.{length-release_rows, object_named-kept, releases}
use Rattle.std.proofs.lemmas.List.Elements.{filter-append, filter_map-append}
use Rattle.std.proofs.lemmas.Option.{slice_get-get_or}
use Rattle.spec_records.specs.Words.{close_row, count_object, free_rows, has_double_release, is_double, release_row, release_rows, object_in, object_named, object_passed, objects_of, objects_passed, row_object}
use Rattle.spec_kernel.specs.Types.{Obj, Pass}
use Rattle.kernel_holdings.specs.Words.{is_released}
use Rattle.kernel_holdings.proofs.Referring.{count_object-append}

-- one more row of a table
pub count_rows-more :
    (o : Obj) (t : List (Option Obj)) (i : ℕ) → i < length t →
    count_object o (objects_of (take (i + 1) t))
    ≡ count_object o (objects_of (take i t)) + count_object o (option_to_list (object_in (slice_get t i)))
count_rows-more o t i h =
    let none : Option Obj = None in
    let row = get_or t i none in
    let more = take_more t i none h in
    let parts = filter_map-append row_object (take i t) (row ∷ []) in
    let named = ap object_in (slice_get-get_or t i none h) in
    omega (
      arith,
      ap (λ u. count_object o (objects_of u)) more,
      ap (count_object o) parts,
      count_object-append o (objects_of (take i t)) (objects_of (row ∷ [])),
      ap (λ x. count_object o (option_to_list x)) named,
      one row,
    )
  where
    one : (x : Option Obj) → count_object o (objects_of (x ∷ [])) ≡ count_object o (option_to_list x)
    one None = refl
    one (Some x) = refl

-- one more of those that are passed, which is released or not
pub count_released-more :
    (o : Obj) (t : List (Option Obj)) (pass : List Pass) (i : ℕ) (d : Pass) → i < length pass →
    count_object o (objects_passed t (filter is_released (take (i + 1) pass)))
    ≡ count_object o (objects_passed t (filter is_released (take i pass)))
    + cond (is_released (get_or pass i d)) (count_object o (option_to_list (object_named t (get_or pass i d).fd))) 0
count_released-more o t pass i d h =
    let x = get_or pass i d in
    let before = filter is_released (take i pass) in
    let more = take_more pass i d h in
    let kept = filter-append is_released (take i pass) (x ∷ []) in
    let parts = filter_map-append (object_passed t) before (filter is_released (x ∷ [])) in
    omega (
      arith,
      ap (λ xs. count_object o (objects_passed t (filter is_released xs))) more,
      ap (λ xs. count_object o (objects_passed t xs)) kept,
      ap (count_object o) parts,
      count_object-append o (objects_passed t before) (objects_passed t (filter is_released (x ∷ []))),
      one x (is_released x),
    )
  where
    named : (y : Option Obj) → count_object o (cons_option y []) ≡ count_object o (option_to_list y)
    named None = refl
    named (Some y) = refl

    one : (x : Pass) (b : Bool) → count_object o (objects_passed t (cond b (x ∷ []) [])) ≡ cond b (count_object o (option_to_list (object_named t x.fd))) 0
    one x true = named (object_passed t x)
    one x false = refl

-- no more than the rows of the table are released

pub one_named : (x : Option Obj) → length (option_to_list x) ≤ 1
one_named None = omega arith
one_named (Some x) = omega arith

passed_one : (t : List (Option Obj)) (y : Option Obj) (os : List Obj) → length (cons_option y os) ≡ length (option_to_list y) + length os
passed_one t None os = omega arith
passed_one t (Some y) os = omega arith

free-cons : (row : Option Obj) (t : List (Option Obj)) → free_rows (row ∷ t) ≡ cond (is_none row) 1 0 + free_rows t
free-cons row t = sum_by-cons (λ r. cond (is_none r) 1 0) row t

closed_frees : (t : List (Option Obj)) (n : ℕ) → length (option_to_list (object_in (slice_get t n))) + free_rows t ≤ free_rows (close_row t n)
closed_frees [] n = omega arith
closed_frees (None ∷ t) zero = omega arith
closed_frees (Some o ∷ t) zero = omega (arith, free-cons (Some o) t, free-cons None t)
closed_frees (row ∷ t) (suc n) = omega (arith, closed_frees t n, free-cons row t, free-cons row (close_row t n))

rest_kept : (t : List (Option Obj)) (x : Pass) (xs : List Pass) → list_any (is_double x) xs ≡ false → objects_passed (release_row t x) (filter is_released xs) ≡ objects_passed t (filter is_released xs)
rest_kept t x [] h = refl
rest_kept t x (y ∷ ys) h = go y.release refl (is_double x y) refl h (rest_kept t x ys)
  where
    go :
        (b : Bool) → y.release ≡ b → (d : Bool) → is_double x y ≡ d → (d || list_any (is_double x) ys) ≡ false →
        (list_any (is_double x) ys ≡ false → objects_passed (release_row t x) (filter is_released ys) ≡ objects_passed t (filter is_released ys)) →
        objects_passed (release_row t x) (cond b (y ∷ filter is_released ys) (filter is_released ys)) ≡ objects_passed t (cond b (y ∷ filter is_released ys) (filter is_released ys))
    go b e true f k ih = cc
    go false e false f k ih = ih k
    go true e false f k ih =
        let other : list_any (releases y.fd) (x ∷ []) ≡ false = grind (arith, e, f) in
        ap₂ (λ z os. cons_option z os) (object_named-kept t (x ∷ []) y.fd other) (ih k)

released_free : (t : List (Option Obj)) (pass : List Pass) → has_double_release pass ≡ false → length (objects_passed t (filter is_released pass)) + free_rows t ≤ free_rows (release_rows t pass)
released_free t [] h = omega arith
released_free t (x ∷ xs) h = go (list_any (is_double x) xs) refl h (released_free (release_row t x) xs)
  where
    one : (b : Bool) → length (objects_passed t (cond b (x ∷ filter is_released xs) (filter is_released xs))) + free_rows t ≤ length (objects_passed t (filter is_released xs)) + free_rows (if b then close_row t x.fd.0 else t)
    one true = omega (arith, passed_one t (object_passed t x) (objects_passed t (filter is_released xs)), closed_frees t x.fd.0)
    one false = omega arith

    go :
        (b : Bool) → list_any (is_double x) xs ≡ b → (b || has_double_release xs) ≡ false →
        (has_double_release xs ≡ false → length (objects_passed (release_row t x) (filter is_released xs)) + free_rows (release_row t x) ≤ free_rows (release_rows (release_row t x) xs)) →
        length (objects_passed t (filter is_released (x ∷ xs))) + free_rows t ≤ free_rows (release_rows (release_row t x) xs)
    go true e k ih = cc
    go false e k ih = omega (arith, one x.release, ih k, ap length (rest_kept t x xs e))

pub released_few : (t : List (Option Obj)) (pass : List Pass) → has_double_release pass ≡ false → length (objects_passed t (filter is_released pass)) ≤ length t
released_few t pass once = omega (arith, released_free t pass once, count_by-le-length is_none (release_rows t pass), length-release_rows t pass)

-- of those that are released, so many are named by the first of the list
pub length_released-more :
    (t : List (Option Obj)) (pass : List Pass) (i : ℕ) (d : Pass) → i < length pass →
    length (objects_passed t (filter is_released (take (i + 1) pass)))
    ≡ length (objects_passed t (filter is_released (take i pass))) + cond (is_released (get_or pass i d)) (length (option_to_list (object_named t (get_or pass i d).fd))) 0
length_released-more t pass i d h =
    let x = get_or pass i d in
    let before = filter is_released (take i pass) in
    let more = take_more pass i d h in
    let kept = filter-append is_released (take i pass) (x ∷ []) in
    let parts = filter_map-append (object_passed t) before (filter is_released (x ∷ [])) in
    omega (
      arith,
      ap (λ xs. length (objects_passed t (filter is_released xs))) more,
      ap (λ xs. length (objects_passed t xs)) kept,
      ap length parts,
      length-append (objects_passed t before) (objects_passed t (filter is_released (x ∷ []))),
      one x (is_released x),
    )
  where
    one : (x : Pass) (b : Bool) → length (objects_passed t (cond b (x ∷ []) [])) ≡ cond b (length (option_to_list (object_named t x.fd))) 0
    one x true = omega (arith, passed_one t (object_passed t x) [])
    one x false = refl

pub released_first : (t : List (Option Obj)) (pass : List Pass) (k : ℕ) → length (objects_passed t (filter is_released (take k pass))) ≤ length (objects_passed t (filter is_released pass))
released_first t pass k =
    let first = filter is_released (take k pass) in
    let last = filter is_released (drop k pass) in
    let whole = ap (λ xs. length (objects_passed t (filter is_released xs))) (take-append-drop k pass) in
    omega (
      arith,
      whole,
      ap (λ xs. length (objects_passed t xs)) (filter-append is_released (take k pass) (drop k pass)),
      ap length (filter_map-append (object_passed t) first last),
      length-append (objects_passed t first) (objects_passed t last),
    )
