-- How often an object is named in the tables of all processes, where one table is changed.
use Rattle.std.proofs.Common.{◌≡◌, ℕ, zero, suc, ◌+◌, ◌-◌, ◌<◌, ◌≤◌, Bool, true, false, cond, List, [], ◌∷◌, ◌++◌, Option, None, Some, is_none, is_some, flat_map, filter, length, position, slice_get, slice_set, unwrap_or, refl, sym, ap, ◌∙◌, arith}
use Rattle.std.specs.Option.{option_to_list}
use Rattle.std.specs.List.{cons_option}
use Rattle.std.specs.Prelude.{Err, Ok, OnErr, OnOk, Result}
use Rattle.std.proofs.lemmas.Bool.{false≢true}
use Rattle.std.proofs.lemmas.Grind.{flat_map-append}
use Rattle.std.proofs.lemmas.List.Quantifiers.{position-Some}
use Rattle.std.proofs.lemmas.List.Sums.{count_by-le-length}
use Rattle.std.proofs.lemmas.Option.{slice_get-get_or}
use Rattle.dk_base.specs.ByNumber.{at_number}
use Rattle.dk_base.specs.declared.number.Fd.{Fd}
use Rattle.spec_records.specs.Words.{close_row, close_table, count_object, empty_table, free_place, free_rows, has_double_release, insert_row, insert_rows, is_object, lowest_free, object_in, object_named, object_passed, objects_of, objects_passed, release_rows, table_in, with_table}
use Rattle.spec_records.proofs.Passing.{count_object-release_rows}
use Rattle.fd_table.proofs.Lowest.{free_taken_at, free_there, place_is, some_place}
use Rattle.spec_kernel.specs.Types.{Call, Name, NoMemory, Obj, Pass}
use Rattle.spec_records.proofs.Lists.{at_number-suc, with_at_number-suc}
use Rattle.unref_notice.specs.Words.{ObjectCounts, count_of}
use Rattle.kernel_holdings.specs.Words.{IsCountOf, is_released}
use Rattle.kernel_holdings.proofs.NoTable.{no_table, none_changed}
use Rattle.kernel_holdings.proofs.Referring.{count_object-append, count_object-cons, references_to-parts}

-- how often the tables name an object
abbrev pub count_in : Obj → List (List (Option Obj)) → ℕ
count_in o tables = count_object o (flat_map objects_of tables)

-- a row

-- a row that was free gets an object
row_set :
    (o p : Obj) (t : List (Option Obj)) (n : ℕ) → slice_get t n ≡ Some None →
    count_object o (objects_of (slice_set t n (Some p))) ≡ count_object o (objects_of t) + count_object o (p ∷ [])
row_set o p [] n h = cc
row_set o p (None ∷ t) zero h = omega (arith, count_object-cons o p (objects_of t))
row_set o p (Some q ∷ t) zero h = cc
row_set o p (None ∷ t) (suc n) h = row_set o p t n h
row_set o p (Some q ∷ t) (suc n) h =
    omega (
      arith,
      row_set o p t n h,
      count_object-cons o q (objects_of t),
      count_object-cons o q (objects_of (slice_set t n (Some p))),
    )

-- the lowest free row is free
row_free : (t : List (Option Obj)) → is_some (lowest_free t) ≡ true → slice_get t (free_place t) ≡ Some None
row_free t e = go (lowest_free t) refl e
  where
    none_is : (row : Option Obj) → is_none row ≡ true → row ≡ None
    none_is None h = refl
    none_is (Some x) h = cc

    go : (o : Option ℕ) → position is_none t ≡ o → is_some o ≡ true → slice_get t (unwrap_or o 0) ≡ Some None
    go None f h = cc
    go (Some i) f h =
        let k = position-Some is_none t i None f in
        slice_get-get_or t i None k.0 ∙ ap Some (none_is _ k.1)

row_inserted :
    (o p : Obj) (t : List (Option Obj)) → is_some (lowest_free t) ≡ true →
    count_object o (objects_of (insert_row t p)) ≡ count_object o (objects_of t) + count_object o (p ∷ [])
row_inserted o p t free = row_set o p t (free_place t) (row_free t free)

-- a row is closed, and what it named is named once less
row_closed :
    (o : Obj) (t : List (Option Obj)) (n : ℕ) →
    count_object o (objects_of (close_row t n)) + count_object o (option_to_list (object_in (slice_get t n))) ≡ count_object o (objects_of t)
row_closed o [] n = refl
row_closed o (None ∷ t) zero = omega arith
row_closed o (Some p ∷ t) zero = omega (arith, count_object-cons o p (objects_of t))
row_closed o (None ∷ t) (suc n) = row_closed o t n
row_closed o (Some p ∷ t) (suc n) =
    omega (
      arith,
      row_closed o t n,
      count_object-cons o p (objects_of t),
      count_object-cons o p (objects_of (close_row t n)),
    )

-- a table whose rows are all closed
none_named : (o : Obj) (t : List (Option Obj)) → count_object o (objects_of (close_table t)) ≡ 0
none_named o [] = refl
none_named o (row ∷ t) = none_named o t

-- several rows

-- the lowest free row is taken
row_taken : (p : Obj) (t : List (Option Obj)) → 0 < free_rows t → free_rows (insert_row t p) + 1 ≡ free_rows t
row_taken p t some =
    let within = free_there t some in
    let place = place_is t within in
    free_taken_at t (free_place t) p place (omega arith)

rows_inserted :
    (o : Obj) (t : List (Option Obj)) (ps : List Obj) → length ps ≤ free_rows t →
    count_object o (objects_of (insert_rows t ps)) ≡ count_object o (objects_of t) + count_object o ps
rows_inserted o t [] h = omega arith
rows_inserted o t (p ∷ ps) h =
    let some : 0 < free_rows t = omega arith in
    let taken = row_taken p t some in
    let rest = rows_inserted o (insert_row t p) ps (omega arith) in
    let free = ap is_some (some_place t some) in
    omega (arith, rest, row_inserted o p t free, count_object-cons o p ps)

-- a table among those of all processes

table_set :
    (o : Obj) (ts : List (List (Option Obj))) (i : ℕ) (t u : List (Option Obj)) → slice_get ts i ≡ Some u →
    count_in o (slice_set ts i t) + count_object o (objects_of u) ≡ count_in o ts + count_object o (objects_of t)
table_set o [] i t u h = cc
table_set o (x ∷ xs) zero t u h =
    let same : x ≡ u = cc in
    omega (
      arith,
      ap (λ y. count_object o (objects_of y)) same,
      count_object-append o (objects_of x) (flat_map objects_of xs),
      count_object-append o (objects_of t) (flat_map objects_of xs),
    )
table_set o (x ∷ xs) (suc i) t u h =
    omega (
      arith,
      table_set o xs i t u h,
      count_object-append o (objects_of x) (flat_map objects_of xs),
      count_object-append o (objects_of x) (flat_map objects_of (slice_set xs i t)),
    )

numbered_set :
    (o : Obj) (ts : List (List (Option Obj))) (p : ℕ) (t u : List (Option Obj)) → at_number ts p ≡ Some u →
    count_in o (with_table ts p t) + count_object o (objects_of u) ≡ count_in o ts + count_object o (objects_of t)
numbered_set o ts zero t u h = cc
numbered_set o ts (suc i) t u h =
    let set = ap (count_in o) (with_at_number-suc ts i t) in
    omega (arith, set, table_set o ts i t u (sym (at_number-suc ts i) ∙ h))

-- the table of a process becomes another, which names nothing where the process has none
pub count_in-with_table :
    (o : Obj) (ts : List (List (Option Obj))) (p : ℕ) (t : List (Option Obj)) →
    (table_in ts p ≡ [] → count_object o (objects_of t) ≡ 0) →
    count_in o (with_table ts p t) + count_object o (objects_of (table_in ts p)) ≡ count_in o ts + count_object o (objects_of t)
count_in-with_table o ts p t empty = go (at_number ts p) refl
  where
    go :
        (x : Option (List (Option Obj))) → at_number ts p ≡ x →
        count_in o (with_table ts p t) + count_object o (objects_of (unwrap_or x [])) ≡ count_in o ts + count_object o (objects_of t)
    go None h =
        let same = ap (count_in o) (none_changed ts p t h) in
        let none = empty (no_table ts p h) in
        omega (arith, same, none)
    go (Some u) h = numbered_set o ts p t u h

-- what the calls on tables do

pub count_in-insert :
    (o x : Obj) (ts : List (List (Option Obj))) (p : ℕ) → is_some (lowest_free (table_in ts p)) ≡ true →
    count_in o (with_table ts p (insert_row (table_in ts p) x)) ≡ count_in o ts + count_object o (x ∷ [])
count_in-insert o x ts p free =
    let t = table_in ts p in
    let no_row : t ≡ [] → false ≡ true = λ e. sym (ap (λ rows. is_some (lowest_free rows)) e) ∙ free in
    let changed = count_in-with_table o ts p (insert_row t x) (λ e. absurd (false≢true (no_row e))) in
    omega (arith, changed, row_inserted o x t free)

pub count_in-close :
    (o : Obj) (ts : List (List (Option Obj))) (p : ℕ) (fd : Fd) →
    count_in o (with_table ts p (close_row (table_in ts p) fd.0)) + count_object o (option_to_list (object_named (table_in ts p) fd)) ≡ count_in o ts
count_in-close o ts p fd =
    let t = table_in ts p in
    let row = row_closed o t fd.0 in
    let changed = count_in-with_table o ts p (close_row t fd.0) (λ e. omega (arith, row, ap (λ u. count_object o (objects_of u)) e)) in
    omega (arith, changed, row)

pub count_in-close_all :
    (o : Obj) (ts : List (List (Option Obj))) (p : ℕ) →
    count_in o (with_table ts p (close_table (table_in ts p))) + count_object o (objects_of (table_in ts p)) ≡ count_in o ts
count_in-close_all o ts p =
    let t = table_in ts p in
    let changed = count_in-with_table o ts p (close_table t) (λ e. none_named o t) in
    omega (arith, changed, none_named o t)

pub count_in-release :
    (o : Obj) (ts : List (List (Option Obj))) (p : ℕ) (pass : List Pass) → has_double_release pass ≡ false →
    count_in o (with_table ts p (release_rows (table_in ts p) pass)) + count_object o (objects_passed (table_in ts p) (filter is_released pass)) ≡ count_in o ts
count_in-release o ts p pass once =
    let t = table_in ts p in
    let rows = count_object-release_rows o t pass once in
    let changed = count_in-with_table o ts p (release_rows t pass) (λ e. omega (arith, rows, ap (λ u. count_object o (objects_of u)) e)) in
    omega (arith, changed, rows)

pub count_in-install :
    (o : Obj) (ts : List (List (Option Obj))) (p : ℕ) (xs : List Obj) → length xs ≤ free_rows (table_in ts p) →
    count_in o (with_table ts p (insert_rows (table_in ts p) xs)) ≡ count_in o ts + count_object o xs
count_in-install o ts p xs free =
    let t = table_in ts p in
    let rows = rows_inserted o t xs free in
    let changed =
    count_in-with_table o ts p (insert_rows t xs)
    (λ e. omega (arith, rows, ap (λ u. count_object o (objects_of u)) e, ap free_rows e, free, count_by-le-length (is_object o) xs)) in
    omega (arith, changed, rows)

-- a table that names nothing, of as many rows as another one, gets the rows of that one
pub count_in-copy :
    (o : Obj) (ts : List (List (Option Obj))) (p q : ℕ) → objects_of (table_in ts q) ≡ [] → length (table_in ts q) ≡ length (table_in ts p) →
    count_in o (with_table ts q (table_in ts p)) ≡ count_in o ts + count_object o (objects_of (table_in ts p))
count_in-copy o ts p q none long =
    let t = table_in ts p in
    let changed = count_in-with_table o ts q t (λ e. no_rows t (sym long ∙ ap length e)) in
    omega (arith, changed, ap (count_object o) none)
  where
    no_rows : (t : List (Option Obj)) → length t ≡ 0 → count_object o (objects_of t) ≡ 0
    no_rows [] h = refl
    no_rows (x ∷ xs) h = absurd (omega (arith, h))

-- the counts of objects, after as much was counted up or down as tables changed

pub held_more :
    (now later : ObjectCounts) (ts us : List (List (Option Obj))) (names : List Name) (calls : List Call) (os : List Obj) →
    IsCountOf now ts names calls →
    ((o : Obj) → count_of later o ≡ count_of now o + count_object o os) →
    ((o : Obj) → count_in o us ≡ count_in o ts + count_object o os) →
    IsCountOf later us names calls
held_more now later ts us names calls os held up more o =
    omega (
      arith,
      held o,
      up o,
      more o,
      references_to-parts ts names calls o,
      references_to-parts us names calls o,
    )

pub held_fewer :
    (now later : ObjectCounts) (ts us : List (List (Option Obj))) (names : List Name) (calls : List Call) (os : List Obj) →
    IsCountOf now ts names calls →
    ((o : Obj) → count_of later o ≡ count_of now o - count_object o os) →
    ((o : Obj) → count_in o us + count_object o os ≡ count_in o ts) →
    IsCountOf later us names calls
held_fewer now later ts us names calls os held down fewer o =
    omega (
      arith,
      held o,
      down o,
      fewer o,
      references_to-parts ts names calls o,
      references_to-parts us names calls o,
    )

-- another table, which names nothing

count_in-empty : (o : Obj) (ts : List (List (Option Obj))) (limit : ℕ) → count_in o (ts ++ empty_table limit ∷ []) ≡ count_in o ts
count_in-empty o ts limit =
    let added = flat_map-append objects_of ts (empty_table limit ∷ []) in
    let counted = count_object-append o (flat_map objects_of ts) (objects_of (empty_table limit) ++ []) in
    omega (
      arith,
      ap (count_object o) added,
      counted,
      count_object-append o (objects_of (empty_table limit)) [],
      none_in_new limit,
    )
  where
    none_in_new : (n : ℕ) → count_object o (objects_of (empty_table n)) ≡ 0
    none_in_new zero = refl
    none_in_new (suc n) = none_in_new n

pub held_added :
    (now : ObjectCounts) (ts us : List (List (Option Obj))) (names : List Name) (calls : List Call) (limit : ℕ) (r : Result Unit NoMemory) →
    IsCountOf now ts names calls → OnOk r (us ≡ ts ++ empty_table limit ∷ []) → OnErr r (us ≡ ts) → IsCountOf now us names calls
held_added now ts us names calls limit (Ok x) held ok err o =
    omega (
      arith,
      held o,
      ap (count_in o) ok,
      count_in-empty o ts limit,
      references_to-parts ts names calls o,
      references_to-parts us names calls o,
    )
held_added now ts us names calls limit (Err x) held ok err o = rw err (held o)

-- what tables name

pub named_held : (o : Obj) (ts : List (List (Option Obj))) (p : ℕ) (fd : Fd) (x : Option Obj) → x ≡ object_named (table_in ts p) fd → count_object o (option_to_list x) ≤ count_in o ts
named_held o ts p fd x is = omega (arith, count_in-close o ts p fd, ap (λ y. count_object o (option_to_list y)) is)

passed_more :
    (o : Obj) (y : Option Obj) (os : List Obj) → count_object o (cons_option y os) ≡ count_object o (option_to_list y) + count_object o os
passed_more o None os = omega arith
passed_more o (Some y) os = count_object-cons o y os

pub none_passed : (o : Obj) (t : List (Option Obj)) (pass : List Pass) → count_object o (objects_of t) ≡ 0 → count_object o (objects_passed t pass) ≡ 0
none_passed o t [] h = refl
none_passed o t (x ∷ xs) h =
    omega (
      arith,
      none_passed o t xs h,
      row_closed o t x.fd.0,
      passed_more o (object_passed t x) (objects_passed t xs),
    )

-- what is released is passed
pub released_within :
    (o : Obj) (t : List (Option Obj)) (pass : List Pass) →
    count_object o (objects_passed t (filter is_released pass)) ≤ count_object o (objects_passed t pass)
released_within o t [] = omega arith
released_within o t (x ∷ xs) = one x.release (released_within o t xs)
  where
    released : List Pass
    released = filter is_released xs

    one :
        (b : Bool) → count_object o (objects_passed t released) ≤ count_object o (objects_passed t xs) →
        count_object o (objects_passed t (cond b (x ∷ released) released)) ≤ count_object o (objects_passed t (x ∷ xs))
    one true h = omega (arith, h, passed_more o (object_passed t x) (objects_passed t released), passed_more o (object_passed t x) (objects_passed t xs))
    one false h = omega (arith, h, passed_more o (object_passed t x) (objects_passed t xs))

pub passed_held :
    (o : Obj) (ts : List (List (Option Obj))) (p : ℕ) (pass : List Pass) → count_in o ts ≡ 0 → count_object o (objects_passed (table_in ts p) pass) ≡ 0
passed_held o ts p pass none = none_passed o (table_in ts p) pass (omega (arith, none, count_in-close_all o ts p))
