-- Objects that are installed in a table at its lowest free descriptors, and descriptors that are released: what each descriptor
-- names before and after.
use Rattle.std.specs.Prelude.{ℕ, ◌≡◌, ◌+◌, ◌<◌, ◌≤◌, List, [], ◌∷◌, Option, Bool, true, false, ◌==◌, ◌&&◌, cond, if◌then◌else◌, Some, None, zero, suc, is_none, is_some, length, map, slice_get, slice_set, take, unwrap_or}
use Rattle.std.specs.List.{list_any, position_or_len}
use Rattle.std.proofs.Common.{refl, sym, ap, ap₂, ◌∙◌}
use native.Mathlib.Omega.{arith}
use Rattle.std.proofs.lemmas.Bool.{false≢true}
use Rattle.std.proofs.lemmas.Bool.Decides.{nat_tests}
use Rattle.std.proofs.lemmas.List.Sums.{sum_by-set, passes_at_first}
use Rattle.dk_base.specs.ByNumber.{at_number}
use Rattle.spec_kernel.specs.Types.{Fd, Obj, Pass}
use Rattle.spec_records.specs.Words.{close_row, descriptor, free_place, free_rows, insert_row, insert_rows, new_descriptors, object_in, object_named, release_row, release_rows, table_in, with_table}
use Rattle.spec_records.proofs.Lists.{at_number-renumbered_there, at_number-with_at_number, slice_get-slice_set}
use Rattle.spec_kernel.proofs.Steps.{length-insert_rows, length-release_rows}
use Rattle.law_places.specs.Counts.{free_places}
use Rattle.law_runs.specs.NoLoss.{is_descriptor, is_release_of}
use Rattle.law_places.proofs.Passed.{Found, found_any}

-- the lowest free place is free, and is taken

abbrev first_free : List (Option Obj) → ℕ
first_free t = position_or_len is_none t

pub first_free-within : (t : List (Option Obj)) → 0 < free_rows t → first_free t < length t
first_free-within [] h = absurd (omega arith)
first_free-within (None ∷ t) h = omega arith
first_free-within (Some o ∷ t) h = omega (arith, first_free-within t h)

first_free-none : (t : List (Option Obj)) → first_free t < length t → slice_get t (first_free t) ≡ Some None
first_free-none [] h = absurd (omega arith)
first_free-none (None ∷ t) h = refl
first_free-none (Some o ∷ t) h =
    let e : 1 + first_free t ≡ suc (first_free t) = omega arith in
    rw e (first_free-none t (omega arith))

place_is : (t : List (Option Obj)) → 0 < free_rows t → free_place t ≡ first_free t
place_is t h = let w = first_free-within t h in grind (arith, nat_tests)

pub place_free : (t : List (Option Obj)) → 0 < free_rows t → slice_get t (free_place t) ≡ Some None
place_free t h = ap (λ n. slice_get t n) (place_is t h) ∙ first_free-none t (first_free-within t h)

pub taken : (t : List (Option Obj)) (o : Obj) → first_free t < length t → free_rows (slice_set t (first_free t) (Some o)) + 1 ≡ free_rows t
taken t o h =
    let e = sum_by-set (λ (row : Option Obj). cond (is_none row) 1 0) t (first_free t) (Some o) None h in
    let f = passes_at_first is_none t None h in
    let k = rw f at e in
    omega arith

one_less : (t : List (Option Obj)) (o : Obj) → 0 < free_rows t → free_rows (insert_row t o) + 1 ≡ free_rows t
one_less t o h = ap (λ n. free_rows (slice_set t n (Some o)) + 1) (place_is t h) ∙ taken t o (first_free-within t h)

row_after :
    (t : List (Option Obj)) (o : Obj) (k : ℕ) → 0 < free_rows t →
    slice_get (insert_row t o) k ≡ (if k == free_place t then Some (Some o) else slice_get t k)
row_after t o k h = slice_get-slice_set t (free_place t) k (Some o) ∙ grind (arith, nat_tests, place_free t h)

pub other_row : (t : List (Option Obj)) (o : Obj) (k : ℕ) → (k == free_place t) ≡ false → slice_get (insert_row t o) k ≡ slice_get t k
other_row t o k e = slice_get-slice_set t (free_place t) k (Some o) ∙ grind (arith, nat_tests)

pub own_row : (t : List (Option Obj)) (o : Obj) → 0 < free_rows t → slice_get (insert_row t o) (free_place t) ≡ Some (Some o)
own_row t o h = row_after t o (free_place t) h ∙ grind (arith, nat_tests)

some_room : (t : List (Option Obj)) (o : Obj) (os : List Obj) → length (o ∷ os) ≤ free_rows t → 0 < free_rows t
some_room t o os h = omega (arith, h)

pub room_left : (t : List (Option Obj)) (o : Obj) (os : List Obj) → length (o ∷ os) ≤ free_rows t → length os ≤ free_rows (insert_row t o)
room_left t o os h = omega (arith, h, one_less t o (some_room t o os h))

-- each new descriptor was free

pub were_free :
    (t : List (Option Obj)) (os : List Obj) (a : ℕ) (fd : Fd) → length os ≤ free_rows t →
    slice_get (new_descriptors t os) a ≡ Some fd → slice_get t fd.0 ≡ Some None
were_free t [] a fd h e = absurd (grind arith)
were_free t (o ∷ os) zero fd h e =
    let same : free_place t ≡ fd.0 = grind arith in
    ap (λ n. slice_get t n) (sym same) ∙ place_free t (some_room t o os h)
were_free t (o ∷ os) (suc a) fd h e =
    grind (arith, nat_tests, were_free (insert_row t o) os a fd (room_left t o os h) e, row_after t o fd.0 (some_room t o os h))

-- what was not free is none of them
not_new :
    (t : List (Option Obj)) (os : List Obj) (fd : Fd) (o : Obj) → length os ≤ free_rows t → slice_get t fd.0 ≡ Some (Some o) →
    list_any (is_descriptor fd) (new_descriptors t os) ≡ false
not_new t os fd o h e = go (list_any (is_descriptor fd) (new_descriptors t os)) refl
  where
    found : Found (is_descriptor fd) (new_descriptors t os) → ⊥
    found f =
        let free : slice_get t f.item.0 ≡ Some None = were_free t os f.at f.item h f.there in
        let same : fd.0 ≡ f.item.0 = grind (arith, nat_tests, f.passes) in
        absurd (cc (sym e ∙ ap (λ n. slice_get t n) same ∙ free))

    go : (b : Bool) → list_any (is_descriptor fd) (new_descriptors t os) ≡ b → b ≡ false
    go true f = absurd (found (found_any (is_descriptor fd) (new_descriptors t os) f))
    go false f = refl

-- other rows stay
pub others_stay :
    (t : List (Option Obj)) (os : List Obj) (fd : Fd) → list_any (is_descriptor fd) (new_descriptors t os) ≡ false →
    slice_get (insert_rows t os) fd.0 ≡ slice_get t fd.0
others_stay t [] fd e = refl
others_stay t (o ∷ os) fd e =
    others_stay (insert_row t o) os fd (grind (arith, nat_tests)) ∙ other_row t o fd.0 (grind (arith, nat_tests))

-- the new descriptors name the objects
pub names_new :
    (t : List (Option Obj)) (os : List Obj) → length os ≤ free_rows t →
    map (λ fd. object_named (insert_rows t os) fd) (new_descriptors t os) ≡ map (λ o. Some o) os
names_new t [] h = refl
names_new t (o ∷ os) h =
    ap₂ (λ (x : Option Obj) xs. x ∷ xs) first (names_new (insert_row t o) os (room_left t o os h))
  where
    own : slice_get (insert_row t o) (free_place t) ≡ Some (Some o)
    own = own_row t o (some_room t o os h)

    first : object_named (insert_rows (insert_row t o) os) (descriptor (free_place t)) ≡ Some o
    first =
        ap object_in
        (others_stay (insert_row t o) os (descriptor (free_place t))
        (not_new (insert_row t o) os (descriptor (free_place t)) o (room_left t o os h) own)
        ∙ own)

-- and named nothing before
map_each :
    {X Y : Type 0} (f g : X → Y) (xs : List X) → ((a : ℕ) (x : X) → slice_get xs a ≡ Some x → f x ≡ g x) → map f xs ≡ map g xs
map_each f g [] h = refl
map_each f g (x ∷ xs) h = ap₂ (λ y ys. y ∷ ys) (h 0 x refl) (map_each f g xs (λ a z e. h (suc a) z e))

pub named_none :
    (t : List (Option Obj)) (os : List Obj) → length os ≤ free_rows t →
    map (λ fd. object_named t fd) (new_descriptors t os) ≡ map (λ fd. None) (new_descriptors t os)
named_none t os h =
    map_each (λ fd. object_named t fd) (λ fd. None) (new_descriptors t os) (λ a fd e. ap object_in (were_free t os a fd h e))

-- they are the lowest, in order

-- below the lowest that is free none is
lowest_first : (t : List (Option Obj)) → free_places (take (first_free t) t) ≡ 0
lowest_first [] = refl
lowest_first (None ∷ t) = refl
lowest_first (Some o ∷ t) = let e : 1 + first_free t ≡ suc (first_free t) = omega arith in rw e (lowest_first t)

pub lowest_place : (t : List (Option Obj)) → 0 < free_rows t → free_places (take (free_place t) t) ≡ 0
lowest_place t h = ap (λ n. free_places (take n t)) (place_is t h) ∙ lowest_first t

-- one less is free below each that is still free once the lowest is taken
one_less_below :
    (t : List (Option Obj)) (o : Obj) (n : ℕ) → slice_get (slice_set t (first_free t) (Some o)) n ≡ Some None →
    free_places (take n t) ≡ suc (free_places (take n (slice_set t (first_free t) (Some o))))
one_less_below [] o n e = absurd (grind arith)
one_less_below (None ∷ t) o zero e = absurd (grind arith)
one_less_below (None ∷ t) o (suc n) e = omega arith
one_less_below (Some p ∷ t) o zero e = absurd (grind arith)
one_less_below (Some p ∷ t) o (suc n) e =
    let f : 1 + first_free t ≡ suc (first_free t) = omega arith in
    rw f (one_less_below t o n (rw f at e))

pub new_lowest :
    (t : List (Option Obj)) (os : List Obj) (a : ℕ) (fd : Fd) → length os ≤ free_rows t →
    slice_get (new_descriptors t os) a ≡ Some fd → free_places (take fd.0 t) ≡ a
new_lowest t [] a fd h e = absurd (grind arith)
new_lowest t (o ∷ os) zero fd h e =
    let same : free_place t ≡ fd.0 = grind arith in
    ap (λ n. free_places (take n t)) (sym same) ∙ lowest_place t (some_room t o os h)
new_lowest t (o ∷ os) (suc a) fd h e =
    let is : insert_row t o ≡ slice_set t (first_free t) (Some o) = ap (λ n. slice_set t n (Some o)) (place_is t (some_room t o os h)) in
    one_less_below t o fd.0 (ap (λ u. slice_get u fd.0) (sym is) ∙ were_free (insert_row t o) os a fd (room_left t o os h) e)
    ∙ ap (λ u. suc (free_places (take fd.0 u))) (sym is)
    ∙ ap suc (new_lowest (insert_row t o) os a fd (room_left t o os h) e)

-- released descriptors

-- a row that is closed stays closed
closed_row : (t : List (Option Obj)) (n : ℕ) (fd : Fd) → object_named t fd ≡ None → object_named (close_row t n) fd ≡ None
closed_row t n fd e = grind (arith, nat_tests, slice_get-slice_set t n fd.0 None)

stays_closed :
    (t : List (Option Obj)) (pass : List Pass) (fd : Fd) → object_named t fd ≡ None → object_named (release_rows t pass) fd ≡ None
stays_closed t [] fd e = e
stays_closed t (x ∷ xs) fd e = stays_closed (release_row t x) xs fd (one x.release)
  where
    one : (b : Bool) → object_named (if b then close_row t x.fd.0 else t) fd ≡ None
    one true = closed_row t x.fd.0 fd e
    one false = e

pub closes : (t : List (Option Obj)) (fd : Fd) → object_named (close_row t fd.0) fd ≡ None
closes t fd = grind (arith, nat_tests, slice_get-slice_set t fd.0 fd.0 None)

pub released_none :
    (t : List (Option Obj)) (pass : List Pass) (fd : Fd) → list_any (is_release_of fd) pass ≡ true →
    object_named (release_rows t pass) fd ≡ None
released_none t [] fd e = absurd (grind arith)
released_none t (x ∷ xs) fd e = go x.release (fd.0 == x.fd.0) refl refl (λ f. released_none (release_row t x) xs fd f)
  where
    go :
        (b c : Bool) → x.release ≡ b → (fd.0 == x.fd.0) ≡ c →
        (list_any (is_release_of fd) xs ≡ true → object_named (release_rows (release_row t x) xs) fd ≡ None) →
        object_named (release_rows (release_row t x) xs) fd ≡ None
    go true true f g later =
        let same : fd.0 ≡ x.fd.0 = grind (arith, nat_tests) in
        let here : object_named (release_row t x) fd ≡ None =
        ap (λ (b : Bool). object_named (if b then close_row t x.fd.0 else t) fd) f
        ∙ ap (λ (n : ℕ). object_named (close_row t n) fd) (sym same)
        ∙ closes t fd in
        stays_closed (release_row t x) xs fd here
    go true false f g later = later (grind arith)
    go false c f g later = later (grind arith)

pub not_released :
    (t : List (Option Obj)) (pass : List Pass) (fd : Fd) → list_any (is_release_of fd) pass ≡ false →
    object_named (release_rows t pass) fd ≡ object_named t fd
not_released t [] fd e = refl
not_released t (x ∷ xs) fd e = not_released (release_row t x) xs fd (grind arith) ∙ one x.release refl
  where
    one : (b : Bool) → x.release ≡ b → object_named (if b then close_row t x.fd.0 else t) fd ≡ object_named t fd
    one false f = refl
    one true f =
        let same : slice_get (close_row t x.fd.0) fd.0 ≡ slice_get t fd.0 =
        slice_get-slice_set t x.fd.0 fd.0 None ∙ grind (arith, nat_tests) in
        ap object_in same

-- the table that a process has then

empty_of : (t : List (Option Obj)) → length t ≡ 0 → t ≡ []
empty_of [] e = refl
empty_of (o ∷ os) e = absurd (omega (arith, e))

pub table_then :
    (tables : List (List (Option Obj))) (p : ℕ) (t : List (Option Obj)) → length t ≡ length (table_in tables p) →
    table_in (with_table tables p t) p ≡ t
table_then tables p t e = go (at_number tables p) refl
  where
    go : (o : Option (List (Option Obj))) → at_number tables p ≡ o → table_in (with_table tables p t) p ≡ t
    go None f =
        let none : at_number (with_table tables p t) p ≡ None = at_number-with_at_number tables p p t ∙ grind arith in
        ap (λ (o : Option (List (Option Obj))). unwrap_or o []) none
        ∙ sym (empty_of t (e ∙ ap (λ (o : Option (List (Option Obj))). length (unwrap_or o [])) f))
    go (Some rows) f =
        let there : at_number (with_table tables p t) p ≡ Some t = at_number-renumbered_there tables p p t rows f ∙ grind (arith, nat_tests) in
        ap (λ (o : Option (List (Option Obj))). unwrap_or o []) there

-- the tables of the others
pub table_elsewhere :
    (tables : List (List (Option Obj))) (p q : ℕ) (t : List (Option Obj)) → (q ≡ p → ⊥) → table_in (with_table tables p t) q ≡ table_in tables q
table_elsewhere tables p q t other = go (q == p) refl
  where
    go : (b : Bool) → (q == p) ≡ b → table_in (with_table tables p t) q ≡ table_in tables q
    go true e = absurd (other (grind (arith, nat_tests)))
    go false e =
        ap (λ (o : Option (List (Option Obj))). unwrap_or o [])
        (at_number-with_at_number tables p q t
        ∙ ap (λ (b : Bool). if b && is_some (at_number tables p) then Some t else at_number tables q) e)

-- a table that is put back
pub table_put_back : (tables : List (List (Option Obj))) (p q : ℕ) → table_in (with_table tables p (table_in tables p)) q ≡ table_in tables q
table_put_back tables p q = go (q == p) refl
  where
    go : (b : Bool) → (q == p) ≡ b → table_in (with_table tables p (table_in tables p)) q ≡ table_in tables q
    go true e =
        let same : q ≡ p = grind (arith, nat_tests) in
        ap (λ (n : ℕ). table_in (with_table tables p (table_in tables p)) n) same
        ∙ table_then tables p (table_in tables p) refl
        ∙ sym (ap (table_in tables) same)
    go false e = table_elsewhere tables p q (table_in tables p) (λ f. false≢true (sym e ∙ grind (arith, nat_tests)))

pub installed_then :
    (tables : List (List (Option Obj))) (p : ℕ) (os : List Obj) →
    table_in (with_table tables p (insert_rows (table_in tables p) os)) p ≡ insert_rows (table_in tables p) os
installed_then tables p os = table_then tables p _ (length-insert_rows (table_in tables p) os)

pub released_then :
    (tables : List (List (Option Obj))) (p : ℕ) (pass : List Pass) →
    table_in (with_table tables p (release_rows (table_in tables p) pass)) p ≡ release_rows (table_in tables p) pass
released_then tables p pass = table_then tables p _ (length-release_rows (table_in tables p) pass)
