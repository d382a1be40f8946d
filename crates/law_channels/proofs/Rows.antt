-- What each change of tables leaves of a row.
use Rattle.std.specs.Prelude.{ℕ, ◌≡◌, ◌+◌, ◌<◌, ◌≤◌, ◌==◌, ◌&&◌, List, [], ◌∷◌, Option, Bool, true, false, if◌then◌else◌, Some, None, suc, is_none, is_some, length, slice_get, slice_set, unwrap_or, cond}
use Rattle.std.specs.Option.{option_map}
use Rattle.std.specs.List.{list_any, position_or_len}
use Rattle.std.proofs.Common.{refl, sym, ap, subst, ◌∙◌}
use native.Mathlib.Omega.{arith}
use Rattle.std.proofs.lemmas.Bool.Decides.{nat_tests}
use Rattle.std.proofs.lemmas.List.Sums.{sum_by-set, passes_at_first}
use Rattle.std.proofs.lemmas.Option.{slice_get-map}
use Rattle.dk_base.specs.ByNumber.{at_number}
use Rattle.dk_base.specs.declared.number.Fd.{Fd}
use Rattle.dk_base.specs.declared.object.Obj.{Obj}
use Rattle.dk_base.specs.declared.object.Pass.{Pass}
use Rattle.spec_records.specs.Words.{close_row, close_table, free_place, free_row, free_rows, insert_row, insert_rows, lowest_free, object_in, object_named, release_rows, table_in, with_row, with_table}
use Rattle.spec_records.proofs.Lists.{at_number-with_at_number, slice_get-slice_set}
use Rattle.spec_records.proofs.Passing.{object_named-kept, object_named-released, releases}

-- a row that an act closes names nothing after it, and another that was open names what it named
abbrev pub IsRowAfter : Bool → Option Obj → Option Obj → Type 0
IsRowAfter true before after = after ≡ None
IsRowAfter false None after = Unit {0}
IsRowAfter false (Some o) after = after ≡ Some o

-- a row that stays, and one that named nothing

pub stays : (r : Option Obj) → IsRowAfter false r r
stays None = tt
stays (Some o) = refl

pub same : (r s : Option Obj) → s ≡ r → IsRowAfter false r s
same r s e = subst (IsRowAfter false r) (sym e) (stays r)

pub was_free : (r s : Option Obj) → r ≡ None → IsRowAfter false r s
was_free r s e = subst (λ z. IsRowAfter false z s) (sym e) tt

-- a process has another table

pub by_table :
    (tables : List (List (Option Obj))) (q : ℕ) (t : List (Option Obj)) (closed : Fd → Bool) →
    ((fd : Fd) → IsRowAfter (closed fd) (object_named (table_in tables q) fd) (object_named t fd)) → (p : ℕ) (fd : Fd) →
    IsRowAfter ((p == q) && closed fd) (object_named (table_in tables p) fd) (object_named (table_in (with_table tables q t) p) fd)
by_table tables q t closed h p fd =
    subst (IsRowAfter ((p == q) && closed fd) (object_named (table_in tables p) fd))
    (sym (ap (λ (o : Option (List (Option Obj))). object_named (unwrap_or o []) fd) (at_number-with_at_number tables q p t)))
    (go (p == q) refl (is_some (at_number tables q)) refl)
  where
    none : (b : Bool) → IsRowAfter b None None
    none true = refl
    none false = tt

    gone : (o : Option (List (Option Obj))) → is_some o ≡ false → object_named (unwrap_or o []) fd ≡ None
    gone None e = refl
    gone (Some u) e = cc

    go :
        (b : Bool) → (p == q) ≡ b → (c : Bool) → is_some (at_number tables q) ≡ c →
        IsRowAfter (b && closed fd) (object_named (table_in tables p) fd) (object_named (unwrap_or (if b && c then Some t else at_number tables p) []) fd)
    go false e c f = stays (object_named (table_in tables p) fd)
    go true e true f =
        let same : q ≡ p = grind (arith, nat_tests) in
        subst (λ n. IsRowAfter (closed fd) (object_named (table_in tables n) fd) (object_named t fd)) same (h fd)
    go true e false f =
        let same : q ≡ p = grind (arith, nat_tests) in
        let empty : object_named (table_in tables p) fd ≡ None = gone (at_number tables p) (ap (λ n. is_some (at_number tables n)) (sym same) ∙ f) in
        subst (λ r. IsRowAfter (closed fd) r r) (sym empty) (none (closed fd))

-- a row is closed

closed_there : (t : List (Option Obj)) (n : ℕ) → object_in (slice_get (close_row t n) n) ≡ None
closed_there t n = grind (arith, nat_tests, slice_get-slice_set t n n None)

pub close_one :
    (t : List (Option Obj)) (g fd : Fd) → IsRowAfter (fd.0 == g.0) (object_named t fd) (object_named (close_row t g.0) fd)
close_one t g fd = go (fd.0 == g.0) refl
  where
    go : (b : Bool) → (fd.0 == g.0) ≡ b → IsRowAfter b (object_named t fd) (object_named (close_row t g.0) fd)
    go true e =
        let place : g.0 ≡ fd.0 = grind (arith, nat_tests) in
        ap (λ n. object_in (slice_get (close_row t n) fd.0)) place ∙ closed_there t fd.0
    go false e =
        let stays : slice_get (close_row t g.0) fd.0 ≡ slice_get t fd.0 = slice_get-slice_set t g.0 fd.0 None ∙ grind (arith, nat_tests) in
        same (object_named t fd) (object_named (close_row t g.0) fd) (ap object_in stays)

-- those of passed descriptors that are released
pub release_some :
    (t : List (Option Obj)) (pass : List Pass) (fd : Fd) →
    IsRowAfter (list_any (releases fd) pass) (object_named t fd) (object_named (release_rows t pass) fd)
release_some t pass fd = go (list_any (releases fd) pass) refl
  where
    go : (b : Bool) → list_any (releases fd) pass ≡ b → IsRowAfter b (object_named t fd) (object_named (release_rows t pass) fd)
    go true e = object_named-released t pass fd e
    go false e = same (object_named t fd) (object_named (release_rows t pass) fd) (object_named-kept t pass fd e)

-- all of a table
pub close_all : (t : List (Option Obj)) (fd : Fd) → IsRowAfter true (object_named t fd) (object_named (close_table t) fd)
close_all t fd = ap object_in (slice_get-map free_row t fd.0) ∙ none (slice_get t fd.0)
  where
    none : (r : Option (Option Obj)) → object_in (option_map free_row r) ≡ None
    none None = refl
    none (Some r) = refl

-- the lowest free place is free

abbrev first_free : List (Option Obj) → ℕ
first_free t = position_or_len is_none t

first_within : (t : List (Option Obj)) → 0 < free_rows t → first_free t < length t
first_within [] h = absurd (omega arith)
first_within (None ∷ t) h = omega arith
first_within (Some o ∷ t) h = omega (arith, first_within t h)

first_none : (t : List (Option Obj)) → first_free t < length t → object_in (slice_get t (first_free t)) ≡ None
first_none [] h = absurd (omega arith)
first_none (None ∷ t) h = refl
first_none (Some o ∷ t) h =
    let e : 1 + first_free t ≡ suc (first_free t) = omega arith in
    rw e (first_none t (omega arith))

place_is : (t : List (Option Obj)) → first_free t < length t → free_place t ≡ first_free t
place_is t w = grind (arith, nat_tests)

place_free : (t : List (Option Obj)) → first_free t < length t → object_in (slice_get t (free_place t)) ≡ None
place_free t w = ap (λ n. object_in (slice_get t n)) (place_is t w) ∙ first_none t w

taken : (t : List (Option Obj)) (r : Option Obj) → is_none r ≡ false → first_free t < length t → free_rows (slice_set t (first_free t) r) + 1 ≡ free_rows t
taken t r s h =
    let e = sum_by-set (λ (row : Option Obj). cond (is_none row) 1 0) t (first_free t) r None h in
    let f = passes_at_first is_none t None h in
    let k = rw f at e in
    omega (arith, ap {B = ℕ} (λ b. cond b 1 0) s)

-- something comes into it

pub fill_place :
    (t : List (Option Obj)) (r : Option Obj) (fd : Fd) → first_free t < length t →
    IsRowAfter false (object_named t fd) (object_named (with_row t (free_place t) r) fd)
fill_place t r fd w = go (fd.0 == free_place t) refl
  where
    go : (b : Bool) → (fd.0 == free_place t) ≡ b → IsRowAfter false (object_named t fd) (object_named (with_row t (free_place t) r) fd)
    go true e =
        let place : free_place t ≡ fd.0 = grind (arith, nat_tests) in
        was_free (object_named t fd) (object_named (with_row t (free_place t) r) fd)
        (ap (λ n. object_in (slice_get t n)) (sym place) ∙ place_free t w)
    go false e =
        let stays : slice_get (with_row t (free_place t) r) fd.0 ≡ slice_get t fd.0 =
        slice_get-slice_set t (free_place t) fd.0 r ∙ grind (arith, nat_tests) in
        same (object_named t fd) (object_named (with_row t (free_place t) r) fd) (ap object_in stays)

pub fill_lowest :
    (t : List (Option Obj)) (r : Option Obj) (fd : Fd) → is_none (lowest_free t) ≡ false →
    IsRowAfter false (object_named t fd) (object_named (with_row t (free_place t) r) fd)
fill_lowest t r fd e = fill_place t r fd within
  where
    within : first_free t < length t
    within = grind (arith, nat_tests)

-- an open row that stays open stays so by a further change
pub then_stays : (r s u : Option Obj) → IsRowAfter false r s → IsRowAfter false s u → IsRowAfter false r u
then_stays None s u e f = tt
then_stays (Some o) s u e f = subst (λ z. IsRowAfter false z u) e f

pub fill_some :
    (t : List (Option Obj)) (os : List Obj) (fd : Fd) → length os ≤ free_rows t →
    IsRowAfter false (object_named t fd) (object_named (insert_rows t os) fd)
fill_some t [] fd h = stays (object_named t fd)
fill_some t (o ∷ os) fd h =
    then_stays (object_named t fd) (object_named (insert_row t o) fd) (object_named (insert_rows (insert_row t o) os) fd)
    (fill_place t (Some o) fd within)
    (fill_some (insert_row t o) os fd left)
  where
    within : first_free t < length t
    within = first_within t (omega (arith, h))

    left : length os ≤ free_rows (insert_row t o)
    left = omega (arith, h, ap (λ n. free_rows (slice_set t n (Some o)) + 1) (place_is t within) ∙ taken t (Some o) refl within)
