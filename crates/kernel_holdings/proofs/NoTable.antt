-- A number that no table has: nothing is taken out there, and nothing is installed.
use Rattle.std.proofs.Common.{◌≡◌, ℕ, zero, suc, ◌-◌, ◌==◌, not, true, false, List, [], ◌∷◌, ◌++◌, Option, None, if◌then◌else◌, nat_le, length, unwrap_or, slice_get, slice_set, refl, sym, ap, ◌∙◌, arith, append-nil}
use Rattle.std.proofs.lemmas.Bool.Decides.{nat_tests}
use Rattle.spec_kernel.specs.Types.{Obj, Pass}
use Rattle.dk_base.specs.ByNumber.{at_number}
use Rattle.spec_records.specs.Words.{free_rows, insert_rows, is_bad_pass, new_descriptors, objects_passed, table_in, with_table}

set_nowhere : {X : Type 0} (xs : List X) (i : ℕ) (x : X) → slice_get xs i ≡ None → slice_set xs i x ≡ xs
set_nowhere [] i x h = refl
set_nowhere (y ∷ ys) zero x h = cc
set_nowhere (y ∷ ys) (suc i) x h = ap (λ zs. y ∷ zs) (set_nowhere ys i x h)

-- no table is changed under such a number
pub none_changed : (tables : List (List (Option Obj))) (p : ℕ) (table : List (Option Obj)) → at_number tables p ≡ None → with_table tables p table ≡ tables
none_changed tables p table h =
    elim (p == 0) as (λ b. (if b then None else slice_get tables (p - 1)) ≡ None → (if b then tables else slice_set tables (p - 1) table) ≡ tables)
    [ true ↦ λ _. refl | false ↦ λ k. set_nowhere tables (p - 1) table k ] h

pub no_table : (tables : List (List (Option Obj))) (p : ℕ) → at_number tables p ≡ None → table_in tables p ≡ []
no_table tables p h = ap (λ o. unwrap_or o []) h

-- out of no table

none_passed : (pass : List Pass) → objects_passed [] pass ≡ []
none_passed [] = refl
none_passed (x ∷ xs) = none_passed xs

pub nothing_taken : (tables : List (List (Option Obj))) (p : ℕ) (pass : List Pass) (into : List Obj) → at_number tables p ≡ None → into ≡ into ++ objects_passed (table_in tables p) pass
nothing_taken tables p pass into h =
    sym (append-nil into) ∙ ap (λ os. into ++ os) (sym (ap (λ t. objects_passed t pass) (no_table tables p h) ∙ none_passed pass))

all_bad : (pass : List Pass) → not (length pass == 0) ≡ is_bad_pass [] pass
all_bad [] = refl
all_bad (x ∷ xs) = grind (arith, nat_tests)

pub none_open : (tables : List (List (Option Obj))) (p : ℕ) (pass : List Pass) → at_number tables p ≡ None → not (length pass == 0) ≡ is_bad_pass (table_in tables p) pass
none_open tables p pass h = all_bad pass ∙ sym (ap (λ t. is_bad_pass t pass) (no_table tables p h))

-- into no table

no_objects : (objects : List Obj) → nat_le (length objects) 0 ≡ true → objects ≡ []
no_objects [] h = refl
no_objects (o ∷ os) h = absurd (grind (arith, nat_tests))

pub none_to_install :
    (tables : List (List (Option Obj))) (p : ℕ) (objects : List Obj) → at_number tables p ≡ None →
    nat_le (length objects) (free_rows (table_in tables p)) ≡ true → objects ≡ []
none_to_install tables p objects h room =
    no_objects objects (sym (ap (λ t. nat_le (length objects) (free_rows t)) (no_table tables p h)) ∙ room)

pub none_installed :
    (tables : List (List (Option Obj))) (p : ℕ) (objects : List Obj) → at_number tables p ≡ None →
    nat_le (length objects) (free_rows (table_in tables p)) ≡ true → with_table tables p (insert_rows (table_in tables p) objects) ≡ tables
none_installed tables p objects h room = none_changed tables p (insert_rows (table_in tables p) objects) h

pub none_numbered :
    (tables : List (List (Option Obj))) (p : ℕ) (objects : List Obj) → at_number tables p ≡ None →
    nat_le (length objects) (free_rows (table_in tables p)) ≡ true → new_descriptors (table_in tables p) objects ≡ []
none_numbered tables p objects h room = ap (new_descriptors (table_in tables p)) (none_to_install tables p objects h room)
