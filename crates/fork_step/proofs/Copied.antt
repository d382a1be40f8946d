-- A table whose first rows are another's, and whose other rows are free.
use Rattle.std.proofs.Common.{◌≡◌, ℕ, zero, suc, ◌<◌, ◌≤◌, List, [], ◌∷◌, ◌++◌, Option, Some, None, length, drop, refl, ap, arith}
use Rattle.std.proofs.Common.{slice_get, slice_set}
use Rattle.std.specs.Option.{option_to_list}
use Rattle.dk_base.specs.declared.object.Obj.{Obj}
use Rattle.spec_records.specs.Words.{object_in, objects_of}

-- the first n rows are those of the first table
abbrev pub copied : ℕ → List (Option Obj) → List (Option Obj) → List (Option Obj)
copied zero from to = to
copied (suc n) [] to = to
copied (suc n) from [] = []
copied (suc n) (row ∷ from) (other ∷ to) = row ∷ copied n from to

pub copied_length : (n : ℕ) (from to : List (Option Obj)) → length (copied n from to) ≡ length to
copied_length zero from to = refl
copied_length (suc n) [] to = refl
copied_length (suc n) (row ∷ from) [] = refl
copied_length (suc n) (row ∷ from) (other ∷ to) = ap suc (copied_length n from to)

-- the next row is free, as in a table that names nothing
free_in : (to : List (Option Obj)) (n : ℕ) → objects_of to ≡ [] → object_in (slice_get to n) ≡ None
free_in [] n e = refl
free_in (None ∷ to) zero e = refl
free_in (Some o ∷ to) n e = cc
free_in (None ∷ to) (suc n) e = free_in to n e

pub next_free : (n : ℕ) (from to : List (Option Obj)) → objects_of to ≡ [] → object_in (slice_get (copied n from to) n) ≡ None
next_free zero from to e = free_in to 0 e
next_free (suc n) [] to e = free_in to (suc n) e
next_free (suc n) (row ∷ from) [] e = refl
next_free (suc n) (row ∷ from) (None ∷ to) e = next_free n from to e
next_free (suc n) (row ∷ from) (Some o ∷ to) e = cc

-- one more row is copied
pub copied_next :
    (n : ℕ) (from to : List (Option Obj)) → n < length from → length to ≡ length from →
    slice_set (copied n from to) n (object_in (slice_get from n)) ≡ copied (suc n) from to
copied_next zero [] to h e = absurd (omega arith)
copied_next zero (row ∷ from) [] h e = absurd (omega arith)
copied_next zero (None ∷ from) (other ∷ to) h e = refl
copied_next zero (Some o ∷ from) (other ∷ to) h e = refl
copied_next (suc n) [] to h e = absurd (omega arith)
copied_next (suc n) (row ∷ from) [] h e = absurd (omega arith)
copied_next (suc n) (row ∷ from) (other ∷ to) h e = ap (λ rows. row ∷ rows) (copied_next n from to (omega arith) (omega arith))

-- all rows are copied
pub copied_all : (n : ℕ) (from to : List (Option Obj)) → length from ≤ n → length to ≡ length from → copied n from to ≡ from
copied_all zero [] [] h e = refl
copied_all zero [] (other ∷ to) h e = absurd (omega arith)
copied_all zero (row ∷ from) to h e = absurd (omega arith)
copied_all (suc n) [] [] h e = refl
copied_all (suc n) [] (other ∷ to) h e = absurd (omega arith)
copied_all (suc n) (row ∷ from) [] h e = absurd (omega arith)
copied_all (suc n) (row ∷ from) (other ∷ to) h e = ap (λ rows. row ∷ rows) (copied_all n from to (omega arith) (omega arith))

-- what the rest of a table names begins with what the next row does
pub rest_names :
    (n : ℕ) (from : List (Option Obj)) → n < length from →
    objects_of (drop n from) ≡ option_to_list (object_in (slice_get from n)) ++ objects_of (drop (suc n) from)
rest_names n [] h = absurd (omega arith)
rest_names zero (None ∷ from) h = refl
rest_names zero (Some o ∷ from) h = refl
rest_names (suc n) (row ∷ from) h = rest_names n from (omega arith)
