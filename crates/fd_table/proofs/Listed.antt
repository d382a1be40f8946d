-- What a table names, row by row, and what its rows are once each is closed.
use Rattle.std.proofs.Common.{◌≡◌, ℕ, ◌+◌, ◌<◌, List, [], ◌∷◌, ◌++◌, Option, Some, None, length, get_or, take, drop, sym, ap, ◌∙◌, append_assoc, arith}
use Rattle.std.proofs.lemmas.List.{append-nil, drop_all, length-map, take_all, take_more}
use Rattle.std.proofs.lemmas.List.Elements.{filter_map-append}
use Rattle.dk_base.specs.declared.object.Obj.{Obj}
use Rattle.spec_records.specs.Words.{close_table, free_row, objects_of, row_object}

objects_more :
    (t : List (Option Obj)) (i : ℕ) (row : Option Obj) → i < length t → get_or t i None ≡ row →
    objects_of (take (i + 1) t) ≡ objects_of (take i t) ++ objects_of (row ∷ [])
objects_more t i row h read =
    let none : Option Obj = None in
    ap objects_of (take_more t i none h)
    ∙ filter_map-append row_object (take i t) (get_or t i none ∷ [])
    ∙ ap (λ (r : Option Obj). objects_of (take i t) ++ objects_of (r ∷ [])) read

pub listed_one :
    (t : List (Option Obj)) (i : ℕ) (o : Obj) (before all : List Obj) → i < length t → get_or t i None ≡ Some o →
    all ≡ before ++ objects_of (take i t) → all ++ o ∷ [] ≡ before ++ objects_of (take (i + 1) t)
listed_one t i o before all h read is =
    ap (λ (os : List Obj). os ++ o ∷ []) is
    ∙ append_assoc before (objects_of (take i t)) (o ∷ [])
    ∙ ap (λ (os : List Obj). before ++ os) (sym (objects_more t i (Some o) h read))

pub listed_none :
    (t : List (Option Obj)) (i : ℕ) (before all : List Obj) → i < length t → get_or t i None ≡ None →
    all ≡ before ++ objects_of (take i t) → all ≡ before ++ objects_of (take (i + 1) t)
listed_none t i before all h read is =
    is ∙ ap (λ (os : List Obj). before ++ os) (sym (append-nil (objects_of (take i t))) ∙ sym (objects_more t i None h read))

-- closed rows that are written back over the table's own
pub closed_rows :
    (t new : List (Option Obj)) (n : ℕ) → new ≡ close_table t → n ≡ length t →
    take n (new ++ drop (length new) t) ≡ close_table t
closed_rows t new n is long =
    let same : length new ≡ length t = ap length is ∙ length-map t free_row in
    let none = drop_all (length new) t (omega arith) in
    rw none (rw append-nil (take_all n new (omega arith) ∙ is))
