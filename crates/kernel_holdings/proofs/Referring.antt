-- The references of an object are those in descriptors, those of names, and those in transit.
use Rattle.std.proofs.Common.{◌≡◌, ◌+◌, Bool, cond, count_by, List, [], ◌∷◌, ◌++◌, Option, map, flat_map, ap, ◌∙◌}
use Rattle.std.proofs.lemmas.List.Sums.{length-filter, sum_by-append}
use Rattle.spec_records.specs.Words.{count_object, is_object, objects_of}
use Rattle.spec_kernel.specs.Types.{Call, Name, Obj}
use Rattle.spec_kernel.specs.Words.{named_object, objects_in_call}
use Rattle.kernel_holdings.specs.Words.{references_to}

pub count_by-append : (p : Obj → Bool) (xs ys : List Obj) → count_by p (xs ++ ys) ≡ count_by p xs + count_by p ys
count_by-append p xs ys = sum_by-append (λ x. cond (p x) 1 0) xs ys

pub count_object-append : (o : Obj) (xs ys : List Obj) → count_object o (xs ++ ys) ≡ count_object o xs + count_object o ys
count_object-append o xs ys = count_by-append (is_object o) xs ys

pub count_object-cons : (o x : Obj) (xs : List Obj) → count_object o (x ∷ xs) ≡ count_object o (x ∷ []) + count_object o xs
count_object-cons o x xs = count_object-append o (x ∷ []) xs

pub references_to-parts :
    (tables : List (List (Option Obj))) (names : List Name) (calls : List Call) (o : Obj) →
    references_to tables names calls o
    ≡ count_object o (flat_map objects_of tables) + count_object o (map named_object names) + count_object o (flat_map objects_in_call calls)
references_to-parts tables names calls o =
    let rows = flat_map objects_of tables in
    let named = map named_object names in
    let passed = flat_map objects_in_call calls in
    length-filter (is_object o) (rows ++ named ++ passed)
    ∙ count_object-append o (rows ++ named) passed
    ∙ ap (λ n. n + count_object o passed) (count_object-append o rows named)
