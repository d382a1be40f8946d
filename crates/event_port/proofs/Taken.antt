-- Events that are taken from the front of a queue, one after the other, and user events that are left.
use Rattle.std.proofs.Common.{◌≡◌, ℕ, zero, suc, ◌+◌, ◌≤◌, ◌++◌, List, [], ◌∷◌, Bool, true, false, Some, None, cond, count_by, drop, filter, if◌then◌else◌, refl, slice_get, take, ap, sym, ◌∙◌, arith}
use Rattle.std.proofs.lemmas.List.{append_assoc, map-append}
use Rattle.std.proofs.lemmas.List.Elements.{filter_map-append}
use Rattle.std.proofs.lemmas.List.Sums.{sum_by-cons}
use Rattle.dk_base.specs.declared.object.EventRec.{EventRec}
use Rattle.spec_records.specs.declared.port.Queued.{Queued}
use Rattle.spec_records.specs.Words.{association_of, associations_of, record_of, records_of}

pub first_taken : {X : Type 0} (qs : List X) (q : X) → slice_get qs 0 ≡ Some q → take 1 qs ≡ q ∷ []
first_taken [] q e = cc
first_taken (x ∷ xs) q e = cc

pub nothing_taken : {X : Type 0} (qs : List X) → slice_get qs 0 ≡ None → qs ≡ []
nothing_taken [] e = refl
nothing_taken (x ∷ xs) e = cc

taken_more : {X : Type 0} (qs : List X) (i : ℕ) → take i qs ++ take 1 (drop i qs) ≡ take (suc i) qs
taken_more [] zero = refl
taken_more [] (suc i) = refl
taken_more (x ∷ xs) zero = refl
taken_more (x ∷ xs) (suc i) = ap (λ zs. x ∷ zs) (taken_more xs i)

next_number : (i : ℕ) → suc i ≡ i + 1
next_number i = omega arith

pub records_more :
    (before : List EventRec) (qs : List Queued) (i : ℕ) →
    (before ++ records_of (take i qs)) ++ records_of (take 1 (drop i qs)) ≡ before ++ records_of (take (i + 1) qs)
records_more before qs i =
    append_assoc before (records_of (take i qs)) (records_of (take 1 (drop i qs)))
    ∙ ap (λ rs. before ++ rs) (sym (map-append record_of (take i qs) (take 1 (drop i qs))) ∙ ap records_of (taken_more qs i ∙ ap (λ n. take n qs) (next_number i)))

pub associations_more :
    (before : List ℕ) (qs : List Queued) (i : ℕ) →
    (before ++ associations_of (take i qs)) ++ associations_of (take 1 (drop i qs)) ≡ before ++ associations_of (take (i + 1) qs)
associations_more before qs i =
    append_assoc before (associations_of (take i qs)) (associations_of (take 1 (drop i qs)))
    ∙ ap (λ ns. before ++ ns) (sym (filter_map-append association_of (take i qs) (take 1 (drop i qs))) ∙ ap associations_of (taken_more qs i ∙ ap (λ n. take n qs) (next_number i)))

pub fewer_left : {X : Type 0} (count keep : X → Bool) (xs : List X) → count_by count (filter keep xs) ≤ count_by count xs
fewer_left count keep [] = omega arith
fewer_left {X} count keep (x ∷ xs) =
    rw (sum_by-cons (λ y. cond (count y) 1 0) x xs) (go (keep x) (fewer_left count keep xs))
  where
    go :
        (k : Bool) → count_by count (filter keep xs) ≤ count_by count xs →
        count_by count (if k then x ∷ filter keep xs else filter keep xs) ≤ cond (count x) 1 0 + count_by count xs
    go true h = rw (sum_by-cons (λ y. cond (count y) 1 0) x (filter keep xs)) (omega (arith, h))
    go false h = omega (arith, h)
