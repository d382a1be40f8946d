-- Associations in order of number, and where a number stands among them.
use Rattle.std.proofs.Common.{◌≡◌, ℕ, zero, suc, ◌<◌, ◌≤◌, nat_lt, not, Bool, true, false, if◌then◌else◌, List, [], ◌∷◌, Option, None, Some, find, filter, get_or, length, slice_get, refl, sym, ap, ◌∙◌, arith}
use Rattle.std.proofs.lemmas.Bool.Decides.{nat_tests}
use Rattle.std.specs.List.Sorted.{IsPartitionPoint, IsPartitionedBy}
use Rattle.spec_records.specs.declared.association.Association.{Association}
use Rattle.spec_records.specs.Words.{IsAscending, association_number, has_number, has_other_number}
use Rattle.port_assoc.specs.declared.key.Key.{Key}
use Rattle.port_assoc.specs.declared.watch.Watch.{Watch}
use Rattle.port_assoc.specs.Lists.{without_first}
use Rattle.port_assoc.specs.Table.{association_in, associations_in, is_entry_below}
use Rattle.port_assoc.proofs.Lists.{others-alone}

-- those of smaller numbers stand first

above :
    (es : List (Key × Watch)) (low made i : ℕ) (d : Key × Watch) → IsAscending association_number low made (associations_in es) → i < length es →
    low < (get_or es i d).1.number
above [] low made i d h l = absurd (omega arith)
above (e ∷ es) low made zero d h l = h.0
above (e ∷ es) low made (suc i) d h l = omega (arith, h.0, above es e.1.number made i d h.2 (omega arith))

rises :
    (es : List (Key × Watch)) (low made i j : ℕ) (d : Key × Watch) → IsAscending association_number low made (associations_in es) → i ≤ j → j < length es →
    (get_or es i d).1.number ≤ (get_or es j d).1.number
rises [] low made i j d h l m = absurd (omega arith)
rises (e ∷ es) low made zero zero d h l m = omega arith
rises (e ∷ es) low made (suc i) zero d h l m = absurd (omega arith)
rises (e ∷ es) low made zero (suc j) d h l m = omega (arith, above es e.1.number made j d h.2 (omega arith))
rises (e ∷ es) low made (suc i) (suc j) d h l m = rises es e.1.number made i j d h.2 (omega arith) (omega arith)

less_first : (x y n : ℕ) → x ≤ y → nat_lt y n ≡ true → nat_lt x n ≡ true
less_first x y n l h = grind (arith, nat_tests)

pub parted : (n : ℕ) (es : List (Key × Watch)) (made : ℕ) → IsAscending association_number 0 made (associations_in es) → IsPartitionedBy (is_entry_below n) es
parted n es made h i j d l m = less_first _ _ n (rises es 0 made i j d h l m)

-- what stands after those of smaller numbers is the one of the number, or none is

none_above : (n : ℕ) (xs : List Association) (low made : ℕ) → n ≤ low → IsAscending association_number low made xs → find (has_number n) xs ≡ None
none_above n [] low made l h = refl
none_above n (x ∷ xs) low made l h =
    let past : low < x.number = h.0 in
    let rest = none_above n xs x.number made (omega arith) h.2 in
    grind (arith, nat_tests, past, l, rest)

abbrev pub only : ℕ → Option Association → Option Association
only n None = None
only n (Some a) = if has_number n a then Some a else None

pub at_point :
    (n : ℕ) (es : List (Key × Watch)) (low made i : ℕ) → IsAscending association_number low made (associations_in es) →
    IsPartitionPoint (λ e. is_entry_below n e ≡ true) (λ e. is_entry_below n e ≡ false) es i →
    find (has_number n) (associations_in es) ≡ only n (slice_get (associations_in es) i)
at_point n [] low made i h point = refl
at_point n (e ∷ es) low made zero h point = ap (λ o. if has_number n (association_in e) then Some (association_in e) else o) rest
  where
    least : (k : ℕ) → nat_lt k n ≡ false → n ≤ k
    least k f = grind (arith, nat_tests)

    rest : find (has_number n) (associations_in es) ≡ None
    rest = none_above n (associations_in es) e.1.number made (least e.1.number (point.1 0 e (omega arith) (omega arith))) h.2
at_point n (e ∷ es) low made (suc i) h point =
    ap (λ b. if b then Some (association_in e) else find (has_number n) (associations_in es)) (differs e.1.number (point.0 0 e (omega arith) (omega arith)))
    ∙ at_point n es e.1.number made i h.2 (λ k d l m. point.0 (suc k) d (omega arith) (omega arith), λ k d l m. point.1 (suc k) d (omega arith) (omega arith))
  where
    differs : (k : ℕ) → nat_lt k n ≡ true → has_number n (association_in e) ≡ false
    differs k f = grind (arith, nat_tests)

-- one that leaves is all of its number
pub all_of_number :
    (n : ℕ) (xs : List Association) (low made : ℕ) → IsAscending association_number low made xs →
    without_first (has_number n) xs ≡ filter (has_other_number n) xs
all_of_number n [] low made h = refl
all_of_number n (x ∷ xs) low made h = go (has_number n x) refl (all_of_number n xs x.number made h.2)
  where
    go :
        (b : Bool) → has_number n x ≡ b → without_first (has_number n) xs ≡ filter (has_other_number n) xs →
        (if b then xs else x ∷ without_first (has_number n) xs) ≡ (if not b then x ∷ filter (has_other_number n) xs else filter (has_other_number n) xs)
    go true e ih =
        let same : n ≤ x.number = grind (arith, nat_tests) in
        sym (others-alone (has_number n) xs (none_above n xs x.number made same h.2))
    go false e ih = ap (λ ys. x ∷ ys) ih
