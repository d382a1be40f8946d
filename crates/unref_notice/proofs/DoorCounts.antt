-- The counts of doors as notices come and go.
use Rattle.std.proofs.Common.{◌≡◌, ℕ, zero, suc, ◌+◌, ◌-◌, ◌<◌, ◌≤◌, ◌==◌, ◌||◌, Bool, true, false, if◌then◌else◌, nat_lt, cond, List, [], ◌∷◌, ◌++◌, length, map, get_or, set, remove, count_by, refl, sym, ap, ap₂, ◌∙◌, arith}
use Rattle.std.proofs.lemmas.Bool.Decides.{nat_tests}
use Rattle.std.proofs.lemmas.List.{length-map, map-append}
use Rattle.std.proofs.lemmas.List.Sums.{count_by-le-length, sum_by-append, sum_by-cons}
use Rattle.std.specs.List.{list_any}
use Rattle.spec_records.specs.declared.record.Notice.{Notice}
use Rattle.spec_records.specs.Words.{is_notice_of}
use Rattle.unref_notice.specs.DoorCounts.{CountsDoors, door_in, notices_of}

abbrev one_if : Bool → ℕ
one_if b = if b then 1 else 0

counted : (d e : ℕ) (ds : List ℕ) → count_by (λ k. k == d) (e ∷ ds) ≡ one_if (e == d) + count_by (λ k. k == d) ds
counted d e ds = sum_by-cons (λ k. cond (k == d) 1 0) e ds

alone : (d e : ℕ) → count_by (λ k. k == d) (e ∷ []) ≡ one_if (e == d)
alone d e = counted d e [] ∙ go (e == d)
  where
    go : (b : Bool) → one_if b + 0 ≡ one_if b
    go true = refl
    go false = refl

pub counts_made :
    (old new : List (ℕ × ℕ)) (ns : List Notice) (x : Notice) → CountsDoors old (map door_in ns) →
    ((e : ℕ) → notices_of new e ≡ notices_of old e + one_if (x.door == e)) → CountsDoors new (map door_in (ns ++ x ∷ []))
counts_made old new ns x h more d =
    more d ∙ ap₂ (λ a b. a + b) (h d) (sym (alone d x.door)) ∙ sym (sum_by-append (λ k. cond (k == d) 1 0) (map door_in ns) (x.door ∷ []))
    ∙ ap (count_by (λ k. k == d)) (sym (map-append door_in ns (x ∷ [])))

removed_count :
    (d : ℕ) (ns : List Notice) (i : ℕ) (y : Notice) → i < length ns →
    count_by (λ k. k == d) (map door_in (remove ns i)) + one_if ((get_or ns i y).door == d) ≡ count_by (λ k. k == d) (map door_in ns)
removed_count d [] i y l = absurd (omega arith)
removed_count d (x ∷ ns) zero y l = let a = counted d x.door (map door_in ns) in omega (arith, a)
removed_count d (x ∷ ns) (suc i) y l =
    let a = counted d x.door (map door_in ns) in
    let b = counted d x.door (map door_in (remove ns i)) in
    let ih = removed_count d ns i y (omega arith) in omega (arith, a, b, ih)

pub counts_removed :
    (old new : List (ℕ × ℕ)) (ns : List Notice) (i : ℕ) (y : Notice) → i < length ns → CountsDoors old (map door_in ns) →
    ((e : ℕ) → notices_of new e ≡ notices_of old e - one_if ((get_or ns i y).door == e)) → CountsDoors new (map door_in (remove ns i))
counts_removed old new ns i y l h less d =
    let a = removed_count d ns i y l in
    let b = h d in
    let c = less d in omega (arith, a, b, c)

pub doors_set : (ns : List Notice) (i : ℕ) (y d : Notice) → y.door ≡ (get_or ns i d).door → map door_in (set ns i y) ≡ map door_in ns
doors_set [] i y d e = refl
doors_set (x ∷ ns) zero y d e = ap (λ k. k ∷ map door_in ns) e
doors_set (x ∷ ns) (suc i) y d e = ap (λ ks. x.door ∷ ks) (doors_set ns i y d e)

any_counted : (d : ℕ) (ns : List Notice) → nat_lt 0 (count_by (λ k. k == d) (map door_in ns)) ≡ list_any (is_notice_of d) ns
any_counted d [] = refl
any_counted d (x ∷ ns) = ap (nat_lt 0) (counted d x.door (map door_in ns)) ∙ go (x.door == d) (any_counted d ns)
  where
    go :
        (b : Bool) → nat_lt 0 (count_by (λ k. k == d) (map door_in ns)) ≡ list_any (is_notice_of d) ns →
        nat_lt 0 (one_if b + count_by (λ k. k == d) (map door_in ns)) ≡ (b || list_any (is_notice_of d) ns)
    go true ih = grind (arith, nat_tests)
    go false ih = let z : one_if false + count_by (λ k. k == d) (map door_in ns) ≡ count_by (λ k. k == d) (map door_in ns) = omega arith in ap (nat_lt 0) z ∙ ih

pub has_counted : (entries : List (ℕ × ℕ)) (ns : List Notice) (d : ℕ) → CountsDoors entries (map door_in ns) → nat_lt 0 (notices_of entries d) ≡ list_any (is_notice_of d) ns
has_counted entries ns d h = ap (nat_lt 0) (h d) ∙ any_counted d ns

pub few_counted : (entries : List (ℕ × ℕ)) (ns : List Notice) (d : ℕ) → CountsDoors entries (map door_in ns) → notices_of entries d ≤ length ns
few_counted entries ns d h =
    let a = h d in
    let b = count_by-le-length (λ k. k == d) (map door_in ns) in
    let c : length (map door_in ns) ≡ length ns = length-map ns door_in in omega (arith, a, b, c)
