-- The associations of each descriptor of a process, counted, as some end, or one is made or fires.
use Rattle.std.proofs.Common.{◌≡◌, ℕ, ◌+◌, ◌-◌, ◌<◌, ◌≤◌, Bool, true, false, cond, if◌then◌else◌, List, [], ◌∷◌, ◌++◌, Option, None, Some, find, filter, length, unwrap_or, refl, sym, ap, ◌∙◌, arith}
use Rattle.std.proofs.lemmas.Bool.Decides.{nat_tests}
use Rattle.std.proofs.lemmas.Map.Entries.{lookup-filter-keys}
use Rattle.std.specs.Map.{lookup}
use Rattle.dk_base.specs.declared.number.Fd.{Fd}
use Rattle.spec_records.specs.declared.association.AssocKey.{AssocKey}
use Rattle.spec_records.specs.declared.association.Association.{Association}
use Rattle.spec_records.specs.Words.{IsAscending, association_at, association_number, change_first, disarmed, has_key, is_of_other_process, is_of_row}
use Rattle.port_assoc.specs.declared.key.Row.{Row}
use Rattle.port_assoc.specs.Keys.{row_at, same_row}
use Rattle.port_assoc.specs.Lists.{without_first}
use Rattle.port_assoc.specs.Rows.{RowCounts, count_at, is_in_row, is_row_of_other_process}
use Rattle.port_assoc.specs.Value.{AreCounted}

-- in any list

module _ {X : Type 0} (p : X → Bool) where
  first_in : (b : Bool) (x : X) (ys : List X) → length (if b then x ∷ ys else ys) ≡ length ys + (if b then 1 else 0)
  first_in true x ys = omega arith
  first_in false x ys = omega arith

  one_left :
      (q : X → Bool) (xs : List X) (a : X) → find q xs ≡ Some a →
      length (filter p xs) ≡ length (filter p (without_first q xs)) + (if p a then 1 else 0)
  one_left q [] a found = cc
  one_left q (x ∷ xs) a found = go (q x) refl found (one_left q xs a)
    where
      go :
          (b : Bool) → q x ≡ b → (if b then Some x else find q xs) ≡ Some a →
          (find q xs ≡ Some a → length (filter p xs) ≡ length (filter p (without_first q xs)) + (if p a then 1 else 0)) →
          length (filter p (x ∷ xs)) ≡ length (filter p (if b then xs else x ∷ without_first q xs)) + (if p a then 1 else 0)
      go true e f ih = let same : x ≡ a = cc in first_in (p x) x (filter p xs) ∙ ap (λ y. length (filter p xs) + (if p y then 1 else 0)) same
      go false e f ih = let rest = ih f in grind (arith, rest)

  one_more : (xs : List X) (a : X) → length (filter p (xs ++ a ∷ [])) ≡ length (filter p xs) + (if p a then 1 else 0)
  one_more [] a = grind arith
  one_more (x ∷ xs) a = let rest = one_more xs a in grind (arith, rest)

  as_many : (q : X → Bool) (d : X → X) → ((x : X) → p (d x) ≡ p x) → (xs : List X) → length (filter p (change_first q d xs)) ≡ length (filter p xs)
  as_many q d same [] = refl
  as_many q d same (x ∷ xs) = grind (arith, as_many q d same xs, same x)

  no_more : (xs : List X) → length (filter p xs) ≤ length xs
  no_more [] = omega arith
  no_more (x ∷ xs) = let rest = no_more xs in grind (arith, rest)

  none_counted : (xs : List X) → 0 ≡ length (filter p xs) → find p xs ≡ None
  none_counted [] h = refl
  none_counted (x ∷ xs) h = go (p x) h (none_counted xs)
    where
      go :
          (b : Bool) → 0 ≡ length (if b then x ∷ filter p xs else filter p xs) → (0 ≡ length (filter p xs) → find p xs ≡ None) →
          (if b then Some x else find p xs) ≡ None
      go true k ih = absurd (omega (arith, k))
      go false k ih = ih k

numbers_few : (xs : List Association) (low made : ℕ) → low ≤ made → IsAscending association_number low made xs → low + length xs ≤ made
numbers_few [] low made l h = omega (arith, l)
numbers_few (x ∷ xs) low made l h =
    let a : low < x.number = h.0 in
    let rest = numbers_few xs x.number made h.1 h.2 in omega (arith, a, rest)

-- no descriptor has more than were made
pub few_counted :
    (xs : List Association) (counts : RowCounts) (made : ℕ) (r : Row) → AreCounted xs counts → IsAscending association_number 0 made xs →
    count_at counts r ≤ made
few_counted xs counts made r counted up =
    let here = counted r in
    let fewer = no_more (is_in_row r) xs in
    let all = numbers_few xs 0 made (omega arith) up in omega (arith, here, fewer, all)

abbrev pub row_of : Association → Row
row_of a = row_at a.key.process.0 a.key.fd

-- a descriptor that is counted as often as none
pub none_there :
    (xs : List Association) (counts : RowCounts) (p : ℕ) (fd : Fd) → AreCounted xs counts → 0 ≡ count_at counts (row_at p fd) →
    find (is_of_row p fd) xs ≡ None
none_there xs counts p fd counted none = none_counted (is_of_row p fd) xs (none ∙ counted (row_at p fd))

-- one ends
pub left_counted :
    (xs : List Association) (old new : RowCounts) (key : AssocKey) (a : Association) → association_at xs key ≡ Some a → AreCounted xs old →
    ((r : Row) → count_at new r ≡ count_at old r - (if same_row (row_of a) r then 1 else 0)) →
    AreCounted (without_first (has_key key) xs) new
left_counted xs old new key a found counted fewer r =
    go (is_in_row r a) (count_at new r) (count_at old r) (length (filter (is_in_row r) (without_first (has_key key) xs))) (fewer r)
    (counted r ∙ one_left (is_in_row r) (has_key key) xs a found)
  where
    go : (b : Bool) (n o l : ℕ) → n ≡ o - (if b then 1 else 0) → o ≡ l + (if b then 1 else 0) → n ≡ l
    go true n o l e f = omega (arith, e, f)
    go false n o l e f = omega (arith, e, f)

-- one is made
pub made_counted :
    (xs : List Association) (old new : RowCounts) (a : Association) → AreCounted xs old →
    ((r : Row) → count_at new r ≡ count_at old r + (if same_row (row_of a) r then 1 else 0)) → AreCounted (xs ++ a ∷ []) new
made_counted xs old new a counted more r =
    more r ∙ ap (λ n. n + (if is_in_row r a then 1 else 0)) (counted r) ∙ sym (one_more (is_in_row r) xs a)

-- one fires
pub fired_counted : (test : Association → Bool) (xs : List Association) (counts : RowCounts) → AreCounted xs counts → AreCounted (change_first test disarmed xs) counts
fired_counted test xs counts counted r = counted r ∙ sym (as_many (is_in_row r) test disarmed (λ x. refl) xs)

-- a process ends

others_counted :
    (p : ℕ) (r : Row) (xs : List Association) →
    (if is_row_of_other_process p r then length (filter (is_in_row r) xs) else 0) ≡ length (filter (is_in_row r) (filter (is_of_other_process p) xs))
others_counted p r [] = go (is_row_of_other_process p r) 0 refl
  where
    go : (b : Bool) (n : ℕ) → n ≡ 0 → (if b then n else 0) ≡ n
    go true n e = refl
    go false n e = sym e
others_counted p r (x ∷ xs) = let rest = others_counted p r xs in grind (arith, nat_tests, rest)

pub process_counted :
    (p : ℕ) (xs : List Association) (old new : RowCounts) → AreCounted xs old →
    ((r : Row) → count_at new r ≡ (if is_row_of_other_process p r then count_at old r else 0)) → AreCounted (filter (is_of_other_process p) xs) new
process_counted p xs old new counted ended r =
    ended r ∙ ap (λ n. if is_row_of_other_process p r then n else 0) (counted r) ∙ others_counted p r xs

-- the counts that are kept then

pub others_kept :
    (p : ℕ) (counts : RowCounts) (r : Row) →
    count_at (filter (λ e. is_row_of_other_process p e.0) counts) r ≡ (if is_row_of_other_process p r then count_at counts r else 0)
others_kept p counts r =
    ap (λ o. unwrap_or o 0) (lookup-filter-keys (same_row r) (is_row_of_other_process p) (is_row_of_other_process p r) (λ k e. alike k e) counts)
    ∙ go (is_row_of_other_process p r) (lookup (same_row r) counts)
  where
    alike : (k : Row) → same_row r k ≡ true → is_row_of_other_process p k ≡ is_row_of_other_process p r
    alike k e = let same : k.process ≡ r.process = grind (arith, nat_tests) in ap (λ n. is_row_of_other_process p (record { process = n; fd = k.fd })) same

    go : (b : Bool) (o : Option ℕ) → unwrap_or (cond b o None) 0 ≡ (if b then unwrap_or o 0 else 0)
    go true o = refl
    go false o = refl
