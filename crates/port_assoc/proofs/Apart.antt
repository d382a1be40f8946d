-- Associations whose keys differ: what is found by any test is the first of its key.
use Rattle.std.proofs.Common.{◌≡◌, Bool, true, false, if◌then◌else◌, List, [], ◌∷◌, None, Some, find, filter, not, refl, sym, ap, ◌∙◌, arith}
use Rattle.std.specs.List.{cons_option}
use Rattle.std.proofs.lemmas.Bool.Decides.{nat_tests}
use Rattle.spec_records.specs.declared.association.AssocKey.{AssocKey}
use Rattle.spec_records.specs.declared.association.Association.{Association}
use Rattle.spec_records.specs.Words.{association_at, change_first, has_key, has_other_key, is_same_association_key}
use Rattle.port_assoc.proofs.Lists.{none-of, others-alone}
use Rattle.port_assoc.specs.Lists.{without_first}
use Rattle.port_assoc.specs.Table.{HaveDistinctKeys}

pub same_itself : (k : AssocKey) → is_same_association_key k k ≡ true
same_itself k = grind (arith, nat_tests)

flipped : (k l : AssocKey) → is_same_association_key k l ≡ is_same_association_key l k
flipped k l = grind (arith, nat_tests)

none_passes : {X : Type 0} (q t : X → Bool) (xs : List X) (a : X) → find q xs ≡ None → find t xs ≡ Some a → q a ≡ false
none_passes q t [] a none found = cc
none_passes q t (x ∷ xs) a none found = go (q x) (t x) refl none found (none_passes q t xs a)
  where
    go :
        (b c : Bool) → q x ≡ b → (if b then Some x else find q xs) ≡ None → (if c then Some x else find t xs) ≡ Some a →
        (find q xs ≡ None → find t xs ≡ Some a → q a ≡ false) → q a ≡ false
    go true c e none found ih = cc
    go false true e none found ih = let same : x ≡ a = cc in ap q (sym same) ∙ e
    go false false e none found ih = ih none found

pub one_key : (k l : AssocKey) → is_same_association_key k l ≡ true → k ≡ l
one_key k l h =
    let a : k.port ≡ l.port = grind (arith, nat_tests) in
    let b : k.process.0 ≡ l.process.0 = grind (arith, nat_tests) in
    let c : k.fd.0 ≡ l.fd.0 = grind (arith, nat_tests) in
    λ i. record { port = a i; process = record { 0 = b i }; fd = record { 0 = c i } }

-- with keys that differ, one that leaves is all of its key
pub all_of_key : (key : AssocKey) (xs : List Association) → HaveDistinctKeys xs → without_first (has_key key) xs ≡ filter (has_other_key key) xs
all_of_key key [] h = refl
all_of_key key (x ∷ xs) h = go (has_key key x) refl (all_of_key key xs h.1)
  where
    go :
        (b : Bool) → has_key key x ≡ b → without_first (has_key key) xs ≡ filter (has_other_key key) xs →
        (if b then xs else x ∷ without_first (has_key key) xs) ≡ (if not b then x ∷ filter (has_other_key key) xs else filter (has_other_key key) xs)
    go true e ih = sym (others-alone (has_key key) xs (ap (λ k. find (has_key k) xs) (one_key key x.key e) ∙ h.0))
    go false e ih = ap (λ ys. x ∷ ys) ih

-- and there is one of it at most
pub alone_of_key : (key : AssocKey) (xs : List Association) → HaveDistinctKeys xs → filter (has_key key) xs ≡ cons_option (association_at xs key) []
alone_of_key key [] h = refl
alone_of_key key (x ∷ xs) h = go (has_key key x) refl (alone_of_key key xs h.1)
  where
    go :
        (b : Bool) → has_key key x ≡ b → filter (has_key key) xs ≡ cons_option (association_at xs key) [] →
        (if b then x ∷ filter (has_key key) xs else filter (has_key key) xs) ≡ cons_option (if b then Some x else association_at xs key) []
    go true e ih = ap (λ ys. x ∷ ys) (none-of (has_key key) xs (ap (λ k. find (has_key k) xs) (one_key key x.key e) ∙ h.0))
    go false e ih = ih

module _ (test : Association → Bool) where
  apart_from : (x : Association) (xs : List Association) (a : Association) → find (has_key x.key) xs ≡ None → find test xs ≡ Some a → has_key a.key x ≡ false
  apart_from x xs a none found = flipped a.key x.key ∙ none_passes (has_key x.key) test xs a none found

  pub left_by_key : (xs : List Association) (a : Association) → HaveDistinctKeys xs → find test xs ≡ Some a → without_first (has_key a.key) xs ≡ without_first test xs
  left_by_key [] a h found = refl
  left_by_key (x ∷ xs) a h found = go (test x) found (λ f. left_by_key xs a h.1 f) (λ f. apart_from x xs a h.0 f)
    where
      go :
          (b : Bool) → (if b then Some x else find test xs) ≡ Some a →
          (find test xs ≡ Some a → without_first (has_key a.key) xs ≡ without_first test xs) →
          (find test xs ≡ Some a → has_key a.key x ≡ false) →
          (if has_key a.key x then xs else x ∷ without_first (has_key a.key) xs) ≡ (if b then xs else x ∷ without_first test xs)
      go true f ih apart =
          let same : x ≡ a = cc in
          ap (λ b. if b then xs else x ∷ without_first (has_key a.key) xs) (ap (λ y. has_key a.key y) same ∙ same_itself a.key)
      go false f ih apart = ap (λ b. if b then xs else x ∷ without_first (has_key a.key) xs) (apart f) ∙ ap (λ ys. x ∷ ys) (ih f)

  pub found_by_key : (xs : List Association) (a : Association) → HaveDistinctKeys xs → find test xs ≡ Some a → find (has_key a.key) xs ≡ Some a
  found_by_key [] a h found = found
  found_by_key (x ∷ xs) a h found = go (test x) found (λ f. found_by_key xs a h.1 f) (λ f. apart_from x xs a h.0 f)
    where
      go :
          (b : Bool) → (if b then Some x else find test xs) ≡ Some a →
          (find test xs ≡ Some a → find (has_key a.key) xs ≡ Some a) →
          (find test xs ≡ Some a → has_key a.key x ≡ false) →
          (if has_key a.key x then Some x else find (has_key a.key) xs) ≡ Some a
      go true f ih apart =
          let same : x ≡ a = cc in
          ap (λ b. if b then Some x else find (has_key a.key) xs) (ap (λ y. has_key a.key y) same ∙ same_itself a.key) ∙ ap Some same
      go false f ih apart = ap (λ b. if b then Some x else find (has_key a.key) xs) (apart f) ∙ ih f

  pub changed_by_key : (d : Association → Association) (xs : List Association) (a : Association) → HaveDistinctKeys xs → find test xs ≡ Some a → change_first (has_key a.key) d xs ≡ change_first test d xs
  changed_by_key d [] a h found = refl
  changed_by_key d (x ∷ xs) a h found = go (test x) found (λ f. changed_by_key d xs a h.1 f) (λ f. apart_from x xs a h.0 f)
    where
      go :
          (b : Bool) → (if b then Some x else find test xs) ≡ Some a →
          (find test xs ≡ Some a → change_first (has_key a.key) d xs ≡ change_first test d xs) →
          (find test xs ≡ Some a → has_key a.key x ≡ false) →
          (if has_key a.key x then d x ∷ xs else x ∷ change_first (has_key a.key) d xs) ≡ (if b then d x ∷ xs else x ∷ change_first test d xs)
      go true f ih apart =
          let same : x ≡ a = cc in
          ap (λ b. if b then d x ∷ xs else x ∷ change_first (has_key a.key) d xs) (ap (λ y. has_key a.key y) same ∙ same_itself a.key)
      go false f ih apart = ap (λ b. if b then d x ∷ xs else x ∷ change_first (has_key a.key) d xs) (apart f) ∙ ap (λ ys. x ∷ ys) (ih f)
