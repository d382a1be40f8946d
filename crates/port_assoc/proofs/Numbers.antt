-- The numbers of associations go up.
use Rattle.std.proofs.Common.{◌≡◌, ℕ, ◌+◌, ◌<◌, Bool, true, false, if◌then◌else◌, List, [], ◌∷◌, ◌++◌, refl, subst, arith}
use Rattle.spec_records.specs.declared.association.Association.{Association}
use Rattle.spec_records.specs.Words.{IsAscending, association_number, change_first, disarmed}
use Rattle.spec_records.proofs.NumberedLists.{ascending-change_first, ascending-lower, ascending-push}
use Rattle.port_assoc.specs.Lists.{without_first}

pub numbers_left :
    (test : Association → Bool) (xs : List Association) (low made : ℕ) → IsAscending association_number low made xs →
    IsAscending association_number low made (without_first test xs)
numbers_left test [] low made h = h
numbers_left test (x ∷ xs) low made h = go (test x) (numbers_left test xs x.number made h.2)
  where
    go :
        (b : Bool) → IsAscending association_number x.number made (without_first test xs) →
        IsAscending association_number low made (if b then xs else x ∷ without_first test xs)
    go true rest = let a : low < x.number = h.0 in ascending-lower association_number xs low x.number made (omega arith) h.2
    go false rest = (h.0, h.1, rest)

pub numbers_made :
    (xs : List Association) (made : ℕ) (a : Association) → a.number ≡ made + 1 → IsAscending association_number 0 made xs →
    IsAscending association_number 0 (made + 1) (xs ++ a ∷ [])
numbers_made xs made a e h = subst (λ n. IsAscending association_number 0 n (xs ++ a ∷ [])) e (ascending-push association_number xs 0 made a (omega arith) e h)

pub numbers_fired :
    (test : Association → Bool) (xs : List Association) (made : ℕ) → IsAscending association_number 0 made xs →
    IsAscending association_number 0 made (change_first test disarmed xs)
numbers_fired test xs made h = ascending-change_first association_number disarmed (λ x. refl) test xs 0 made h
