-- Lists of which some items are kept: a test that only kept items meet sees no difference.
use Rattle.std.proofs.Common.{◌≡◌, Bool, false, List, [], ◌∷◌, ◌++◌, length, map, filter, find, count_by, refl, sym, ap, ◌∙◌, arith}
use Rattle.std.specs.List.{list_any}
use Rattle.std.proofs.lemmas.List.Sums.{length-filter}
use Rattle.std.proofs.lemmas.List.Elements.{filter-append}
use Rattle.spec_records.specs.Lists.{change_first}

pub kept-kept : {X : Type 0} (keep : X → Bool) (xs : List X) → filter keep (filter keep xs) ≡ filter keep xs
kept-kept keep [] = refl
kept-kept keep (x ∷ xs) = grind (arith, kept-kept keep xs)

module _ {X : Type 0} (keep test : X → Bool) (only : (x : X) → keep x ≡ false → test x ≡ false) where
  pub find-kept : (xs : List X) → find test (filter keep xs) ≡ find test xs
  find-kept [] = refl
  find-kept (x ∷ xs) = grind (arith, find-kept xs, only x)

  pub filter-kept : (xs : List X) → filter test (filter keep xs) ≡ filter test xs
  filter-kept [] = refl
  filter-kept (x ∷ xs) = grind (arith, filter-kept xs, only x)

  pub count_by-kept : (xs : List X) → count_by test (filter keep xs) ≡ count_by test xs
  count_by-kept xs = sym (length-filter test (filter keep xs)) ∙ ap length (filter-kept xs) ∙ length-filter test xs

  pub any-kept : (xs : List X) → list_any test (filter keep xs) ≡ list_any test xs
  any-kept [] = refl
  any-kept (x ∷ xs) = grind (arith, any-kept xs, only x)

  pub change_first-kept :
      (change : X → X) (xs : List X) → filter keep (change_first test change (filter keep xs)) ≡ filter keep (change_first test change xs)
  change_first-kept change [] = refl
  change_first-kept change (x ∷ xs) = grind (arith, change_first-kept change xs, only x, kept-kept keep xs)

pub append-kept : {X : Type 0} (keep : X → Bool) (xs ys : List X) → filter keep (filter keep xs ++ ys) ≡ filter keep (xs ++ ys)
append-kept keep xs ys =
    filter-append keep (filter keep xs) ys
    ∙ ap (λ zs. zs ++ filter keep ys) (kept-kept keep xs)
    ∙ sym (filter-append keep xs ys)

-- a change of each item that brings none back
pub map-kept :
    {X : Type 0} (keep later : X → Bool) (change : X → X) → ((x : X) → keep x ≡ false → later (change x) ≡ false) → (xs : List X) →
    filter later (map change (filter keep xs)) ≡ filter later (map change xs)
map-kept keep later change stays [] = refl
map-kept keep later change stays (x ∷ xs) = grind (arith, map-kept keep later change stays xs, stays x)
