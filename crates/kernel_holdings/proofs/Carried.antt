-- How many objects are in transit in all.
use Rattle.std.proofs.Common.{◌≡◌, ℕ, ◌+◌, ◌-◌, ◌≤◌, Bool, true, cond, List, [], ◌∷◌, count_by, flat_map, length, refl, ap, ◌∙◌, arith}
use Rattle.std.proofs.lemmas.List.Sums.{sum_by-cons}
use Rattle.spec_kernel.specs.Types.{Call, Obj}
use Rattle.spec_kernel.specs.Words.{objects_in_call}
use Rattle.kernel_holdings.proofs.TransitCounts.{in_transit}

-- each object is one of them
pub each : Obj → Bool
each o = true

pub counted : (os : List Obj) → count_by each os ≡ length os
unfolding each
counted [] = refl
counted (o ∷ os) = sum_by-cons (λ x. cond (each x) 1 0) o os ∙ ap (λ n. 1 + n) (counted os) ∙ omega arith

module _ (n : ℕ) (rs after : List Call) (os : List Obj) (all : n ≡ length (flat_map objects_in_call rs)) where
  pub carried_more : in_transit each after ≡ in_transit each rs + count_by each os → n + length os ≡ length (flat_map objects_in_call after)
  carried_more e = omega (arith, all, e, counted os, counted (flat_map objects_in_call rs), counted (flat_map objects_in_call after))

  -- these are some of them
  pub carried_some : in_transit each after + count_by each os ≡ in_transit each rs → length os ≤ n
  carried_some e = omega (arith, all, e, counted os, counted (flat_map objects_in_call rs))

  pub carried_fewer : in_transit each after + count_by each os ≡ in_transit each rs → n - length os ≡ length (flat_map objects_in_call after)
  carried_fewer e = omega (arith, all, e, counted os, counted (flat_map objects_in_call rs), counted (flat_map objects_in_call after))

pub carried_same : (n : ℕ) (rs after : List Call) → n ≡ length (flat_map objects_in_call rs) → in_transit each after ≡ in_transit each rs → n ≡ length (flat_map objects_in_call after)
carried_same n rs after all e = omega (arith, all, e, counted (flat_map objects_in_call rs), counted (flat_map objects_in_call after))
