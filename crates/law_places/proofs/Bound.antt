-- A thread is bound to a door that is not valid exactly where the step's test says so.
use Rattle.std.specs.Prelude.{ℕ, ◌≡◌, Option, Bool, true, false, Some, None, not}
use Rattle.std.specs.Bool.{Decides}
use Rattle.std.proofs.Common.{refl, sym, ap, ◌∙◌}
use native.Mathlib.Omega.{arith}
use Rattle.spec_kernel.specs.Words.{State, bound_of, has_invalid_door, is_bound_to_invalid, is_valid}
use Rattle.law_places.specs.Places.{IsBoundToInvalid, IsBoundToNoInvalid}

not_true : (b : Bool) → not b ≡ true → b ≡ false
not_true b e = grind arith

not_false : (b : Bool) → not b ≡ false → b ≡ true
not_false b e = grind arith

pub invalid_decides : (m : State) (t : ℕ) → Decides (has_invalid_door m t) (IsBoundToInvalid m t)
invalid_decides m t = (λ e. go (bound_of m t) refl e, λ h. ap (is_bound_to_invalid m) h.bound ∙ ap not h.not_valid)
  where
    go : (o : Option ℕ) → bound_of m t ≡ o → is_bound_to_invalid m o ≡ true → IsBoundToInvalid m t
    go None f e = absurd (cc e)
    go (Some d) f e = record { door = d; bound = f; not_valid = not_true (is_valid m d) e }

pub none_invalid : (m : State) (t : ℕ) → has_invalid_door m t ≡ false → IsBoundToNoInvalid m t
none_invalid m t e d f = not_false (is_valid m d) (ap (is_bound_to_invalid m) (sym f) ∙ e)

pub no_invalid : (m : State) (t : ℕ) → IsBoundToNoInvalid m t → has_invalid_door m t ≡ false
no_invalid m t h = go (bound_of m t) refl
  where
    go : (o : Option ℕ) → bound_of m t ≡ o → is_bound_to_invalid m o ≡ false
    go None f = refl
    go (Some d) f = ap not (h d f)
