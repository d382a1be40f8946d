-- A thread that parks is not bound to the door that is lost.
use Rattle.std.proofs.Common.{◌≡◌, ℕ, zero, suc, Bool, true, false, List, [], ◌∷◌, Some, IsSome, if◌then◌else◌, find, slice_get, true≢false, refl, sym, ap, ◌∙◌, arith}
use Rattle.std.proofs.lemmas.Bool.Decides.{nat_tests}
use Rattle.dk_base.specs.declared.number.Tid.{Tid}
use Rattle.spec_records.specs.declared.pool.TheConstants.{LOST_DOOR}
use Rattle.spec_records.specs.declared.record.CallStage.TheVariants as stage
use Rattle.spec_records.specs.Words.{is_given_as}
use Rattle.spec_records.proofs.NumberedLists.{find-passes}
use Rattle.spec_kernel.specs.Types.{Call, CallStage}
use Rattle.spec_kernel.specs.Words.{State, bound_of, has_invalid_door, is_bound_to_invalid}
use Rattle.law_calls.proofs.Backing.{some_call}
use Rattle.kernel_store.specs.Stored.{ArePlaced}

-- that door is not valid
pub lost_not_valid : (m : State) (t : ℕ) → has_invalid_door m t ≡ false → bound_of m t ≡ Some LOST_DOOR → ⊥
lost_not_valid m t e f = absurd (true≢false (lost ∙ ap (is_bound_to_invalid m) (sym f) ∙ e))
  where
    lost : true ≡ is_bound_to_invalid m (Some LOST_DOOR)
    lost = refl

-- a thread that was given a call is not bound to it

found_at : (p : Call → Bool) (rs : List Call) (r : Call) → find p rs ≡ Some r → (i : ℕ) × (slice_get rs i ≡ Some r)
found_at p [] r e = cc
found_at p (x ∷ xs) r e = go (p x) (found_at p xs r) e
  where
    go : (b : Bool) → (find p xs ≡ Some r → (i : ℕ) × (slice_get xs i ≡ Some r)) → (if b then Some x else find p xs) ≡ Some r → (i : ℕ) × (slice_get (x ∷ xs) i ≡ Some r)
    go true rest f = (zero, f)
    go false rest f = let k = rest f in (suc k.0, k.1)

given_to : (c t : ℕ) (r : Call) → is_given_as c t r ≡ true → (u : Tid) × (r.stage ≡ stage.Given u) × (u.0 ≡ t)
given_to c t r e = go r.stage refl e
  where
    go : (s : CallStage) → r.stage ≡ s → is_given_as c t r ≡ true → (u : Tid) × (r.stage ≡ stage.Given u) × (u.0 ≡ t)
    go (stage.Given u) f g = (u, f, grind (arith, nat_tests, f, g))
    go _ f g = absurd (grind (arith, nat_tests, f, g))

pub given_not_lost : (m : State) (c t : ℕ) → ArePlaced m → IsSome (find (is_given_as c t) m.call_tree.calls) → bound_of m t ≡ Some LOST_DOOR → ⊥
given_not_lost m c t placed there lost =
    let x = some_call _ there in
    let at = found_at (is_given_as c t) m.call_tree.calls x.0 x.1 in
    let to = given_to c t x.0 (find-passes (is_given_as c t) m.call_tree.calls x.0 x.1) in
    placed.given_not_lost at.0 x.0 to.0 at.1 to.1 (ap (bound_of m) to.2 ∙ lost)
