-- What holds of each call of a list, as one of them changes.
use Rattle.std.proofs.Common.{◌≡◌, ◌<◌, ℕ, Bool, true, false, List, [], ◌∷◌, ◌++◌, Some, if◌then◌else◌, filter, find, map, refl, arith}
use Rattle.std.proofs.lemmas.Bool.Decides.{nat_tests}
use Rattle.std.specs.List.{AllByRecursion}
use Rattle.spec_records.specs.Words.{IsAscending, call_number, change_first}
use Rattle.spec_kernel.specs.Types.{Call}
use Rattle.call_tree.specs.Words.{is_call}

module _ (P : Call → Type 0) where
  pub all_push : (rs : List Call) (r : Call) → AllByRecursion P rs → P r → AllByRecursion P (rs ++ r ∷ [])
  all_push [] r h k = (k, tt)
  all_push (x ∷ rs) r h k = (h.0, all_push rs r h.1 k)

  -- what a test finds
  pub all_found : (test : Call → Bool) (rs : List Call) (x : Call) → AllByRecursion P rs → find test rs ≡ Some x → P x
  all_found test [] x h e = cc
  all_found test (r ∷ rs) x h e = go (test r) e (all_found test rs x h.1)
    where
      go : (b : Bool) → (if b then Some r else find test rs) ≡ Some x → (find test rs ≡ Some x → P x) → P x
      go true f ih = let q : r ≡ x = cc in rw (← q) h.0
      go false f ih = ih f

  pub all_filter : (keep : Call → Bool) (rs : List Call) → AllByRecursion (λ r. keep r ≡ true → P r) rs → AllByRecursion P (filter keep rs)
  all_filter keep [] h = tt
  all_filter keep (r ∷ rs) h = go (keep r) h.0 (all_filter keep rs h.1)
    where
      go : (b : Bool) → (b ≡ true → P r) → AllByRecursion P (filter keep rs) → AllByRecursion P (if b then r ∷ filter keep rs else filter keep rs)
      go true k ih = (k refl, ih)
      go false k ih = ih

module _ (P Q : Call → Type 0) where
  pub all_map : (f : Call → Call) → ((r : Call) → P r → Q (f r)) → (rs : List Call) → AllByRecursion P rs → AllByRecursion Q (map f rs)
  all_map f goes [] h = tt
  all_map f goes (r ∷ rs) h = (goes r h.0, all_map f goes rs h.1)

  pub all_goes : ((r : Call) → P r → Q r) → (rs : List Call) → AllByRecursion P rs → AllByRecursion Q rs
  all_goes goes [] h = tt
  all_goes goes (r ∷ rs) h = (goes r h.0, all_goes goes rs h.1)

  pub all_both : (rs : List Call) → AllByRecursion P rs → AllByRecursion Q rs → AllByRecursion (λ r. P r × Q r) rs
  all_both [] h k = tt
  all_both (r ∷ rs) h k = ((h.0, k.0), all_both rs h.1 k.1)

-- each call has a number above this one
all_above : (rs : List Call) (low made : ℕ) → IsAscending call_number low made rs → AllByRecursion (λ r. low < r.number) rs
all_above [] low made up = tt
all_above (r ∷ rs) low made up =
    (up.0, all_goes (λ x. r.number < x.number) (λ x. low < x.number) (λ x l. let a : low < r.number = up.0 in omega arith) rs (all_above rs r.number made up.2))

-- each call is found by its number
pub all_numbered : (rs : List Call) (low made : ℕ) → IsAscending call_number low made rs → AllByRecursion (λ r. find (is_call r.number) rs ≡ Some r) rs
all_numbered [] low made up = tt
all_numbered (r ∷ rs) low made up = (
  grind (arith, nat_tests),
  all_goes (λ x. (r.number < x.number) × (find (is_call x.number) rs ≡ Some x)) (λ x. find (is_call x.number) (r ∷ rs) ≡ Some x)
      (λ x h. let l = h.0 in let e = h.1 in grind (arith, nat_tests, l, e)) rs
      (all_both (λ x. r.number < x.number) (λ x. find (is_call x.number) rs ≡ Some x) rs (all_above rs r.number made up.2) (all_numbered rs r.number made up.2)),
)

below : (test : Call → Bool) (x : Call) (rs : List Call) (low made : ℕ) → IsAscending call_number low made rs → find test rs ≡ Some x → low < x.number
below test x [] low made up e = cc
below test x (r ∷ rs) low made up e = go (test r) e (below test x rs r.number made up.2)
  where
    go : (b : Bool) → (if b then Some r else find test rs) ≡ Some x → (find test rs ≡ Some x → r.number < x.number) → low < x.number
    go true f ih = let q : r ≡ x = cc in let a : low < r.number = up.0 in rw (← q) a
    go false f ih = let a : low < r.number = up.0 in let b : r.number < x.number = ih f in omega arith

-- The first call that meets a test changes. All others have other numbers.
module _ (P Q : Call → Type 0) (test : Call → Bool) (change : Call → Call) (x : Call) (here : Q (change x)) (others : (r : Call) → P r → (r.number ≡ x.number → ⊥) → Q r) where
  after : (rs : List Call) → AllByRecursion (λ r. x.number < r.number) rs → AllByRecursion P rs → AllByRecursion Q rs
  after [] l h = tt
  after (r ∷ rs) l h = (others r h.0 (λ e. let a : x.number < r.number = l.0 in absurd (omega (arith, a, e))), after rs l.1 h.1)

  pub all_changed : (rs : List Call) (low made : ℕ) → IsAscending call_number low made rs → find test rs ≡ Some x → AllByRecursion P rs → AllByRecursion Q (change_first test change rs)
  all_changed [] low made up e h = cc
  all_changed (r ∷ rs) low made up e h = go (test r) e (λ f. all_changed rs r.number made up.2 f h.1)
    where
      go :
          (b : Bool) → (if b then Some r else find test rs) ≡ Some x → (find test rs ≡ Some x → AllByRecursion Q (change_first test change rs)) →
          AllByRecursion Q (if b then change r ∷ rs else r ∷ change_first test change rs)
      go true f ih = let q : r ≡ x = cc in (rw q here, after rs (rw (← q) (all_above rs r.number made up.2)) h.1)
      go false f ih =
          let b : r.number < x.number = below test x rs r.number made up.2 f in
          (others r h.0 (λ e. absurd (omega (arith, b, e))), ih f)
