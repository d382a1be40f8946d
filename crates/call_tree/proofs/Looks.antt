-- Searches of the calls in their order, by what their keys find.
use Rattle.std.proofs.Common.{◌≡◌, ◌≢◌, ◌==◌, ℕ, Bool, true, false, List, [], ◌∷◌, Some, None, find, refl, arith}
use Rattle.std.proofs.lemmas.Bool.{cases_eq}
use Rattle.std.proofs.lemmas.Bool.Decides.{nat_tests}
use Rattle.spec_records.specs.declared.record.Call.{Call}
use Rattle.spec_records.specs.Words.{change_first}
use Rattle.call_tree.specs.Words.{calls_in, look, with_call}
use Rattle.call_tree.specs.Index.{AreApart}

pub test_same : (k : ℕ) → (k == k) ≡ true
test_same k = grind (arith, nat_tests)

pub test_other : (x k : ℕ) → x ≢ k → (x == k) ≡ false
test_other x k n = grind (arith, nat_tests)

pub same_some : (r s : Call) → Some r ≡ Some s → r ≡ s
same_some r s e = cc

pub look_here : (e : ℕ × Call) (es : List (ℕ × Call)) → look e.0 (e ∷ es) ≡ Some e.1
look_here e es = grind (arith, nat_tests)

-- what the rest finds, all find
pub past : (e : ℕ × Call) (es : List (ℕ × Call)) → look e.0 es ≡ None → (k : ℕ) (r : Call) → look k es ≡ Some r → look k (e ∷ es) ≡ Some r
past e es a k r h = grind (arith, nat_tests, cases_eq e.0 k)

module _ (p : Call → Bool) where
  pub find_no : (es : List (ℕ × Call)) → AreApart es → ((k : ℕ) (r : Call) → look k es ≡ Some r → p r ≡ true → ⊥) → find p (calls_in es) ≡ None
  find_no [] a h = refl
  find_no (e ∷ es) a h =
      let ih = find_no es a.1 (λ k r l. h k r (past e es a.0 k r l)) in
      let here = h e.0 e.1 (look_here e es) in grind (arith, ih, here)

  pub find_by : (es : List (ℕ × Call)) (k0 : ℕ) (r0 : Call) → AreApart es → ((k : ℕ) (r : Call) → look k es ≡ Some r → p r ≡ true → k ≡ k0) → look k0 es ≡ Some r0 → p r0 ≡ true → find p (calls_in es) ≡ Some r0
  find_by [] k0 r0 a h l t = absurd (cc)
  find_by (e ∷ es) k0 r0 a h l t =
      let ih : look k0 es ≡ Some r0 → find p (calls_in es) ≡ Some r0 = λ m. find_by es k0 r0 a.1 (λ k r q. h k r (past e es a.0 k r q)) m t in
      let here = h e.0 e.1 (look_here e es) in grind (arith, nat_tests, cases_eq e.0 k0, ih, here)

  pub change_by : (change : Call → Call) (es : List (ℕ × Call)) (k0 : ℕ) (r0 : Call) → AreApart es → ((k : ℕ) (r : Call) → look k es ≡ Some r → p r ≡ true → k ≡ k0) → look k0 es ≡ Some r0 → p r0 ≡ true → change_first p change (calls_in es) ≡ calls_in (with_call k0 (change r0) es)
  change_by change [] k0 r0 a h l t = absurd (cc)
  change_by change (e ∷ es) k0 r0 a h l t =
      let ih : look k0 es ≡ Some r0 → change_first p change (calls_in es) ≡ calls_in (with_call k0 (change r0) es) = λ m. change_by change es k0 r0 a.1 (λ k r q. h k r (past e es a.0 k r q)) m t in
      let here = h e.0 e.1 (look_here e es) in grind (arith, nat_tests, cases_eq e.0 k0, ih, here)
