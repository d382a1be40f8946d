-- What a new call, and another record of a call, do to a look-up by key.
use Rattle.std.proofs.lemmas.Bool.Decides.{nat_tests}
use Rattle.std.proofs.Common.{◌≡◌, ◌<◌, ◌≤◌, ◌+◌, arith, ◌≢◌, ℕ, Bool, true, List, [], ◌∷◌, ◌++◌, Some, None, find, refl, sym, ap, subst, inl, inr}
use Rattle.std.proofs.lemmas.Bool.{cases_eq}
use Rattle.spec_records.specs.declared.record.Call.{Call}
use Rattle.spec_records.specs.Words.{IsAscending, call_number}
use Rattle.spec_records.proofs.NumberedLists.{ascending-lower, ascending-push}
use Rattle.call_tree.specs.Words.{calls_in, look, with_call, without_key}
use Rattle.call_tree.specs.Index.{AreApart}
use Rattle.call_tree.proofs.Looks.{test_same, test_other}

-- a new call at the end

pub look_new : (es : List (ℕ × Call)) (k : ℕ) (r : Call) → look k es ≡ None → look k (es ++ (k, r) ∷ []) ≡ Some r
look_new [] k r h = grind (arith, nat_tests)
look_new (e ∷ es) k r h = grind (arith, nat_tests, look_new es k r)

pub look_old : (es : List (ℕ × Call)) (k : ℕ) (r : Call) (j : ℕ) → j ≢ k → look j (es ++ (k, r) ∷ []) ≡ look j es
look_old [] k r j n = grind (arith, nat_tests)
look_old (e ∷ es) k r j n = grind (arith, nat_tests, look_old es k r j n)

pub apart_new : (es : List (ℕ × Call)) (k : ℕ) (r : Call) → look k es ≡ None → AreApart es → AreApart (es ++ (k, r) ∷ [])
apart_new [] k r h a = (refl, tt)
apart_new (e ∷ es) k r h a = (grind (arith, nat_tests, look_old es k r e.0), apart_new es k r (grind (arith, nat_tests)) a.1)

-- another record

pub look_changed : (es : List (ℕ × Call)) (k : ℕ) (r s : Call) → look k es ≡ Some s → look k (with_call k r es) ≡ Some r
look_changed [] k r s h = absurd (cc)
look_changed (e ∷ es) k r s h = grind (arith, nat_tests, look_changed es k r s)

pub look_kept : (es : List (ℕ × Call)) (k : ℕ) (r : Call) (j : ℕ) → j ≢ k → look j (with_call k r es) ≡ look j es
look_kept [] k r j n = refl
look_kept (e ∷ es) k r j n = grind (arith, nat_tests, look_kept es k r j n)

pub apart_changed : (es : List (ℕ × Call)) (k : ℕ) (r : Call) → AreApart es → AreApart (with_call k r es)
apart_changed [] k r a = tt
apart_changed (e ∷ es) k r a = grind (arith, nat_tests, apart_changed es k r a.1, look_kept es k r e.0)

pub none_found : (p : Call → Bool) (es : List (ℕ × Call)) → find p (calls_in es) ≡ None → (k : ℕ) (r : Call) → look k es ≡ Some r → p r ≡ true → ⊥
none_found p [] h k r l t = cc
none_found p (e ∷ es) h k r l t =
    let ih : find p (calls_in es) ≡ None → look k es ≡ Some r → ⊥ = λ q m. none_found p es q k r m t in grind (arith, nat_tests, ih)

-- a call that leaves

pub look_gone : (es : List (ℕ × Call)) (k : ℕ) → AreApart es → look k (without_key k es) ≡ None
look_gone [] k a = refl
look_gone (e ∷ es) k a = grind (arith, nat_tests, look_gone es k a.1, a.0)

pub look_left : (es : List (ℕ × Call)) (k j : ℕ) → j ≢ k → look j (without_key k es) ≡ look j es
look_left [] k j n = refl
look_left (e ∷ es) k j n = grind (arith, nat_tests, look_left es k j n)

pub apart_left : (es : List (ℕ × Call)) (k : ℕ) → AreApart es → AreApart (without_key k es)
apart_left [] k a = tt
apart_left (e ∷ es) k a = grind (arith, nat_tests, apart_left es k a.1, look_left es k e.0)

-- the numbers go on rising

pub rising_changed : (es : List (ℕ × Call)) (low made k : ℕ) (r s : Call) → look k es ≡ Some r → s.number ≡ r.number → IsAscending call_number low made (calls_in es) → IsAscending call_number low made (calls_in (with_call k s es))
rising_changed [] low made k r s l e h = tt
rising_changed (x ∷ es) low made k r s l e h =
    let ih : look k es ≡ Some r → IsAscending call_number x.1.number made (calls_in (with_call k s es)) = λ m. rising_changed es x.1.number made k r s m e h.2 in
    elim (cases_eq x.0 k) [
      | inl z ↦ let same : s.number ≡ x.1.number = grind (arith, nat_tests) in rw (z, test_same k) (subst (λ n. (low < n) × (n ≤ made) × IsAscending call_number n made (calls_in es)) (sym same) h)
      | inr n ↦ let m : look k es ≡ Some r = grind (arith, nat_tests) in rw (test_other x.0 k n) (h.0, h.1, ih m)
    ]

pub rising_left : (es : List (ℕ × Call)) (low made k : ℕ) → IsAscending call_number low made (calls_in es) → IsAscending call_number low made (calls_in (without_key k es))
rising_left [] low made k h = tt
rising_left (x ∷ es) low made k h = grind (arith, nat_tests, rising_left es x.1.number made k h.2, ascending-lower call_number (calls_in es) low x.1.number made)

pub rising_new : (es : List (ℕ × Call)) (low made k : ℕ) (r : Call) → low ≤ made → r.number ≡ made + 1 → IsAscending call_number low made (calls_in es) → IsAscending call_number low r.number (calls_in (es ++ (k, r) ∷ []))
rising_new es low made k r le e h =
    subst (IsAscending call_number low r.number) (sym (calls_pushed es k r)) (ascending-push call_number (calls_in es) low made r le e h)
  where
    calls_pushed : (es : List (ℕ × Call)) (k : ℕ) (r : Call) → calls_in (es ++ (k, r) ∷ []) ≡ calls_in es ++ r ∷ []
    calls_pushed [] k r = refl
    calls_pushed (x ∷ es) k r = ap (λ rs. x.1 ∷ rs) (calls_pushed es k r)
