-- Calls in a list that are left one at a time.
use Rattle.std.proofs.lemmas.Bool.Decides.{nat_tests}
use Rattle.std.proofs.Common.{IsSome, ◌&&◌, ◌==◌, ◌≤◌, ◌≡◌, ◌<◌, ℕ, Bool, true, false, List, [], ◌∷◌, ◌++◌, Some, None, find, filter, map, refl, sym, ap, ap₂, ◌∙◌, arith}
use Rattle.spec_records.specs.declared.record.Call.{Call}
use Rattle.spec_records.specs.declared.record.CallStage.{CallStage}
use Rattle.spec_records.proofs.NumberedLists.{ascending-lower}
use Rattle.spec_records.specs.Words.{IsAscending, call_number, change_first, is_live_call}
use Rattle.spec_records.proofs.Places.{change_first-none}
use Rattle.call_tree.specs.Words.{is_call}
use Rattle.call_tree.specs.LiveCalls.{AreLive}
use Rattle.call_tree.proofs.Looks.{test_same, test_other}

-- each call has a property
abbrev pub Each : (Call → Type 0) → List Call → Type 0
Each P [] = Unit {0}
Each P (r ∷ rs) = P r × Each P rs

-- one call at most passes
abbrev pub Lone : (Call → Bool) → List Call → Type 0
Lone q [] = Unit {0}
Lone q (r ∷ rs) = (q r ≡ true → Each (λ x. q x ≡ false) rs) × Lone q rs

pub each_map : {P Q : Call → Type 0} → ((r : Call) → P r → Q r) → (rs : List Call) → Each P rs → Each Q rs
each_map f [] h = tt
each_map f (r ∷ rs) h = (f r h.0, each_map f rs h.1)

pub each_both : (P Q : Call → Type 0) (rs : List Call) → Each P rs → Each Q rs → Each (λ r. P r × Q r) rs
each_both P Q [] h k = tt
each_both P Q (r ∷ rs) h k = ((h.0, k.0), each_both P Q rs h.1 k.1)

-- in order of number each call is found by its number
pub each_found : (low made : ℕ) (rs : List Call) → IsAscending call_number low made rs → Each (λ r. (find (is_call r.number) rs ≡ Some r) × (low < r.number)) rs
each_found low made [] h = tt
each_found low made (x ∷ rs) h =
    ((rw (test_same x.number) refl, h.0), each_map (past x low h.0) rs (each_found x.number made rs h.2))
  where
    past : (x : Call) (low : ℕ) → low < x.number → (r : Call) → (find (is_call r.number) rs ≡ Some r) × (x.number < r.number) → (find (is_call r.number) (x ∷ rs) ≡ Some r) × (low < r.number)
    past x low less r w =
        let n : x.number ≡ r.number → ⊥ = λ e. omega (arith, e, w.1) in
        (rw (test_other x.number r.number n) w.0, omega (arith, less, w.1))

pub lone_by :
    {P : Call → Type 0} (q : Call → Bool) (rs : List Call) (low made : ℕ) → IsAscending call_number low made rs → Each P rs →
    ((r x : Call) → P r → P x → q r ≡ true → q x ≡ true → r.number ≡ x.number) → Lone q rs
lone_by q [] low made h e one = tt
lone_by {P} q (r ∷ rs) low made h e one =
    (λ t. each_map (fails t) rs (each_both P (λ x. (find (is_call x.number) rs ≡ Some x) × (r.number < x.number)) rs e.1 (each_found r.number made rs h.2)), lone_by q rs r.number made h.2 e.1 one)
  where
    fails : q r ≡ true → (x : Call) → P x × ((find (is_call x.number) rs ≡ Some x) × (r.number < x.number)) → q x ≡ false
    fails t x w = by_test (q x) refl
      where
        by_test : (b : Bool) → q x ≡ b → q x ≡ false
        by_test true z = absurd (omega (arith, one r x e.0 w.0 t z, w.1.1))
        by_test false z = z

pub live_twice : (rs : List Call) → filter is_live_call (filter is_live_call rs) ≡ filter is_live_call rs
live_twice [] = refl
live_twice (r ∷ rs) = grind (arith, live_twice rs)

live_cons : (r : Call) (rs : List Call) → filter is_live_call (r ∷ rs) ≡ filter is_live_call (r ∷ []) ++ filter is_live_call rs
live_cons r rs = grind arith

module _ (p : Call → Bool) (f : Call → Call) where
  -- the live ones of some calls, of which the first that passes is changed
  abbrev pub after : List Call → List Call
  after rs = filter is_live_call (change_first p f (filter is_live_call rs))

  after_one : (x : Call) (ys : List Call) → find p (filter is_live_call ys) ≡ None → after (x ∷ ys) ≡ after (x ∷ []) ++ filter is_live_call ys
  after_one x ys h = let none = change_first-none p f (filter is_live_call ys) h in grind (arith, none, live_twice ys)

  after_past : (x : Call) (ys : List Call) → p x ≡ false → after (x ∷ ys) ≡ filter is_live_call (x ∷ []) ++ after ys
  after_past x ys e = grind (arith, e)

  module _ {P : Call → Type 0} (q : Call → Bool) (g g' : Call → Call)
      (passes : (r : Call) → P r → p (g r) ≡ true → q r ≡ true) (same : (r : Call) → P r → q r ≡ false → g' r ≡ g r)
      (one : (r : Call) → P r → q r ≡ true → after (g r ∷ []) ≡ filter is_live_call (g' r ∷ [])) where
    fails : (r : Call) → P r → q r ≡ false → p (g r) ≡ false
    fails r h e = let pass = passes r h in grind (arith, pass)

    none_after : (rs : List Call) → Each P rs → Each (λ x. q x ≡ false) rs → find p (filter is_live_call (map g rs)) ≡ None
    none_after [] h e = refl
    none_after (r ∷ rs) h e = grind (arith, fails r h.0 e.0, none_after rs h.1 e.1)

    same_after : (rs : List Call) → Each P rs → Each (λ x. q x ≡ false) rs → map g' rs ≡ map g rs
    same_after [] h e = refl
    same_after (r ∷ rs) h e = ap₂ (λ x xs. x ∷ xs) (same r h.0 e.0) (same_after rs h.1 e.1)

    pub stepped : (rs : List Call) → Each P rs → Lone q rs → after (map g rs) ≡ filter is_live_call (map g' rs)
    stepped [] h l = refl
    stepped (r ∷ rs) h l = by_test (q r) refl (stepped rs h.1 l.1)
      where
        by_test : (b : Bool) → q r ≡ b → after (map g rs) ≡ filter is_live_call (map g' rs) → after (g r ∷ map g rs) ≡ filter is_live_call (g' r ∷ map g' rs)
        by_test true e ih =
            after_one (g r) (map g rs) (none_after rs h.1 (l.0 e))
            ∙ ap₂ (λ xs ys. xs ++ filter is_live_call ys) (one r h.0 e) (sym (same_after rs h.1 (l.0 e)))
            ∙ sym (live_cons (g' r) (map g' rs))
        by_test false e ih =
            after_past (g r) (map g rs) (fails r h.0 e)
            ∙ ap₂ (λ xs ys. xs ++ ys) (ap (λ x. filter is_live_call (x ∷ [])) (sym (same r h.0 e))) ih
            ∙ sym (live_cons (g' r) (map g' rs))

-- a change that leaves calls live
pub live_change : (p : Call → Bool) (f : Call → Call) → ((r : Call) → is_live_call (f r) ≡ true) → (rs : List Call) → AreLive rs → AreLive (change_first p f rs)
live_change p f h [] a = tt
live_change p f h (r ∷ rs) a = grind (arith, h r, live_change p f h rs a.1)

pub live_kept : (rs : List Call) → AreLive (filter is_live_call rs)
live_kept [] = tt
live_kept (r ∷ rs) = grind (arith, live_kept rs)

-- the first call of a number is the one at such a stage, where one of this number is
module _ (q : CallStage → Bool) (c : ℕ) where
  abbrev pub is_at : Call → Bool
  is_at r = (r.number == c) && q r.stage

  no_second : (made x : ℕ) (rs : List Call) → x ≡ c → IsAscending call_number x made rs → IsSome (find is_at rs) → ⊥
  no_second made x [] e up h = cc
  no_second made x (y ∷ ys) e up h =
      let less : x ≤ y.number = omega (arith, up.0) in
      let ih : IsSome (find is_at ys) → ⊥ = λ k. no_second made x ys e (ascending-lower call_number ys x y.number made less up.2) k in
      grind (arith, nat_tests, ih, up.0)

  pub number_first : (f : Call → Call) (low made : ℕ) (rs : List Call) → IsAscending call_number low made rs → IsSome (find is_at rs) → change_first (is_call c) f rs ≡ change_first is_at f rs
  number_first f low made [] up h = refl
  number_first f low made (r ∷ rs) up h =
      let ih : IsSome (find is_at rs) → change_first (is_call c) f rs ≡ change_first is_at f rs = λ k. number_first f r.number made rs up.2 k in
      let alone : r.number ≡ c → IsSome (find is_at rs) → ⊥ = λ e k. no_second made r.number rs e up.2 k in
      grind (arith, nat_tests, ih, alone)

  pub number_found : (low made : ℕ) (rs : List Call) → IsAscending call_number low made rs → IsSome (find is_at rs) → find (is_call c) rs ≡ find is_at rs
  number_found low made [] up h = refl
  number_found low made (r ∷ rs) up h =
      let ih : IsSome (find is_at rs) → find (is_call c) rs ≡ find is_at rs = λ k. number_found r.number made rs up.2 k in
      let alone : r.number ≡ c → IsSome (find is_at rs) → ⊥ = λ e k. no_second made r.number rs e up.2 k in
      grind (arith, nat_tests, ih, alone)
