-- Timers by their numbers and by their ids, in a list that is changed.
use Rattle.std.specs.Prelude.{ℕ, suc, ◌≡◌, ◌+◌, ◌++◌, ◌≤◌, ◌<◌, ◌==◌, ◌&&◌, List, [], ◌∷◌, Option, Bool, true, false, if◌then◌else◌, not, Some, None, count_by, filter, find}
use Rattle.std.proofs.Common.{cond, refl, sym, ap, ap₂, subst, ◌∙◌}
use native.Mathlib.Omega.{arith}
use Rattle.std.proofs.lemmas.Bool.Decides.{nat_tests}
use Rattle.std.proofs.lemmas.List.Recursion.{is_count_by}
use Rattle.spec_records.specs.declared.timer.Timer.{Timer}
use Rattle.spec_records.specs.Words.{IsAscending, change_first, is_timer, is_timer_of, timer_at, timer_number}
use Rattle.spec_records.proofs.NumberedLists.{ascending-filter, find-passes}
use Rattle.law_channels.specs.Timers.{timer_numbered}
use Rattle.law_runs.specs.Clock.{count_timers, identified, numbered}

-- the law's readers are the step's

pub eq_sym : (a b : ℕ) → (a == b) ≡ (b == a)
eq_sym a b = go (a == b) refl
  where
    go : (c : Bool) → (a == b) ≡ c → c ≡ (b == a)
    go true e = grind (arith, nat_tests)
    go false e = grind (arith, nat_tests)

pub identified_is : (ts : List Timer) (p id : ℕ) → identified p id ts ≡ timer_at ts p id
identified_is [] p id = refl
identified_is (t ∷ ts) p id =
    ap₂ (λ (b : Bool) o. if b then Some t else o) (ap₂ (λ (b c : Bool). b && c) (eq_sym t.process.0 p) (eq_sym t.id id)) (identified_is ts p id)

pub numbered_is : (n : ℕ) (ts : List Timer) → numbered n ts ≡ timer_numbered ts n
numbered_is n [] = refl
numbered_is n (t ∷ ts) = ap (λ o. if t.number == n then Some t else o) (numbered_is n ts)

pub counted_timers : (ts : List Timer) (p : ℕ) → count_timers p ts ≡ count_by (is_timer_of p) ts
counted_timers ts p = is_count_by (count_timers p) (is_timer_of p) refl (λ t rest. refl) ts

-- the timer of a number

module _ (n : ℕ) where
  pub numbered-above : (low made : ℕ) (ts : List Timer) → n ≤ low → IsAscending timer_number low made ts → numbered n ts ≡ None
  numbered-above low made [] l h = refl
  numbered-above low made (t ∷ ts) l h =
      let high : low < t.number = h.0 in
      let other : (t.number == n) ≡ false = grind (arith, nat_tests) in
      ap (λ (b : Bool). if b then Some t else numbered n ts) other ∙ numbered-above t.number made ts (omega arith) h.2

  pub numbered-past : (low made : ℕ) (ts : List Timer) → made < n → IsAscending timer_number low made ts → numbered n ts ≡ None
  numbered-past low made [] l h = refl
  numbered-past low made (t ∷ ts) l h =
      let high : t.number ≤ made = h.1 in
      let other : (t.number == n) ≡ false = grind (arith, nat_tests) in
      ap (λ (b : Bool). if b then Some t else numbered n ts) other ∙ numbered-past t.number made ts l h.2

  pub number_found : (ts : List Timer) (t : Timer) → numbered n ts ≡ Some t → t.number ≡ n
  number_found [] t e = absurd (cc e)
  number_found (u ∷ ts) t e = go (u.number == n) refl e (λ f. number_found ts t f)
    where
      go : (b : Bool) → (u.number == n) ≡ b → (if b then Some u else numbered n ts) ≡ Some t → (numbered n ts ≡ Some t → t.number ≡ n) → t.number ≡ n
      go true g f rest = let same : u ≡ t = cc in sym (ap (λ (y : Timer). y.number) same) ∙ grind (arith, nat_tests)
      go false g f rest = rest f

  pub numbered-bounds : (low made : ℕ) (ts : List Timer) (t : Timer) → IsAscending timer_number low made ts → numbered n ts ≡ Some t → (low < n) × (n ≤ made)
  numbered-bounds low made [] t h e = absurd (cc e)
  numbered-bounds low made (u ∷ ts) t h e = go (u.number == n) refl e (λ f. numbered-bounds u.number made ts t h.2 f)
    where
      go :
          (b : Bool) → (u.number == n) ≡ b → (if b then Some u else numbered n ts) ≡ Some t →
          (numbered n ts ≡ Some t → (u.number < n) × (n ≤ made)) → (low < n) × (n ≤ made)
      go true f g rest =
          let same : u.number ≡ n = grind (arith, nat_tests) in
          (subst (λ z. low < z) same h.0, subst (λ z. z ≤ made) same h.1)
      go false f g rest =
          let r : (u.number < n) × (n ≤ made) = rest g in
          (omega (arith, r.0, h.0), r.1)

  -- where it is kept
  abbrev pub kept : (Timer → Bool) → Option Timer → Option Timer
  kept keep None = None
  kept keep (Some t) = if keep t then Some t else None

  pub numbered-filter :
      (keep : Timer → Bool) (low made : ℕ) (ts : List Timer) → IsAscending timer_number low made ts →
      numbered n (filter keep ts) ≡ kept keep (numbered n ts)
  numbered-filter keep low made [] h = refl
  numbered-filter keep low made (t ∷ ts) h = go (t.number == n) refl (keep t) refl (numbered-filter keep t.number made ts h.2)
    where
      go :
          (b : Bool) → (t.number == n) ≡ b → (c : Bool) → keep t ≡ c → numbered n (filter keep ts) ≡ kept keep (numbered n ts) →
          numbered n (if c then t ∷ filter keep ts else filter keep ts) ≡ kept keep (if b then Some t else numbered n ts)
      go true e true f rest =
          ap (λ (b : Bool). if b then Some t else numbered n (filter keep ts)) e ∙ ap (λ (b : Bool). if b then Some t else None) (sym f)
      go true e false f rest =
          let same : t.number ≡ n = grind (arith, nat_tests) in
          numbered-above t.number made (filter keep ts) (omega arith) (ascending-filter timer_number keep ts t.number made h.2)
          ∙ ap (λ (b : Bool). if b then Some t else None) (sym f)
      go false e true f rest = ap (λ (b : Bool). if b then Some t else numbered n (filter keep ts)) e ∙ rest
      go false e false f rest = rest

  -- where one stands last
  pub numbered-push : (ts : List Timer) (t : Timer) → numbered n ts ≡ None → numbered n (ts ++ t ∷ []) ≡ (if t.number == n then Some t else None)
  numbered-push [] t e = refl
  numbered-push (u ∷ ts) t e = go (u.number == n) e (λ f. numbered-push ts t f)
    where
      go :
          (b : Bool) → (if b then Some u else numbered n ts) ≡ None →
          (numbered n ts ≡ None → numbered n (ts ++ t ∷ []) ≡ (if t.number == n then Some t else None)) →
          (if b then Some u else numbered n (ts ++ t ∷ [])) ≡ (if t.number == n then Some t else None)
      go true f rest = absurd (cc f)
      go false f rest = rest f

  pub numbered-other : (ts : List Timer) (t : Timer) → (t.number == n) ≡ false → numbered n (ts ++ t ∷ []) ≡ numbered n ts
  numbered-other [] t e = ap (λ (b : Bool). if b then Some t else None) e
  numbered-other (u ∷ ts) t e = ap (λ o. if u.number == n then Some u else o) (numbered-other ts t e)

-- what a test finds stands under its number
pub found_numbered :
    (test : Timer → Bool) (low made : ℕ) (ts : List Timer) (t : Timer) → IsAscending timer_number low made ts →
    find test ts ≡ Some t → numbered t.number ts ≡ Some t
found_numbered test low made [] t h e = absurd (cc e)
found_numbered test low made (u ∷ ts) t h e = go (test u) e (λ f. found_numbered test u.number made ts t h.2 f)
  where
    itself : (n : ℕ) → (n == n) ≡ true
    itself n = grind (arith, nat_tests)

    go : (b : Bool) → (if b then Some u else find test ts) ≡ Some t → (find test ts ≡ Some t → numbered t.number ts ≡ Some t) → numbered t.number (u ∷ ts) ≡ Some t
    go true f rest =
        let same : u ≡ t = cc in
        ap (λ (y : Timer). if u.number == y.number then Some u else numbered y.number ts) (sym same)
        ∙ ap (λ (b : Bool). if b then Some u else numbered u.number ts) (itself u.number)
        ∙ f
    go false f rest =
        let later : u.number < t.number = (numbered-bounds t.number u.number made ts t h.2 (rest f)).0 in
        let other : (u.number == t.number) ≡ false = grind (arith, nat_tests) in
        ap (λ (b : Bool). if b then Some u else numbered t.number ts) other ∙ rest f

-- where the first that meets a test is changed, and keeps its number
module _ (test : Timer → Bool) (f : Timer → Timer) (same : (t : Timer) → (f t).number ≡ t.number) where
  pub numbered-changed :
      (n low made : ℕ) (ts : List Timer) (t : Timer) → IsAscending timer_number low made ts → find test ts ≡ Some t →
      numbered n (change_first test f ts) ≡ (if t.number == n then Some (f t) else numbered n ts)
  numbered-changed n low made [] t h e = absurd (cc e)
  numbered-changed n low made (u ∷ ts) t h e =
      go (test u) refl e (λ g. numbered-changed n u.number made ts t h.2 g)
    where
      first : u ≡ t → numbered n (f u ∷ ts) ≡ (if t.number == n then Some (f t) else numbered n (u ∷ ts))
      first alike =
          ap (λ (k : ℕ). if k == n then Some (f u) else numbered n ts) (same u)
          ∙ by (u.number == n)
          ∙ ap (λ (y : Timer). if y.number == n then Some (f y) else numbered n (u ∷ ts)) alike
        where
          by : (b : Bool) → (if b then Some (f u) else numbered n ts) ≡ (if b then Some (f u) else (if b then Some u else numbered n ts))
          by true = refl
          by false = refl

      later :
          find test ts ≡ Some t → numbered n (change_first test f ts) ≡ (if t.number == n then Some (f t) else numbered n ts) →
          (if u.number == n then Some u else numbered n (change_first test f ts))
          ≡ (if t.number == n then Some (f t) else (if u.number == n then Some u else numbered n ts))
      later g rest = by (u.number == n) refl (t.number == n) refl
        where
          past : u.number < t.number
          past = (numbered-bounds t.number u.number made ts t h.2 (found_numbered test u.number made ts t h.2 g)).0

          by :
              (b : Bool) → (u.number == n) ≡ b → (c : Bool) → (t.number == n) ≡ c →
              (if b then Some u else numbered n (change_first test f ts))
              ≡ (if c then Some (f t) else (if b then Some u else numbered n ts))
          by true k true l = absurd (grind (arith, nat_tests, k, l, past))
          by true k false l = refl
          by false k true l = rest ∙ ap (λ (b : Bool). if b then Some (f t) else numbered n ts) l
          by false k false l = rest ∙ ap (λ (b : Bool). if b then Some (f t) else numbered n ts) l

      go :
          (b : Bool) → test u ≡ b → (if b then Some u else find test ts) ≡ Some t →
          (find test ts ≡ Some t → numbered n (change_first test f ts) ≡ (if t.number == n then Some (f t) else numbered n ts)) →
          numbered n (if b then f u ∷ ts else u ∷ change_first test f ts) ≡ (if t.number == n then Some (f t) else numbered n (u ∷ ts))
      go true k g rest = let alike : u ≡ t = cc in first alike
      go false k g rest = later g (rest g)
