-- The law's count of moments is the length of the step's list of them.
use Rattle.std.specs.Prelude.{ℕ, zero, suc, ◌≡◌, ◌+◌, ◌-◌, ◌*◌, ◌<◌, ◌≤◌, ◌==◌, ◌&&◌, ◌||◌, not, nat_le, Bool, true, false, if◌then◌else◌, [], ◌∷◌, Some, length}
use Rattle.std.proofs.Common.{refl, sym, ap, ap₂, ◌∙◌, arith, suc-mul}
use Rattle.std.proofs.lemmas.Bool.Decides.{nat_tests}
use Rattle.spec_records.specs.declared.timer.Arming.{Arming}
use Rattle.spec_records.specs.Moments.{due_count, moments_from, moments_until}
use Rattle.spec_records.proofs.Moments.{counts_add_up}
use Rattle.law_runs.specs.Clock.{came_of, count_moments, has_moment, moment, moments_by}

-- the arming whose first moment is the second of this one
abbrev next : Arming → Arming
next a = record a { first = a.first + a.interval }

has_each : (a : Arming) (k : ℕ) → 0 < a.interval → has_moment a k ≡ true
has_each a k l = go (k == 0)
  where
    some : not (a.interval == 0) ≡ true
    some = grind (arith, nat_tests)

    go : (b : Bool) → b || not (a.interval == 0) ≡ true
    go true = refl
    go false = some

has_no_more : (a : Arming) (k : ℕ) → a.interval ≡ 0 → has_moment a (suc k) ≡ false
has_no_more a k e = go (suc k == 0) (grind (arith, nat_tests))
  where
    none : not (a.interval == 0) ≡ false
    none = grind (arith, nat_tests)

    go : (b : Bool) → b ≡ false → b || not (a.interval == 0) ≡ false
    go true f = f
    go false f = none

one_later : (a : Arming) (k : ℕ) → moment a (suc k) ≡ moment (next a) k
one_later a k = omega (arith, suc-mul k a.interval)

module _ (clock : ℕ) where
  abbrev counted : Bool → ℕ → ℕ
  counted b k = if b && nat_le k clock then 1 else 0

  -- without an interval there is one
  one : (a : Arming) (n : ℕ) → a.interval ≡ 0 → count_moments a clock (suc n) ≡ (if nat_le (a.clock + a.first) clock then 1 else 0)
  one a zero e = go (nat_le (moment a 0) clock) refl
    where
      go : (b : Bool) → nat_le (moment a 0) clock ≡ b → 0 + (if b then 1 else 0) ≡ (if nat_le (a.clock + a.first) clock then 1 else 0)
      go true f = grind (arith, nat_tests)
      go false f = grind (arith, nat_tests)
  one a (suc n) e =
      ap (λ b. count_moments a clock (suc n) + (if b && nat_le (moment a (suc n)) clock then 1 else 0)) (has_no_more a n e)
      ∙ omega (arith, one a n e)

  -- the first apart from the others
  shifted : (a : Arming) (n : ℕ) → 0 < a.interval → count_moments a clock (suc n) ≡ (if nat_le (a.clock + a.first) clock then 1 else 0) + count_moments (next a) clock n
  shifted a zero l = go (nat_le (moment a 0) clock) refl
    where
      go : (b : Bool) → nat_le (moment a 0) clock ≡ b → 0 + (if b then 1 else 0) ≡ (if nat_le (a.clock + a.first) clock then 1 else 0) + 0
      go true f = grind (arith, nat_tests)
      go false f = grind (arith, nat_tests)
  shifted a (suc n) l =
      ap₂ (λ j k. j + k) (shifted a n l) same ∙ assoc (if nat_le (a.clock + a.first) clock then 1 else 0) (count_moments (next a) clock n) (counted (has_moment (next a) n) (moment (next a) n))
    where
      same : counted (has_moment a (suc n)) (moment a (suc n)) ≡ counted (has_moment (next a) n) (moment (next a) n)
      same = ap₂ counted (has_each a (suc n) l ∙ sym (has_each (next a) n l)) (one_later a n)

      assoc : (i j k : ℕ) → i + j + k ≡ i + (j + k)
      assoc i j k = omega arith

  -- none are above the clock where the first is
  pub none_past : (a : Arming) (k : ℕ) → clock < a.clock + a.first → count_moments a clock k ≡ 0
  none_past a zero l = refl
  none_past a (suc k) l =
      let late : nat_le (moment a k) clock ≡ false = grind (arith, nat_tests) in
      ap₂ (λ j b. j + (if has_moment a k && b then 1 else 0)) (none_past a k l) late ∙ go (has_moment a k)
    where
      go : (b : Bool) → 0 + (if b && false then 1 else 0) ≡ 0
      go true = refl
      go false = refl

  listed :
      (a : Arming) (n k m : ℕ) → m ≡ a.clock + a.first → 0 < a.interval → clock < n + m → clock < k + m →
      count_moments a clock k ≡ length (moments_from n m a.interval clock)
  listed a zero k m e l f g = none_past a k (omega (arith, e, f))
  listed a (suc n) zero m e l f g =
      let late : nat_le m clock ≡ false = grind (arith, nat_tests) in
      sym (ap (λ b. length (if b then m ∷ (if a.interval == 0 then [] else moments_from n (m + a.interval) a.interval clock) else [])) late)
  listed a (suc n) (suc k) m e l f g =
      let some : (a.interval == 0) ≡ false = grind (arith, nat_tests) in
      shifted a k l
      ∙ ap (λ j. (if nat_le j clock then 1 else 0) + count_moments (next a) clock k) (sym e)
      ∙ go (nat_le m clock) refl (λ h. listed (next a) n k (m + a.interval) (omega (arith, e)) l (omega (arith, f, l)) (omega (arith, g, l)))
      ∙ ap (λ b. length (if nat_le m clock then m ∷ (if b then [] else moments_from n (m + a.interval) a.interval clock) else [])) (sym some)
    where
      go :
          (b : Bool) → nat_le m clock ≡ b → (b ≡ true → count_moments (next a) clock k ≡ length (moments_from n (m + a.interval) a.interval clock)) →
          (if b then 1 else 0) + count_moments (next a) clock k ≡ length (if b then m ∷ moments_from n (m + a.interval) a.interval clock else [])
      go true h rest =
          ap (λ j. 1 + j) (rest refl) ∙ more (length (moments_from n (m + a.interval) a.interval clock))
        where
          more : (j : ℕ) → 1 + j ≡ suc j
          more j = omega arith
      go false h rest =
          let late : clock < m = grind (arith, nat_tests) in
          ap (λ j. 0 + j) (none_past (next a) k (omega (arith, e, late)))

alone :
    (a : Arming) (clock : ℕ) → 1 ≤ a.first → a.interval ≡ 0 →
    count_moments a clock clock ≡ length (moments_from (suc clock) (a.clock + a.first) a.interval clock)
alone a zero l e =
    let late : nat_le (a.clock + a.first) 0 ≡ false = grind (arith, nat_tests) in
    sym
    (ap
    (λ b. length (if b then (a.clock + a.first) ∷ (if a.interval == 0 then [] else moments_from zero (a.clock + a.first + a.interval) a.interval zero) else []))
    late)
alone a (suc c) l e =
    let none : (a.interval == 0) ≡ true = grind (arith, nat_tests) in
    one (suc c) a c e
    ∙ go (nat_le (a.clock + a.first) (suc c))
    ∙ ap
    (λ b.
    length
    (if nat_le (a.clock + a.first) (suc c)
    then (a.clock + a.first) ∷ (if b then [] else moments_from (suc c) (a.clock + a.first + a.interval) a.interval (suc c))
    else []))
    (sym none)
  where
    go : (b : Bool) → (if b then 1 else 0) ≡ length (if b then (a.clock + a.first) ∷ [] else [])
    go true = refl
    go false = refl

pub moments_are : (a : Arming) (clock : ℕ) → 1 ≤ a.first → moments_by a clock ≡ length (moments_until clock a)
unfolding moments_until
moments_are a clock l = go (a.interval == 0) refl
  where
    go : (b : Bool) → (a.interval == 0) ≡ b → count_moments a clock clock ≡ length (moments_from (suc clock) (a.clock + a.first) a.interval clock)
    go true e = alone a clock l (grind (arith, nat_tests))
    go false e = listed clock a (suc clock) clock (a.clock + a.first) refl (grind (arith, nat_tests)) (omega arith) (omega (arith, l))

-- so they do not become fewer, and those that came are those that the step finds due

pub moments_rise : (a : Arming) (before after : ℕ) → 1 ≤ a.first → before ≤ after → moments_by a before ≤ moments_by a after
moments_rise a before after l f =
    omega (arith, moments_are a before l, moments_are a after l, counts_add_up a before after f)

pub came_is_due : (a : Arming) (before after : ℕ) → 1 ≤ a.first → before ≤ after → came_of (Some a) before after ≡ due_count before after (Some a)
came_is_due a before after l f =
    omega (arith, moments_are a before l, moments_are a after l, counts_add_up a before after f)
