-- The moments of a list, counted by a division.
use Rattle.std.proofs.Common.{◌≡◌, ℕ, zero, suc, ◌+◌, ◌-◌, ◌*◌, ◌/◌, ◌<◌, ◌≤◌, ◌==◌, ◌||◌, not, nat_le, nat_lt, Bool, true, false, if◌then◌else◌, [], ◌∷◌, Option, None, Some, filter, length, refl, sym, ap, ◌∙◌, arith}
use Rattle.std.proofs.Math.Nat.{add-mul-div_right, lt-div-mul-add, div-mul-le_self}
use Rattle.std.proofs.lemmas.Nat.{div-mul-add}
use Rattle.std.proofs.lemmas.Bool.Decides.{nat_tests}
use Rattle.spec_records.specs.declared.timer.Arming.{Arming}
use Rattle.spec_records.specs.Words.{due_count, moments_from}
use Rattle.spec_records.specs.Moments.{moments_until}
use Rattle.timer_src.specs.Pending.{has_next, interval_of, next_from, next_moment, ticks}

-- quotients

small : (x i : ℕ) → x < i → x / i ≡ 0
small x i l = let e = div-mul-add 0 i x l in let z : 0 * i + x ≡ x = omega arith in ap (λ y. y / i) (sym z) ∙ e

large : (x i : ℕ) → 0 < i → i ≤ x → x / i ≡ (x - i) / i + 1
large x i p l =
    let parts : x ≡ (x - i) + 1 * i = omega arith in
    ap (λ y. y / i) parts ∙ add-mul-div_right (x - i) 1 p

-- one moment later

ticks_step : (m i clock : ℕ) → 0 < i → m ≤ clock → ticks m i clock ≡ suc (ticks (m + i) i clock)
ticks_step m i clock p l = go (nat_lt clock (m + i)) refl
  where
    here : ticks m i clock ≡ (clock - m) / i + 1
    here = grind (arith, nat_tests)

    go : (b : Bool) → nat_lt clock (m + i) ≡ b → ticks m i clock ≡ suc (if b then 0 else (if i == 0 then 1 else (clock - (m + i)) / i + 1))
    go true e =
        let near : clock - m < i = grind (arith, nat_tests) in
        let none = small (clock - m) i near in here ∙ omega arith
    go false e =
        let far : i ≤ clock - m = grind (arith, nat_tests) in
        let more = large (clock - m) i p far in
        let same : clock - m - i ≡ clock - (m + i) = omega arith in
        let more_of : (clock - m) / i ≡ (clock - (m + i)) / i + 1 = more ∙ ap (λ y. y / i + 1) same in
        let rest : (if i == 0 then 1 else (clock - (m + i)) / i + 1) ≡ (clock - (m + i)) / i + 1 = grind (arith, nat_tests) in
        here ∙ omega arith

next_step : (m i clock : ℕ) → 0 < i → m ≤ clock → next_from (m + i) i clock ≡ next_from m i clock
next_step m i clock p l = go (nat_lt clock (m + i)) refl
  where
    here : next_from m i clock ≡ m + ((clock - m) / i + 1) * i
    here = grind (arith, nat_tests)

    go : (b : Bool) → nat_lt clock (m + i) ≡ b → (if b then m + i else (if i == 0 then m + i else m + i + ((clock - (m + i)) / i + 1) * i)) ≡ next_from m i clock
    go true e =
        let near : clock - m < i = grind (arith, nat_tests) in
        let none = small (clock - m) i near in
        let one : (0 + 1) * i ≡ i = omega arith in
        sym (here ∙ ap (λ q. m + (q + 1) * i) none ∙ ap (λ y. m + y) one)
    go false e =
        let far : i ≤ clock - m = grind (arith, nat_tests) in
        let more = large (clock - m) i p far in
        let same : clock - m - i ≡ clock - (m + i) = omega arith in
        let more_of : (clock - m) / i ≡ (clock - (m + i)) / i + 1 = more ∙ ap (λ y. y / i + 1) same in
        let rest : (if i == 0 then m + i else m + i + ((clock - (m + i)) / i + 1) * i) ≡ m + i + ((clock - (m + i)) / i + 1) * i = grind (arith, nat_tests) in
        let sum : (q : ℕ) → m + i + (q + 1) * i ≡ m + (q + 1 + 1) * i = λ q. omega arith in
        rest ∙ sum ((clock - (m + i)) / i) ∙ ap (λ q. m + (q + 1) * i) (sym more_of) ∙ sym here

-- the next one comes after the clock
pub next_comes : (m i clock : ℕ) → 0 < i → clock < next_from m i clock
next_comes m i clock p = go (nat_lt clock m) refl
  where
    go : (b : Bool) → nat_lt clock m ≡ b → clock < (if b then m else (if i == 0 then m else m + ((clock - m) / i + 1) * i))
    go true e = grind (arith, nat_tests)
    go false e =
        let late : m ≤ clock = grind (arith, nat_tests) in
        let past : clock - m < (clock - m) / i * i + i = lt-div-mul-add p in
        let sum : (q : ℕ) → (q + 1) * i ≡ q * i + i = λ q. omega arith in
        let each = sum ((clock - m) / i) in
        let there : (if i == 0 then m else m + ((clock - m) / i + 1) * i) ≡ m + ((clock - m) / i + 1) * i = grind (arith, nat_tests) in
        omega arith

-- those of a list after a clock
pub counted :
    (n m i old new : ℕ) → 0 < i → old ≤ new → new < n + m →
    length (filter (λ k. nat_lt old k) (moments_from n m i new)) ≡ ticks (next_from m i old) i new
counted zero m i old new p l fuel = grind (arith, nat_tests)
counted (suc n) m i old new p l fuel = go (nat_le m new) refl (nat_lt old m) refl (λ h. counted n (m + i) i old new p l h)
  where
    rest : (if i == 0 then [] else moments_from n (m + i) i new) ≡ moments_from n (m + i) i new
    rest = grind (arith, nat_tests)

    go :
        (b : Bool) → nat_le m new ≡ b → (c : Bool) → nat_lt old m ≡ c →
        (new < n + (m + i) → length (filter (λ k. nat_lt old k) (moments_from n (m + i) i new)) ≡ ticks (next_from (m + i) i old) i new) →
        length (filter (λ k. nat_lt old k) (if b then m ∷ (if i == 0 then [] else moments_from n (m + i) i new) else [])) ≡ ticks (next_from m i old) i new
    go false e c f ih =
        let first : next_from m i old ≡ m = grind (arith, nat_tests) in
        let none : ticks m i new ≡ 0 = grind (arith, nat_tests) in sym (ap (λ k. ticks k i new) first ∙ none)
    go true e true f ih =
        let due : m ≤ new = grind (arith, nat_tests) in
        let first : next_from m i old ≡ m = grind (arith, nat_tests) in
        let second : next_from (m + i) i old ≡ m + i = grind (arith, nat_tests) in
        ap (λ ms. length (filter (λ k. nat_lt old k) (m ∷ ms))) rest
        ∙ ap (λ b. length (if b then m ∷ filter (λ k. nat_lt old k) (moments_from n (m + i) i new) else filter (λ k. nat_lt old k) (moments_from n (m + i) i new))) f
        ∙ ap suc (ih (omega arith) ∙ ap (λ k. ticks k i new) second)
        ∙ sym (ticks_step m i new p due)
        ∙ ap (λ k. ticks k i new) (sym first)
    go true e false f ih =
        let late : m ≤ old = grind (arith, nat_tests) in
        ap (λ ms. length (filter (λ k. nat_lt old k) (m ∷ ms))) rest
        ∙ ap (λ b. length (if b then m ∷ filter (λ k. nat_lt old k) (moments_from n (m + i) i new) else filter (λ k. nat_lt old k) (moments_from n (m + i) i new))) f
        ∙ ih (omega arith)
        ∙ ap (λ k. ticks k i new) (next_step m i old p late)

-- where there is but one
counted_once : (n m old new : ℕ) → length (filter (λ k. nat_lt old k) (moments_from (suc n) m 0 new)) ≡ (if nat_lt old m then ticks m 0 new else 0)
counted_once n m old new = go (nat_le m new) refl (nat_lt old m) refl
  where
    go :
        (b : Bool) → nat_le m new ≡ b → (c : Bool) → nat_lt old m ≡ c →
        length (filter (λ k. nat_lt old k) (if b then m ∷ [] else [])) ≡ (if c then ticks m 0 new else 0)
    go false e true f = grind (arith, nat_tests)
    go false e false f = refl
    go true e true f = grind (arith, nat_tests)
    go true e false f = grind (arith, nat_tests)

-- what an advance reaches, by a division
pub reached :
    (old new : ℕ) (a : Option Arming) → old ≤ new →
    due_count old new a ≡ (if has_next old a then ticks (next_moment old a) (interval_of a) new else 0)
unfolding moments_until
reached old new None l = refl
reached old new (Some a) l = go a.interval refl
  where
    start : ℕ
    start = a.clock + a.first

    go :
        (i : ℕ) → a.interval ≡ i →
        length (filter (λ k. nat_lt old k) (moments_from (suc new) (a.clock + a.first) i new))
        ≡ (if nat_lt old (a.clock + a.first) || not (i == 0) then ticks (next_from (a.clock + a.first) i old) i new else 0)
    go zero e =
        counted_once new (a.clock + a.first) old new ∙ grind (arith, nat_tests)
    go (suc i) e =
        counted (suc new) (a.clock + a.first) (suc i) old new (omega arith) l (omega arith) ∙ grind (arith, nat_tests)

-- the next one of the next one

jump : (k m i clock : ℕ) → 0 < i → k * i + m ≤ clock + i → next_from (m + k * i) i clock ≡ next_from m i clock
jump zero m i clock p l = let z : m + 0 * i ≡ m = omega arith in ap (λ y. next_from y i clock) z
jump (suc k) m i clock p l =
    let one : suc k * i ≡ k * i + i = omega arith in
    let along : m + suc k * i ≡ (m + i) + k * i = omega arith in
    let near : k * i + (m + i) ≤ clock + i = omega arith in
    ap (λ y. next_from y i clock) along ∙ jump k (m + i) i clock p near ∙ next_step m i clock p (omega arith)

next_again : (m i old new : ℕ) → 0 < i → old ≤ new → next_from (next_from m i old) i new ≡ next_from m i new
next_again m i old new p l = go (nat_lt old m) refl
  where
    go : (b : Bool) → nat_lt old m ≡ b → next_from (if b then m else (if i == 0 then m else m + ((old - m) / i + 1) * i)) i new ≡ next_from m i new
    go true e = refl
    go false e =
        let late : m ≤ old = grind (arith, nat_tests) in
        let there : (if i == 0 then m else m + ((old - m) / i + 1) * i) ≡ m + ((old - m) / i + 1) * i = grind (arith, nat_tests) in
        let within = div-mul-le_self (old - m) i in
        let sum : (q : ℕ) → (q + 1) * i ≡ q * i + i = λ q. omega arith in
        let each = sum ((old - m) / i) in
        ap (λ y. next_from y i new) there ∙ jump ((old - m) / i + 1) m i new p (omega arith)

-- as the clock moves on

pub steps : (old new : ℕ) (a : Option Arming) → old ≤ new → has_next old a ≡ true → next_from (next_moment old a) (interval_of a) new ≡ next_moment new a
steps old new None l h = cc
steps old new (Some a) l h = go a.interval
  where
    go : (i : ℕ) → next_from (next_from (a.clock + a.first) i old) i new ≡ next_from (a.clock + a.first) i new
    go zero = grind (arith, nat_tests)
    go (suc i) = next_again (a.clock + a.first) (suc i) old new (omega arith) l

pub comes : (old new : ℕ) (a : Option Arming) → old ≤ new → has_next new a ≡ (if has_next old a then nat_lt new (next_moment new a) else false)
comes old new None l = refl
comes old new (Some a) l = go a.interval
  where
    go :
        (i : ℕ) →
        nat_lt new (a.clock + a.first) || not (i == 0)
        ≡ (if nat_lt old (a.clock + a.first) || not (i == 0) then nat_lt new (next_from (a.clock + a.first) i new) else false)
    go zero = grind (arith, nat_tests)
    go (suc i) =
        let after = next_comes (a.clock + a.first) (suc i) new (omega arith) in grind (arith, nat_tests)
