-- Threads by the bits of a word.
use Rattle.std.proofs.Common.{◌≡◌, ℕ, zero, suc, ◌+◌, ◌-◌, ◌*◌, ◌/◌, ◌%◌, ◌^◌, ◌<◌, ◌≤◌, ◌==◌, ◌&&◌, ◌||◌, true, false, not, min, max, inl, inr, refl, sym, ap, ◌∙◌, arith, bit_and, bit_or}
use Rattle.std.specs.Int.{bit_at, bit_not, trailing_zeros, w64}
use Rattle.std.proofs.lemmas.Bool.{cases_eq, cases_lt}
use Rattle.std.proofs.lemmas.Bool.Decides.{nat_tests}
use Rattle.std.proofs.lemmas.Nat.Bits.{bit_at-lt, bit_at-trailing_zeros, bit_at_above, bit_at_and, bit_at_clear_other, bit_at_clear_same, bit_at_not, bit_at_or, bit_at_set_other, bit_at_set_same, shr_and_one}
use Rattle.dk_base.specs.declared.thread_set.ThreadSet.{ThreadSet}
use Rattle.dk_base.specs.ThreadSets.{IsFirst, has, with_thread}

either : (a b : ℕ) → a < 2 → b < 2 → (max a b == 1) ≡ ((a == 1) || (b == 1))
either a b h k = grind (arith, nat_tests)

both : (a b : ℕ) → a < 2 → b < 2 → (min a b == 1) ≡ ((a == 1) && (b == 1))
both a b h k = grind (arith, nat_tests)

all_but : (a b : ℕ) → a < 2 → b < 2 → (min a (1 - b) == 1) ≡ ((a == 1) && not (b == 1))
all_but a b h k = grind (arith, nat_tests)

pub has-or : (r s : ThreadSet) (t : ℕ) → has (record { word = bit_or r.word s.word }) t ≡ (has r t || has s t)
has-or r s zero = refl
has-or r s (suc n) = ap (λ b. b == 1) (bit_at_or r.word s.word n) ∙ either (bit_at r.word n) (bit_at s.word n) (bit_at-lt r.word n) (bit_at-lt s.word n)

pub has-and : (r s : ThreadSet) (t : ℕ) → has (record { word = bit_and r.word s.word }) t ≡ (has r t && has s t)
has-and r s zero = refl
has-and r s (suc n) = ap (λ b. b == 1) (bit_at_and r.word s.word n) ∙ both (bit_at r.word n) (bit_at s.word n) (bit_at-lt r.word n) (bit_at-lt s.word n)

-- a number that no thread can have
pub has-above : (s : ThreadSet) (t : ℕ) → s.word < 2 ^ 64 → 64 < t → has s t ≡ false
has-above s zero h k = refl
has-above s (suc n) h k = ap (λ b. b == 1) (bit_at_above s.word 64 n h (omega arith))

pub has-without : (r s : ThreadSet) (t : ℕ) → r.word < 2 ^ 64 → s.word < 2 ^ 64 → has (record { word = bit_and r.word (bit_not w64 s.word) }) t ≡ (has r t && not (has s t))
has-without r s zero h k = refl
has-without r s (suc n) h k =
    ap (λ b. b == 1) (bit_at_and r.word (bit_not w64 s.word) n)
    ∙ elim (cases_lt n 64) [
      | inl l ↦ ap (λ b. min (bit_at r.word n) b == 1) (bit_at_not w64 s.word n k l) ∙ all_but (bit_at r.word n) (bit_at s.word n) (bit_at-lt r.word n) (bit_at-lt s.word n)
      | inr l ↦
          let none = bit_at_above r.word 64 n h l in
          let is : (min (bit_at r.word n) (bit_at (bit_not w64 s.word) n) == 1) ≡ false = grind (arith, nat_tests, none) in
          is ∙ sym (ap (λ b. (b == 1) && not (bit_at s.word n == 1)) none)
    ]

-- a thread is put in, or taken out

pub has-set : (s : ThreadSet) (t u : ℕ) → 0 < t → t ≤ 64 → has (record { word = bit_or s.word (1 * 2 ^ (t - 1) % 2 ^ 64) }) u ≡ with_thread s t true u
has-set s t zero p l = grind (arith, nat_tests)
has-set s t (suc n) p l = elim (cases_eq (suc n) t) [
  | inl e ↦
      let k : n ≡ t - 1 = omega (arith, e) in
      let same = bit_at_set_same w64 s.word (t - 1) (omega arith) in
      ap (λ j. bit_at (bit_or s.word (1 * 2 ^ (t - 1) % 2 ^ 64)) j == 1) k ∙ ap (λ b. b == 1) same ∙ here e
  | inr ne ↦ ap (λ b. b == 1) (bit_at_set_other w64 s.word (t - 1) (omega arith) n (λ e. ne (omega (arith, e)))) ∙ other ne
]
  where
    here : suc n ≡ t → true ≡ with_thread s t true (suc n)
    here e = grind (arith, nat_tests)

    other : (suc n ≡ t → ⊥) → has s (suc n) ≡ with_thread s t true (suc n)
    other ne = grind (arith, nat_tests)

pub has-clear : (s : ThreadSet) (t u : ℕ) → s.word < 2 ^ 64 → 0 < t → t ≤ 64 → has (record { word = bit_and s.word (bit_not w64 (1 * 2 ^ (t - 1) % 2 ^ 64)) }) u ≡ with_thread s t false u
has-clear s t zero f p l = grind (arith, nat_tests)
has-clear s t (suc n) f p l = elim (cases_eq (suc n) t) [
  | inl e ↦
      let k : n ≡ t - 1 = omega (arith, e) in
      let same = bit_at_clear_same w64 s.word (t - 1) (omega arith) in
      ap (λ j. bit_at (bit_and s.word (bit_not w64 (1 * 2 ^ (t - 1) % 2 ^ 64))) j == 1) k ∙ ap (λ b. b == 1) same ∙ here e
  | inr ne ↦ elim (cases_lt n 64) [
    | inl within ↦ ap (λ b. b == 1) (bit_at_clear_other w64 s.word (t - 1) (omega arith) n within (λ e. ne (omega (arith, e)))) ∙ other ne
    | inr above ↦
        let none = bit_at_above s.word 64 n f above in
        let is : (min (bit_at s.word n) (bit_at (bit_not w64 (1 * 2 ^ (t - 1) % 2 ^ 64)) n) == 1) ≡ false = grind (arith, nat_tests, none) in
        ap (λ b. b == 1) (bit_at_and s.word (bit_not w64 (1 * 2 ^ (t - 1) % 2 ^ 64)) n) ∙ is ∙ sym (ap (λ b. b == 1) none) ∙ other ne
  ]
]
  where
    here : suc n ≡ t → false ≡ with_thread s t false (suc n)
    here e = grind (arith, nat_tests)

    other : (suc n ≡ t → ⊥) → has s (suc n) ≡ with_thread s t false (suc n)
    other ne = grind (arith, nat_tests)

-- the test that the code makes
pub has-tested : (s : ThreadSet) (t : ℕ) → 0 < t → (bit_and (s.word / 2 ^ (t - 1)) 1 == 1) ≡ has s t
has-tested s zero p = absurd (omega arith)
has-tested s (suc n) p = let k : suc n - 1 ≡ n = omega arith in ap (λ b. b == 1) (shr_and_one s.word (suc n - 1)) ∙ ap (λ j. bit_at s.word j == 1) k

-- the least

first_before : (s : ThreadSet) (u : ℕ) → ((i : ℕ) → i < trailing_zeros w64 s.word → bit_at s.word i ≡ 0) → u < trailing_zeros w64 s.word + 1 → has s u ≡ false
first_before s zero none l = refl
first_before s (suc n) none l = ap (λ b. b == 1) (none n (omega arith))

pub first_is : (s : ThreadSet) → s.word < 2 ^ 64 → (s.word ≡ 0 → ⊥) → IsFirst s (trailing_zeros w64 s.word + 1)
first_is s h e =
    let there = bit_at-trailing_zeros w64 s.word (omega (arith, e)) h in
    let next : trailing_zeros w64 s.word + 1 ≡ suc (trailing_zeros w64 s.word) = omega arith in
    record { here = ap (has s) next ∙ ap (λ b. b == 1) there.1; before = λ u l. first_before s u there.2 l }

pub first_within : (s : ThreadSet) (t : ℕ) → s.word < 2 ^ 64 → has s t ≡ true → (0 < t) × (t ≤ 64)
first_within s zero h e = cc
first_within s (suc n) h e = elim (cases_lt n 64) [
  | inl l ↦ (omega arith, omega arith)
  | inr l ↦ let none = has-above s (suc n) h (omega arith) in cc
]
