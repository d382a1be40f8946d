-- The threads of a set, in order.
use Rattle.std.proofs.Common.{◌≡◌, ℕ, zero, suc, ◌<◌, ◌≤◌, ◌==◌, Bool, true, false, if◌then◌else◌, inl, inr, [], ◌∷◌, ◌++◌, refl, sym, ap, ap₂, ◌∙◌, arith}
use Rattle.std.proofs.lemmas.Bool.{cases_eq}
use Rattle.std.proofs.lemmas.Bool.Decides.{nat_tests}
use Rattle.dk_base.specs.declared.limits.TheConstants.{THREADS_MAX}
use Rattle.dk_base.specs.Numbers.{numbers_where}
use Rattle.dk_base.proofs.NumbersWhere.{numbers_where-below, numbers_where-none}
use Rattle.dk_base.specs.declared.thread_set.ThreadSet.{ThreadSet}
use Rattle.dk_base.specs.ThreadSets.{IsFirst, has, members, with_thread}

none_low : (p : ℕ → Bool) (n : ℕ) → ((u : ℕ) → u ≤ n → p u ≡ false) → numbers_where p n ≡ []
none_low p n none = numbers_where-below p (λ u. false) n none ∙ numbers_where-none (λ u. false) n (λ u. refl)

-- the first of those that pass is taken out
first_out :
    (p q : ℕ → Bool) (t n : ℕ) → p t ≡ true → ((u : ℕ) → u < t → p u ≡ false) → ((u : ℕ) → q u ≡ (if u == t then false else p u)) → 0 < t → t ≤ n →
    numbers_where p n ≡ t ∷ numbers_where q n
first_out p q t zero here before out h l = absurd (omega arith)
first_out p q t (suc n) here before out h l = elim (cases_eq t (suc n)) [
  | inl e ↦
      let gone : q (suc n) ≡ false = out (suc n) ∙ same e in
      let none : numbers_where p n ≡ [] = none_low p n (λ u k. before u (omega (arith, e))) in
      let left : numbers_where q n ≡ [] = none_low q n (λ u k. out u ∙ low u (before u (omega (arith, e)))) in
      ap₂ (λ xs (b : Bool). xs ++ (if b then suc n ∷ [] else [])) none (ap p (sym e) ∙ here)
      ∙ ap (λ k. k ∷ []) (sym e)
      ∙ ap (λ xs. t ∷ xs) (sym (ap₂ (λ xs (b : Bool). xs ++ (if b then suc n ∷ [] else [])) left gone))
  | inr ne ↦
      let ih = first_out p q t n here before out h (omega (arith, ne)) in
      ap₂ (λ xs (b : Bool). xs ++ (if b then suc n ∷ [] else [])) ih (sym (out (suc n) ∙ apart (λ e. ne (sym e))))
]
  where
    same : t ≡ suc n → (if suc n == t then false else p (suc n)) ≡ false
    same e = grind (arith, nat_tests)

    low : (u : ℕ) → p u ≡ false → (if u == t then false else p u) ≡ false
    low u e = grind (arith, nat_tests)

    apart : (suc n ≡ t → ⊥) → (if suc n == t then false else p (suc n)) ≡ p (suc n)
    apart ne = grind (arith, nat_tests)

pub first_taken :
    (before after : ThreadSet) (t : ℕ) → IsFirst before t → ((u : ℕ) → has after u ≡ with_thread before t false u) → 0 < t → t ≤ THREADS_MAX →
    members before ≡ t ∷ members after
unfolding members
first_taken before after t first out h l = first_out (has before) (has after) t THREADS_MAX first.here first.before out h l

pub none_left : (s : ThreadSet) → ((u : ℕ) → has s u ≡ false) → members s ≡ []
unfolding members
none_left s none = numbers_where-none (has s) THREADS_MAX none
