-- A thread that is told alone.
use Rattle.std.proofs.Common.{◌≡◌, ⊎_elim, ℕ, zero, suc, ◌<◌, ◌≤◌, ◌==◌, ◌&&◌, Bool, true, false, if◌then◌else◌, [], ◌∷◌, ◌++◌, map, refl, sym, ap, ap₂, ◌∙◌, eq-or-lt_of_le, arith}
use Rattle.std.proofs.lemmas.Bool.Decides.{nat_tests}
use Rattle.dk_base.specs.declared.number.Tid.{Tid}
use Rattle.dk_base.specs.declared.limits.TheConstants.{THREADS_MAX}
use Rattle.spec_records.specs.Words.{numbers_where, tid}
use Rattle.exit_paths.specs.Words.{threads_where}
use Rattle.exit_paths.proofs.Unmoved.{numbers_none}

apart : (j k : ℕ) → (j ≡ k → ⊥) → (j == k) ≡ false
apart j k ne = go (j == k) refl
  where
    is : (j == k) ≡ true → j ≡ k
    is e = grind (arith, nat_tests)

    go : (b : Bool) → (j == k) ≡ b → b ≡ false
    go true e = absurd (ne (is e))
    go false e = refl

equal : (k : ℕ) → (k == k) ≡ true
equal k = grind (arith, nat_tests)

pub none_low : (u n : ℕ) → n < u → numbers_where (λ k. (k == u) && true) n ≡ []
none_low u zero l = refl
none_low u (suc n) l =
    ap₂ (λ xs b. xs ++ (if b && true then suc n ∷ [] else [])) (none_low u n (omega arith)) (apart (suc n) u (λ e. omega (arith, e)))

pub one_number : (u n : ℕ) → 0 < u → u ≤ n → numbers_where (λ k. (k == u) && true) n ≡ u ∷ []
one_number u zero p l = absurd (omega arith)
one_number u (suc n) p l = ⊎_elim here (λ m. before m (one_number u n p (omega arith))) (eq-or-lt_of_le l)
  where
    here : u ≡ suc n → numbers_where (λ k. (k == u) && true) (suc n) ≡ u ∷ []
    here e =
        ap₂ (λ xs b. xs ++ (if b && true then suc n ∷ [] else [])) (none_low u n (omega (arith, e))) (ap (λ k. suc n == k) e ∙ equal (suc n))
        ∙ ap (λ k. k ∷ []) (sym e)

    before : u < suc n → numbers_where (λ k. (k == u) && true) n ≡ u ∷ [] → numbers_where (λ k. (k == u) && true) (suc n) ≡ u ∷ []
    before m ih = ap₂ (λ xs b. xs ++ (if b && true then suc n ∷ [] else [])) ih (apart (suc n) u (λ e. omega (arith, e)))

pub one_listed : (u : Tid) → 0 < u.0 → u.0 ≤ THREADS_MAX → threads_where (λ k. (k == u.0) && true) ≡ u ∷ []
one_listed u p l = ap (map tid) (one_number u.0 THREADS_MAX p l)

none_above : (u n : ℕ) → n < u → (b : Bool) → numbers_where (λ k. (k == u) && b) n ≡ []
none_above u zero l b = refl
none_above u (suc n) l b =
    ap₂ (λ xs c. xs ++ (if c && b then suc n ∷ [] else [])) (none_above u n (omega arith) b) (apart (suc n) u (λ e. omega (arith, e)))

pub none_zero : (n : ℕ) (b : Bool) → numbers_where (λ k. (k == 0) && b) n ≡ []
none_zero zero b = refl
none_zero (suc n) b = ap₂ (λ xs c. xs ++ (if c && b then suc n ∷ [] else [])) (none_zero n b) (apart (suc n) 0 (λ e. omega (arith, e)))

-- a number that no thread has is not told
pub none_listed : (u : ℕ) → (THREADS_MAX < u) → (b : Bool) → threads_where (λ k. (k == u) && b) ≡ []
none_listed u l b = ap (map tid) (none_above u THREADS_MAX l b)

pub zero_listed : (b : Bool) → threads_where (λ k. (k == 0) && b) ≡ []
zero_listed b = ap (map tid) (none_zero THREADS_MAX b)

pub not_listed : (u : ℕ) → threads_where (λ k. (k == u) && false) ≡ []
not_listed u = ap (map tid) (numbers_none (λ k. (k == u) && false) (λ k. go (k == u)) THREADS_MAX)
  where
    go : (b : Bool) → (b && false) ≡ false
    go true = refl
    go false = refl
