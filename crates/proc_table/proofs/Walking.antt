-- The steps of a walk over the threads of a set.
use Rattle.std.proofs.Common.{◌≡◌, ℕ, zero, suc, ◌<◌, ◌==◌, ◌&&◌, Bool, true, false, if◌then◌else◌, inl, inr, nat_lt, refl, sym, ap, ◌∙◌, arith}
use Rattle.std.proofs.lemmas.Bool.{cases_lt}
use Rattle.std.proofs.lemmas.Bool.Decides.{nat_tests}
use Rattle.proc_table.specs.declared.walk.Walk.{Walk}
use Rattle.proc_table.specs.Walk.{IsNext, Walks}
use Rattle.dk_base.specs.declared.thread_set.ThreadSet.{ThreadSet}
use Rattle.dk_base.specs.Words.{IsFirst, has, with_thread}

both : (a b : Bool) → (a && b) ≡ true → (a ≡ true) × (b ≡ true)
both true true e = (refl, refl)
both true false e = cc
both false b e = cc

after_it : (a b : Bool) → a ≡ true → (a && b) ≡ false → b ≡ false
after_it true b e f = f
after_it false b e f = cc

less : (j k : ℕ) → j < k → nat_lt j k ≡ true
less j k l = grind (arith, nat_tests)

not_less : (j k : ℕ) → (j < k → ⊥) → nat_lt j k ≡ false
not_less j k l = grind (arith, nat_tests)

is_less : (j k : ℕ) → nat_lt j k ≡ true → j < k
is_less j k e = grind (arith, nat_tests)

pub begins : (set : ThreadSet) → Walks set (record { rest = set; done = 0 })
begins set = record { rest = rest }
  where
    rest : (u : ℕ) → has set u ≡ (nat_lt 0 u && has set u)
    rest zero = refl
    rest (suc n) = sym (ap (λ b. b && has set (suc n)) (less 0 (suc n) (omega arith)))

pub steps :
    (set : ThreadSet) (before after : Walk) (t : ℕ) → Walks set before → IsFirst before.rest t → ((u : ℕ) → has after.rest u ≡ with_thread before.rest t false u) →
    after.done ≡ t → IsNext set t before after
steps set before after t w first put done =
    record {
      here = there.1;
      later = is_less before.done t there.0;
      between = λ u l k. after_it (nat_lt before.done u) (has set u) (less before.done u l) (sym (w.rest u) ∙ first.before u k);
      done = done;
      walks = record { rest = rest };
    }
  where
    there : (nat_lt before.done t ≡ true) × (has set t ≡ true)
    there = both (nat_lt before.done t) (has set t) (sym (w.rest t) ∙ first.here)

    rest : (u : ℕ) → has after.rest u ≡ (nat_lt after.done u && has set u)
    rest u = put u ∙ go (u == t) refl ∙ sym (ap (λ n. nat_lt n u && has set u) done)
      where
        past : (u == t) ≡ false → has before.rest u ≡ (nat_lt t u && has set u)
        past e = elim (cases_lt u t) [
          | inl l ↦ first.before u l ∙ sym (ap (λ b. b && has set u) (not_less t u (λ m. omega (arith, l))))
          | inr l ↦
              let m : t < u = grind (arith, nat_tests) in
              let k : before.done < u = omega (arith, m, is_less before.done t there.0) in
              w.rest u ∙ ap (λ b. b && has set u) (less before.done u k ∙ sym (less t u m))
        ]

        go : (b : Bool) → (u == t) ≡ b → (if b then false else has before.rest u) ≡ (nat_lt t u && has set u)
        go true e = let k : u ≡ t = grind (arith, nat_tests) in sym (ap (λ b. b && has set u) (not_less t u (λ m. omega (arith, k))))
        go false e = past e

pub ended : (set : ThreadSet) (walk : Walk) → Walks set walk → ((u : ℕ) → has walk.rest u ≡ false) → (u : ℕ) → walk.done < u → has set u ≡ false
ended set walk w none u l = after_it (nat_lt walk.done u) (has set u) (less walk.done u l) (sym (w.rest u) ∙ none u)
