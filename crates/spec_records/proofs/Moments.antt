-- The moments of an arming up to a clock, as the clock moves on.
use Rattle.std.proofs.Common.{◌≡◌, ℕ, zero, suc, ◌+◌, ◌<◌, ◌≤◌, ◌==◌, nat_le, nat_lt, Bool, true, false, if◌then◌else◌, [], ◌∷◌, Some, filter, length, refl, sym, ap, ◌∙◌, arith}
use Rattle.std.proofs.lemmas.Bool.Decides.{nat_tests}
use Rattle.spec_records.specs.declared.timer.Arming.{Arming}
use Rattle.spec_records.specs.Moments.{due_count, moments_from, moments_until}

none_yet : (n m i clock : ℕ) → clock < m → moments_from n m i clock ≡ []
none_yet zero m i clock l = refl
none_yet (suc n) m i clock l =
    let past : nat_le m clock ≡ false = grind (arith, nat_tests) in
    ap (λ b. if b then m ∷ (if i == 0 then [] else moments_from n (m + i) i clock) else []) past

module _ (old new : ℕ) (i : ℕ) where
  all_after : (n m : ℕ) → old < m → filter (λ k. nat_lt old k) (moments_from n m i new) ≡ moments_from n m i new
  all_after zero m l = refl
  all_after (suc n) m l = go (nat_le m new) (i == 0) (all_after n (m + i) (omega arith))
    where
      comes : nat_lt old m ≡ true
      comes = grind (arith, nat_tests)

      go :
          (b c : Bool) → filter (λ k. nat_lt old k) (moments_from n (m + i) i new) ≡ moments_from n (m + i) i new →
          filter (λ k. nat_lt old k) (if b then m ∷ (if c then [] else moments_from n (m + i) i new) else [])
          ≡ (if b then m ∷ (if c then [] else moments_from n (m + i) i new) else [])
      go false c ih = refl
      go true true ih = ap (λ d. if d then m ∷ [] else []) comes
      go true false ih =
          ap (λ d. if d then m ∷ filter (λ k. nat_lt old k) (moments_from n (m + i) i new) else filter (λ k. nat_lt old k) (moments_from n (m + i) i new)) comes
          ∙ ap (λ ks. m ∷ ks) ih

  parts :
      (k n m : ℕ) → old ≤ new → old < k + m → new < n + m →
      length (moments_from k m i old) + length (filter (λ j. nat_lt old j) (moments_from n m i new)) ≡ length (moments_from n m i new)
  parts k zero m l f g =
      let none = none_yet k m i old (omega arith) in
      ap (λ ks. length ks + 0) none
  parts zero (suc n) m l f g =
      let all = all_after (suc n) m (omega arith) in
      ap (λ ks. 0 + length ks) all ∙ omega arith
  parts (suc k) (suc n) m l f g = go (nat_lt old m) refl (i == 0) refl (λ p. parts k n (m + i) l (omega arith) (omega arith))
    where
      go :
          (b : Bool) → nat_lt old m ≡ b → (c : Bool) → (i == 0) ≡ c →
          (0 < i → length (moments_from k (m + i) i old) + length (filter (λ j. nat_lt old j) (moments_from n (m + i) i new)) ≡ length (moments_from n (m + i) i new)) →
          length (moments_from (suc k) m i old) + length (filter (λ j. nat_lt old j) (moments_from (suc n) m i new)) ≡ length (moments_from (suc n) m i new)
      go true e c h ih =
          let past : old < m = grind (arith, nat_tests) in
          let none = none_yet (suc k) m i old past in
          let all = all_after (suc n) m past in
          ap (λ ks. length ks + length (filter (λ j. nat_lt old j) (moments_from (suc n) m i new))) none
          ∙ ap (λ ks. 0 + length ks) all ∙ omega arith
      go false e c h ih =
          let early : nat_le m old ≡ true = grind (arith, nat_tests) in
          let late : nat_le m new ≡ true = grind (arith, nat_tests) in
          ap (λ b. length (if b then m ∷ (if i == 0 then [] else moments_from k (m + i) i old) else []) + length (filter (λ j. nat_lt old j) (moments_from (suc n) m i new))) early
          ∙ ap (λ b. length (m ∷ (if i == 0 then [] else moments_from k (m + i) i old)) + length (filter (λ j. nat_lt old j) (if b then m ∷ (if i == 0 then [] else moments_from n (m + i) i new) else []))) late
          ∙ ap (λ b. length (m ∷ (if i == 0 then [] else moments_from k (m + i) i old)) + length (if b then m ∷ filter (λ j. nat_lt old j) (if i == 0 then [] else moments_from n (m + i) i new) else filter (λ j. nat_lt old j) (if i == 0 then [] else moments_from n (m + i) i new))) e
          ∙ rest c h ih
          ∙ ap (λ b. length (if b then m ∷ (if i == 0 then [] else moments_from n (m + i) i new) else [])) (sym late)
        where
          rest :
              (c : Bool) → (i == 0) ≡ c →
              (0 < i → length (moments_from k (m + i) i old) + length (filter (λ j. nat_lt old j) (moments_from n (m + i) i new)) ≡ length (moments_from n (m + i) i new)) →
              length (m ∷ (if i == 0 then [] else moments_from k (m + i) i old)) + length (filter (λ j. nat_lt old j) (if i == 0 then [] else moments_from n (m + i) i new))
              ≡ length (m ∷ (if i == 0 then [] else moments_from n (m + i) i new))
          rest true h ih =
              ap (λ c. length (m ∷ (if c then [] else moments_from k (m + i) i old)) + length (filter (λ j. nat_lt old j) (if c then [] else moments_from n (m + i) i new))) h
              ∙ ap (λ c. length (m ∷ (if c then [] else moments_from n (m + i) i new))) (sym h)
          rest false h ih =
              let more : 0 < i = grind (arith, nat_tests) in
              let sum = ih more in
              ap (λ c. length (m ∷ (if c then [] else moments_from k (m + i) i old)) + length (filter (λ j. nat_lt old j) (if c then [] else moments_from n (m + i) i new))) h
              ∙ omega arith
              ∙ ap suc sum
              ∙ ap (λ c. length (m ∷ (if c then [] else moments_from n (m + i) i new))) (sym h)

pub counts_add_up : (a : Arming) (after until : ℕ) → after ≤ until → length (moments_until after a) + due_count after until (Some a) ≡ length (moments_until until a)
unfolding moments_until
counts_add_up a after until l = parts after until a.interval (suc after) (suc until) (a.clock + a.first) l (omega arith) (omega arith)

pub none_when_armed : (a : Arming) → 0 < a.first → moments_until a.clock a ≡ []
unfolding moments_until
none_when_armed a p = none_yet (suc a.clock) (a.clock + a.first) a.interval a.clock (omega arith)
