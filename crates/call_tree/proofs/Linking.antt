-- The tables of the code after a link, and after a cut.
use Rattle.std.proofs.Common.{◌≡◌, ◌≢◌, ◌<◌, ◌≤◌, ℕ, List, length, set, sym, ap, ◌∙◌, arith}
use Rattle.std.proofs.lemmas.List.{length-set}
use Rattle.std.proofs.lemmas.Bool.{cases_eq}
use Rattle.std.proofs.Common.{inl, inr}
use Rattle.call_tree.specs.Chains.{Sound, at, other, walk}
use Rattle.call_tree.proofs.Chain.{Sound-linked, stops}
use Rattle.call_tree.proofs.Cutting.{Sound-cut, differ, places, some}
use Rattle.call_tree.proofs.ChainSets.{set_sets, other_sets}

module _ (top : ℕ) (up down rank far : List ℕ) where
  pub linked :
      (a u c : ℕ) → (length up ≡ 65) × (length down ≡ 65) × (length rank ≡ 65) × (length far ≡ 65) → Sound top (at up) (at down) (at rank) (other far) →
      a ≢ u → at down a ≡ 0 → at up u ≡ 0 → at down u ≡ 0 → at rank a < c → c ≤ top →
      (0 < a) × (a ≤ 64) → (0 < u) × (u ≤ 64) →
      Sound top (at (set up u a)) (at (set down a u)) (at (set rank u c)) (other (set (set far u (other far a)) (other far a) u))
  linked a u c long s apart da uu du later made a_in u_in =
      let r = other far a in
      let short = s.short a a_in.0 a_in.1 in
      let one = other_sets far u r short.0 (omega (arith, long.3, u_in.1)) in
      let two = other_sets (set far u r) r u u_in.0 (omega (arith, length-set far u r, long.3, short.1)) in
      let ru : r ≢ u = λ e. apart (sym (s.lead a da).1 ∙ ap (other far) e ∙ sym (s.token u du) ∙ stops_at (at rank u) u uu) in
      Sound-linked s a u c apart da uu du later made a_in.0 a_in.1 u_in.0 u_in.1
      (set_sets up u a (omega (arith, long.0, u_in.1)))
      (set_sets down a u (omega (arith, long.1, a_in.1)))
      (set_sets rank u c (omega (arith, long.2, u_in.1)))
      (two.others u (λ e. ru (sym e)) ∙ one.changed)
      two.changed
      (λ k n m. two.others k m ∙ one.others k n)
    where
      stops_at : (n t : ℕ) → at up t ≡ 0 → walk n (at up) t ≡ t
      stops_at = stops (at up)

  pub cut :
      (a u l r : ℕ) → (length up ≡ 65) × (length down ≡ 65) × (length rank ≡ 65) × (length far ≡ 65) → Sound top (at up) (at down) (at rank) (other far) →
      0 < at up u → at up u ≡ a → walk top (at down) u ≡ l → other far l ≡ r →
      Sound top (at (set up u 0)) (at (set down a 0)) (at (set rank u 0)) (other (set (set (set (set far r a) a r) l u) u l))
  cut a u l r long s p ua ul rl =
      let at64 = places s a u l p ua ul in
      let more = some s a u l p ua ul in
      let ne = differ s a u l p ua ul in
      let r64 : r ≤ 64 = omega (arith, rl, at64.3) in
      let r0 : 0 < r = omega (arith, rl, more.3) in
      let ru : r ≢ u = λ e. ne.1 (rl ∙ e) in
      let rl' : r ≢ l = λ e. ne.3 (rl ∙ e) in
      let far1 = set far r a in
      let far2 = set far1 a r in
      let far3 = set far2 l u in
      let long1 = length-set far r a in
      let long2 = length-set far1 a r in
      let long3 = length-set far2 l u in
      let w1 = other_sets far r a more.1 (omega (arith, long.3, r64)) in
      let w2 = other_sets far1 a r r0 (omega (arith, long1, long.3, at64.1)) in
      let w3 = other_sets far2 l u more.0 (omega (arith, long2, long1, long.3, at64.2)) in
      let w4 = other_sets far3 u l more.2 (omega (arith, long3, long2, long1, long.3, at64.0)) in
      let at_r : other far2 r ≡ a = elim (cases_eq r a) [ inl e ↦ ap (other far2) e ∙ w2.changed ∙ e | inr n ↦ w2.others r n ∙ w1.changed ] in
      let at_l : other (set far3 u l) l ≡ u = elim (cases_eq l u) [ inl e ↦ ap (other (set far3 u l)) e ∙ w4.changed ∙ e | inr n ↦ w4.others l n ∙ w3.changed ] in
      Sound-cut s a u l p ua ul
      (set_sets up u 0 (omega (arith, long.0, at64.0)))
      (set_sets down a 0 (omega (arith, long.1, at64.1)))
      (set_sets rank u 0 (omega (arith, long.2, at64.0)))
      (ap (other (set far3 u l)) rl ∙ w4.others r ru ∙ w3.others r rl' ∙ at_r)
      (w4.others a ne.0 ∙ w3.others a ne.2 ∙ w2.changed ∙ sym rl)
      at_l
      w4.changed
      (λ k nr na nl nu. w4.others k nu ∙ w3.others k nl ∙ w2.others k na ∙ w1.others k (λ e. nr (e ∙ sym rl)))

  pub spots :
      (a u l r : ℕ) → Sound top (at up) (at down) (at rank) (other far) →
      0 < at up u → at up u ≡ a → walk top (at down) u ≡ l → other far l ≡ r →
      (u ≤ 64) × (a ≤ 64) × (l ≤ 64) × (r ≤ 64)
  spots a u l r s p ua ul rl =
      let w = places s a u l p ua ul in
      (w.0, w.1, w.2, omega (arith, w.3, rl))
