-- What a cut of a chain leaves: a is the caller that u served, l the lead of u, and o l the root of both.
use Rattle.std.proofs.Common.{◌≡◌, ◌≢◌, ◌⊎◌, inl, inr, ◌<◌, ◌≤◌, ◌-◌, ℕ, zero, suc, refl, sym, ap, ◌∙◌, arith}
use Rattle.std.proofs.lemmas.Bool.{cases_eq}
use Rattle.call_tree.specs.Chains.{Sound, Sets, walk}
use Rattle.call_tree.proofs.Chain.{zero_or, stops, steps, fuel_by, fuel, told_root, lead_ends, down_ranked, up_from, still_served, lead_in}

module _ {top : ℕ} {up down rank o : ℕ → ℕ} (s : Sound top up down rank o) where
  module _ (a u l : ℕ) (p : 0 < up u) (ua : up u ≡ a) (ul : walk top down u ≡ l) where
    u_some : 0 < u
    u_some = elim (zero_or u) [
      | inl e ↦ absurd (omega (arith, ap up e, s.no_up, p))
      | inr q ↦ q
    ]

    lone : (t : ℕ) → up t ≡ 0 → down t ≡ 0 → o t ≡ t
    lone t e d = sym (s.token t d) ∙ stops up (rank t) t e

    l_down : down l ≡ 0
    l_down = ap down (sym ul) ∙ lead_ends s top u (omega arith)

    l_up : 0 < up l
    l_up = omega (arith, ap up ul, still_served s top u p)

    r_root : up (o l) ≡ 0
    r_root = (s.lead l l_down).0

    r_lead : o (o l) ≡ l
    r_lead = (s.lead l l_down).1

    r_of_u : o l ≡ walk top up u
    r_of_u = ap o (sym ul) ∙ told_root s u

    a_rank : rank a < rank u
    a_rank = omega (arith, s.ranked u p, ap rank ua)

    a_down : down a ≡ u
    a_down = ap down (sym ua) ∙ s.back_down u p

    r_of_a : walk (rank a) up a ≡ o l
    r_of_a =
        let m = top - 1 in
        let k : top ≡ suc m = omega (arith, s.bounded u, a_rank) in
        fuel s (rank a) m a (omega arith) (omega (arith, s.bounded u, a_rank))
        ∙ ap (walk m up) (sym ua)
        ∙ sym (steps up m u p)
        ∙ ap (λ n. walk n up u) (sym k)
        ∙ sym r_of_u

    a_u : a ≢ u
    a_u e = omega (arith, ap rank e, a_rank)

    r_u : o l ≢ u
    r_u e = omega (arith, ap up e, r_root, p)

    a_l : a ≢ l
    a_l e = omega (arith, ap down e, a_down, l_down, u_some)

    r_l : o l ≢ l
    r_l e = omega (arith, ap up e, r_root, l_up)

    u64 : u ≤ 64
    u64 = (s.within u p).0

    a64 : a ≤ 64
    a64 = omega (arith, (s.within u p).1, ua)

    l64 : (0 < l) × (l ≤ 64)
    l64 = let w = lead_in s top u u_some u64 in (omega (arith, w.0, ul), omega (arith, w.1, ul))

    r64 : (0 < o l) × (o l ≤ 64)
    r64 = s.short l l64.0 l64.1

    pub places : (u ≤ 64) × (a ≤ 64) × (l ≤ 64) × (o l ≤ 64)
    places = (u64, a64, l64.1, r64.1)

    pub some : (0 < u) × (0 < a) × (0 < l) × (0 < o l)
    some = (u_some, omega (arith, p, ua), l64.0, r64.0)

    pub differ : (a ≢ u) × (o l ≢ u) × (a ≢ l) × (o l ≢ l)
    differ = (a_u, r_u, a_l, r_l)

    module _ {up' down' rank' o' : ℕ → ℕ}
        (su : Sets up up' u 0) (sd : Sets down down' a 0) (sr : Sets rank rank' u 0)
        (or' : o' (o l) ≡ a) (oa' : o' a ≡ o l) (ol' : o' l ≡ u) (ou' : o' u ≡ l)
        (oo' : (k : ℕ) → k ≢ o l → k ≢ a → k ≢ l → k ≢ u → o' k ≡ o k) where
      r_busy : down (o l) ≢ 0
      r_busy d = r_l (sym (lone (o l) r_root d) ∙ r_lead)

      u_free : down u ≡ 0 → u ≡ l
      u_free d = sym (stops down top u d) ∙ ul

      a_root : up a ≡ 0 → a ≡ o l
      a_root e = sym (stops up (rank a) a e) ∙ r_of_a

      lead' : (t : ℕ) → down' t ≡ 0 → (up' (o' t) ≡ 0) × (o' (o' t) ≡ t)
      lead' t d' =
          grind
          (arith, cases_eq t a, cases_eq t l, cases_eq t u, cases_eq t (o l), cases_eq (o t) a, cases_eq (o t) l, cases_eq (o t) u, cases_eq (o t) (o l), sd.others t, su.changed, su.others (o t), su.others (o l), or', oa', ol', ou', oo' t, oo' (o t), s.lead t, r_u, r_root, r_lead, r_busy, u_free, a_root, l_up)

      root' : (t : ℕ) → up' t ≡ 0 → (down' (o' t) ≡ 0) × (o' (o' t) ≡ t)
      root' t e' =
          grind
          (arith, cases_eq t a, cases_eq t l, cases_eq t u, cases_eq t (o l), cases_eq (o t) a, cases_eq (o t) l, cases_eq (o t) u, cases_eq (o t) (o l), su.others t, sd.changed, sd.others l, sd.others (o t), or', oa', ol', ou', oo' t, oo' (o t), s.root t, a_l, a_down, u_some, l_down, r_busy, u_free, a_root, l_up)

      ranked' : (t : ℕ) → 0 < up' t → rank' (up' t) < rank' t
      ranked' t q = grind (arith, cases_eq t u, cases_eq (up t) u, su.changed, su.others t, sr.changed, sr.others t, sr.others (up t), s.ranked t)

      -- the part below u has it as its root
      above_same : (n t : ℕ) → rank t < rank u → walk n up' t ≡ walk n up t
      above_same zero t h = refl
      above_same (suc n) t h =
          let k = su.others t (λ e. omega (arith, ap rank e, h)) in
          elim (zero_or (up t)) [
            | inl e ↦ stops up' (suc n) t (k ∙ e) ∙ sym (stops up (suc n) t e)
            | inr q ↦
                steps up' n t (omega (arith, k, q)) ∙ ap (walk n up') k ∙ above_same n (up t) (omega (arith, s.ranked t q)) ∙ sym (steps up n t q)
          ]

      below_cut : (n t : ℕ) → rank u ≤ rank t → walk (rank' t) up' t ≡ u → walk (rank' (walk n down t)) up' (walk n down t) ≡ u
      below_cut zero t h e = e
      below_cut (suc n) t h e = elim (zero_or (down t)) [
        | inl z ↦ ap (λ v. walk (rank' v) up' v) (stops down (suc n) t z) ∙ e
        | inr q ↦
            let w = down t in
            let r = down_ranked s t q in
            let nu : w ≢ u = λ z. omega (arith, ap rank z, r, h) in
            let k : up' w ≡ t = su.others w nu ∙ s.back_up t q in
            let some : 0 < up' w = omega (arith, su.others w nu, up_from s t q) in
            let r' = ranked' w some in
            let m = rank' w - 1 in
            let z : rank' w ≡ suc m = omega (arith, r') in
            let step : walk (rank' w) up' w ≡ u =
            ap (λ j. walk j up' w) z
            ∙ steps up' m w some
            ∙ ap (walk m up') k
            ∙ fuel_by ranked' m (rank' t) t (omega (arith, r', ap rank' k)) (omega arith)
            ∙ e in
            ap (λ v. walk (rank' v) up' v) (steps down n t q) ∙ below_cut n w (omega (arith, r, h)) step
      ]

      cut : (n t : ℕ) → (walk n up' t ≡ u) ⊎ (walk n up' t ≡ walk n up t)
      cut zero t = inr refl
      cut (suc n) t = elim (cases_eq t u) [
        | inl e ↦ inl (stops up' (suc n) t (ap up' e ∙ su.changed) ∙ e)
        | inr nu ↦
            let k = su.others t nu in
            elim (zero_or (up t)) [
              | inl e ↦ inr (stops up' (suc n) t (k ∙ e) ∙ sym (stops up (suc n) t e))
              | inr q ↦
                  let st = steps up' n t (omega (arith, k, q)) ∙ ap (walk n up') k in
                  elim (cut n (up t)) [
                    | inl e ↦ inl (st ∙ e)
                    | inr e ↦ inr (st ∙ e ∙ sym (steps up n t q))
                  ]
            ]
      ]

      through : (n t : ℕ) → rank t ≤ n → walk n up' t ≡ u → walk n up t ≡ walk top up u
      through zero t h e = ap (walk 0 up) e ∙ fuel s 0 top u (omega (arith, ap rank e, h)) (s.bounded u)
      through (suc n) t h e = elim (cases_eq t u) [
        | inl z ↦ ap (walk (suc n) up) z ∙ fuel s (suc n) top u (omega (arith, ap rank z, h)) (s.bounded u)
        | inr nu ↦
            let k = su.others t nu in
            elim (zero_or (up t)) [
              | inl z ↦ absurd (nu (sym (stops up' (suc n) t (k ∙ z)) ∙ e))
              | inr q ↦
                  let st = steps up' n t (omega (arith, k, q)) ∙ ap (walk n up') k in
                  steps up n t q ∙ through n (up t) (omega (arith, s.ranked t q, h)) (sym st ∙ e)
            ]
      ]

      token' : (t : ℕ) → down' t ≡ 0 → walk (rank' t) up' t ≡ o' t
      token' t d' = elim (cases_eq t a) [
        | inl e ↦
            ap (λ v. walk (rank' v) up' v) e
            ∙ ap (λ n. walk n up' a) (sr.others a a_u)
            ∙ above_same (rank a) a a_rank
            ∙ r_of_a
            ∙ sym (ap o' e ∙ oa')
        | inr na ↦ elim (cases_eq t l) [
          | inl e ↦
              ap (λ v. walk (rank' v) up' v) (e ∙ sym ul)
              ∙ below_cut top u (omega arith) (stops up' (rank' u) u su.changed)
              ∙ sym (ap o' e ∙ ol')
          | inr nl ↦
              let d : down t ≡ 0 = sym (sd.others t na) ∙ d' in
              let nr : t ≢ o l = λ e. r_busy (ap down (sym e) ∙ d) in
              let nu : t ≢ u = λ e. nl (e ∙ u_free (ap down (sym e) ∙ d)) in
              let k = oo' t nr na nl nu in
              let rk = ap (λ n. walk n up' t) (sr.others t nu) in
              elim (cut (rank t) t) [
                | inl e ↦
                    let q = sym (s.token t d) ∙ through (rank t) t (omega arith) e ∙ sym r_of_u in
                    absurd (nl (sym (s.lead t d).1 ∙ ap o q ∙ r_lead))
                | inr e ↦ rk ∙ e ∙ s.token t d ∙ sym k
              ]
        ]
      ]

      pub Sound-cut : Sound top up' down' rank' o'
      Sound-cut =
          record {
            within = λ t q. grind (arith, cases_eq t u, su.changed, su.others t, s.within t);
            no_up = su.others 0 (omega (arith, u_some)) ∙ s.no_up;
            no_down = sd.others 0 (omega (arith, p, ua)) ∙ s.no_down;
            back_down = λ t q. grind (arith, cases_eq t u, cases_eq (up t) a, su.changed, su.others t, sd.others (up t), a_down, s.back_down t);
            back_up = λ t q. grind (arith, cases_eq t a, cases_eq (down t) u, sd.changed, sd.others t, su.others (down t), ua, s.back_up t);
            ranked = ranked';
            bounded = λ t. grind (arith, cases_eq t u, sr.changed, sr.others t, s.bounded t);
            lead = lead';
            root = root';
            token = token';
            short = λ t q h. grind (arith, cases_eq t u, cases_eq t l, cases_eq t a, cases_eq t (o l), or', oa', ol', ou', oo' t, s.short t, l64, r64, u_some, u64, a64, p, ua);
          }
