-- Chains of threads: walks along them, and what a link and a cut leave.
use Rattle.std.proofs.Common.{◌≡◌, ◌≢◌, ◌⊎◌, inl, inr, ◌<◌, ◌≤◌, ◌+◌, ◌-◌, ℕ, zero, suc, refl, sym, ap, ◌∙◌, arith}
use Rattle.std.proofs.lemmas.Bool.{cases_eq}
use Rattle.call_tree.specs.Chains.{Sound, Sets, walk, walk_to}

pub zero_or : (v : ℕ) → (v ≡ 0) ⊎ (0 < v)
zero_or zero = inl refl
zero_or (suc v) = inr (omega arith)

walk_to-some : (go : ℕ → ℕ) (t v : ℕ) → 0 < v → walk_to go t v ≡ go v
walk_to-some go t zero h = absurd (omega arith)
walk_to-some go t (suc v) h = refl

pub stops : (next : ℕ → ℕ) (n t : ℕ) → next t ≡ 0 → walk n next t ≡ t
stops next zero t e = refl
stops next (suc n) t e = rw e refl

pub steps : (next : ℕ → ℕ) (n t : ℕ) → 0 < next t → walk (suc n) next t ≡ walk n next (next t)
steps next n t h = walk_to-some (walk n next) t (next t) h

module _ {up rank : ℕ → ℕ} (ranked : (t : ℕ) → 0 < up t → rank (up t) < rank t) where
  pub no_caller : (t : ℕ) → rank t ≤ 0 → up t ≡ 0
  no_caller t h = elim (zero_or (up t)) [
    | inl e ↦ e
    | inr p ↦ absurd (omega (arith, ranked t p))
  ]

  -- with steps enough, their number is the same
  pub fuel_by : (n m t : ℕ) → rank t ≤ n → rank t ≤ m → walk n up t ≡ walk m up t
  fuel_by zero m t h k = sym (stops up m t (no_caller t h))
  fuel_by (suc n) zero t h k = stops up (suc n) t (no_caller t k)
  fuel_by (suc n) (suc m) t h k = elim (zero_or (up t)) [
    | inl e ↦ stops up (suc n) t e ∙ sym (stops up (suc m) t e)
    | inr p ↦ steps up n t p ∙ fuel_by n m (up t) (omega (arith, ranked t p)) (omega (arith, ranked t p)) ∙ sym (steps up m t p)
  ]

module _ {top : ℕ} {up down rank o : ℕ → ℕ} (s : Sound top up down rank o) where
  pub fuel : (n m t : ℕ) → rank t ≤ n → rank t ≤ m → walk n up t ≡ walk m up t
  fuel = fuel_by s.ranked

  pub root_ends : (n t : ℕ) → rank t ≤ n → up (walk n up t) ≡ 0
  root_ends zero t h = no_caller s.ranked t h
  root_ends (suc n) t h = elim (zero_or (up t)) [
    | inl e ↦ ap up (stops up (suc n) t e) ∙ e
    | inr p ↦ ap up (steps up n t p) ∙ root_ends n (up t) (omega (arith, s.ranked t p))
  ]

  pub down_ranked : (t : ℕ) → 0 < down t → rank t < rank (down t)
  down_ranked t p =
      let e = s.back_up t p in
      let z : 0 < up (down t) = positive (up (down t)) t e p in
      let r = s.ranked (down t) z in
      omega (arith, r, ap rank e)
    where
      positive : (v t : ℕ) → v ≡ t → 0 < down t → 0 < v
      positive zero t e p = absurd (omega (arith, ap down e, s.no_down))
      positive (suc v) t e p = omega arith

  pub lead_ends : (n t : ℕ) → top ≤ rank t + n → down (walk n down t) ≡ 0
  lead_ends zero t h = elim (zero_or (down t)) [
    | inl e ↦ e
    | inr p ↦ absurd (omega (arith, down_ranked t p, s.bounded (down t)))
  ]
  lead_ends (suc n) t h = elim (zero_or (down t)) [
    | inl e ↦ ap down (stops down (suc n) t e) ∙ e
    | inr p ↦ ap down (steps down n t p) ∙ lead_ends n (down t) (omega (arith, down_ranked t p))
  ]

  pub up_from : (t : ℕ) → 0 < down t → 0 < up (down t)
  up_from t p = elim (zero_or t) [
    | inl e ↦ absurd (omega (arith, ap down e, s.no_down))
    | inr q ↦ omega (arith, s.back_up t p)
  ]

  -- one step down has the same root
  root_below : (t : ℕ) → 0 < down t → walk (rank (down t)) up (down t) ≡ walk (rank t) up t
  root_below t p =
      let r = down_ranked t p in
      let m = rank (down t) - 1 in
      let e : rank (down t) ≡ suc m = omega arith in
      ap (λ n. walk n up (down t)) e
      ∙ steps up m (down t) (up_from t p)
      ∙ ap (walk m up) (s.back_up t p)
      ∙ fuel m (rank t) t (omega arith) (omega arith)

  pub root_same : (n t : ℕ) → walk (rank (walk n down t)) up (walk n down t) ≡ walk (rank t) up t
  root_same zero t = refl
  root_same (suc n) t = elim (zero_or (down t)) [
    | inl e ↦ let k = stops down (suc n) t e in ap (λ v. walk (rank v) up v) k
    | inr p ↦ let k = steps down n t p in ap (λ v. walk (rank v) up v) k ∙ root_same n (down t) ∙ root_below t p
  ]

  -- the root that the lead's token tells
  pub told_root : (t : ℕ) → o (walk top down t) ≡ walk top up t
  told_root t =
      sym (s.token (walk top down t) (lead_ends top t (omega arith)))
      ∙ root_same top t
      ∙ fuel (rank t) top t (omega arith) (s.bounded t)

  -- the lead that the root's token tells
  pub told_lead : (t : ℕ) → up t ≡ 0 → o t ≡ walk top down t
  told_lead t e =
      let l = walk top down t in
      let r : o l ≡ t = told_root t ∙ stops up top t e in
      sym (ap o r) ∙ (s.lead l (lead_ends top t (omega arith))).1

  -- the lead is a thread
  pub lead_in : (n t : ℕ) → 0 < t → t ≤ 64 → (0 < walk n down t) × (walk n down t ≤ 64)
  lead_in zero t p h = (p, h)
  lead_in (suc n) t p h = elim (zero_or (down t)) [
    | inl e ↦ let k = stops down (suc n) t e in (omega (arith, k), omega (arith, k))
    | inr q ↦
        let k = steps down n t q in
        let w = s.within (down t) (up_from t q) in
        let ih = lead_in n (down t) q w.0 in
        (omega (arith, k, ih.0), omega (arith, k, ih.1))
  ]

  pub still_served : (n t : ℕ) → 0 < up t → 0 < up (walk n down t)
  still_served zero t p = p
  still_served (suc n) t p = elim (zero_or (down t)) [
    | inl e ↦ omega (arith, ap up (stops down (suc n) t e))
    | inr q ↦ omega (arith, ap up (steps down n t q), still_served n (down t) (up_from t q))
  ]

  -- a link
  module _ {up' down' rank' o' : ℕ → ℕ} (a u c : ℕ)
      (apart : a ≢ u) (da : down a ≡ 0) (uu : up u ≡ 0) (du : down u ≡ 0) (later : rank a < c) (made : c ≤ top)
      (ap0 : 0 < a) (a64 : a ≤ 64) (up0 : 0 < u) (u64 : u ≤ 64)
      (su : Sets up up' u a) (sd : Sets down down' a u) (sr : Sets rank rank' u c)
      (ou' : o' u ≡ o a) (or' : o' (o a) ≡ u) (oo' : (k : ℕ) → k ≢ u → k ≢ o a → o' k ≡ o k) where
    alone : (t : ℕ) → up t ≡ 0 → down t ≡ 0 → o t ≡ t
    alone t e d = sym (s.token t d) ∙ stops up (rank t) t e

    r_up : up (o a) ≡ 0
    r_up = (s.lead a da).0

    r_o : o (o a) ≡ a
    r_o = (s.lead a da).1

    r_u : o a ≢ u
    r_u e = apart (sym r_o ∙ ap o e ∙ alone u uu du)

    not_u : (t : ℕ) → 0 < up t → up t ≢ u
    not_u t p e = grind (arith, s.back_down t, s.no_up, du, ap down e)

    not_a : (t : ℕ) → 0 < up t → up t ≢ a
    not_a t p e = grind (arith, s.back_down t, s.no_up, da, ap down e)

    down_not_u : (t : ℕ) → 0 < down t → down t ≢ u
    down_not_u t p e = grind (arith, s.back_up t, s.no_down, uu, ap up e)

    same_walk : (n t : ℕ) → t ≢ u → walk n up' t ≡ walk n up t
    same_walk zero t h = refl
    same_walk (suc n) t h = elim (zero_or (up t)) [
      | inl e ↦ stops up' (suc n) t (su.others t h ∙ e) ∙ sym (stops up (suc n) t e)
      | inr p ↦
          let e = su.others t h in
          steps up' n t (omega (arith, e, p)) ∙ ap (walk n up') e ∙ same_walk n (up t) (not_u t p) ∙ sym (steps up n t p)
    ]

    lead_not_r : (t : ℕ) → t ≢ a → down t ≡ 0 → t ≢ o a
    lead_not_r t h d e =
        let d0 : down (o a) ≡ 0 = ap down (sym e) ∙ d in
        h (e ∙ sym (alone (o a) r_up d0) ∙ r_o)

    lead' : (t : ℕ) → down' t ≡ 0 → (up' (o' t) ≡ 0) × (o' (o' t) ≡ t)
    lead' t d' =
        let h : t ≢ a = λ e. absurd (omega (arith, ap down' e, sd.changed, d', up0)) in
        let d : down t ≡ 0 = sym (sd.others t h) ∙ d' in
        elim (cases_eq t u) [
          | inl e ↦
              let k : o' t ≡ o a = ap o' e ∙ ou' in
              (ap up' k ∙ su.others (o a) r_u ∙ r_up, ap o' k ∙ or' ∙ sym e)
          | inr n ↦
              let nr = lead_not_r t h d in
              let k = oo' t n nr in
              let w = s.lead t d in
              let vr : o t ≢ o a = λ e. h (sym w.1 ∙ ap o e ∙ r_o) in
              let vu : o t ≢ u = λ e. n (sym w.1 ∙ ap o e ∙ alone u uu du) in
              (ap up' k ∙ su.others (o t) vu ∙ w.0, ap o' k ∙ oo' (o t) vu vr ∙ w.1)
        ]

    root' : (t : ℕ) → up' t ≡ 0 → (down' (o' t) ≡ 0) × (o' (o' t) ≡ t)
    root' t e' =
        let n : t ≢ u = λ e. absurd (omega (arith, ap up' e, su.changed, e', ap0)) in
        let e0 : up t ≡ 0 = sym (su.others t n) ∙ e' in
        elim (cases_eq t (o a)) [
          | inl e ↦
              let k : o' t ≡ u = ap o' e ∙ or' in
              (ap down' k ∙ sd.others u (λ z. apart (sym z)) ∙ du, ap o' k ∙ ou' ∙ sym e)
          | inr nr ↦
              let k = oo' t n nr in
              let w = s.root t e0 in
              let va : o t ≢ a = λ e. nr (sym w.1 ∙ ap o e) in
              let vu : o t ≢ u = λ e. n (sym w.1 ∙ ap o e ∙ alone u uu du) in
              let vr : o t ≢ o a = λ e.
              let ta : t ≡ a = sym w.1 ∙ ap o e ∙ r_o in
              nr (ta ∙ sym (alone a (ap up (sym ta) ∙ e0) da)) in
              (ap down' k ∙ sd.others (o t) va ∙ w.0, ap o' k ∙ oo' (o t) vu vr ∙ w.1)
        ]

    token' : (t : ℕ) → down' t ≡ 0 → walk (rank' t) up' t ≡ o' t
    token' t d' =
        let h : t ≢ a = λ e. absurd (omega (arith, ap down' e, sd.changed, d', up0)) in
        let d : down t ≡ 0 = sym (sd.others t h) ∙ d' in
        elim (cases_eq t u) [
          | inl e ↦
              let m = c - 1 in
              let cm : c ≡ suc m = omega (arith, later) in
              let k : rank' t ≡ suc m = ap rank' e ∙ sr.changed ∙ cm in
              let p : 0 < up' u = omega (arith, su.changed, ap0) in
              ap (λ n. walk n up' t) k
              ∙ ap (walk (suc m) up') e
              ∙ steps up' m u p
              ∙ ap (walk m up') su.changed
              ∙ same_walk m a apart
              ∙ fuel m (rank a) a (omega (arith, later)) (omega arith)
              ∙ s.token a da
              ∙ sym (ap o' e ∙ ou')
          | inr n ↦
              ap (λ k. walk k up' t) (sr.others t n)
              ∙ same_walk (rank t) t n
              ∙ s.token t d
              ∙ sym (oo' t n (lead_not_r t h d))
        ]

    short' : (t : ℕ) → 0 < t → t ≤ 64 → (0 < o' t) × (o' t ≤ 64)
    short' t p h = elim (cases_eq t u) [
      | inl e ↦ let w = s.short a ap0 a64 in let k = ap o' e ∙ ou' in (omega (arith, k, w.0), omega (arith, k, w.1))
      | inr n ↦ elim (cases_eq t (o a)) [
        | inl e ↦ let k = ap o' e ∙ or' in (omega (arith, k), omega (arith, k))
        | inr nr ↦ let k = oo' t n nr in let w = s.short t p h in (omega (arith, k, w.0), omega (arith, k, w.1))
      ]
    ]

    pub Sound-linked : Sound top up' down' rank' o'
    Sound-linked =
        record {
          within = λ t p. grind (arith, cases_eq t u, su.changed, su.others t, s.within t);
          no_up = su.others 0 (omega arith) ∙ s.no_up;
          no_down = sd.others 0 (omega arith) ∙ s.no_down;
          back_down = λ t p. grind (arith, cases_eq t u, su.changed, su.others t, sd.changed, sd.others (up t), not_a t, s.back_down t);
          back_up = λ t p. grind (arith, cases_eq t a, sd.changed, sd.others t, su.changed, su.others (down t), down_not_u t, s.back_up t);
          ranked = λ t p. grind (arith, cases_eq t u, su.changed, su.others t, sr.changed, sr.others t, sr.others a, sr.others (up t), not_u t, s.ranked t);
          bounded = λ t. grind (arith, cases_eq t u, sr.changed, sr.others t, s.bounded t);
          lead = lead';
          root = root';
          token = token';
          short = short';
        }

-- one step of a walk that goes on, and of one that stops
pub walk_more : (next : ℕ → ℕ) (n t u : ℕ) → 0 < n → next t ≡ u → 0 < u → walk n next t ≡ walk (n - 1) next u
walk_more next zero t u h e p = absurd (omega arith)
walk_more next (suc n) t u h e p =
    let k : suc n - 1 ≡ n = omega arith in
    steps next n t (omega (arith, e, p)) ∙ ap (walk n next) e ∙ ap (λ m. walk m next u) (sym k)
