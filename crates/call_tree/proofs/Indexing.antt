-- The indexes after each change of a call.
use Rattle.std.proofs.Common.{◌≡◌, ◌≢◌, ◌⊎◌, zero, ◌≤◌, ℕ, suc, true, false, inl, inr, Option, Some, None, refl, sym, ◌∙◌, arith}
use Rattle.std.proofs.lemmas.Bool.{cases_eq}
use Rattle.std.proofs.lemmas.Bool.Decides.{nat_tests}
use Rattle.spec_records.specs.declared.record.Call.{Call}
use Rattle.spec_records.specs.declared.record.CallStage.TheVariants as stage
use Rattle.spec_records.specs.Words.{at_stage, is_served_by, tid}
use Rattle.call_tree.specs.Words.{Sets}
use Rattle.call_tree.specs.Calls.{is_called_by}
use Rattle.call_tree.specs.Index.{IsSound, Indexed, server_number}

-- a place, or none
pub none_or : (v : ℕ) → (v ≡ 0) ⊎ ((k : ℕ) × (v ≡ suc k))
none_or zero = inl refl
none_or (suc k) = inr (k, refl)

pub server_is : (r : Call) (t : ℕ) → is_served_by t r ≡ true → server_number r ≡ t
server_is r t h = grind (arith, nat_tests)

-- another call, which waits
module _ {f g : ℕ → Option Call} {ck ck' sk up down rank : ℕ → ℕ} {top new : ℕ}
    (s : Indexed f ck sk up down rank top) (k : ℕ) (r : Call)
    (fk : f k ≡ None) (q : r.stage ≡ stage.Queued) (fresh : (j : ℕ) (x : Call) → f j ≡ Some x → is_called_by r.caller.0 x ≡ true → ⊥)
    (sound_r : IsSound r) (more : new ≡ suc top) (number : r.number ≡ new)
    (gk : g k ≡ Some r) (go : (j : ℕ) → j ≢ k → g j ≡ f j) (sc : Sets ck ck' r.caller.0 (suc k)) where
  no_call : ck r.caller.0 ≡ 0
  no_call = elim (none_or (ck r.caller.0)) [
    | inl e ↦ e
    | inr w ↦ let v = s.called r.caller.0 w.0 w.1 in absurd (fresh w.0 v.0 v.1 (grind (arith, nat_tests, v.2)))
  ]

  ranks : rank r.caller.0 ≤ top
  ranks = elim (none_or (sk r.caller.0)) [
    | inl e ↦ omega (arith, (s.up_none r.caller.0 e).1)
    | inr w ↦ let v = s.serving r.caller.0 w.0 w.1 in omega (arith, (s.up_is r.caller.0 w.0 v.0 w.1 v.1).1, (s.later w.0 v.0 v.1).1)
  ]

  unserved : (t : ℕ) → is_served_by t r ≡ true → ⊥
  unserved t h = grind (arith, nat_tests)

  pub Indexed-opened : Indexed g ck' sk up down rank new
  Indexed-opened =
      record {
        caller = λ j x e. grind (arith, nat_tests, cases_eq j k, cases_eq x.caller.0 r.caller.0, go j, gk, sc.changed, sc.others x.caller.0, s.caller j x, fresh j x);
        server = λ j t x e h. grind (arith, cases_eq j k, go j, gk, unserved t, s.server j t x);
        called = λ t j e. grind (arith, cases_eq t r.caller.0, cases_eq j k, go j, gk, fk, sc.changed, sc.others t, s.called t j);
        serving = λ t j e. grind (arith, cases_eq j k, go j, gk, fk, s.serving t j);
        up_is = λ t j x e h. grind (arith, cases_eq j k, go j, gk, fk, s.serving t j, s.up_is t j x);
        up_none = s.up_none;
        down_is = λ t j x e h. grind (arith, cases_eq t r.caller.0, cases_eq j k, go j, gk, fk, q, sc.changed, sc.others t, s.called t j, s.down_is t j x, s.down_none t, no_call);
        down_none = λ t e. grind (arith, cases_eq t r.caller.0, sc.changed, sc.others t, s.down_none t, no_call);
        later = λ j x e. grind (arith, cases_eq j k, go j, gk, number, more, ranks, s.later j x);
        once = λ j i x y e h n. grind (arith, cases_eq j k, cases_eq i k, go j, go i, gk, number, more, s.once j i x y, s.later j x, s.later i y);
        sound = λ j x e. grind (arith, cases_eq j k, go j, gk, sound_r, s.sound j x);
      }

-- a call is given to a thread
module _ {f g : ℕ → Option Call} {ck sk sk' up down rank up' down' rank' : ℕ → ℕ} {top : ℕ}
    (s : Indexed f ck sk up down rank top) (k u : ℕ) (r : Call)
    (fk : f k ≡ Some r) (q : r.stage ≡ stage.Queued) (free : sk u ≡ 0) (idle : ck u ≡ 0) (sound_r : IsSound (at_stage (stage.Given (tid u)) r))
    (gk : g k ≡ Some (at_stage (stage.Given (tid u)) r)) (go : (j : ℕ) → j ≢ k → g j ≡ f j)
    (ss : Sets sk sk' u (suc k)) (su : Sets up up' u r.caller.0) (sd : Sets down down' r.caller.0 u) (sr : Sets rank rank' u r.number) where
  plain_r : r.abandoned ≡ false
  plain_r = sound_r.plain refl

  a_u : r.caller.0 ≢ u
  a_u e = grind (arith, s.caller k r fk)

  unserved_before : (t : ℕ) → is_served_by t r ≡ true → ⊥
  unserved_before t h = grind (arith, nat_tests)

  by_u : (t : ℕ) → is_served_by t (at_stage (stage.Given (tid u)) r) ≡ true → t ≡ u
  by_u t h = grind (arith, nat_tests)

  served_u : is_served_by u (at_stage (stage.Given (tid u)) r) ≡ true
  served_u = grind (arith, nat_tests, plain_r)

  server_u : server_number (at_stage (stage.Given (tid u)) r) ≡ u
  server_u = grind (arith, nat_tests, plain_r)

  serving' : (t j : ℕ) → sk' t ≡ suc j → (x : Call) × (g j ≡ Some x) × (is_served_by t x ≡ true)
  serving' t j e = elim (cases_eq t u) [
    | inl z ↦ (at_stage (stage.Given (tid u)) r, grind (arith, gk, ss.changed), grind (arith, served_u))
    | inr n ↦ let v = s.serving t j (sym (ss.others t n) ∙ e) in grind (arith, cases_eq j k, go j, fk, unserved_before t, v.1, v.2)
  ]

  pub Indexed-given : Indexed g ck sk' up' down' rank' top
  Indexed-given =
      record {
        caller = λ j x e. grind (arith, cases_eq j k, go j, gk, s.caller j x, s.caller k r fk);
        server = λ j t x e h. grind (arith, cases_eq j k, cases_eq t u, go j, gk, by_u t, free, s.server j t x, ss.changed, ss.others t);
        called = λ t j e. let v = s.called t j e in grind (arith, cases_eq j k, go j, gk, v.1, v.2, fk);
        serving = serving';
        up_is = λ t j x e h. grind (arith, cases_eq j k, cases_eq t u, go j, gk, fk, unserved_before t, s.serving t j, s.up_is t j x, ss.changed, ss.others t, su.changed, su.others t, sr.changed, sr.others t);
        up_none = λ t e. grind (arith, cases_eq t u, ss.changed, ss.others t, su.others t, sr.others t, s.up_none t);
        down_is = λ t j x e h. grind (arith, cases_eq j k, cases_eq t r.caller.0, go j, gk, fk, server_u, s.called t j, s.caller k r fk, s.down_is t j x, sd.changed, sd.others t);
        down_none = λ t e. grind (arith, cases_eq t r.caller.0, s.caller k r fk, sd.others t, s.down_none t);
        later = λ j x e. grind (arith, cases_eq j k, cases_eq x.caller.0 u, go j, gk, a_u, idle, s.caller j x, s.later j x, s.later k r fk, sr.others x.caller.0, sr.others r.caller.0);
        once = λ j i x y e h n. grind (arith, cases_eq j k, cases_eq i k, go j, go i, gk, fk, s.once j i x y, s.once j i x r, s.once j i r y);
        sound = λ j x e. grind (arith, cases_eq j k, go j, gk, sound_r, s.sound j x);
      }

-- a call changes, but not its caller, number or server
module _ {f g : ℕ → Option Call} {ck sk up down rank : ℕ → ℕ} {top : ℕ}
    (s : Indexed f ck sk up down rank top) (k : ℕ) (r r' : Call)
    (fk : f k ≡ Some r) (rc : r'.caller.0 ≡ r.caller.0) (rn : r'.number ≡ r.number)
    (by : (t : ℕ) → is_served_by t r' ≡ is_served_by t r) (num : server_number r' ≡ server_number r) (sound_r : IsSound r')
    (gk : g k ≡ Some r') (go : (j : ℕ) → j ≢ k → g j ≡ f j) where
  pub Indexed-kept : Indexed g ck sk up down rank top
  Indexed-kept =
      record {
        caller = λ j x e. grind (arith, cases_eq j k, go j, gk, rc, s.caller j x, s.caller k r fk);
        server = λ j t x e h. grind (arith, cases_eq j k, go j, gk, fk, by t, s.server j t x, s.server k t r fk);
        called = λ t j e. let v = s.called t j e in grind (arith, cases_eq j k, go j, gk, rc, v.1, v.2, fk);
        serving = λ t j e. let v = s.serving t j e in grind (arith, cases_eq j k, go j, gk, by t, v.1, v.2, fk);
        up_is = λ t j x e h. grind (arith, cases_eq j k, go j, gk, fk, rc, rn, s.up_is t j x, s.up_is t k r);
        up_none = s.up_none;
        down_is = λ t j x e h. grind (arith, cases_eq j k, go j, gk, fk, num, s.down_is t j x, s.down_is t k r);
        down_none = s.down_none;
        later = λ j x e. grind (arith, cases_eq j k, go j, gk, rc, rn, s.later j x, s.later k r fk);
        once = λ j i x y e h n. grind (arith, cases_eq j k, cases_eq i k, go j, go i, gk, fk, rn, s.once j i x y, s.once j i x r, s.once j i r y);
        sound = λ j x e. grind (arith, cases_eq j k, go j, gk, sound_r, s.sound j x);
      }

-- a thread stops serving a call: it was returned, ended or abandoned
module _ {f g : ℕ → Option Call} {ck sk sk' up down rank up' down' rank' : ℕ → ℕ} {top : ℕ}
    (s : Indexed f ck sk up down rank top) (k u : ℕ) (r r' : Call)
    (fk : f k ≡ Some r) (q : is_served_by u r ≡ true)
    (rc : r'.caller.0 ≡ r.caller.0) (rn : r'.number ≡ r.number) (un : (t : ℕ) → is_served_by t r' ≡ true → ⊥) (none : server_number r' ≡ 0) (sound_r : IsSound r')
    (gk : g k ≡ Some r') (go : (j : ℕ) → j ≢ k → g j ≡ f j)
    (ss : Sets sk sk' u 0) (su : Sets up up' u 0) (sd : Sets down down' r.caller.0 0) (sr : Sets rank rank' u 0) where
  one_server : (t : ℕ) → is_served_by t r ≡ true → t ≡ u
  one_server t h = sym (server_is r t h) ∙ server_is r u q

  pub Indexed-ended : Indexed g ck sk' up' down' rank' top
  Indexed-ended =
      record {
        caller = λ j x e. grind (arith, cases_eq j k, go j, gk, rc, s.caller j x, s.caller k r fk);
        server = λ j t x e h. grind (arith, cases_eq j k, go j, gk, un t, s.server j t x, s.server k u r fk q, ss.others t);
        called = λ t j e. let v = s.called t j e in grind (arith, cases_eq j k, go j, gk, rc, v.1, v.2, fk);
        serving = λ t j e. grind (arith, cases_eq j k, cases_eq t u, go j, fk, one_server t, s.serving t j, ss.changed, ss.others t);
        up_is = λ t j x e h. grind (arith, cases_eq j k, cases_eq t u, go j, fk, one_server t, s.serving t j, s.up_is t j x, ss.changed, ss.others t, su.others t, sr.others t);
        up_none = λ t e. grind (arith, cases_eq t u, ss.others t, su.others t, sr.others t, su.changed, sr.changed, s.up_none t);
        down_is = λ t j x e h. grind (arith, cases_eq j k, cases_eq t r.caller.0, go j, gk, fk, none, s.called t j, s.caller k r fk, s.down_is t j x, sd.changed, sd.others t);
        down_none = λ t e. grind (arith, cases_eq t r.caller.0, sd.others t, sd.changed, s.down_none t);
        later = λ j x e. grind (arith, cases_eq j k, cases_eq x.caller.0 u, cases_eq r.caller.0 u, go j, gk, rc, rn, s.later j x, s.later k r fk, sr.changed, sr.others x.caller.0, sr.others r.caller.0);
        once = λ j i x y e h n. grind (arith, cases_eq j k, cases_eq i k, go j, go i, gk, fk, rn, s.once j i x y, s.once j i x r, s.once j i r y);
        sound = λ j x e. grind (arith, cases_eq j k, go j, gk, sound_r, s.sound j x);
      }

-- a call that no thread serves leaves
module _ {f g : ℕ → Option Call} {ck ck' sk up down rank : ℕ → ℕ} {top : ℕ}
    (s : Indexed f ck sk up down rank top) (k : ℕ) (r : Call)
    (fk : f k ≡ Some r) (un : (t : ℕ) → is_served_by t r ≡ true → ⊥) (none : server_number r ≡ 0)
    (gk : g k ≡ None) (go : (j : ℕ) → j ≢ k → g j ≡ f j) (sc : Sets ck ck' r.caller.0 0) where
  pub Indexed-removed : Indexed g ck' sk up down rank top
  Indexed-removed =
      record {
        caller = λ j x e. grind (arith, cases_eq j k, cases_eq x.caller.0 r.caller.0, go j, gk, s.caller j x, s.caller k r fk, sc.others x.caller.0);
        server = λ j t x e h. grind (arith, cases_eq j k, go j, gk, s.server j t x);
        called = λ t j e. grind (arith, cases_eq t r.caller.0, cases_eq j k, go j, fk, s.called t j, sc.changed, sc.others t);
        serving = λ t j e. let v = s.serving t j e in grind (arith, cases_eq j k, go j, fk, un t, v.1, v.2);
        up_is = λ t j x e h. grind (arith, cases_eq j k, go j, gk, s.up_is t j x);
        up_none = s.up_none;
        down_is = λ t j x e h. grind (arith, cases_eq t r.caller.0, cases_eq j k, go j, gk, sc.changed, sc.others t, s.down_is t j x);
        down_none = λ t e. grind (arith, cases_eq t r.caller.0, none, sc.changed, sc.others t, s.down_none t, s.caller k r fk, s.down_is r.caller.0 k r);
        later = λ j x e. grind (arith, cases_eq j k, go j, gk, s.later j x);
        once = λ j i x y e h n. grind (arith, cases_eq j k, cases_eq i k, go j, go i, gk, s.once j i x y);
        sound = λ j x e. grind (arith, cases_eq j k, go j, gk, s.sound j x);
      }
