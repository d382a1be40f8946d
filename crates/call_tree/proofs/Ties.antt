-- The links of the shuttles are those of the calls.
use Rattle.std.proofs.Common.{◌≡◌, ◌⊎◌, inl, inr, ◌<◌, ◌==◌, ◌&&◌, ◌||◌, not, ℕ, zero, suc, Bool, true, false, List, Option, Some, None, if◌then◌else◌, refl, sym, ap, ◌∙◌, arith}
use Rattle.std.specs.Option.{option_map_or}
use Rattle.std.proofs.lemmas.Bool.Decides.{nat_tests}
use Rattle.spec_records.specs.declared.record.Call.{Call}
use Rattle.spec_records.specs.declared.record.CallStage.{CallStage}
use Rattle.spec_records.specs.Words.{is_served, is_served_by, is_given_to, is_entered_by}
use Rattle.call_tree.specs.Words.{LinksValue, at, walk, walk_to}
use Rattle.call_tree.specs.Words.{look, calls_in}
use Rattle.call_tree.specs.Index.{IsWhole, server_number, stage_server}
use Rattle.call_tree.specs.Walks.{caller_among, caller_in, server_among, server_at, server_in, is_served_for, walk_up, walk_down}
use Rattle.call_tree.proofs.Indexing.{none_or}
use Rattle.call_tree.proofs.Looks.{find_by, find_no, test_same}

-- a step is the same as one over the calls
step_same : (n : ℕ) (up : ℕ → ℕ) (go : ℕ → ℕ) (t v : ℕ) (o : Option ℕ) → ((o ≡ None) × (v ≡ 0)) ⊎ ((0 < v) × (o ≡ Some v)) → ((u : ℕ) → walk n up u ≡ go u) → walk_to (walk n up) t v ≡ option_map_or go o t
step_same n up go t zero o w ih = grind (arith, w)
step_same n up go t (suc v) o w ih = grind (arith, w, ih (suc v))

-- whether a thread serves a call, and which
pub served_cases : (a : Bool) (s : CallStage) → (((not a && is_served s) ≡ false) × ((if a then 0 else stage_server s) ≡ 0)) ⊎ (((not a && is_served s) ≡ true) × (server_at s ≡ Some (if a then 0 else stage_server s)) × ((not a && (is_given_to (if a then 0 else stage_server s) s || is_entered_by (if a then 0 else stage_server s) s)) ≡ true))
served_cases a s = grind (arith, nat_tests)

pub is_of_true : (x t : ℕ) → (x == t) ≡ true → x ≡ t
is_of_true x t h = grind (arith, nat_tests)

pub and_first : (a b : Bool) → (a && b) ≡ true → a ≡ true
and_first true b h = refl
and_first false b h = cc

pub and_second : (a b : Bool) → (a && b) ≡ true → b ≡ true
and_second true b h = h
and_second false b h = cc

pub both : (a b : Bool) → a ≡ true → b ≡ true → (a && b) ≡ true
both true b h k = k
both false b h k = cc

module _ (links : LinksValue) (es : List (ℕ × Call)) (ck sk : List ℕ) (s : IsWhole links es ck sk) where
  pub up_tied : (t : ℕ) → ((caller_among (calls_in es) t ≡ None) × (at links.up t ≡ 0)) ⊎ ((0 < at links.up t) × (caller_among (calls_in es) t ≡ Some (at links.up t)))
  up_tied t = elim (none_or (at sk t)) [
    | inl e ↦
        let f = find_no (is_served_by t) es s.apart (λ k r l q. absurd (omega (arith, s.indexed.server k t r l q, e))) in
        inl (ap caller_in f, (s.indexed.up_none t e).0)
    | inr w ↦
        let v = s.indexed.serving t w.0 w.1 in
        let f = find_by (is_served_by t) es w.0 v.0 s.apart (λ k r l q. omega (arith, s.indexed.server k t r l q, w.1)) v.1 v.2 in
        let u = (s.indexed.up_is t w.0 v.0 w.1 v.1).0 in
        inr (omega (arith, u, (s.indexed.sound w.0 v.0 v.1).caller.0), ap caller_in f ∙ ap (λ x. Some x) (sym u))
  ]

  pub walk_up_same : (n t : ℕ) → walk n (at links.up) t ≡ walk_up n (calls_in es) t
  walk_up_same zero t = refl
  walk_up_same (suc n) t = step_same n (at links.up) (walk_up n (calls_in es)) t (at links.up t) (caller_among (calls_in es) t) (up_tied t) (walk_up_same n)

  pub down_tied : (t : ℕ) → ((server_among (calls_in es) t ≡ None) × (at links.down t ≡ 0)) ⊎ ((0 < at links.down t) × (server_among (calls_in es) t ≡ Some (at links.down t)))
  down_tied t = elim (none_or (at ck t)) [
    | inl e ↦
        let f = find_no (is_served_for t) es s.apart (λ k r l q. absurd (omega (arith, ap (at ck) (is_of_true r.caller.0 t (and_first _ _ q)), s.indexed.caller k r l, e))) in
        inl (ap server_in f, s.indexed.down_none t e)
    | inr w ↦
        let v = s.indexed.called t w.0 w.1 in
        let r = v.0 in
        let d = s.indexed.down_is t w.0 r w.1 v.1 in
        let one : (k : ℕ) (x : Call) → look k es ≡ Some x → is_served_for t x ≡ true → k ≡ w.0 = λ k x l q. omega (arith, ap (at ck) (is_of_true x.caller.0 t (and_first _ _ q)), s.indexed.caller k x l, w.1) in
        elim (served_cases r.abandoned r.stage) [
          | inl z ↦
              let f = find_no (is_served_for t) es s.apart (λ k x l q. same_call r x k w.0 (one k x l q) v.1 l (and_second _ _ q) z.0) in
              inl (ap server_in f, d ∙ z.1)
          | inr z ↦
              let f = find_by (is_served_for t) es w.0 r s.apart one v.1 (both _ _ (ap (λ x. x == t) v.2 ∙ test_same t) z.0) in
              inr (omega (arith, d, (s.indexed.sound w.0 r v.1).server (server_number r) z.2), ap server_in f ∙ z.1 ∙ ap (λ x. Some x) (sym d))
        ]
  ]
    where
      same_call : (r x : Call) (k j : ℕ) → k ≡ j → look j es ≡ Some r → look k es ≡ Some x → (not x.abandoned && is_served x.stage) ≡ true → (not r.abandoned && is_served r.stage) ≡ false → ⊥
      same_call r x k j e l m a b = grind arith

  pub walk_down_same : (n t : ℕ) → walk n (at links.down) t ≡ walk_down n (calls_in es) t
  walk_down_same zero t = refl
  walk_down_same (suc n) t = step_same n (at links.down) (walk_down n (calls_in es)) t (at links.down t) (server_among (calls_in es) t) (down_tied t) (walk_down_same n)
