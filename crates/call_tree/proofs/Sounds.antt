-- What the keys say of the calls in their order.
use Rattle.std.proofs.lemmas.Bool.Decides.{nat_tests}
use Rattle.std.proofs.Common.{arith, ◌≡◌, ℕ, Bool, true, false, List, [], ◌∷◌, Some, find, if◌then◌else◌, refl, sym, ap, ◌∙◌}
use Rattle.spec_records.specs.declared.record.Call.{Call}
use Rattle.spec_records.specs.declared.record.CallStage.{CallStage}
use Rattle.spec_records.specs.Words.{IsAscending, call_number, is_live, is_served_by, is_to_collect}
use Rattle.call_tree.specs.Words.{calls_in, look}
use Rattle.call_tree.specs.Index.{AreApart, AreSingle, is_open}
use Rattle.call_tree.specs.Sound.{AreSound}
use Rattle.call_tree.proofs.Keys.{finds, lives, of_caller, of_number, of_server}
use Rattle.call_tree.proofs.Looks.{past, look_here, test_same}

-- the key of what a search finds
pub seen : (p : Call → Bool) (es : List (ℕ × Call)) (r : Call) → AreApart es → find p (calls_in es) ≡ Some r → (k : ℕ) × (look k es ≡ Some r) × (p r ≡ true)
seen p [] r a h = absurd (cc)
seen p (e ∷ es) r a h = at_head (p e.1) refl h (λ q. seen p es r a.1 q)
  where
    at_head : (b : Bool) → p e.1 ≡ b → (if b then Some e.1 else find p (calls_in es)) ≡ Some r → (find p (calls_in es) ≡ Some r → (k : ℕ) × (look k es ≡ Some r) × (p r ≡ true)) → (k : ℕ) × (look k (e ∷ es) ≡ Some r) × (p r ≡ true)
    at_head true z h ih = let q : e.1 ≡ r = cc in (e.0, look_here e es ∙ ap Some q, ap p (sym q) ∙ z)
    at_head false z h ih = let w = ih h in (w.0, past e es a.0 w.0 r w.1, w.2)

ended_abandoned : (s : CallStage) (a : Bool) → is_live s ≡ true → (is_open s ≡ true → a ≡ false) → a ≡ true → is_to_collect s ≡ true
ended_abandoned s a l h t = grind (arith, nat_tests)

pub are_sound : (made : ℕ) (es : List (ℕ × Call)) → AreSingle es → IsAscending call_number 0 made (calls_in es) → AreSound (record { made = made; calls = calls_in es })
are_sound made es s up =
    record {
      ascending = up;
      live = lives es s.apart (λ k r l. (s.sound k r l).live);
      number = λ p r e. let w = seen p es r s.apart e in finds (of_number s r.number) w.0 r w.1 (test_same r.number);
      caller = λ p r e. let w = seen p es r s.apart e in finds (of_caller s r.caller.0) w.0 r w.1 (test_same r.caller.0);
      server = λ p r t e h. let w = seen p es r s.apart e in finds (of_server s t) w.0 r w.1 h;
      below = λ p r x e f.
          let w = seen p es r s.apart e in
          let v = seen (is_served_by r.caller.0) es x s.apart f in
          s.below w.0 v.0 r x w.1 v.1 v.2;
      thread = λ p r e. let w = seen p es r s.apart e in (s.sound w.0 r w.1).caller;
      abandoned = λ p r e h. let w = seen p es r s.apart e in let q = s.sound w.0 r w.1 in ended_abandoned r.stage r.abandoned q.live q.plain h;
    }
