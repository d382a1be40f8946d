-- Which callers can collect, after each change of a call.
use Rattle.std.proofs.Common.{◌≡◌, ◌≢◌, ◌==◌, ◌&&◌, ◌<◌, ℕ, suc, Bool, true, false, inl, inr, List, Option, Some, None, is_some, find, sym, ap, ◌∙◌, arith}
use Rattle.std.proofs.lemmas.Bool.{cases_eq}
use Rattle.std.proofs.lemmas.Bool.Decides.{nat_tests}
use Rattle.spec_records.specs.declared.record.Call.{Call}
use Rattle.spec_records.specs.declared.record.CallStage.{CallStage}
use Rattle.spec_records.specs.Words.{is_given_to, is_to_collect}
use Rattle.call_tree.specs.Words.{LinksValue, Sets, at}
use Rattle.call_tree.specs.Words.{calls_in, look}
use Rattle.dk_base.specs.declared.thread_set.ThreadSet.{ThreadSet}
use Rattle.dk_base.specs.Words.{has, with_thread}
use Rattle.call_tree.specs.Calls.{is_called_by, is_ready_of}
use Rattle.call_tree.specs.Index.{AreCollecting, IsWhole}
use Rattle.call_tree.proofs.Indexing.{none_or}
use Rattle.call_tree.proofs.Keys.{found_is, narrow_first, of_caller}
use Rattle.call_tree.proofs.Looks.{find_no, test_same}
use Rattle.call_tree.proofs.Ties.{is_of_true}
use Rattle.call_tree.proofs.Whole.{single}

-- one thread is put in or taken out
put_same : (s : ThreadSet) (t u : ℕ) (here : Bool) → u ≡ t → with_thread s t here u ≡ here
put_same s t u here e = grind (arith, nat_tests)

put_other : (s : ThreadSet) (t u : ℕ) (here : Bool) → u ≢ t → with_thread s t here u ≡ has s u
put_other s t u here n = grind (arith, nat_tests)

-- another call, which waits
module _ {f g : ℕ → Option Call} {ck ck' : ℕ → ℕ} {w : ThreadSet} (s : AreCollecting f ck w) (k next : ℕ) (r : Call)
    (free : ck r.caller.0 ≡ 0) (waits : is_to_collect r.stage ≡ false) (gk : g k ≡ Some r) (go : (j : ℕ) → j ≢ k → g j ≡ f j) (there : 0 < next) (sc : Sets ck ck' r.caller.0 next) where
  pub collecting_opened : AreCollecting g ck' w
  collecting_opened =
      record {
        waiting = λ j x e. grind (arith, cases_eq j k, go j, gk, waits, s.others r.caller.0 free, s.waiting j x);
        others = λ t e. elim (cases_eq t r.caller.0) [
          | inl z ↦ absurd (omega (arith, sc.changed, ap ck' z, e, there))
          | inr n ↦ s.others t (sym (sc.others t n) ∙ e)
        ];
      }

-- a call changes, but not its caller, nor whether it can be collected
module _ {f g : ℕ → Option Call} {ck : ℕ → ℕ} {w : ThreadSet} (s : AreCollecting f ck w) (k : ℕ) (r r' : Call)
    (fk : f k ≡ Some r) (rc : r'.caller.0 ≡ r.caller.0) (rs : is_to_collect r'.stage ≡ is_to_collect r.stage) (gk : g k ≡ Some r') (go : (j : ℕ) → j ≢ k → g j ≡ f j) where
  pub collecting_kept : AreCollecting g ck w
  collecting_kept =
      record {
        waiting = λ j x e. grind (arith, cases_eq j k, go j, gk, rc, rs, s.waiting k r fk, s.waiting j x);
        others = s.others;
      }

-- calls of two keys have two callers
apart :
    (f : ℕ → Option Call) (ck : ℕ → ℕ) (key : (j : ℕ) (x : Call) → f j ≡ Some x → ck x.caller.0 ≡ suc j) (k j : ℕ) (r x : Call) →
    f k ≡ Some r → j ≢ k → f j ≡ Some x → x.caller.0 ≢ r.caller.0
apart f ck key k j r x fk n e same = n (omega (arith, key j x e, key k r fk, ap ck same))

-- a call ends, or leaves
module _ {f g : ℕ → Option Call} {ck : ℕ → ℕ} {w w' : ThreadSet} (s : AreCollecting f ck w) (k : ℕ) (r : Call)
    (key : (j : ℕ) (x : Call) → f j ≡ Some x → ck x.caller.0 ≡ suc j) (fk : f k ≡ Some r) (go : (j : ℕ) → j ≢ k → g j ≡ f j) where
  pub collecting_ended : (r' : Call) → r'.caller.0 ≡ r.caller.0 → is_to_collect r'.stage ≡ true → g k ≡ Some r' → ((u : ℕ) → has w' u ≡ with_thread w r.caller.0 true u) → AreCollecting g ck w'
  collecting_ended r' rc rs gk put =
      record {
        waiting = λ j x e. elim (cases_eq j k) [
          | inl z ↦
              let is : x ≡ r' = grind (arith, gk) in
              put x.caller.0 ∙ put_same w r.caller.0 x.caller.0 true (ap (λ (y : Call). y.caller.0) is ∙ rc) ∙ sym (ap (λ (y : Call). is_to_collect y.stage) is ∙ rs)
          | inr n ↦ put x.caller.0 ∙ put_other w r.caller.0 x.caller.0 true (apart f ck key k j r x fk n (sym (go j n) ∙ e)) ∙ s.waiting j x (sym (go j n) ∙ e)
        ];
        others = λ t e. put t ∙ put_other w r.caller.0 t true (λ z. omega (arith, ap ck z, key k r fk, e)) ∙ s.others t e;
      }

  pub collecting_removed : {ck' : ℕ → ℕ} → Sets ck ck' r.caller.0 0 → g k ≡ None → ((u : ℕ) → has w' u ≡ with_thread w r.caller.0 false u) → AreCollecting g ck' w'
  collecting_removed sc gk put =
      record {
        waiting = λ j x e. elim (cases_eq j k) [
          | inl z ↦ absurd (grind (arith, gk))
          | inr n ↦ put x.caller.0 ∙ put_other w r.caller.0 x.caller.0 false (apart f ck key k j r x fk n (sym (go j n) ∙ e)) ∙ s.waiting j x (sym (go j n) ∙ e)
        ];
        others = λ t e. elim (cases_eq t r.caller.0) [
          | inl z ↦ put t ∙ put_same w r.caller.0 t false z
          | inr n ↦ put t ∙ put_other w r.caller.0 t false n ∙ s.others t (sym (sc.others t n) ∙ e)
        ];
      }

-- a call that was given is not over
pub given_waits : (t : ℕ) (s : CallStage) → is_given_to t s ≡ true → false ≡ is_to_collect s
given_waits t s h = grind (arith, nat_tests)

-- no call is there
pub collecting_none : (f : ℕ → Option Call) (ck : ℕ → ℕ) (w : ThreadSet) → ((k : ℕ) → f k ≡ None) → ((t : ℕ) → has w t ≡ false) → AreCollecting f ck w
collecting_none f ck w none empty = record { waiting = λ k r e. absurd (grind (arith, none k)); others = λ t e. empty t }

-- the same, by a search
pub collecting_found :
    {links : LinksValue} {es : List (ℕ × Call)} {ck sk : List ℕ} {w : ThreadSet} → IsWhole links es ck sk → AreCollecting (λ k. look k es) (at ck) w → (t : ℕ) →
    has w t ≡ is_some (find (is_ready_of t) (calls_in es))
collecting_found {links} {es} {ck} {sk} {w} s a t = elim (none_or (at ck t)) [
  | inl e ↦
      a.others t e
      ∙ sym (ap is_some (find_no (is_ready_of t) es s.apart (λ k r l q. omega (arith, s.indexed.caller k r l, e, ap (at ck) (is_of_true r.caller.0 t (first (r.caller.0 == t) (is_to_collect r.stage) q))))))
  | inr v ↦
      let x = s.indexed.called t v.0 v.1 in
      let test : (x.0.caller.0 == t) ≡ true = ap (λ n. n == t) x.2 ∙ test_same t in
      sym (ap (has w) x.2) ∙ a.waiting v.0 x.0 x.1
      ∙ sym (found_is (of_caller (single s) t) (λ r. is_to_collect r.stage) (narrow_first (is_called_by t) (λ r. is_to_collect r.stage)) v.0 x.0 x.1 (x.0, x.1, test))
]
  where
    first : (b c : Bool) → (b && c) ≡ true → b ≡ true
    first b c h = grind arith
