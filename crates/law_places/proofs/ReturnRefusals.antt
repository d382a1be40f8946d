-- What refuses a Return is what the table of its refusals spells out.
use Rattle.std.specs.Prelude.{ℕ, ◌≡◌, ◌<◌, ◌&&◌, ◌⊎◌, List, Option, Bool, true, false, Some, None, if◌then◌else◌, is_some, length, slice_get}
use Rattle.std.specs.Bool.{Decides}
use Rattle.std.proofs.Common.{refl, ap, subst, ◌∙◌}
use native.Mathlib.Omega.{arith}
use Rattle.std.proofs.lemmas.Bool.Decides.{nat_tests, not_from_Decides, Decides-and}
use Rattle.spec_records.proofs.NumberedLists.{find-found, find-none, find-passes}
use Rattle.spec_kernel.specs.Types.{Call, CallStage, Errno, Pass}
use Rattle.dk_base.specs.declared.error.Errno.TheVariants.{E2BIG, EINVAL}
use Rattle.dk_base.specs.declared.limits.TheConstants.{DATA_MAX, PASS_MAX}
use Rattle.dk_base.specs.declared.request.Request.TheVariants as request
use Rattle.spec_records.specs.declared.record.CallStage.TheVariants as stage
use Rattle.spec_records.specs.Words.{call_number, is_bad_pass, is_client_call_of, is_entered_by, tid}
use Rattle.spec_kernel.specs.Words.{State, Turn, client_call, refusal_of, state_at, table_of}
use Rattle.law_states.specs.Invariant.{Invariant}
use Rattle.law_places.specs.Refusals.{HasClient, ReturnRefusal}
use Rattle.law_places.specs.Refusals.ReturnRefusal.{too_long, cannot_pass}
use Rattle.law_places.specs.Places.{IsReturn, process_at}
use Rattle.law_places.proofs.Known.{Known, invariant_before}
use Rattle.law_places.proofs.Passed.{pass_decides}
use Rattle.law_places.proofs.Refusals.{false_where_not, is_over, none_and_some, none_of, over_is, over_limit, some_error}

entered_by : (t : ℕ) (r : Call) → is_client_call_of t r ≡ true → (r.stage ≡ stage.Entered (tid t)) × (r.abandoned ≡ false)
entered_by t r e = (at_stage r.stage (grind arith), grind arith)
  where
    at_stage : (s : CallStage) → is_entered_by t s ≡ true → s ≡ stage.Entered (tid t)
    at_stage (stage.Entered u) f = grind (arith, nat_tests)
    at_stage s f = grind arith

is_client : (t : ℕ) (r : Call) → r.stage ≡ stage.Entered (tid t) → r.abandoned ≡ false → is_client_call_of t r ≡ true
is_client t r e f = grind (arith, nat_tests, e, f)

pub not_both : (b : Bool) → b ≡ true → b ≡ false → ⊥
not_both b e f = cc

client_decides : (m : State) (t : ℕ) → Invariant m → Decides (is_some (client_call m t)) (HasClient m t)
client_decides m t h = (λ e. go (client_call m t) refl e, back)
  where
    go : (o : Option Call) → client_call m t ≡ o → is_some o ≡ true → HasClient m t
    go None f e = absurd (cc e)
    go (Some r) f e =
        let it = entered_by t r (find-passes (is_client_call_of t) m.call_tree.calls r f) in
        record {
          number = r.number;
          call = r;
          there = find-found call_number (is_client_call_of t) m.call_tree.calls 0 r h.consistent.in_order f;
          entered = it.0;
          not_abandoned = it.1;
        }

    back : HasClient m t → is_some (client_call m t) ≡ true
    back c = by (client_call m t) refl
      where
        by : (o : Option Call) → client_call m t ≡ o → is_some o ≡ true
        by (Some r) f = refl
        by None f =
            absurd
            (not_both _ (is_client t c.call c.entered c.not_abandoned)
            (find-none call_number (is_client_call_of t) m.call_tree.calls c.number c.call f c.there))

module _ (m : State) (h : Invariant m) (t p : ℕ) (bytes : List ℕ) (pass : List Pass) where
  abbrev IsTooLong : Type 0
  IsTooLong = HasClient m t × ((DATA_MAX < length bytes) ⊎ (PASS_MAX < length pass))

  abbrev is_too_long : Bool
  is_too_long = is_some (client_call m t) && is_over (length bytes) (length pass)

  long_decides : Decides is_too_long IsTooLong
  long_decides =
      Decides-and _ _ (client_decides m t h) (over_limit (length bytes) (length pass), over_is (length bytes) (length pass))

  abbrev first_of : Bool → Bool → Option Errno
  first_of long bad = if long then Some E2BIG else (if bad then Some EINVAL else None)

  pub return_refusal : (e : Errno) → refusal_of m t p (request.Return bytes pass) ≡ Some e → ReturnRefusal m t p (length bytes) pass e
  return_refusal e f = go is_too_long (is_bad_pass (table_of m p) pass) refl refl f
    where
      go :
          (long bad : Bool) → is_too_long ≡ long → is_bad_pass (table_of m p) pass ≡ bad → first_of long bad ≡ Some e →
          ReturnRefusal m t p (length bytes) pass e
      go true b u v g =
          let it : IsTooLong = long_decides.0 u in
          subst (ReturnRefusal m t p (length bytes) pass) (some_error E2BIG e g) (too_long it.0 it.1)
      go false true u v g =
          subst (ReturnRefusal m t p (length bytes) pass) (some_error EINVAL e g)
          (cannot_pass (λ c l. not_from_Decides _ long_decides u (c, l)) ((pass_decides m p pass).0 v))
      go false false u v g = absurd (cc g)

  by_tests :
      (long bad : Bool) → is_too_long ≡ long → is_bad_pass (table_of m p) pass ≡ bad →
      refusal_of m t p (request.Return bytes pass) ≡ first_of long bad
  by_tests long bad u v =
      ap (λ (b : Bool). first_of b (is_bad_pass (table_of m p) pass)) u ∙ ap (λ (b : Bool). first_of long b) v

  pub refusal_return : (e : Errno) → ReturnRefusal m t p (length bytes) pass e → refusal_of m t p (request.Return bytes pass) ≡ Some e
  refusal_return e (too_long c l) = by_tests true (is_bad_pass (table_of m p) pass) (long_decides.1 (c, l)) refl
  refusal_return e (cannot_pass n b) =
      by_tests false true (false_where_not _ _ long_decides (λ it. n it.0 it.1)) ((pass_decides m p pass).1 b)

  -- no refusal, by the tests and by the table
  pub none_refuses : ((e : Errno) → ReturnRefusal m t p (length bytes) pass e → ⊥) → refusal_of m t p (request.Return bytes pass) ≡ None
  none_refuses f = none_of _ (λ e g. f e (return_refusal e g))

  pub no_return_refusal : refusal_of m t p (request.Return bytes pass) ≡ None → (e : Errno) → ReturnRefusal m t p (length bytes) pass e → ⊥
  no_return_refusal f e r = none_and_some _ e f (refusal_return e r)

-- at a place of a run
pub not_refused_at :
    (m : State) (xs : List Turn) → Known m xs → (i : ℕ) (x : Turn) (bytes : List ℕ) (pass : List Pass) → slice_get xs i ≡ Some x →
    IsReturn m xs i x bytes pass → refusal_of (state_at m xs i) x.thread (process_at m xs i x.thread) (request.Return bytes pass) ≡ None
not_refused_at m xs k i x bytes pass e h =
    none_refuses (state_at m xs i) (invariant_before m xs k i x e) x.thread (process_at m xs i x.thread) bytes pass h.not_refused
