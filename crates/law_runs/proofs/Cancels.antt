-- The flag of an invocation is what a server is told, and it is set only where the client left.
use Rattle.std.specs.Prelude.{ℕ, ◌≡◌, ◌+◌, ◌≤◌, ◌⊎◌, List, Option, true, false, Some, None, zero, suc, length, slice_get}
use Rattle.std.proofs.Common.{refl, sym, ap, subst, ◌∙◌, add-one, inl, inr}
use native.Mathlib.Omega.{arith}
use Rattle.std.proofs.lemmas.Option.{slice_get_within}
use Rattle.spec_kernel.specs.Types.{Call, CallStage, Inv, Item}
use Rattle.dk_base.specs.declared.object.Item.TheVariants as item
use Rattle.dk_base.specs.declared.request.Request.TheVariants as request
use Rattle.dk_base.specs.declared.answer.Answer.TheVariants as answer
use Rattle.spec_records.specs.declared.record.CallStage.TheVariants as stage
use Rattle.spec_records.specs.declared.record.ThreadState.TheVariants as is
use Rattle.spec_records.specs.Words.{no_cancel_of, tid}
use Rattle.spec_kernel.specs.Words.{State, Turn, door_of, invocation_of, is_cancelled, state_at, state_of, step}
use Rattle.law_states.specs.Records.{item_in, item_of, notice_of, record_of, stage_in}
use Rattle.law_states.specs.Core.{abandoned_in, core, notice_in}
use Rattle.law_states.specs.Coherent.{IsCoherent}
use Rattle.law_states.specs.Invariant.{Invariant}
use Rattle.law_states.specs.Events.{InvocationArrow, IsCancelled, IsLeft}
use Rattle.law_states.specs.Events.InvocationArrow.{stays, begins, cancels, ends, leaves}
use Rattle.law_places.specs.Places.{HasEntered, answer_at, is_entered_in}
use Rattle.law_runs.specs.Once.{Enters, FailsToEnter, WasEntered}
use Rattle.law_runs.specs.Cancels.{Cancels, WasLeft}
use Rattle.law_places.proofs.Known.{Known, TurnAt, invariant_before, next, turn_at, stays as stays_from}
use Rattle.law_runs.proofs.Story.{story}
use Rattle.law_runs.proofs.Readers.{EnteredAt, entered}
use Rattle.law_runs.proofs.Once.{entered_once, given_enters, at_entered}
use Rattle.law_places.proofs.Invocations.{invocations}
use Rattle.law_runs.proofs.Left.{IsFlag, left_flags}
use Rattle.law_places.proofs.Rows.{some_stage}

told_now : (m : State) (t : ℕ) → (step m t (Some request.TestCancel)).answer ≡ answer.Cancel (is_cancelled (invocation_of m t))
unfolding step
told_now m t = refl

-- a state without calls and notices has no invocation
no_flag :
    (m : State) → Invariant m → ((c : ℕ) → record_of m c ≡ None) → ((c : ℕ) → notice_of m c ≡ None) → (u : ℕ) (o : Option Inv) →
    invocation_of m u ≡ o → is_cancelled o ≡ true → ⊥
no_flag m h none no_notice u None e f = absurd (cc f)
no_flag m h none no_notice u (Some v) e f = by v.item refl
  where
    coherent : IsCoherent (core m)
    coherent = h.consistent.coherent

    by : (i : Item) → v.item ≡ i → ⊥
    by (item.Call c) g =
        absurd
        (cc
        (sym (ap stage_in (none c))
        ∙ coherent.invocations.entered_back c u (ap item_in e ∙ ap (λ (i : Item). Some i) g) (ap abandoned_in (none c))))
    by (item.Notice n) g =
        absurd (cc (sym (ap notice_in (no_notice n)) ∙ coherent.notices_entered.notice_entered_back n u (ap item_in e ∙ ap (λ (i : Item). Some i) g)))

at_given : (u : ℕ) (o : Option Call) (r : Call) → o ≡ Some r → r.stage ≡ stage.Given (tid u) → is_entered_in o ≡ false
at_given u o r e f = grind arith

some_item : (a b : Item) → Some a ≡ Some b → a ≡ b
some_item a b e = cc

module _ (m : State) (xs : List Turn) (k : Known m xs) where
  told :
      (i : ℕ) (x : Turn) → slice_get xs i ≡ Some x → x.request ≡ Some request.TestCancel →
      answer_at m xs i x ≡ answer.Cancel (is_cancelled (invocation_of (state_at m xs i) x.thread))
  told i x e q = ap (λ r. (step (state_at m xs i) x.thread r).answer) q ∙ told_now (state_at m xs i) x.thread

  -- one more place
  later : (i u : ℕ) → item_of (state_at m xs (i + 1)) u ≡ item_of (state_at m xs i) u → WasLeft m xs i u → WasLeft m xs (i + 1) u
  later i u e w =
      record {
        at = w.at;
        turn = w.turn;
        earlier = omega (arith, w.earlier);
        found = w.found;
        call = w.call;
        there = w.there;
        entered = w.entered;
        may_cancel = w.may_cancel;
        is_left = w.is_left;
        same = e ∙ w.same;
      }

  -- a call's record has the flag of its door
  flag_is :
      (i : ℕ) (x : Turn) (c : ℕ) (r : Call) → slice_get xs i ≡ Some x → record_of (state_at m xs i) c ≡ Some r →
      r.no_cancel ≡ no_cancel_of (door_of (state_at m xs i) r.door)
  flag_is i x c r e f = (invariant_before m xs k i x e).consistent.coherent.at_doors.no_cancel c r f

  left_now :
      (i u : ℕ) (x : Turn) (v : Inv) → slice_get xs i ≡ Some x → item_of (state_at m xs (i + 1)) u ≡ Some v.item →
      IsCancelled (state_at m xs i) x.thread x.request (state_at m xs (i + 1)) u v → WasLeft m xs (i + 1) u
  left_now i u x v e f w =
      record {
        at = i;
        turn = x;
        earlier = omega arith;
        found = e;
        call = w.call;
        there = w.there;
        entered = ap stage_in w.there ∙ ap (λ (s : CallStage). Some s) w.entered;
        may_cancel = w.may_cancel;
        is_left = w.is_left;
        same = f ∙ ap (λ (i : Item). Some i) w.item;
      }

  by_arrow :
      (i u : ℕ) (x : Turn) (o p : Option Inv) → slice_get xs i ≡ Some x → invocation_of (state_at m xs i) u ≡ o →
      invocation_of (state_at m xs (i + 1)) u ≡ p →
      InvocationArrow (state_at m xs i) x.thread x.request (answer_at m xs i x) (state_at m xs (i + 1)) u o p → is_cancelled p ≡ true →
      (is_cancelled o ≡ true → WasLeft m xs i u) → WasLeft m xs (i + 1) u
  by_arrow i u x o p e b a stays f ih = later i u (ap item_in a ∙ sym (ap item_in b)) (ih f)
  by_arrow i u x o p e b a (begins y g h l w) f ih = absurd (cc f)
  by_arrow i u x o p e b a (cancels v w) f ih = left_now i u x v e (ap item_in a) w
  by_arrow i u x o p e b a (ends v bytes pass g h n l) f ih = absurd (cc f)
  by_arrow i u x o p e b a (leaves v g) f ih = absurd (cc f)

  only_where_left :
      (i u : ℕ) → i ≤ length xs → is_cancelled (invocation_of (state_at m xs i) u) ≡ true → WasLeft m xs i u
  only_where_left zero u l f = absurd (no_flag m (k.invariant zero l) k.no_call k.no_notice u (invocation_of m u) refl f)
  only_where_left (suc i) u l f =
      subst (λ j. is_cancelled (invocation_of (state_at m xs j) u) ≡ true → WasLeft m xs j u) (add-one i)
      (go (turn_at xs i (omega (arith, l))) (only_where_left i u (omega (arith, l))))
      f
    where
      go :
          TurnAt xs i → (is_cancelled (invocation_of (state_at m xs i) u) ≡ true → WasLeft m xs i u) →
          is_cancelled (invocation_of (state_at m xs (i + 1)) u) ≡ true → WasLeft m xs (i + 1) u
      go t ih g = by_arrow i u t.turn _ _ t.found refl refl (invocations m xs k i u t.turn t.found) g ih

  -- and where it left, the flag is set, as long as the invocation lasts

  entered_at : (i u c : ℕ) → i ≤ length xs → HasEntered (state_at m xs i) u c → EnteredAt m xs c i (record_of (state_at m xs i) c)
  entered_at i u c l e = entered m xs c i _ (story m xs k c i l) (at_entered u _ e)

  was_entered : (i c : ℕ) (p : Option Call) → EnteredAt m xs c i p → WasEntered m xs i c
  was_entered i c p a =
      record {
        at = a.at;
        earlier = a.earlier;
        entered =
            record {
              within = slice_get_within xs a.at a.turn a.found;
              before = at_given a.turn.thread _ a.row.call (a.was ∙ a.row.before) a.row.was_given;
              after = ap is_entered_in (a.there ∙ a.row.after);
            };
      }

  -- it begins but once
  not_again :
      (i j u c : ℕ) (x : Turn) → i ≤ length xs → HasEntered (state_at m xs i) u c → i ≤ j → slice_get xs j ≡ Some x → x.request ≡ None →
      state_of (state_at m xs j) x.thread ≡ is.Given (item.Call c) → item_of (state_at m xs (j + 1)) x.thread ≡ Some (item.Call c) → ⊥
  not_again i j u c x l e b f q s y =
      by (was_entered i c _ (entered_at i u c l e)) (given_enters m xs k j c x f q s)
    where
      enters : WasEntered m xs i c → Enters m xs j x c → ⊥
      enters w g = let same : w.at ≡ j = entered_once m xs k c w.at j w.entered g.entered in absurd (omega (arith, same, w.earlier, b))

      fails : FailsToEnter m xs j x c → ⊥
      fails g = absurd (cc (sym (ap item_in g.free_after) ∙ y))

      by : WasEntered m xs i c → Enters m xs j x c ⊎ FailsToEnter m xs j x c → ⊥
      by w (inl g) = enters w g
      by w (inr g) = fails g

  abbrev IsFlagged : ℕ → ℕ → State → Type 0
  IsFlagged u c n = item_of n u ≡ Some (item.Call c) → is_cancelled (invocation_of n u) ≡ true

  flag_stays :
      (i j u c : ℕ) (x : Turn) (o p : Option Inv) → i ≤ length xs → HasEntered (state_at m xs i) u c → i ≤ j → slice_get xs j ≡ Some x →
      invocation_of (state_at m xs (j + 1)) u ≡ p →
      InvocationArrow (state_at m xs j) x.thread x.request (answer_at m xs j x) (state_at m xs (j + 1)) u o p →
      (item_in o ≡ Some (item.Call c) → is_cancelled o ≡ true) → item_in p ≡ Some (item.Call c) → is_cancelled p ≡ true
  flag_stays i j u c x o p l e b f a stays ih y = ih y
  flag_stays i j u c x o p l e b f a (begins z g h s w) ih y =
      let of_it : z ≡ item.Call c = some_item z (item.Call c) y in
      absurd
      (not_again i j u c x l e b f h (s ∙ ap (λ (d : Item). is.Given d) of_it)
      (ap (λ v. item_of (state_at m xs (j + 1)) v) (sym g) ∙ ap item_in a ∙ y))
  flag_stays i j u c x o p l e b f a (cancels v w) ih y = refl
  flag_stays i j u c x o p l e b f a (ends v bytes pass g h n w) ih y = absurd (cc y)
  flag_stays i j u c x o p l e b f a (leaves v g) ih y = absurd (cc y)

  flagged_now : (i u : ℕ) → i ≤ length xs → (w : WasLeft m xs i u) → IsFlagged u w.call.number (state_at m xs (w.at + 1))
  flagged_now i u l w y =
      by
      (left_flags (state_at m xs w.at) w.turn.thread w.turn.request u w.call
      (invariant_before m xs k w.at w.turn w.found) w.there
      (some_stage _ _ (ap stage_in (sym w.there) ∙ w.entered))
      (flag_is w.at w.turn w.call.number w.call w.found w.there ∙ w.may_cancel)
      (subst (λ n. IsLeft (state_at m xs w.at) w.turn.thread w.turn.request n w.call) (next m xs k w.at w.turn w.found) w.is_left))
    where
      by : IsFlag (invocation_of (step (state_at m xs w.at) w.turn.thread w.turn.request).state u) →
          is_cancelled (invocation_of (state_at m xs (w.at + 1)) u) ≡ true
      by (inl f) =
          absurd
          (cc
          (sym (ap (λ n. item_of n u) (next m xs k w.at w.turn w.found) ∙ ap item_in f)
          ∙ y))
      by (inr f) = ap (λ n. is_cancelled (invocation_of n u)) (next m xs k w.at w.turn w.found) ∙ f

  where_left : (i u : ℕ) → i ≤ length xs → WasLeft m xs i u → is_cancelled (invocation_of (state_at m xs i) u) ≡ true
  where_left i u l w =
      stays_from m xs (IsFlagged u w.call.number) (w.at + 1)
      (λ j x b e ih y. flag_stays w.at j u w.call.number x _ _ (omega (arith, w.earlier, l)) w.entered (omega (arith, b)) e refl
      (invocations m xs k j u x e) ih y)
      i
      (omega (arith, w.earlier))
      l
      (flagged_now i u l w)
      w.same

  pub cancels_holds : Cancels m xs
  cancels_holds = record { told = told; set_where_left = λ i u l. (only_where_left i u l, where_left i u l) }
