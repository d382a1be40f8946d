-- The ends of waits that change a call: an accept enters the call that its thread was given, or the call ends, and a collect
-- answers its caller's call.
use Rattle.std.specs.Prelude.{ℕ, ◌≡◌, Option, Bool, true, false, if◌then◌else◌, Some, None, find, is_some}
use Rattle.std.proofs.Common.{refl, sym, ap, subst, ◌∙◌, inl, inr, ⊎_elim}
use native.Mathlib.Omega.{arith}
use Rattle.std.proofs.lemmas.Bool.Decides.{nat_tests}
use Rattle.dk_base.specs.declared.error.Errno.TheVariants.{EMFILE}
use Rattle.dk_base.specs.declared.object.Item.TheVariants as item
use Rattle.spec_records.proofs.NumberedLists.{find-as, find-passes}
use Rattle.spec_kernel.specs.Types.{Call, CallStage, Request}
use Rattle.spec_records.specs.declared.record.ThreadState.TheVariants as is
use Rattle.spec_records.specs.declared.record.CallStage.TheVariants as stage
use Rattle.spec_records.specs.Words.{call_number, is_given_as, is_to_collect_as, tid, without_arguments_at}
use Rattle.spec_kernel.specs.Words.{MayTurn, State, accept, accept_call, act, begin_call, can_go_on, fail_begin, find_call, go_on, has_room, now, process_of, state_of, step}
use Rattle.law_states.specs.Records.{has_number, stage_in, stage_of}
use Rattle.law_states.specs.Invariant.{IsConsistent, Invariant}
use Rattle.law_states.specs.Arrows.{ByGiving}
use Rattle.law_states.specs.Arrows.ByGiving.{stays, gives}
use Rattle.law_states.specs.Events.{IsAcceptedNow, IsAnsweredNow}
use Rattle.law_states.proofs.Consistent.{change-call, changed_tree}
use Rattle.law_states.proofs.CallActs.{collects_is, given_is}
use Rattle.law_states.proofs.Steps.{StepDoes, step_does}

-- giving changes only what is Queued
pub not_given : (o p : Option Call) → ByGiving o p → (stage_in o ≡ Some stage.Queued → ⊥) → p ≡ o
not_given o p stays h = refl
not_given o p (gives r u e) h = absurd (h (ap (λ (s : CallStage). Some s) e))

-- a record that an act leaves at another stage than Queued is still there after the event
stage_stays :
    (m : State) (t : ℕ) (q : Option Request) (c : ℕ) (s : CallStage) → StepDoes m t q →
    stage_of (act m t q).state c ≡ Some s → (s ≡ stage.Queued → ⊥) → stage_of (step m t q).state c ≡ Some s
unfolding step
stage_stays m t q c s d e f =
    ap stage_in (not_given _ _ (d.settled.gave.arrows c) (λ z. f (grind arith))) ∙ e

-- accept

-- the call that a thread was given is found
pub given_found : (m : State) (t c : ℕ) → IsConsistent m → state_of m t ≡ is.Given (item.Call c) → is_some (find_call m (is_given_as c t)) ≡ true
given_found m t c h e =
    let found = λ (r : Call). find-as call_number (is_given_as c t) m.call_tree.calls c r (λ y g. grind (arith, nat_tests)) in
    grind (arith, nat_tests, h.coherent.waits.given_back c t e, found)

-- and after the accept is at the stage that it moves it to
stage_accepted :
    (m : State) (t c : ℕ) (r : Call) (s : CallStage) → IsConsistent m → find_call m (is_given_as c t) ≡ Some r →
    stage_in (find (has_number c) (changed_tree m.call_tree (is_given_as c t) (without_arguments_at s)).calls) ≡ Some s
stage_accepted m t c r s h g =
    let n : r.number ≡ c = (given_is c t r (find-passes (is_given_as c t) m.call_tree.calls r g)).0 in
    ap stage_in (change-call (is_given_as c t) (without_arguments_at s) (λ x. refl) m r h g c) ∙ grind (arith, nat_tests)

accepted : (m : State) (t p c : ℕ) → IsConsistent m → state_of m t ≡ is.Given (item.Call c) → IsAcceptedNow (accept m t p (item.Call c)).state t c
accepted m t p c h e = go (find_call m (is_given_as c t)) refl (given_found m t c h e)
  where
    by_room :
        (r : Call) → find_call m (is_given_as c t) ≡ Some r → (b : Bool) →
        IsAcceptedNow (if b then begin_call m t p c r else fail_begin m t c r).state t c
    by_room r g true = inl (stage_accepted m t c r (stage.Entered (tid t)) h g)
    by_room r g false = inr (stage_accepted m t c r (stage.Ended EMFILE) h g)

    go : (o : Option Call) → find_call m (is_given_as c t) ≡ o → is_some o ≡ true → IsAcceptedNow (accept_call m t p c o).state t c
    go None g s = grind arith
    go (Some r) g s = by_room r g (has_room m p r.objects)

pub step_accepted :
    (m : State) (t : ℕ) (q : Option Request) (c : ℕ) → Invariant m → MayTurn m t q → q ≡ None → state_of m t ≡ is.Given (item.Call c) →
    IsAcceptedNow (step m t q).state t c
step_accepted m t q c h may e f =
    subst (λ o. MayTurn m t o → IsAcceptedNow (step m t o).state t c) (sym e)
    (λ w. ⊎_elim
    (λ g. inl (stage_stays m t None c (stage.Entered (tid t)) (step_does m t None h w) g (λ z. grind arith)))
    (λ g. inr (stage_stays m t None c (stage.Ended EMFILE) (step_does m t None h w) g (λ z. grind arith)))
    (subst (λ s. IsAcceptedNow (go_on m t (process_of m t) s).state t c) (sym f) (accepted m t (process_of m t) c h.consistent f)))
    may

-- collect

-- a turn of a thread that is Calling c is taken only where c can be collected
pub step_collected :
    (m : State) (t : ℕ) (q : Option Request) (c : ℕ) → Invariant m → MayTurn m t q → q ≡ None → state_of m t ≡ is.Calling c →
    IsAnsweredNow m (step m t q).state c
step_collected m t q c h may e f =
    subst (λ p. MayTurn m t p → IsAnsweredNow m (step m t p).state c) (sym e)
    (λ w. stage_stays m t None c (stage.Answered (now m)) (step_does m t None h w)
    (ap (λ s. stage_of (go_on m t (process_of m t) s).state c) f
    ∙ go (find_call m (is_to_collect_as c)) refl (sym (ap (λ s. can_go_on m s) f) ∙ w.runnable))
    (λ z. grind arith))
    may
  where
    go :
        (o : Option Call) → find_call m (is_to_collect_as c) ≡ o → is_some o ≡ true →
        stage_of (go_on m t (process_of m t) (is.Calling c)).state c ≡ Some (stage.Answered (now m))
    go None g s = grind arith
    go (Some r) g s =
        let n : r.number ≡ c = (collects_is c r (find-passes (is_to_collect_as c) m.call_tree.calls r g)).0 in
        ap stage_in (change-call (is_to_collect_as c) (without_arguments_at (stage.Answered (now m))) (λ x. refl) m r h.consistent g c)
        ∙ grind (arith, nat_tests)
