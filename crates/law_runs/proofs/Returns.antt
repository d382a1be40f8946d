-- A Return that is not refused ends the invocation of its thread, and hands over the results of the call that it had entered.
use Rattle.std.specs.Prelude.{ℕ, ◌≡◌, ◌+◌, ◌==◌, ◌⊎◌, List, Option, Bool, true, false, if◌then◌else◌, Some, None, slice_get}
use Rattle.std.proofs.Common.{refl, sym, ap, subst, ◌∙◌, inl, inr}
use native.Mathlib.Omega.{arith}
use Rattle.std.proofs.lemmas.Bool.Decides.{nat_tests}
use Rattle.std.proofs.lemmas.Option.{slice_get_within}
use Rattle.spec_kernel.specs.Types.{Answer, Call, Inv, Item, Pass, Request, ThreadState}
use Rattle.dk_base.specs.declared.error.Errno.TheVariants.{EINVAL}
use Rattle.dk_base.specs.declared.answer.Answer.TheVariants as answer
use Rattle.dk_base.specs.declared.object.Item.TheVariants as item
use Rattle.dk_base.specs.declared.request.Request.TheVariants as request
use Rattle.spec_records.specs.declared.record.ThreadState.TheVariants as is
use Rattle.spec_records.specs.declared.record.CallStage.TheVariants as stage
use Rattle.spec_records.specs.Words.{bound_at, idle_thread, state_in, thread_at_state, thread_outside, tid, unbind_thread}
use Rattle.spec_kernel.specs.Words.{MayEnter, MayTurn, State, Turn, bound_of, go_on, has_invalid_door, invocation_of, is_running_state, now, process_of, refusal_of, return, return_answer, return_parked, return_unbound, settle, state_at, state_of, step, unless_refused, wake, with_event_counted}
use Rattle.spec_kernel.proofs.Settling.{settle-all}
use Rattle.law_states.specs.Records.{item_in, record_of, stage_in}
use Rattle.law_states.specs.Arrows.{EndsNow, Interrupts}
use Rattle.law_states.specs.Arrows.Interrupts.{asked, forked}
use Rattle.law_states.specs.Arrows.EndsBy.{door_invalid, server_full, interrupted, server_ended}
use Rattle.law_places.specs.Places.{BecomesReturned, HasEntered, IsBoundToInvalid, IsBoundToNoInvalid, IsReturn, ReturnAnswers, answer_at, is_returned_in}
use Rattle.law_places.specs.Places.ReturnAnswers.{waits, unbound}
use Rattle.law_runs.specs.Once.{IsParked, IsWoken, ReturnParks, ReturnUnbinds}
use Rattle.law_runs.specs.Once.IsParked.{is_idle, is_given}
use Rattle.law_places.proofs.Bound.{invalid_decides, no_invalid, none_invalid}
use Rattle.law_places.proofs.Invocations.{return_ends}
use Rattle.law_runs.proofs.Parked.{IsParkedNow, IsThread, Parks, bound_elsewhere, bound_here, is_thread, loses_idle, other_thread, parks, picked_idle, given_bound, given_state, state_elsewhere, state_there}
use Rattle.law_runs.proofs.Parked.Parks.{idle, given as given_other, unbound as has_failed}
use Rattle.law_places.proofs.ReturnRefusals.{not_refused_at}
use Rattle.law_places.proofs.Changes.{Change}
use Rattle.law_places.proofs.Changes.Change.{made, given, entered, returned, ended, broken_off, left, results_collected, nothing_collected, error_collected}
use Rattle.law_places.proofs.Known.{ChangeAt, Known, next, stays_or_changes, number_of_event}
use Rattle.law_places.proofs.Done.{is_leaving_turn, none_ends_at}
use Rattle.law_places.proofs.Refusals.{return_result}

step_answers :
    (m : State) (t : ℕ) (bytes : List ℕ) (pass : List Pass) → refusal_of m t (process_of m t) (request.Return bytes pass) ≡ None →
    (step m t (Some (request.Return bytes pass))).answer ≡ return_answer m t
unfolding step
step_answers m t bytes pass e =
    ap (λ o. (unless_refused m o (return m t (process_of m t) bytes pass)).answer) e ∙ return_result m t (process_of m t) bytes pass

-- the answer, by the door that the thread is bound to
pub return_tells : (m : State) (t : ℕ) (a : Answer) → a ≡ return_answer m t → ReturnAnswers m t a
return_tells m t a e = go (has_invalid_door m t) refl e
  where
    go : (b : Bool) → has_invalid_door m t ≡ b → a ≡ (if b then answer.Failure EINVAL else answer.Wait) → ReturnAnswers m t a
    go true f g = subst (ReturnAnswers m t) (sym g) (unbound ((invalid_decides m t).0 f))
    go false f g = subst (ReturnAnswers m t) (sym g) (waits (none_invalid m t f))

-- a thread that runs after an act runs after the event, and is bound to what it was bound to, if that is none

record GoesOn (n : State) (t : ℕ) : Type 0 where
  running : state_of n t ≡ is.Running
  unbound : bound_of n t ≡ None

settle_running : (before m : State) (t : ℕ) → state_of m t ≡ is.Running → state_of (settle before m) t ≡ is.Running
settle_running before m t =
    settle-all (λ n. state_of n t ≡ is.Running) before
    (record {
      makes = λ n d l e. e;
      fails = λ n u l e. state_elsewhere n.process_table u t _ (other_thread n t u _ _ e (loses_idle n u l).1 (λ z. cc)) ∙ e;
      gives = λ n w x p e. given_state n w.item x.thread.0 t (other_thread n t x.thread.0 _ _ e (picked_idle n _ x p) (λ z. cc)) ∙ e;
      starts = λ n u d e. state_elsewhere n.process_table u t _ (other_thread n t u _ _ e d (λ z. cc)) ∙ e;
    }) (λ n h. h)
    m

settle_unbound : (before m : State) (t : ℕ) → bound_of m t ≡ None → bound_of (settle before m) t ≡ None
settle_unbound before m t =
    settle-all (λ n. bound_of n t ≡ None) before
    (record {
      makes = λ n d l e. e;
      fails = λ n u l e. fails n u e;
      gives = λ n w x p e. given_bound n w.item x.thread.0 t ∙ e;
      starts = λ n u d e. e;
    }) (λ n h. h)
    m
  where
    fails : (n : State) (u : ℕ) → bound_of n t ≡ None → bound_at (unbind_thread n.bindings u) t ≡ None
    fails n u e = go (t == u) refl
      where
        go : (b : Bool) → (t == u) ≡ b → bound_at (unbind_thread n.bindings u) t ≡ None
        go true f = bound_here n.bindings u t f
        go false f = bound_elsewhere n.bindings u t f ∙ e

-- a Return that is not refused, of a thread that runs

step_parks :
    (m : State) (t : ℕ) (bytes : List ℕ) (pass : List Pass) → refusal_of m t (process_of m t) (request.Return bytes pass) ≡ None →
    has_invalid_door m t ≡ false → state_of m t ≡ is.Running → Parks m (step m t (Some (request.Return bytes pass))).state t
unfolding step
step_parks m t bytes pass e v s =
    subst (λ o. Parks m (with_event_counted (settle m (unless_refused m o (return m t (process_of m t) bytes pass)).state)) t) (sym e)
    (subst
    (λ (b : Bool). Parks m (with_event_counted (settle m (if b then return_unbound m t (process_of m t) bytes pass else return_parked m t (process_of m t) bytes pass).state)) t)
    (sym v)
    (parks m (return_parked m t (process_of m t) bytes pass).state t (parked (is_thread m t (λ d. absurd (cc (sym s ∙ d)))))))
  where
    parked : IsThread m t → IsParkedNow m (return_parked m t (process_of m t) bytes pass).state t
    parked h = record { state = state_there m.process_table t t (idle_thread (now m)) h.thread (grind (arith, nat_tests)) h.there; door = refl }

step_unbinds :
    (m : State) (t : ℕ) (bytes : List ℕ) (pass : List Pass) → refusal_of m t (process_of m t) (request.Return bytes pass) ≡ None →
    has_invalid_door m t ≡ true → state_of m t ≡ is.Running → GoesOn (step m t (Some (request.Return bytes pass))).state t
unfolding step
step_unbinds m t bytes pass e v s =
    subst (λ o. GoesOn (with_event_counted (settle m (unless_refused m o (return m t (process_of m t) bytes pass)).state)) t) (sym e)
    (subst
    (λ (b : Bool). GoesOn (with_event_counted (settle m (if b then return_unbound m t (process_of m t) bytes pass else return_parked m t (process_of m t) bytes pass).state)) t)
    (sym v)
    (record {
      running = settle_running m n t (runs (is_thread m t (λ d. absurd (cc (sym s ∙ d)))));
      unbound = settle_unbound m n t (bound_here m.bindings t t (grind (arith, nat_tests)));
    }))
  where
    n : State
    n = (return_unbound m t (process_of m t) bytes pass).state

    runs : IsThread m t → state_of n t ≡ is.Running
    runs h = state_there m.process_table t t thread_outside h.thread (grind (arith, nat_tests)) h.there ∙ sym (ap state_in h.there) ∙ s

-- the turn of a thread that lost its door while it was parked

record Wakes (m n : State) (t : ℕ) (a : Answer) : Type 0 where
  answer : a ≡ answer.Failure EINVAL
  running : state_of n t ≡ is.Running

step_wakes : (m : State) (t : ℕ) → state_of m t ≡ is.FailedReturn → Wakes m (step m t None).state t (step m t None).answer
unfolding step
step_wakes m t s =
    subst
    (λ z. Wakes m (with_event_counted (settle m (go_on m t (process_of m t) z).state)) t (go_on m t (process_of m t) z).answer)
    (sym s)
    (record {
      answer = refl;
      running = settle_running m (wake m t).state t (runs (is_thread m t (λ d. absurd (cc (sym s ∙ d)))));
    })
  where
    runs : IsThread m t → state_of (wake m t).state t ≡ is.Running
    runs h = state_there m.process_table t t (thread_at_state is.Running) h.thread (grind (arith, nat_tests)) h.there

runs_of : (s : ThreadState) → is_running_state s ≡ true → s ≡ is.Running
runs_of is.Running e = refl
runs_of s e = grind arith

no_item : (o : Option Inv) (i : Item) → o ≡ None → item_in o ≡ Some i → ⊥
no_item o i e f = grind arith

-- a Return interrupts none
no_return : {m : State} {t u : ℕ} {q : Option Request} {bytes : List ℕ} {pass : List Pass} → Interrupts m t q u → q ≡ Some (request.Return bytes pass) → ⊥
no_return (asked e) f = cc
no_return (forked child e free own other) f = cc

-- a Return ends no thread
change_returns :
    (m : State) (t : ℕ) (q : Option Request) (a : Answer) (n : State) (o p : Option Call) (bytes : List ℕ) (pass : List Pass) →
    Change m t q a n o p → ((u : ℕ) → EndsNow m n u → ⊥) → q ≡ Some (request.Return bytes pass) →
    stage_in o ≡ Some (stage.Entered (tid t)) → is_returned_in p ≡ true
change_returns m t q a n o p bytes pass (returned r b x e y f g k) none h s = refl
change_returns m t q a n o p bytes pass (made d rsize fd b x c e f v k w) none h s = absurd (cc (e, h))
change_returns m t q a n o p bytes pass (given r u e) none h s = absurd (grind arith)
change_returns m t q a n o p bytes pass (entered r e f g k v) none h s = absurd (cc (e, h))
change_returns m t q a n o p bytes pass (ended r x (door_invalid e v w d)) none h s = absurd (grind arith)
change_returns m t q a n o p bytes pass (ended r x (server_full e f g v w)) none h s = absurd (cc (e, h))
change_returns m t q a n o p bytes pass (ended r x (interrupted e f d)) none h s = absurd (no_return e h)
change_returns m t q a n o p bytes pass (ended r x (server_ended u e f d)) none h s = absurd (none u f)
change_returns m t q a n o p bytes pass (broken_off r u e f d) none h s = absurd (no_return e h)
change_returns m t q a n o p bytes pass (left r l e) none h s = absurd (none r.caller.0 e)
change_returns m t q a n o p bytes pass (results_collected r b x e f g k l z) none h s = absurd (cc (e, h))
change_returns m t q a n o p bytes pass (nothing_collected r b x e f g k l z) none h s = absurd (cc (e, h))
change_returns m t q a n o p bytes pass (error_collected r x e f g k l) none h s = absurd (cc (e, h))

pub not_returned_yet : (o : Option Call) (t : ℕ) → stage_in o ≡ Some (stage.Entered (tid t)) → is_returned_in o ≡ false
not_returned_yet o t e = grind arith

module _ (m : State) (xs : List Turn) (k : Known m xs) where
  return_answers :
      (i : ℕ) (x : Turn) (bytes : List ℕ) (pass : List Pass) → slice_get xs i ≡ Some x → IsReturn m xs i x bytes pass →
      answer_at m xs i x ≡ return_answer (state_at m xs i) x.thread
  return_answers i x bytes pass e h =
      ap (λ r. (step (state_at m xs i) x.thread r).answer) h.asked ∙ step_answers (state_at m xs i) x.thread bytes pass (not_refused_at m xs k i x bytes pass e h)

  running_at : (i : ℕ) (x : Turn) (r : Request) → slice_get xs i ≡ Some x → x.request ≡ Some r → state_of (state_at m xs i) x.thread ≡ is.Running
  running_at i x r e f = runs_of _ (may (subst (MayTurn (state_at m xs i) x.thread) f (k.may i x e)))
    where
      may : MayEnter (state_at m xs i) x.thread r → is_running_state (state_of (state_at m xs i) x.thread) ≡ true
      may h = h.running

  pub return_parks :
      (i : ℕ) (x : Turn) (bytes : List ℕ) (pass : List Pass) → slice_get xs i ≡ Some x → IsReturn m xs i x bytes pass →
      IsBoundToNoInvalid (state_at m xs i) x.thread → ReturnParks m xs i x
  return_parks i x bytes pass e h v =
      record {
        answer = return_answers i x bytes pass e h ∙ ap (λ (b : Bool). if b then answer.Failure EINVAL else answer.Wait) none;
        parked =
            go
            (subst (λ n. Parks (state_at m xs i) n x.thread) (sym (next m xs k i x e ∙ ap (λ r. (step (state_at m xs i) x.thread r).state) h.asked))
            (step_parks (state_at m xs i) x.thread bytes pass (not_refused_at m xs k i x bytes pass e h) none
            (running_at i x (request.Return bytes pass) e h.asked)));
      }
    where
      none : has_invalid_door (state_at m xs i) x.thread ≡ false
      none = no_invalid (state_at m xs i) x.thread v

      go : Parks (state_at m xs i) (state_at m xs (i + 1)) x.thread → IsParked m xs i x
      go (idle f b) = is_idle (b ∙ ap is.Idle (number_of_event m xs k i (slice_get_within xs i x e)))
      go (given_other f other b) = is_given other b
      go (has_failed f b d) = absurd (cc (sym f ∙ none))

  pub return_unbinds :
      (i : ℕ) (x : Turn) (bytes : List ℕ) (pass : List Pass) → slice_get xs i ≡ Some x → IsReturn m xs i x bytes pass →
      IsBoundToInvalid (state_at m xs i) x.thread → ReturnUnbinds m xs i x
  return_unbinds i x bytes pass e h v =
      go
      (subst (λ n. GoesOn n x.thread) (sym (next m xs k i x e ∙ ap (λ r. (step (state_at m xs i) x.thread r).state) h.asked))
      (step_unbinds (state_at m xs i) x.thread bytes pass (not_refused_at m xs k i x bytes pass e h) lost
      (running_at i x (request.Return bytes pass) e h.asked)))
    where
      lost : has_invalid_door (state_at m xs i) x.thread ≡ true
      lost = (invalid_decides (state_at m xs i) x.thread).1 v

      go : GoesOn (state_at m xs (i + 1)) x.thread → ReturnUnbinds m xs i x
      go g =
          record {
            answer = return_answers i x bytes pass e h ∙ ap (λ (b : Bool). if b then answer.Failure EINVAL else answer.Wait) lost;
            running = g.running;
            bound_to_none = g.unbound;
          }

  pub wakes :
      (i : ℕ) (x : Turn) → slice_get xs i ≡ Some x → x.request ≡ None → state_of (state_at m xs i) x.thread ≡ is.FailedReturn →
      IsWoken m xs i x
  wakes i x e q s =
      go
      (subst (λ r. Wakes (state_at m xs i) (step (state_at m xs i) x.thread r).state x.thread (step (state_at m xs i) x.thread r).answer) (sym q)
      (step_wakes (state_at m xs i) x.thread s))
    where
      go : Wakes (state_at m xs i) (step (state_at m xs i) x.thread x.request).state x.thread (answer_at m xs i x) → IsWoken m xs i x
      go w = record { answer = w.answer; running = ap (λ n. state_of n x.thread) (next m xs k i x e) ∙ w.running }

  pub return_hands_over :
      (i c : ℕ) (x : Turn) (bytes : List ℕ) (pass : List Pass) → slice_get xs i ≡ Some x → IsReturn m xs i x bytes pass →
      HasEntered (state_at m xs i) x.thread c → BecomesReturned m xs c i
  return_hands_over i c x bytes pass e h s =
      record { within = slice_get_within xs i x e; before = not_returned_yet _ x.thread s; after = go (stays_or_changes m xs k c i x e) }
    where
      go :
          (record_of (state_at m xs (i + 1)) c ≡ record_of (state_at m xs i) c)
          ⊎ ChangeAt m xs i x (record_of (state_at m xs i) c) (record_of (state_at m xs (i + 1)) c) →
          is_returned_in (record_of (state_at m xs (i + 1)) c) ≡ true
      go (inl same) =
          absurd
          (no_item (invocation_of (state_at m xs (i + 1)) x.thread) (item.Call c) (return_ends m xs k i x bytes pass e h)
          ((k.invariant (i + 1) (omega (arith, slice_get_within xs i x e))).consistent.coherent.invocations.entered c x.thread (ap stage_in same ∙ s)))
      go (inr w) = change_returns _ _ _ _ _ _ _ bytes pass w (none_ends_at m xs k i x e (ap is_leaving_turn h.asked)) h.asked s
