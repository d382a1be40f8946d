-- The laws hold of every run.
use Rattle.std.specs.Prelude.{ℕ, ◌≡◌, ◌+◌, ◌↔◌, List, Some, length, slice_get, None, false}
use Rattle.std.proofs.Common.{sym, ap, subst, ◌∙◌}
use native.Mathlib.Omega.{arith}
use Rattle.spec_kernel.specs.Types.{Errno, Request, Pass}
use Rattle.dk_base.specs.declared.request.Request.TheVariants as request
use Rattle.dk_base.specs.declared.answer.Answer.TheVariants as answer
use Rattle.spec_kernel.specs.Words.{IsOpening, IsRun, State, Turn, bound_of, refusal_of, state_after, state_at, with_event_counted}
use Rattle.spec_kernel.proofs.Runs.{state_at_all}
use Rattle.law_states.specs.Invariant.{Invariant}
use Rattle.law_runs.specs.Laws.{Laws}
use Rattle.law_runs.specs.Pools.{HasNoneIdle}
use Rattle.law_places.specs.Places.{IsBoundToInvalid, IsReturnRefusedBy, answer_at, process_at, IsReturn}
use Rattle.law_runs.specs.Once.{ReturnUnbinds}
use Rattle.law_runs.specs.Refused.{IsRefusedWith}
use Rattle.law_places.proofs.Bound.{invalid_decides}
use Rattle.law_places.proofs.Known.{Known, invariant_before, next}
use Rattle.law_places.proofs.Refusals.{FailsIn, entry_tells}
use Rattle.law_places.proofs.Refusals.FailsIn.{by_test, returned_unbound}
use Rattle.law_places.proofs.ReturnRefusals.{no_return_refusal, refusal_return, return_refusal}
use Rattle.law_runs.proofs.Returns.{return_unbinds}
use Rattle.law_runs.proofs.Shown.{events_shown}
use Rattle.law_places.proofs.Runs.{invariant_at, known}
use Rattle.law_runs.proofs.Once.{once_holds}
use Rattle.law_runs.proofs.Match.{match_holds}
use Rattle.law_runs.proofs.Cause.{cause_holds}
use Rattle.law_runs.proofs.NoLoss.{no_loss_holds}
use Rattle.law_runs.proofs.RowChanges.{rows_hold}
use Rattle.law_runs.proofs.Waits.{waits_where_told}
use Rattle.law_runs.proofs.Given.{given_holds}
use Rattle.law_runs.proofs.Names.{names_hold}
use Rattle.law_runs.proofs.Bindings.{bindings_hold}
use Rattle.law_runs.proofs.Parameters.{parameters_hold}
use Rattle.law_runs.proofs.Answers.{answers_ends_of_waits, answers_requests}
use Rattle.law_runs.proofs.Held.{held_holds}
use Rattle.law_runs.proofs.Creators.{made_by_creator}
use Rattle.law_runs.proofs.Ends.{ends_holds}
use Rattle.law_runs.proofs.InvalidDoors.{invalid_doors_hold}
use Rattle.law_runs.proofs.Cancels.{cancels_holds}
use Rattle.law_runs.proofs.Notices.{notices_hold}
use Rattle.law_runs.proofs.Begins.{begins_hold}
use Rattle.law_runs.proofs.Pools.{bound_to_own, none_idle_in}
use Rattle.law_runs.proofs.Bytes.{bytes_hold}
use Rattle.law_runs.proofs.PortEvents.{port_events_hold}
use Rattle.law_runs.proofs.PortWaits.{port_waits_hold}
use Rattle.law_runs.proofs.Tasks.{tasks_hold}
use Rattle.law_runs.proofs.OneShot.{one_shot_holds}
use Rattle.law_runs.proofs.Effects.{lives_hold}
use Rattle.law_runs.proofs.TimerLives.{timer_lives_hold}
use Rattle.law_runs.proofs.TimerPlaces.{known_timers}
use Rattle.law_runs.proofs.Ticks.{ticks_hold}
use Rattle.law_runs.proofs.Channels.{KnownChannels, known_channels}
use Rattle.law_runs.specs.Entries.{first_reason, reasons, is_message}
use Rattle.law_runs.proofs.Entries.{refusal_is}

-- why an entry answers an error

module _ (m : State) (xs : List Turn) (k : Known m xs) (i : ℕ) (x : Turn) (f : slice_get xs i ≡ Some x) where
  abbrev own : ℕ
  own = process_at m xs i x.thread

  inv : Invariant (state_at m xs i)
  inv = invariant_before m xs k i x f

  tells :
      (r : Request) (e : Errno) → x.request ≡ Some r → (answer_at m xs i x ≡ answer.Failure e) ↔ FailsIn (state_at m xs i) x.thread r e
  tells r e = entry_tells (state_at m xs i) x.thread x.request r e

  by_table :
      (r : Request) (e : Errno) → x.request ≡ Some r → is_message r ≡ false →
      (answer_at m xs i x ≡ answer.Failure e) ↔ (first_reason (reasons (state_at m xs i) x.thread own r) ≡ Some e)
  by_table r e q n = (λ a. go e ((tells r e q).0 a), λ h. (tells r e q).1 (by_test e (same ∙ h)))
    where
      same : refusal_of (state_at m xs i) x.thread own r ≡ first_reason (reasons (state_at m xs i) x.thread own r)
      same = refusal_is (state_at m xs i) x.thread own r n

      go : (y : Errno) → FailsIn (state_at m xs i) x.thread r y → first_reason (reasons (state_at m xs i) x.thread own r) ≡ Some y
      go y (by_test z g) = sym same ∙ g
      go y (returned_unbound bytes pass g h v) = absurd (cc (sym n ∙ ap is_message g))

  refused_same :
      (r : Request) (e : Errno) → x.request ≡ Some r → refusal_of (state_at m xs i) x.thread own r ≡ Some e →
      state_at m xs (i + 1) ≡ with_event_counted (state_at m xs i)
  refused_same r e q a = next m xs k i x f ∙ (k.keeps i x f).refused r e q a

  is_return :
      (r : Request) (bytes : List ℕ) (pass : List Pass) → x.request ≡ Some r → r ≡ request.Return bytes pass →
      refusal_of (state_at m xs i) x.thread own r ≡ None → IsReturn m xs i x bytes pass
  is_return r bytes pass q g n =
      record {
        asked = q ∙ ap (λ (s : Request). Some s) g;
        not_refused =
            no_return_refusal (state_at m xs i) inv x.thread own bytes pass (ap (refusal_of (state_at m xs i) x.thread own) (sym g) ∙ n);
      }

  changes_nothing :
      (r : Request) (e : Errno) → x.request ≡ Some r → answer_at m xs i x ≡ answer.Failure e →
      ((bytes : List ℕ) (pass : List Pass) → IsReturn m xs i x bytes pass → ⊥) → state_at m xs (i + 1) ≡ with_event_counted (state_at m xs i)
  changes_nothing r e q a n = go e ((tells r e q).0 a)
    where
      go : (y : Errno) → FailsIn (state_at m xs i) x.thread r y → state_at m xs (i + 1) ≡ with_event_counted (state_at m xs i)
      go y (by_test z g) = refused_same r z q g
      go y (returned_unbound bytes pass g h v) = absurd (n bytes pass (is_return r bytes pass q g h))

  -- a Return that is not refused does not leave its thread bound to a door that is not valid
  returns_by_table :
      (bytes : List ℕ) (pass : List Pass) (e : Errno) → x.request ≡ Some (request.Return bytes pass) →
      IsRefusedWith m xs i x e ↔ IsReturnRefusedBy m xs i x.thread bytes pass e
  returns_by_table bytes pass e q =
      (λ a. by e a.1 ((tells (request.Return bytes pass) e q).0 a.0), λ h. ((tells (request.Return bytes pass) e q).1 (by_test e (tested h)), refused_same (request.Return bytes pass) e q (tested h)))
    where
      tested : IsReturnRefusedBy m xs i x.thread bytes pass e → refusal_of (state_at m xs i) x.thread own (request.Return bytes pass) ≡ Some e
      tested h = refusal_return (state_at m xs i) inv x.thread own bytes pass e h

      still_bound : IsBoundToInvalid (state_at m xs i) x.thread → state_at m xs (i + 1) ≡ with_event_counted (state_at m xs i) → ReturnUnbinds m xs i x → ⊥
      still_bound v same u = absurd (cc (sym u.bound_to_none ∙ ap (λ n. bound_of n x.thread) same ∙ v.bound))

      by :
          (y : Errno) → state_at m xs (i + 1) ≡ with_event_counted (state_at m xs i) →
          FailsIn (state_at m xs i) x.thread (request.Return bytes pass) y → IsReturnRefusedBy m xs i x.thread bytes pass y
      by y same (by_test z g) = return_refusal (state_at m xs i) inv x.thread own bytes pass z g
      by y same (returned_unbound b p g n v) =
          let lost : IsBoundToInvalid (state_at m xs i) x.thread = (invalid_decides (state_at m xs i) x.thread).0 v in
          absurd (still_bound lost same (return_unbinds m xs k i x b p f (is_return (request.Return bytes pass) b p q g n) lost))

all_hold : (m : State) (xs : List Turn) → Known m xs → KnownChannels m xs → Laws m xs
unfolding Laws
all_hold m xs k h =
    record {
      once = once_holds m xs k;
      match = match_holds m xs k;
      cause = cause_holds m xs k;
      no_loss = no_loss_holds m xs k;
      rows = rows_hold m xs k;
      waits = waits_where_told m xs k;
      given = given_holds m xs k;
      names = names_hold m xs k;
      bindings = bindings_hold m xs k;
      parameters = parameters_hold m xs k;
      answers = answers_requests m xs k;
      ends_of_waits = answers_ends_of_waits m xs k;
      held = held_holds m xs k;
      made_by_creator = made_by_creator m xs k;
      refused =
          record {
            by_table = λ i x r e f. by_table m xs k i x f r e;
            changes_nothing = λ i x r e f. changes_nothing m xs k i x f r e;
            returns_by_table = λ i x bytes pass e f. returns_by_table m xs k i x f bytes pass e;
          };
      no_pool_has_both = λ i l. none_idle_in (state_at m xs i) (k.invariant i l);
      bound_to_own = λ i t d l. bound_to_own (state_at m xs i) (k.invariant i l) t d;
      ends = ends_holds m xs k;
      invalid_doors = invalid_doors_hold m xs k;
      cancels = cancels_holds m xs k;
      notices = notices_hold m xs k;
      events_shown = events_shown m xs k.no_event;
      bytes = bytes_hold m xs h;
      port_events = port_events_hold m xs h;
      port_waits = port_waits_hold m xs h;
      tasks = tasks_hold m xs h;
      one_shot = one_shot_holds m xs h;
      lives = lives_hold m xs h;
      timer_lives = timer_lives_hold m xs h;
      ticks = ticks_hold m xs (known_timers m xs h) (timer_lives_hold m xs h) (port_events_hold m xs h);
      begins = begins_hold m xs k;
    }

pub laws_hold : (m : State) (xs : List Turn) → IsOpening m → IsRun m xs → Laws m xs
laws_hold m xs opens run = all_hold m xs (known m xs opens run) (known_channels m xs opens run (known m xs opens run))

pub none_idle_after : (m : State) (xs : List Turn) → IsOpening m → IsRun m xs → HasNoneIdle (state_after m xs)
none_idle_after m xs opens run =
    subst HasNoneIdle (state_at_all m xs (length xs) (omega arith)) (none_idle_in _ (invariant_at m xs opens run (length xs) (omega arith)))
