-- What refuses a Call, and what a caller collects, has its cause in every run.
use Rattle.std.specs.Prelude.{ℕ, ◌≡◌, ◌+◌, ◌<◌, ◌≤◌, ◌↔◌, ◌⊎◌, List, Option, Bool, true, false, Some, None, zero, suc, length, nat_lt, slice_get}
use Rattle.std.proofs.Common.{refl, sym, ap, subst, ◌∙◌, add-one, inl, inr}
use native.Mathlib.Omega.{arith}
use Rattle.std.proofs.lemmas.Bool.Decides.{nat_tests}
use Rattle.std.proofs.lemmas.Option.{slice_get_within}
use Rattle.spec_kernel.specs.Types.{Answer, Call, CallStage, Errno, Fd, Obj, Pass, Pid, Request, ThreadState, Tid}
use Rattle.dk_base.specs.declared.error.Errno.TheVariants.{EINTR, EMFILE}
use Rattle.dk_base.specs.declared.request.Request.TheVariants as request
use Rattle.dk_base.specs.declared.answer.Answer.TheVariants as answer
use Rattle.spec_records.specs.declared.record.CallStage.TheVariants as stage
use Rattle.spec_records.specs.declared.record.ThreadState.TheVariants as is
use Rattle.spec_records.specs.Words.{gone_call_at, is_live, new_descriptors, objects_passed, tid}
use Rattle.spec_kernel.specs.Words.{State, Turn, door_named, is_valid, make_call, new_call, object_at, process_of, state_at, state_of, step, unless_refused}
use Rattle.spec_kernel.proofs.Runs.{state_at_all}
use Rattle.law_states.specs.Records.{item_in, record_of, stage_in, stage_of}
use Rattle.law_states.specs.Core.{caller_number, has_arguments, is_outside, is_underway, live_in, underway_in}
use Rattle.law_states.specs.Arrows.{EndsNow, Interrupts, has_own_room, own_table}
use Rattle.law_states.specs.Arrows.Interrupts.{asked, forked as forked_by}
use Rattle.law_states.specs.Arrows.EndsBy.{door_invalid as invalid, server_full as full, interrupted as by_caller, server_ended as by_server}
use Rattle.law_places.specs.Places.{IsCollect, IsRefusedBy, ReturnsCall, answer_at, process_at}
use Rattle.law_runs.specs.Once.{FailsToEnter}
use Rattle.law_runs.specs.Cause.{Cause, HasCause, HasRoomAt, HasTooFewAt, IsCall, IsCaused, Leaves, MakesOne, TellsSame, kind_of}
use Rattle.law_runs.specs.Cause.Cause.{results, caller_full, server_full, door_invalid, interrupted, forked, server_ended}
use Rattle.law_places.proofs.Refusals.{FailsIn, call_fails, entry_tells, none_of, refusal_at, refusal_of_table, table_of_refusal}
use Rattle.law_places.proofs.Refusals.FailsIn.{by_test}
use Rattle.law_places.proofs.Counts.{room_is, too_few_is}
use Rattle.law_places.proofs.Changes.{gone_by_rank, gone_rank, gone_stage, over_rank, rank_in, underway_rank}
use Rattle.law_places.proofs.Changes.Change.{made, given, entered, returned, ended as has_ended, broken_off, left, results_collected, nothing_collected, error_collected}
use Rattle.law_places.proofs.Done.{doors_interrupted_at, is_leaving_turn, none_ends_at}
use Rattle.law_places.proofs.Validity.{step_interrupts, step_loses, step_loses_over}
use Rattle.law_runs.proofs.Endings.{interrupt_ends_none}
use Rattle.law_runs.proofs.Forking.{fork_is_free, forks_there}
use Rattle.law_runs.proofs.Ends.{keeps_at}
use Rattle.law_places.proofs.Known.{ChangeAt, Known, TurnAt, invariant_before, never_falls, next, never_less, rises_once, same_turn, stays_or_changes, turn_at}
use Rattle.law_runs.proofs.Story.{story}
use Rattle.law_places.proofs.Rows.{Breaks, GoesOn, HandsOver, is_ended_call, is_ended_in, some_call}
use Rattle.law_places.proofs.Rows.Breaks.{by_cause, by_interrupt}
use Rattle.law_places.proofs.Rows.HandsOver.{results as hands_results, nothing as hands_nothing, error as hands_error}
use Rattle.law_runs.proofs.Readers.{AnsweredRowAt, EndedAt, ReturnedAt, ended, number_of, same_record, table_at}
use Rattle.law_runs.proofs.Once.{accept_fails, answered_by, caller_waits, collects, returned_before}
use Rattle.law_runs.proofs.Match.{goes_on, made_by, returns_call, same_objects, same_results}

-- a Call that is not refused answers the number of a call

record IsMadeCall (a : Answer) : Type 0 where
  call : ℕ
  waits : a ≡ answer.WaitCall call

unless_makes :
    (m : State) (t p : ℕ) (pass : List Pass) (r : Call) (o : Option Errno) → o ≡ None →
    IsMadeCall (unless_refused m o (make_call m t p pass r)).answer
unless_makes m t p pass r None h = record { call = r.number; waits = refl }
unless_makes m t p pass r (Some e) h = absurd (cc h)

step_makes :
    (m : State) (t : ℕ) (fd : Fd) (bytes : List ℕ) (pass : List Pass) (rsize : ℕ) →
    refusal_at m (process_of m t) (length bytes) pass (object_at m (process_of m t) fd) ≡ None →
    IsMadeCall (step m t (Some (request.Call fd bytes pass rsize))).answer
unfolding step
step_makes m t fd bytes pass rsize h =
    unless_makes m t (process_of m t) pass
    (new_call m t (door_named (object_at m (process_of m t) fd)) bytes (objects_passed (own_table m t) pass) rsize)
    (refusal_at m (process_of m t) (length bytes) pass (object_at m (process_of m t) fd))
    h

-- records

same_return :
    (q p : Option Request) (b d : List ℕ) (x y : List Pass) → q ≡ p → q ≡ Some (request.Return b x) →
    p ≡ Some (request.Return d y) → b ≡ d
same_return q p b d x y e f g = cc

not_both : (o : Option Call) (r : Call) (t : ℕ) → o ≡ Some r → r.stage ≡ stage.Queued → stage_in o ≡ Some (stage.Entered (tid t)) → ⊥
not_both o r t e f g = grind arith

same_error : (e f : Errno) (s : CallStage) → s ≡ stage.Ended e → s ≡ stage.Ended f → e ≡ f
same_error e f s g h = cc

same_told :
    (b d : List ℕ) (fds : List Fd) (n l : ℕ) → b ≡ d → n ≡ l →
    answer.Results b fds (nat_lt n (length b)) ≡ answer.Results d fds (nat_lt l (length d))
same_told b d fds n l e f =
    ap (λ (x : List ℕ). answer.Results x fds (nat_lt n (length x))) e ∙ ap (λ (x : ℕ). answer.Results d fds (nat_lt x (length d))) f

underway_live : (s : CallStage) → is_underway s ≡ true → is_live s ≡ true
underway_live s e = grind arith

waiting_underway : (s : CallStage) → has_arguments s ≡ true → is_underway s ≡ true
waiting_underway s e = grind arith

ends_underway :
    (m : State) (t : ℕ) (q : Option Request) (a : Answer) (n : State) (r : Call) (e : Errno) → Breaks m t q a n r e →
    is_underway r.stage ≡ true
ends_underway m t q a n r e (by_cause x (invalid s v w d)) = ap is_underway s
ends_underway m t q a n r e (by_cause x (full s v w d f)) = ap is_underway w
ends_underway m t q a n r e (by_cause x (by_caller s v d)) = waiting_underway r.stage v
ends_underway m t q a n r e (by_cause x (by_server u (inl s) w d)) = ap is_underway s
ends_underway m t q a n r e (by_cause x (by_server u (inr s) w d)) = ap is_underway s
ends_underway m t q a n r e (by_interrupt u s w d) = ap is_underway w

given_not_entered : (o : Option Call) (r : Call) (t u : ℕ) → o ≡ Some r → r.stage ≡ stage.Given (tid u) → stage_in o ≡ Some (stage.Entered (tid t)) → ⊥
given_not_entered o r t u e f g = grind arith

given_not_queued : (o : Option Call) (r s : Call) (u : ℕ) → o ≡ Some r → o ≡ Some s → r.stage ≡ stage.Given (tid u) → s.stage ≡ stage.Queued → ⊥
given_not_queued o r s u e f g h = grind arith

-- what is returned at one place
same_handed : (o : Option CallStage) (b d : List ℕ) (x y : List Obj) → o ≡ Some (stage.Returned b x) → o ≡ Some (stage.Returned d y) → x ≡ y
same_handed o b d x y e f = cc

not_asked : {q p : Option Request} {b : List ℕ} {x : List Pass} {t : Tid} → q ≡ p → q ≡ Some (request.Return b x) → p ≡ Some (request.Interrupt t) → ⊥
not_asked e f g = cc

not_forked :
    {q p : Option Request} {b : List ℕ} {x : List Pass} {child : Pid} → q ≡ p → q ≡ Some (request.Return b x) → p ≡ Some (request.Fork child) → ⊥
not_forked e f g = cc

none_forked : {q p : Option Request} {child : Pid} → q ≡ p → q ≡ None → p ≡ Some (request.Fork child) → ⊥
none_forked e f g = cc

asked_not_forked : {q p : Option Request} {t : Tid} {child : Pid} → q ≡ p → q ≡ Some (request.Interrupt t) → p ≡ Some (request.Fork child) → ⊥
asked_not_forked e f g = cc

none_asked : {q p : Option Request} {t : Tid} → q ≡ p → q ≡ None → p ≡ Some (request.Interrupt t) → ⊥
none_asked e f g = cc

still_valid : {a b : Bool} → a ≡ b → b ≡ true → a ≡ false → ⊥
still_valid e f g = cc

queued_not_served :
    (o : Option Call) (r s : Call) (u : ℕ) → o ≡ Some r → o ≡ Some s → r.stage ≡ stage.Queued →
    (s.stage ≡ stage.Given (tid u)) ⊎ (s.stage ≡ stage.Entered (tid u)) → ⊥
queued_not_served o r s u e f g (inl h) = grind arith
queued_not_served o r s u e f g (inr h) = grind arith

underway_at_least : (o : Option Call) → underway_in o ≡ true → 1 ≤ rank_in o
underway_at_least o e = grind arith

not_live :
    (o : Option Call) (r : Call) (s : ThreadState) (c : ℕ) → o ≡ Some r → (live_in o ≡ true → s ≡ is.Calling c) → s ≡ is.Done →
    is_live r.stage ≡ false
not_live o r s c e h d = go (is_live r.stage) refl
  where
    go : (b : Bool) → is_live r.stage ≡ b → is_live r.stage ≡ false
    go true f = absurd (cc (h (ap live_in e ∙ f), d))
    go false f = f

not_calling : (s : ThreadState) (c : ℕ) → s ≡ is.Calling c → s ≡ is.Done → ⊥
not_calling s c e f = cc

not_gone : (o : Option Call) → live_in o ≡ true → stage_in o ≡ Some stage.Gone → ⊥
not_gone o e f = grind arith

entered_underway : (o : Option Call) (t : ℕ) → stage_in o ≡ Some (stage.Entered (tid t)) → underway_in o ≡ true
entered_underway o t e = grind arith

returned_over : (o : Option Call) (b : List ℕ) (x : List Obj) → stage_in o ≡ Some (stage.Returned b x) → underway_in o ≡ false
returned_over o b x e = grind arith

ended_over : (o : Option Call) (x : Errno) → stage_in o ≡ Some (stage.Ended x) → underway_in o ≡ false
ended_over o x e = grind arith

not_gone_waiting : (s : CallStage) → has_arguments s ≡ true → s ≡ stage.Gone → ⊥
not_gone_waiting s e f = grind arith

gone_caller : (s : CallStage) (r : Call) → (gone_call_at s r).caller ≡ r.caller
gone_caller stage.Queued r = refl
gone_caller (stage.Given u) r = refl
gone_caller (stage.Entered u) r = refl
gone_caller (stage.Returned bytes objects) r = refl
gone_caller (stage.Ended x) r = refl
gone_caller (stage.Answered n) r = refl
gone_caller stage.Gone r = refl

module _ (m : State) (xs : List Turn) (k : Known m xs) where
  abbrev refusal_in : ℕ → Turn → Fd → List ℕ → List Pass → Option Errno
  refusal_in i x fd bytes pass =
      refusal_at (state_at m xs i) (process_at m xs i x.thread) (length bytes) pass (object_at (state_at m xs i) (process_at m xs i x.thread) fd)

  call_tells :
      (i : ℕ) (x : Turn) (fd : Fd) (bytes : List ℕ) (e : Errno) → (h : IsCall m xs i x fd bytes) →
      (answer_at m xs i x ≡ answer.Failure e) ↔ (refusal_in i x fd bytes h.pass ≡ Some e)
  call_tells i x fd bytes e h = (λ a. call_fails (state_at m xs i) x.thread _ fd bytes h.pass h.rsize e refl (both.0 a), λ f. both.1 (by_test e f))
    where
      both : (answer_at m xs i x ≡ answer.Failure e) ↔ FailsIn (state_at m xs i) x.thread (request.Call fd bytes h.pass h.rsize) e
      both = entry_tells (state_at m xs i) x.thread x.request (request.Call fd bytes h.pass h.rsize) e h.request

  refused :
      (i : ℕ) (x : Turn) (fd : Fd) (bytes : List ℕ) (e : Errno) → (h : IsCall m xs i x fd bytes) →
      (answer_at m xs i x ≡ answer.Failure e) ↔ IsRefusedBy m xs i x.thread fd bytes h.pass e
  refused i x fd bytes e h = (
    λ a. table_of_refusal _ _ _ _ _ e ((call_tells i x fd bytes e h).0 a),
    λ r. (call_tells i x fd bytes e h).1 (refusal_of_table _ _ _ _ _ e r),
  )

  not_refused :
      (i : ℕ) (x : Turn) (fd : Fd) (bytes : List ℕ) → (h : IsCall m xs i x fd bytes) →
      ((e : Errno) → IsRefusedBy m xs i x.thread fd bytes h.pass e → ⊥) → MakesOne m xs i x
  not_refused i x fd bytes h e =
      go
      (subst (λ q. IsMadeCall (step (state_at m xs i) x.thread q).answer) (sym h.request)
      (step_makes (state_at m xs i) x.thread fd bytes h.pass h.rsize (none_of _ (λ f g. e f (table_of_refusal _ _ _ _ _ f g)))))
    where
      go : IsMadeCall (answer_at m xs i x) → MakesOne m xs i x
      go a = record { call = a.call; makes = made_by m xs k i a.call x h.turn a.waits }

  -- a call leaves once

  left_at_least : (c e : ℕ) → Leaves m xs c e → 4 ≤ rank_in (record_of (state_at m xs (e + 1)) c)
  left_at_least c e h =
      over_rank _ h.over (omega (arith, underway_at_least _ h.underway, never_less m xs k c e h.within))

  left_once : (c e f : ℕ) → Leaves m xs c e → Leaves m xs c f → e ≡ f
  left_once c e f a b =
      rises_once (λ n. rank_in (record_of (state_at m xs n) c)) (length xs) 4 e f (never_less m xs k c) a.within b.within
      (omega (arith, underway_rank _ a.underway))
      (omega (arith, underway_rank _ b.underway))
      (left_at_least c e a)
      (left_at_least c f b)

  -- whether there is room for what a call was returned with is told once
  one_room :
      (c e n : ℕ) (z w v : Turn) (back : ReturnsCall m xs e w c) (more : ReturnsCall m xs e v c) →
      HasRoomAt m xs n z.thread back.objects → HasTooFewAt m xs n z.thread more.objects → ⊥
  one_room c e n z w v back more f g =
      let same : length back.objects ≡ length more.objects =
      ap (λ (os : List Obj). length os) (same_handed _ back.bytes more.bytes back.objects more.objects back.is_returned more.is_returned) in
      absurd (omega (arith, f, g, same))

  same_asked : (e : ℕ) (w v : Turn) → slice_get xs e ≡ Some w → slice_get xs e ≡ Some v → w.request ≡ v.request
  same_asked e w v f g = ap (λ (y : Turn). y.request) (same_turn xs e w v f g)

  -- a Fork interrupts the other callers of its process
  by_fork :
      (e : ℕ) (w : Turn) (r : Call) (child : Pid) → w.request ≡ Some (request.Fork child) → answer_at m xs e w ≡ answer.Child child →
      (w.thread ≡ r.caller.0 → ⊥) → process_at m xs e w.thread ≡ process_at m xs e r.caller.0 →
      Interrupts (state_at m xs e) w.thread w.request r.caller.0
  by_fork e w r child q y d o =
      forked_by child q (fork_is_free m xs e w child (record { asked = q; answered = y })) (sym o) (λ same. d (sym same))

  -- what interrupts a thread ends none, and makes no door invalid

  interrupt_ends_none_at :
      (e : ℕ) (w : Turn) (v u : ℕ) → slice_get xs e ≡ Some w → Interrupts (state_at m xs e) w.thread w.request v →
      EndsNow (state_at m xs e) (state_at m xs (e + 1)) u → ⊥
  interrupt_ends_none_at e w v u f q h =
      interrupt_ends_none (state_at m xs e) (invariant_before m xs k e w f) w.thread u v w.request q
      (subst (λ n. EndsNow (state_at m xs e) n u) (next m xs k e w f) h)

  interrupt_keeps_valid :
      (e : ℕ) (w : Turn) (v d : ℕ) → slice_get xs e ≡ Some w → Interrupts (state_at m xs e) w.thread w.request v →
      is_valid (state_at m xs e) d ≡ true → is_valid (state_at m xs (e + 1)) d ≡ false → ⊥
  interrupt_keeps_valid e w v d f q = still_valid (doors_interrupted_at m xs k e w v d f q)

  exact :
      (c e n : ℕ) (z : Turn) (a b : Answer) (p : Cause m xs c e n z a) (q : Cause m xs c e n z b) →
      TellsSame a b × (kind_of p ≡ kind_of q)
  exact c e n z a b (results r w fds f back room) (results s v fds' g more l) =
      ((same_bytes, ap (λ l. nat_lt r.rsize (length l)) same_bytes ∙ ap (λ (y : Call). nat_lt y.rsize (length more.bytes)) (same_record _ r s f g)), refl)
    where
      same_bytes : back.bytes ≡ more.bytes
      same_bytes = same_return w.request v.request back.bytes more.bytes back.pass more.pass (same_asked e w v back.turn more.turn) back.is_return.asked more.is_return.asked
  exact c e n z a b (results r w fds f back room) (caller_full s v g more l) = absurd (one_room c e n z w v back more room l)
  exact c e n z a b (caller_full s v g more l) (results r w fds f back room) = absurd (one_room c e n z w v back more room l)
  exact c e n z a b (results r w fds f back room) (server_full r' w' h' q' f' g' y' d') = absurd (given_not_entered _ r' w.thread w'.thread f' g' back.was_entered)
  exact c e n z a b (results r w fds f back room) (door_invalid r' f' g' v' x' d') = absurd (not_both _ r' w.thread f' g' back.was_entered)
  exact c e n z a b (results r w fds f back room) (interrupted r' w' h' f' u' q' d') = absurd (not_asked (same_asked e w w' back.turn h') back.is_return.asked q')
  exact c e n z a b (results r w fds f back room) (forked r' w' p' h' f' u' q' y' d' o') = absurd (not_forked (same_asked e w w' back.turn h') back.is_return.asked q')
  exact c e n z a b (results r w fds f back room) (server_ended r' u' f' g' h' d') = absurd (none_ends_at m xs k e w back.turn (ap is_leaving_turn back.is_return.asked) u' h')
  exact c e n z a b (caller_full r w f back room) (caller_full r' w' f' back' room') = (refl, refl)
  exact c e n z a b (caller_full r w f back room) (server_full r' w' h' q' f' g' y' d') = absurd (given_not_entered _ r' w.thread w'.thread f' g' back.was_entered)
  exact c e n z a b (caller_full r w f back room) (door_invalid r' f' g' v' x' d') = absurd (not_both _ r' w.thread f' g' back.was_entered)
  exact c e n z a b (caller_full r w f back room) (interrupted r' w' h' f' u' q' d') = absurd (not_asked (same_asked e w w' back.turn h') back.is_return.asked q')
  exact c e n z a b (caller_full r w f back room) (forked r' w' p' h' f' u' q' y' d' o') = absurd (not_forked (same_asked e w w' back.turn h') back.is_return.asked q')
  exact c e n z a b (caller_full r w f back room) (server_ended r' u' f' g' h' d') = absurd (none_ends_at m xs k e w back.turn (ap is_leaving_turn back.is_return.asked) u' h')
  exact c e n z a b (server_full r w h q f g y d) (results r' w' fds' f' back' room') = absurd (given_not_entered _ r w'.thread w.thread f g back'.was_entered)
  exact c e n z a b (server_full r w h q f g y d) (caller_full r' w' f' back' room') = absurd (given_not_entered _ r w'.thread w.thread f g back'.was_entered)
  exact c e n z a b (server_full r w h q f g y d) (server_full r' w' h' q' f' g' y' d') = (refl, refl)
  exact c e n z a b (server_full r w h q f g y d) (door_invalid r' f' g' v' x' d') = absurd (given_not_queued _ r r' w.thread f f' g g')
  exact c e n z a b (server_full r w h q f g y d) (interrupted r' w' h' f' u' q' d') = absurd (none_asked (same_asked e w w' h h') q q')
  exact c e n z a b (server_full r w h q f g y d) (forked r' w' p' h' f' u' q' y' d' o') = absurd (none_forked (same_asked e w w' h h') q q')
  exact c e n z a b (server_full r w h q f g y d) (server_ended r' u' f' g' h' d') = absurd (none_ends_at m xs k e w h (ap is_leaving_turn q) u' h')
  exact c e n z a b (door_invalid r f g v x d) (results r' w' fds' f' back' room') = absurd (not_both _ r w'.thread f g back'.was_entered)
  exact c e n z a b (door_invalid r f g v x d) (caller_full r' w' f' back' room') = absurd (not_both _ r w'.thread f g back'.was_entered)
  exact c e n z a b (door_invalid r f g v x d) (server_full r' w' h' q' f' g' y' d') = absurd (given_not_queued _ r' r w'.thread f' f g' g)
  exact c e n z a b (door_invalid r f g v x d) (door_invalid r' f' g' v' x' d') = (refl, refl)
  exact c e n z a b (door_invalid r f g v x d) (interrupted r' w' h' f' u' q' d') = absurd (interrupt_keeps_valid e w' r'.caller.0 r.door h' (asked q') v x)
  exact c e n z a b (door_invalid r f g v x d) (forked r' w' p' h' f' u' q' y' d' o') = absurd (interrupt_keeps_valid e w' r'.caller.0 r.door h' (by_fork e w' r' p' q' y' d' o') v x)
  exact c e n z a b (door_invalid r f g v x d) (server_ended r' u' f' g' h' d') = absurd (queued_not_served _ r r' u' f f' g g')
  exact c e n z a b (interrupted r w h f u q d) (results r' w' fds' f' back' room') = absurd (not_asked (same_asked e w' w back'.turn h) back'.is_return.asked q)
  exact c e n z a b (interrupted r w h f u q d) (caller_full r' w' f' back' room') = absurd (not_asked (same_asked e w' w back'.turn h) back'.is_return.asked q)
  exact c e n z a b (interrupted r w h f u q d) (server_full r' w' h' q' f' g' y' d') = absurd (none_asked (same_asked e w' w h' h) q' q)
  exact c e n z a b (interrupted r w h f u q d) (door_invalid r' f' g' v' x' d') = absurd (interrupt_keeps_valid e w r.caller.0 r'.door h (asked q) v' x')
  exact c e n z a b (interrupted r w h f u q d) (interrupted r' w' h' f' u' q' d') = (refl, refl)
  exact c e n z a b (interrupted r w h f u q d) (forked r' w' p' h' f' u' q' y' d' o') = absurd (asked_not_forked (same_asked e w w' h h') q q')
  exact c e n z a b (interrupted r w h f u q d) (server_ended r' u' f' g' h' d') = absurd (interrupt_ends_none_at e w r.caller.0 u' h (asked q) h')
  exact c e n z a b (forked r w p h f u q y d o) (results r' w' fds' f' back' room') = absurd (not_forked (same_asked e w' w back'.turn h) back'.is_return.asked q)
  exact c e n z a b (forked r w p h f u q y d o) (caller_full r' w' f' back' room') = absurd (not_forked (same_asked e w' w back'.turn h) back'.is_return.asked q)
  exact c e n z a b (forked r w p h f u q y d o) (server_full r' w' h' q' f' g' y' d') = absurd (none_forked (same_asked e w' w h' h) q' q)
  exact c e n z a b (forked r w p h f u q y d o) (door_invalid r' f' g' v' x' d') = absurd (interrupt_keeps_valid e w r.caller.0 r'.door h (by_fork e w r p q y d o) v' x')
  exact c e n z a b (forked r w p h f u q y d o) (interrupted r' w' h' f' u' q' d') = absurd (asked_not_forked (same_asked e w' w h' h) q' q)
  exact c e n z a b (forked r w p h f u q y d o) (forked r' w' p' h' f' u' q' y' d' o') = (refl, refl)
  exact c e n z a b (forked r w p h f u q y d o) (server_ended r' u' f' g' h' d') = absurd (interrupt_ends_none_at e w r.caller.0 u' h (by_fork e w r p q y d o) h')
  exact c e n z a b (server_ended r u f g h d) (results r' w' fds' f' back' room') = absurd (none_ends_at m xs k e w' back'.turn (ap is_leaving_turn back'.is_return.asked) u h)
  exact c e n z a b (server_ended r u f g h d) (caller_full r' w' f' back' room') = absurd (none_ends_at m xs k e w' back'.turn (ap is_leaving_turn back'.is_return.asked) u h)
  exact c e n z a b (server_ended r u f g h d) (server_full r' w' h' q' f' g' y' d') = absurd (none_ends_at m xs k e w' h' (ap is_leaving_turn q') u h)
  exact c e n z a b (server_ended r u f g h d) (door_invalid r' f' g' v' x' d') = absurd (queued_not_served _ r' r u f' f g' g)
  exact c e n z a b (server_ended r u f g h d) (interrupted r' w' h' f' u' q' d') = absurd (interrupt_ends_none_at e w' r'.caller.0 u h' (asked q') h)
  exact c e n z a b (server_ended r u f g h d) (forked r' w' p' h' f' u' q' y' d' o') = absurd (interrupt_ends_none_at e w' r'.caller.0 u h' (by_fork e w' r' p' q' y' d' o') h)
  exact c e n z a b (server_ended r u f g h d) (server_ended r' u' f' g' h' d') = (refl, refl)

  -- where there is a cause the call leaves

  -- where the state changes there is a turn
  within_where : (e : ℕ) → (state_at m xs (e + 1) ≡ state_at m xs e → ⊥) → e < length xs
  within_where e h = go (nat_lt e (length xs)) refl
    where
      go : (b : Bool) → nat_lt e (length xs) ≡ b → e < length xs
      go true f = grind (arith, nat_tests)
      go false f =
          absurd
          (h
          (state_at_all m xs (e + 1) (grind (arith, nat_tests))
          ∙ sym (state_at_all m xs e (grind (arith, nat_tests)))))

  return_leaves : (c e : ℕ) (w : Turn) → ReturnsCall m xs e w c → Leaves m xs c e
  return_leaves c e w h =
      record {
        within = slice_get_within xs e w h.turn;
        underway = entered_underway _ w.thread h.was_entered;
        over = returned_over _ h.bytes h.objects h.is_returned;
      }

  -- no call is with a thread that is Done
  none_with :
      (i c u : ℕ) → i ≤ length xs → state_of (state_at m xs i) u ≡ is.Done →
      (stage_of (state_at m xs i) c ≡ Some (stage.Given (tid u))) ⊎ (stage_of (state_at m xs i) c ≡ Some (stage.Entered (tid u))) → ⊥
  none_with i c u l d (inl g) = absurd (cc (sym ((k.invariant i l).consistent.coherent.waits.given c u g) ∙ d))
  none_with i c u l d (inr g) =
      absurd
      (cc
      (sym (ap item_in ((k.invariant i l).consistent.coherent.servers.outside u (ap is_outside d)))
      ∙ (k.invariant i l).consistent.coherent.invocations.entered c u g))

  server_over :
      (c e u : ℕ) (w : Turn) (r : Call) → slice_get xs e ≡ Some w → record_of (state_at m xs e) c ≡ Some r →
      (r.stage ≡ stage.Given (tid u)) ⊎ (r.stage ≡ stage.Entered (tid u)) → EndsNow (state_at m xs e) (state_at m xs (e + 1)) u →
      underway_in (record_of (state_at m xs (e + 1)) c) ≡ false
  server_over c e u w r h f g x = go (stays_or_changes m xs k c e w h)
    where
      by : (o p : Option Call) → ChangeAt m xs e w o p → o ≡ Some r → underway_in p ≡ false
      by o p (made b rsize fd bytes pass s v d y q a) i = absurd (cc i)
      by o p (given s v d) i = absurd (queued_not_served _ s r u refl i d g)
      by o p (entered s q d y v a) i = absurd (none_ends_at m xs k e w h (ap is_leaving_turn q) u x)
      by o p (returned s bytes pass v d y q a) i = refl
      by o p (has_ended s v d) i = refl
      by o p (broken_off s v d y q) i = refl
      by o p (left s v d) i = ap is_underway (gone_stage s.stage s v)
      by o p (results_collected s bytes objects v d y q a b) i = refl
      by o p (nothing_collected s bytes objects v d y q a b) i = refl
      by o p (error_collected s y v d q a b) i = refl

      go :
          (record_of (state_at m xs (e + 1)) c ≡ record_of (state_at m xs e) c)
          ⊎ ChangeAt m xs e w (record_of (state_at m xs e) c) (record_of (state_at m xs (e + 1)) c) →
          underway_in (record_of (state_at m xs (e + 1)) c) ≡ false
      go (inl same) =
          absurd (none_with (e + 1) c u (omega (arith, slice_get_within xs e w h)) x.after (still g))
        where
          still :
              (r.stage ≡ stage.Given (tid u)) ⊎ (r.stage ≡ stage.Entered (tid u)) →
              (stage_of (state_at m xs (e + 1)) c ≡ Some (stage.Given (tid u))) ⊎ (stage_of (state_at m xs (e + 1)) c ≡ Some (stage.Entered (tid u)))
          still (inl i) = inl (ap stage_in (same ∙ f) ∙ ap (λ (s : CallStage). Some s) i)
          still (inr i) = inr (ap stage_in (same ∙ f) ∙ ap (λ (s : CallStage). Some s) i)
      go (inr v) = by _ _ v f

  full_leaves :
      (c e : ℕ) (r : Call) (w : Turn) → slice_get xs e ≡ Some w → record_of (state_at m xs e) c ≡ Some r → r.stage ≡ stage.Given (tid w.thread) →
      FailsToEnter m xs e w c → Leaves m xs c e
  full_leaves c e r w h f g x =
      record {
        within = slice_get_within xs e w h;
        underway = ap underway_in f ∙ ap is_underway g;
        over = ended_over _ EMFILE x.stage_after;
      }

  interrupt_leaves :
      (c e : ℕ) (r : Call) (w : Turn) → slice_get xs e ≡ Some w → record_of (state_at m xs e) c ≡ Some r → is_underway r.stage ≡ true →
      Interrupts (state_at m xs e) w.thread w.request r.caller.0 → Leaves m xs c e
  interrupt_leaves c e r w h f u q =
      record {
        within = slice_get_within xs e w h;
        underway = ap underway_in f ∙ u;
        over =
            ap (λ n. underway_in (record_of n c)) (next m xs k e w h)
            ∙ step_interrupts (state_at m xs e) w.thread c w.request r f u
            (caller_waits m xs k e c r (omega (arith, slice_get_within xs e w h)) f (underway_live r.stage u)) q;
      }

  at_once : (c e n : ℕ) (z : Turn) (a : Answer) → Cause m xs c e n z a → Leaves m xs c e
  at_once c e n z a (results r w fds f back room) = return_leaves c e w back
  at_once c e n z a (caller_full r w f back room) = return_leaves c e w back
  at_once c e n z a (server_full r w h q f g y d) = full_leaves c e r w h f g (accept_fails m xs k e c w h y)
  at_once c e n z a (door_invalid r f g v x d) = by (turn_at xs e within)
    where
      within : e < length xs
      within = within_where e (λ same. still_valid (ap (λ n. is_valid n r.door) same) v x)

      by : TurnAt xs e → Leaves m xs c e
      by t =
          record {
            within = within;
            underway = ap underway_in f ∙ ap is_underway g;
            over =
                ap (λ n. underway_in (record_of n c)) (next m xs k e t.turn t.found)
                ∙ step_loses_over (state_at m xs e) t.turn.thread t.turn.request c r f g
                (step_loses (state_at m xs e) t.turn.thread t.turn.request r.door v
                (ap (λ n. is_valid n r.door) (sym (next m xs k e t.turn t.found)) ∙ x));
          }
  at_once c e n z a (interrupted r w h f u q d) = interrupt_leaves c e r w h f u (asked q)
  at_once c e n z a (forked r w p h f u q y d o) = interrupt_leaves c e r w h f u (by_fork e w r p q y d o)
  at_once c e n z a (server_ended r u f g h d) = by (turn_at xs e within)
    where
      within : e < length xs
      within = within_where e (λ same. h.before (ap (λ n. state_of n u) (sym same) ∙ h.after))

      with_it : (r.stage ≡ stage.Given (tid u)) ⊎ (r.stage ≡ stage.Entered (tid u)) → is_underway r.stage ≡ true
      with_it (inl i) = ap is_underway i
      with_it (inr i) = ap is_underway i

      by : TurnAt xs e → Leaves m xs c e
      by t =
          record {
            within = within;
            underway = ap underway_in f ∙ with_it g;
            over = server_over c e u t.turn r t.found f g h;
          }

  -- what is collected

  abbrev HandsBackAt : ℕ → Turn → Call → List ℕ → List Obj → Type 0
  HandsBackAt i z r bytes objects =
      ((has_own_room (state_at m xs i) z.thread objects ≡ true)
      × (answer_at m xs i z ≡ answer.Results bytes (new_descriptors (table_at m xs i z) objects) (nat_lt r.rsize (length bytes))))
      ⊎ ((has_own_room (state_at m xs i) z.thread objects ≡ false) × (answer_at m xs i z ≡ answer.Failure EMFILE))

  -- with what it answers where there is room, and where there is none
  caused_by_return :
      (i c : ℕ) (z : Turn) (r : Call) (bytes : List ℕ) (objects : List Obj) (o : Option Call) → o ≡ Some r →
      r.stage ≡ stage.Returned bytes objects → HandsBackAt i z r bytes objects → ReturnedAt m xs c i o → IsCaused m xs c i z
  unfolding returns_call
  caused_by_return i c z r bytes objects o h s f b =
      record {
        at = b.at;
        earlier = b.earlier;
        leaves =
            record {
              within = slice_get_within xs b.at b.turn b.found;
              underway = ap underway_in (b.was ∙ b.row.before) ∙ ap is_underway b.row.was_entered;
              over = ap underway_in (b.there ∙ b.row.after);
            };
        cause = cause f;
      }
    where
      back : ReturnsCall m xs b.at b.turn c
      back = returns_call m xs k b.at c b.turn b.old o b.found b.was b.there b.row

      passed : List Obj
      passed = objects_passed (table_at m xs b.at b.turn) b.row.pass

      first : GoesOn b.row.call r (stage.Returned b.row.bytes passed)
      first = goes_on b.row.call r _ o h b.row.after

      same : objects ≡ passed
      same = same_objects bytes b.row.bytes objects passed r.stage s first.stage

      room : (d : Bool) → has_own_room (state_at m xs i) z.thread objects ≡ d → has_own_room (state_at m xs i) z.thread back.objects ≡ d
      room d e = ap (λ (os : List Obj). has_own_room (state_at m xs i) z.thread os) (sym same) ∙ e

      cause : HandsBackAt i z r bytes objects → Cause m xs c b.at i z (answer_at m xs i z)
      cause (inl g) =
          subst (Cause m xs c b.at i z)
          (same_told b.row.bytes bytes (new_descriptors (table_at m xs i z) objects) b.row.call.rsize r.rsize
          (sym (same_results bytes b.row.bytes objects passed r.stage s first.stage))
          (sym first.rsize) ∙ sym g.1)
          (results b.row.call b.turn (new_descriptors (table_at m xs i z) objects) (b.was ∙ b.row.before) back (room_is (state_at m xs i) _ back.objects (room true g.0)))
      cause (inr g) =
          subst (Cause m xs c b.at i z) (sym g.1) (caller_full b.row.call b.turn (b.was ∙ b.row.before) back (too_few_is (state_at m xs i) _ back.objects (room false g.0)))

  cause_of_interrupt :
      (c e n : ℕ) (w z : Turn) (r : Call) → slice_get xs e ≡ Some w → record_of (state_at m xs e) c ≡ Some r → is_underway r.stage ≡ true →
      (state_of (state_at m xs (e + 1)) r.caller.0 ≡ is.Done → ⊥) → Interrupts (state_at m xs e) w.thread w.request r.caller.0 →
      Cause m xs c e n z (answer.Failure EINTR)
  cause_of_interrupt c e n w z r h f u d (asked q) = interrupted r w h f u q d
  cause_of_interrupt c e n w z r h f u d (forked_by child q free own other) =
      forked r w child h f u q (forks_there m xs e w child q free).answered (λ same. other (sym same)) (sym own)

  cause_of_end :
      (c e n : ℕ) (w z : Turn) (r : Call) (x : Errno) → slice_get xs e ≡ Some w → record_of (state_at m xs e) c ≡ Some r →
      Breaks (state_at m xs e) w.thread w.request (answer_at m xs e w) (state_at m xs (e + 1)) r x →
      Cause m xs c e n z (answer.Failure x)
  cause_of_end c e n w z r x h f (by_cause y (invalid q v b d)) = door_invalid r f q v b d
  cause_of_end c e n w z r x h f (by_cause y (full q v g d a)) =
      server_full r w h q f g (a ∙ ap (λ (j : ℕ). answer.EnterFailed j) (number_of (state_at m xs e) c r f)) (too_few_is (state_at m xs e) _ r.objects d)
  cause_of_end c e n w z r x h f (by_cause y (by_caller q v d)) =
      cause_of_interrupt c e n w z r h f (waiting_underway r.stage v) d q
  cause_of_end c e n w z r x h f (by_cause y (by_server u s v d)) = server_ended r u f s v d
  cause_of_end c e n w z r x h f (by_interrupt u q s d) = cause_of_interrupt c e n w z r h f (ap is_underway s) d q

  caused_by_end :
      (i c : ℕ) (z : Turn) (r : Call) (x : Errno) (o : Option Call) → o ≡ Some r → r.stage ≡ stage.Ended x →
      answer_at m xs i z ≡ answer.Failure x → EndedAt m xs c i o → IsCaused m xs c i z
  caused_by_end i c z r x o h s f b =
      record {
        at = b.at;
        earlier = b.earlier;
        leaves =
            record {
              within = slice_get_within xs b.at b.turn b.found;
              underway = ap underway_in (b.was ∙ b.row.before) ∙ ends_underway _ _ _ _ _ b.row.call b.row.error b.row.breaks;
              over = ap underway_in (b.there ∙ h) ∙ ap is_underway s;
            };
        cause =
            subst (Cause m xs c b.at i z)
            (ap (λ (y : Errno). answer.Failure y) (same_error b.row.error x r.stage (ap (λ (y : Call). y.stage) same ∙ b.row.goes_on.stage) s) ∙ sym f)
            (cause_of_end c b.at i b.turn z b.row.call b.row.error b.found (b.was ∙ b.row.before) b.row.breaks);
      }
    where
      same : r ≡ b.row.ended
      same = same_record o r b.row.ended h b.row.after

  caused :
      (i c : ℕ) (z : Turn) (r : Call) (a : Answer) → i ≤ length xs → record_of (state_at m xs i) c ≡ Some r →
      answer_at m xs i z ≡ a → HandsOver (state_at m xs i) z.thread r a → IsCaused m xs c i z
  caused i c z r a l h f (hands_results bytes objects s room) =
      caused_by_return i c z r bytes objects _ h s (inl (room, f)) (returned_before m xs k i c r bytes objects l h s)
  caused i c z r a l h f (hands_nothing bytes objects s room) =
      caused_by_return i c z r bytes objects _ h s (inr (room, f)) (returned_before m xs k i c r bytes objects l h s)
  caused i c z r a l h f (hands_error x s) =
      caused_by_end i c z r x _ h s f (ended m xs c i _ (story m xs k c i l) (ap is_ended_in h ∙ ap is_ended_call s))

  told : (i c : ℕ) (z : Turn) → slice_get xs i ≡ Some z → IsCollect m xs i z c → IsCaused m xs c i z
  told i c z e w = go (answered_by m xs k i c z e (collects m xs k i c z e w))
    where
      go :
          AnsweredRowAt m xs i z (record_of (state_at m xs i) c) (record_of (state_at m xs (i + 1)) c) →
          IsCaused m xs c i z
      go a = caused i c z a.call a.told (omega (arith, slice_get_within xs i z e)) a.before a.answers a.hands_over

  gone :
      (i c : ℕ) (r : Call) → i ≤ length xs → record_of (state_at m xs i) c ≡ Some r → state_of (state_at m xs i) r.caller.0 ≡ is.Done →
      is_live r.stage ≡ false
  gone i c r l e d = not_live _ r (state_of (state_at m xs i) r.caller.0) c e (λ h. subst (λ o. state_of (state_at m xs i) (caller_number o) ≡ is.Calling c) e ((k.invariant i l).consistent.coherent.waits.calling c h)) d

  -- what its caller leaves is Gone
  gone_now :
      (i c : ℕ) (r : Call) (x : Turn) → slice_get xs i ≡ Some x → record_of (state_at m xs i) c ≡ Some r → is_live r.stage ≡ true →
      state_of (state_at m xs (i + 1)) r.caller.0 ≡ is.Done → stage_of (state_at m xs (i + 1)) c ≡ Some stage.Gone
  gone_now i c r x e f l d = go (stays_or_changes m xs k c i x e)
    where
      ends : EndsNow (state_at m xs i) (state_at m xs (i + 1)) r.caller.0
      ends =
          record {
            before = λ h. not_calling _ c (caller_waits m xs k i c r (omega (arith, slice_get_within xs i x e)) f l) h;
            after = d;
          }

      -- its caller does not wait after it
      not_live_after : (s : Call) → record_of (state_at m xs (i + 1)) c ≡ Some s → s.caller ≡ r.caller → is_live s.stage ≡ true → ⊥
      not_live_after s g h b =
          not_calling _ c
          (ap (λ (y : Tid). state_of (state_at m xs (i + 1)) y.0) (sym h)
          ∙ caller_waits m xs k (i + 1) c s (omega (arith, slice_get_within xs i x e)) g b)
          d

      by :
          (o p : Option Call) → ChangeAt m xs i x o p → o ≡ Some r → record_of (state_at m xs (i + 1)) c ≡ p →
          stage_in p ≡ Some stage.Gone
      by o p (left s v h) g a = ap (λ (y : CallStage). Some y) (gone_stage s.stage s v)
      by o p (made b rsize fd bytes pass s v h w y q) g a = absurd (cc g)
      by o p (given s u v) g a = absurd (not_live_after _ a (ap (λ (y : Call). y.caller) (some_call s r g)) refl)
      by o p (entered s v h w y q) g a = absurd (not_live_after _ a (ap (λ (y : Call). y.caller) (some_call s r g)) refl)
      by o p (returned s bytes pass v h w y q) g a = absurd (not_live_after _ a (ap (λ (y : Call). y.caller) (some_call s r g)) refl)
      by o p (has_ended s v h) g a = absurd (not_live_after _ a (ap (λ (y : Call). y.caller) (some_call s r g)) refl)
      by o p (broken_off s u v h w) g a = absurd (not_live_after _ a (ap (λ (y : Call). y.caller) (some_call s r g)) refl)
      by o p (results_collected s bytes objects v h w y q b) g a = absurd (none_ends_at m xs k i x e (ap is_leaving_turn v) r.caller.0 ends)
      by o p (nothing_collected s bytes objects v h w y q b) g a = absurd (none_ends_at m xs k i x e (ap is_leaving_turn v) r.caller.0 ends)
      by o p (error_collected s y v h w q b) g a = absurd (none_ends_at m xs k i x e (ap is_leaving_turn v) r.caller.0 ends)

      go :
          (record_of (state_at m xs (i + 1)) c ≡ record_of (state_at m xs i) c)
          ⊎ ChangeAt m xs i x (record_of (state_at m xs i) c) (record_of (state_at m xs (i + 1)) c) →
          stage_of (state_at m xs (i + 1)) c ≡ Some stage.Gone
      go (inl same) = absurd (not_live_after r (same ∙ f) refl l)
      go (inr w) = by _ _ w f refl

  gone_for_ever :
      (i j c : ℕ) (r : Call) → i < j → j ≤ length xs → record_of (state_at m xs i) c ≡ Some r → is_live r.stage ≡ true →
      state_of (state_at m xs (i + 1)) r.caller.0 ≡ is.Done → stage_of (state_at m xs j) c ≡ Some stage.Gone
  gone_for_ever i j c r l b f v d = go (turn_at xs i (omega (arith, l, b)))
    where
      go : TurnAt xs i → stage_of (state_at m xs j) c ≡ Some stage.Gone
      go t =
          gone_by_rank _
          (omega (
            arith,
            gone_rank _ (gone_now i c r t.turn t.found f v d),
            never_falls (λ n. rank_in (record_of (state_at m xs n) c)) (length xs) (never_less m xs k c) (i + 1) j (omega (arith, l)) b,
          ))

  -- a call is Gone only where its caller is Done

  gone_by :
      (i c : ℕ) (x : Turn) (o p : Option Call) (r : Call) → slice_get xs i ≡ Some x → ChangeAt m xs i x o p → p ≡ Some r →
      r.stage ≡ stage.Gone → state_of (state_at m xs (i + 1)) r.caller.0 ≡ is.Done
  gone_by i c x o p r e (left s v h) f g =
      ap (λ (n : ℕ). state_of (state_at m xs (i + 1)) n) (ap (λ (y : Call). y.caller.0) (sym (some_call _ r f)) ∙ ap (λ (y : Tid). y.0) (gone_caller s.stage s)) ∙ h.after
  gone_by i c x o p r e (made b rsize fd bytes pass s v h w y q) f g =
      absurd (not_gone_waiting s q (ap (λ (y : Call). y.stage) (some_call _ r f) ∙ g))
  gone_by i c x o p r e (given s u v) f g = absurd (cc (ap (λ (y : Call). y.stage) (some_call _ r f) ∙ g))
  gone_by i c x o p r e (entered s v h w y q) f g = absurd (cc (ap (λ (y : Call). y.stage) (some_call _ r f) ∙ g))
  gone_by i c x o p r e (returned s bytes pass v h w y q) f g = absurd (cc (ap (λ (y : Call). y.stage) (some_call _ r f) ∙ g))
  gone_by i c x o p r e (has_ended s v h) f g = absurd (cc (ap (λ (y : Call). y.stage) (some_call _ r f) ∙ g))
  gone_by i c x o p r e (broken_off s u v h w) f g = absurd (cc (ap (λ (y : Call). y.stage) (some_call _ r f) ∙ g))
  gone_by i c x o p r e (results_collected s bytes objects v h w y q b) f g = absurd (cc (ap (λ (y : Call). y.stage) (some_call _ r f) ∙ g))
  gone_by i c x o p r e (nothing_collected s bytes objects v h w y q b) f g = absurd (cc (ap (λ (y : Call). y.stage) (some_call _ r f) ∙ g))
  gone_by i c x o p r e (error_collected s y v h w q b) f g = absurd (cc (ap (λ (y : Call). y.stage) (some_call _ r f) ∙ g))

  gone_only :
      (i c : ℕ) (r : Call) → i ≤ length xs → record_of (state_at m xs i) c ≡ Some r → r.stage ≡ stage.Gone →
      state_of (state_at m xs i) r.caller.0 ≡ is.Done
  gone_only zero c r l = λ e g. absurd (cc (sym (k.no_call c) ∙ e))
  gone_only (suc i) c r l =
      subst
      (λ j. record_of (state_at m xs j) c ≡ Some r → r.stage ≡ stage.Gone → state_of (state_at m xs j) r.caller.0 ≡ is.Done)
      (add-one i)
      (go (turn_at xs i (omega (arith, l))) (λ f g. gone_only i c r (omega (arith, l)) f g))
    where
      by :
          (x : Turn) → slice_get xs i ≡ Some x →
          (record_of (state_at m xs (i + 1)) c ≡ record_of (state_at m xs i) c)
          ⊎ ChangeAt m xs i x (record_of (state_at m xs i) c) (record_of (state_at m xs (i + 1)) c) →
          (record_of (state_at m xs i) c ≡ Some r → r.stage ≡ stage.Gone → state_of (state_at m xs i) r.caller.0 ≡ is.Done) →
          record_of (state_at m xs (i + 1)) c ≡ Some r → r.stage ≡ stage.Gone → state_of (state_at m xs (i + 1)) r.caller.0 ≡ is.Done
      by x e (inl same) ih f g = (keeps_at m xs k i x e).done r.caller.0 (ih (sym same ∙ f) g)
      by x e (inr w) ih f g = gone_by i c x _ _ r e w f g

      go :
          TurnAt xs i →
          (record_of (state_at m xs i) c ≡ Some r → r.stage ≡ stage.Gone → state_of (state_at m xs i) r.caller.0 ≡ is.Done) →
          record_of (state_at m xs (i + 1)) c ≡ Some r → r.stage ≡ stage.Gone → state_of (state_at m xs (i + 1)) r.caller.0 ≡ is.Done
      go t ih f g = by t.turn t.found (stays_or_changes m xs k c i t.turn t.found) ih f g

  gone_unanswered :
      (i c : ℕ) (x : Turn) → slice_get xs i ≡ Some x → IsCollect m xs i x c → stage_of (state_at m xs i) c ≡ Some stage.Gone → ⊥
  gone_unanswered i c x e w g = not_gone _ ((invariant_before m xs k i x e).consistent.coherent.waits.live c x.thread w.calling) g

  pub cause_holds : HasCause m xs
  cause_holds =
      record { refused = refused; not_refused = not_refused; told = told; exact = exact; at_once = at_once; gone_only = gone_only; gone = gone; gone_for_ever = gone_for_ever; gone_unanswered = gone_unanswered; left_once = left_once }
