-- What one event does to a call's record, as one row: the table of arrows together with the giving that may follow an act. A
-- record that stays has no row. Each row raises the rank of the record.
use Rattle.std.specs.Prelude.{ℕ, ◌≡◌, ◌<◌, ◌≤◌, ◌⊎◌, List, Option, Bool, true, false, Some, None, length, nat_lt}
use Rattle.std.proofs.Common.{refl, sym, ap, subst, inl, inr}
use native.Mathlib.Omega.{arith}
use Rattle.spec_kernel.specs.Types.{Answer, Call, CallStage, Errno, Fd, Obj, Pass, Request}
use Rattle.dk_base.specs.declared.error.Errno.TheVariants.{EINTR, EMFILE}
use Rattle.dk_base.specs.declared.object.Obj.TheVariants as obj
use Rattle.dk_base.specs.declared.object.Item.TheVariants as item
use Rattle.dk_base.specs.declared.request.Request.TheVariants as request
use Rattle.dk_base.specs.declared.answer.Answer.TheVariants as answer
use Rattle.spec_records.specs.declared.record.ThreadState.TheVariants as is
use Rattle.spec_records.specs.declared.record.CallStage.TheVariants as stage
use Rattle.spec_records.specs.Words.{abandoned_at, at_stage, cookie_of, entry_of, first_refusal, gone_call_at, is_live, is_queued, new_descriptors, objects_passed, tid, without_arguments_at}
use Rattle.spec_kernel.specs.Words.{State, call_tests, door_of, new_call, now, object_at, process_of, return_answer, return_tests, state_of}
use Rattle.law_states.specs.Core.{has_arguments, underway_in}
use Rattle.law_states.specs.Records.{stage_in}
use Rattle.law_states.specs.Arrows.{Arrow, ByAct, ByGiving, EndsBy, EndsNow, Interrupts, has_own_room, own_table}
use Rattle.law_states.specs.Arrows.ByAct.{stays, makes, enters, returns, ends, breaks_off, leaves, collects_results, collects_nothing, collects_error}
use Rattle.law_states.specs.Arrows.ByGiving.{stays as keeps, gives}
use Rattle.law_states.specs.Arrows.EndsBy.{door_invalid, server_full, interrupted, server_ended}
use Rattle.law_places.specs.Places.{is_answered_in, is_entered_in, is_returned_in}

-- by an event of thread t, with request q or the end of its wait and answer a, from state m to state n
pub data Change (m : State) (t : ℕ) (q : Option Request) (a : Answer) (n : State) : Option Call → Option Call → Type 0 where
  made :
      (d rsize : ℕ) (fd : Fd) (bytes : List ℕ) (pass : List Pass) (s : CallStage) → q ≡ Some (request.Call fd bytes pass rsize) →
      object_at m (process_of m t) fd ≡ Some (obj.Door d) → first_refusal (call_tests m (process_of m t) fd bytes pass) ≡ None →
      a ≡ answer.WaitCall (new_call m t d bytes (objects_passed (own_table m t) pass) rsize).number → has_arguments s ≡ true →
      Change m t q a n None (Some (at_stage s (new_call m t d bytes (objects_passed (own_table m t) pass) rsize)))
  given : (r : Call) (u : ℕ) → r.stage ≡ stage.Queued → Change m t q a n (Some r) (Some (at_stage (stage.Given (tid u)) r))
  entered :
      (r : Call) → q ≡ None → state_of m t ≡ is.Given (item.Call r.number) → r.stage ≡ stage.Given (tid t) →
      has_own_room m t r.objects ≡ true →
      a ≡ answer.Entered r.number (entry_of (door_of m r.door)) (cookie_of (door_of m r.door)) r.bytes (new_descriptors (own_table m t) r.objects) →
      Change m t q a n (Some r) (Some (without_arguments_at (stage.Entered (tid t)) r))
  returned :
      (r : Call) (bytes : List ℕ) (pass : List Pass) → q ≡ Some (request.Return bytes pass) →
      first_refusal (return_tests m t (process_of m t) bytes pass) ≡ None → r.stage ≡ stage.Entered (tid t) → r.abandoned ≡ false →
      a ≡ return_answer m t →
      Change m t q a n (Some r) (Some (without_arguments_at (stage.Returned bytes (objects_passed (own_table m t) pass)) r))
  ended :
      (r : Call) (e : Errno) → EndsBy m t q a n r e → Change m t q a n (Some r) (Some (without_arguments_at (stage.Ended e) r))
  broken_off :
      (r : Call) (u : ℕ) → Interrupts m t q r.caller.0 → r.stage ≡ stage.Entered (tid u) →
      (state_of n r.caller.0 ≡ is.Done → ⊥) → Change m t q a n (Some r) (Some (abandoned_at (stage.Ended EINTR) r))
  left :
      (r : Call) → is_live r.stage ≡ true → EndsNow m n r.caller.0 → Change m t q a n (Some r) (Some (gone_call_at r.stage r))
  results_collected :
      (r : Call) (bytes : List ℕ) (objects : List Obj) → q ≡ None → state_of m t ≡ is.Calling r.number → r.caller.0 ≡ t →
      r.stage ≡ stage.Returned bytes objects → has_own_room m t objects ≡ true →
      a ≡ answer.Results bytes (new_descriptors (own_table m t) objects) (nat_lt r.rsize (length bytes)) →
      Change m t q a n (Some r) (Some (without_arguments_at (stage.Answered (now m)) r))
  nothing_collected :
      (r : Call) (bytes : List ℕ) (objects : List Obj) → q ≡ None → state_of m t ≡ is.Calling r.number → r.caller.0 ≡ t →
      r.stage ≡ stage.Returned bytes objects → has_own_room m t objects ≡ false → a ≡ answer.Failure EMFILE →
      Change m t q a n (Some r) (Some (without_arguments_at (stage.Answered (now m)) r))
  error_collected :
      (r : Call) (e : Errno) → q ≡ None → state_of m t ≡ is.Calling r.number → r.caller.0 ≡ t → r.stage ≡ stage.Ended e →
      a ≡ answer.Failure e → Change m t q a n (Some r) (Some (without_arguments_at (stage.Answered (now m)) r))

-- giving changes only a record that is Queued

abbrev is_queued_in : Option Call → Bool
is_queued_in None = false
is_queued_in (Some r) = is_queued r.stage

-- a live call that its caller leaves is Gone
pub gone_stage : (s : CallStage) (r : Call) → is_live s ≡ true → (gone_call_at s r).stage ≡ stage.Gone
gone_stage stage.Queued r e = refl
gone_stage (stage.Given u) r e = refl
gone_stage (stage.Entered u) r e = refl
gone_stage (stage.Returned bytes objects) r e = refl
gone_stage (stage.Ended x) r e = refl
gone_stage (stage.Answered k) r e = absurd (cc e)
gone_stage stage.Gone r e = absurd (cc e)

same_given : (o p : Option Call) → ByGiving o p → is_queued_in o ≡ false → p ≡ o
same_given o p keeps h = refl
same_given o p (gives r u e) h = absurd (grind arith)

module _ (m : State) (t : ℕ) (q : Option Request) (a : Answer) (n : State) where
  only_given : (o p : Option Call) → ByGiving o p → (p ≡ o) ⊎ Change m t q a n o p
  only_given o p keeps = inl refl
  only_given o p (gives r u e) = inr (given r u e)

  -- what comes to no Queued record stays as it is
  stays_then : (o b p : Option Call) → Change m t q a n o b → ByGiving b p → is_queued_in b ≡ false → (p ≡ o) ⊎ Change m t q a n o p
  stays_then o b p c g h = inr (subst (λ z. Change m t q a n o z) (sym (same_given b p g h)) c)

  made_then :
      (d rsize : ℕ) (fd : Fd) (bytes : List ℕ) (pass : List Pass) (b p : Option Call) → q ≡ Some (request.Call fd bytes pass rsize) →
      object_at m (process_of m t) fd ≡ Some (obj.Door d) → first_refusal (call_tests m (process_of m t) fd bytes pass) ≡ None →
      a ≡ answer.WaitCall (new_call m t d bytes (objects_passed (own_table m t) pass) rsize).number →
      b ≡ Some (new_call m t d bytes (objects_passed (own_table m t) pass) rsize) → ByGiving b p →
      Change m t q a n None p
  made_then d rsize fd bytes pass b p e f g k l keeps =
      subst (λ z. Change m t q a n None z) (sym l) (made d rsize fd bytes pass stage.Queued e f g k refl)
  made_then d rsize fd bytes pass b p e f g k l (gives r u h) =
      let same : new_call m t d bytes (objects_passed (own_table m t) pass) rsize ≡ r = cc in
      subst (λ (z : Call). Change m t q a n None (Some (at_stage (stage.Given (tid u)) z))) same
      (made d rsize fd bytes pass (stage.Given (tid u)) e f g k refl)

  act_then : (o b p : Option Call) → ByAct m t q a n o b → ByGiving b p → (p ≡ o) ⊎ Change m t q a n o p
  act_then o b p stays g = only_given o p g
  act_then o b p (makes d rsize fd bytes pass e f v k) g = inr (made_then d rsize fd bytes pass b p e f v k refl g)
  act_then o b p (enters r e f k v w) g = stays_then o b p (entered r e f k v w) g refl
  act_then o b p (returns r bytes pass e x f k v) g = stays_then o b p (returned r bytes pass e x f k v) g refl
  act_then o b p (ends r e h) g = stays_then o b p (ended r e h) g refl
  act_then o b p (breaks_off r u e f d) g = stays_then o b p (broken_off r u e f d) g refl
  act_then o b p (leaves r l h) g = stays_then o b p (left r l h) g (ap is_queued (gone_stage r.stage r l))
  act_then o b p (collects_results r bytes objects e f k v w z) g = stays_then o b p (results_collected r bytes objects e f k v w z) g refl
  act_then o b p (collects_nothing r bytes objects e f k v w z) g = stays_then o b p (nothing_collected r bytes objects e f k v w z) g refl
  act_then o b p (collects_error r x e f k v w) g = stays_then o b p (error_collected r x e f k v w) g refl

  pub change : (o p : Option Call) → Arrow m t q a n o p → (p ≡ o) ⊎ Change m t q a n o p
  change o p w = act_then o w.between p w.act w.giving

-- ranks

abbrev pub rank_of : CallStage → ℕ
rank_of stage.Queued = 1
rank_of (stage.Given u) = 2
rank_of (stage.Entered u) = 3
rank_of (stage.Returned bytes objects) = 4
rank_of (stage.Ended e) = 4
rank_of (stage.Answered k) = 5
rank_of stage.Gone = 6

abbrev pub rank_in : Option Call → ℕ
rank_in None = 0
rank_in (Some r) = rank_of r.stage

pub new_rank : (s : CallStage) → has_arguments s ≡ true → (1 ≤ rank_of s) × (rank_of s ≤ 2)
new_rank s e = grind arith

ends_rank :
    (m : State) (t : ℕ) (q : Option Request) (a : Answer) (n : State) (r : Call) (e : Errno) → EndsBy m t q a n r e → rank_of r.stage < 4
ends_rank m t q a n r e (door_invalid f v w d) = grind arith
ends_rank m t q a n r e (server_full f g k v w) = grind arith
ends_rank m t q a n r e (interrupted f g d) = grind arith
ends_rank m t q a n r e (server_ended u (inl f) g d) = grind arith
ends_rank m t q a n r e (server_ended u (inr f) g d) = grind arith

live_rank : (s : CallStage) → is_live s ≡ true → rank_of s < 6
live_rank s e = grind arith

pub change_rises :
    (m : State) (t : ℕ) (q : Option Request) (a : Answer) (n : State) (o p : Option Call) → Change m t q a n o p →
    rank_in o < rank_in p
change_rises m t q a n o p (made d rsize fd bytes pass s e f v k w) = omega (arith, new_rank s w)
change_rises m t q a n o p (given r u e) = grind arith
change_rises m t q a n o p (entered r e f g k v) = grind arith
change_rises m t q a n o p (returned r bytes pass e x f g k) = grind arith
change_rises m t q a n o p (ended r e h) = ends_rank m t q a n r e h
change_rises m t q a n o p (broken_off r u e f d) = grind arith
change_rises m t q a n o p (left r l h) = omega (arith, live_rank r.stage l, ap rank_of (gone_stage r.stage r l))
change_rises m t q a n o p (results_collected r bytes objects e f g k l z) = grind arith
change_rises m t q a n o p (nothing_collected r bytes objects e f g k l z) = grind arith
change_rises m t q a n o p (error_collected r x e f g k l) = grind arith

-- what tests say of ranks

pub entered_rank : (o : Option Call) → is_entered_in o ≡ true → rank_in o ≡ 3
entered_rank o e = grind arith

pub returned_rank : (o : Option Call) → is_returned_in o ≡ true → rank_in o ≡ 4
returned_rank o e = grind arith

pub answered_rank : (o : Option Call) → is_answered_in o ≡ true → rank_in o ≡ 5
answered_rank o e = grind arith

pub gone_rank : (o : Option Call) → stage_in o ≡ Some stage.Gone → rank_in o ≡ 6
gone_rank o e = grind arith

pub gone_by_rank : (o : Option Call) → 6 ≤ rank_in o → stage_in o ≡ Some stage.Gone
gone_by_rank None l = absurd (omega (arith, l))
gone_by_rank (Some r) l = ap (λ (s : CallStage). Some s) (last r.stage l)
  where
    last : (s : CallStage) → 6 ≤ rank_of s → s ≡ stage.Gone
    last stage.Gone l = refl
    last s l = absurd (grind (arith, l))

pub underway_rank : (o : Option Call) → underway_in o ≡ true → rank_in o ≤ 3
underway_rank o e = grind arith

pub over_rank : (o : Option Call) → underway_in o ≡ false → 1 ≤ rank_in o → 4 ≤ rank_in o
over_rank o e f = grind arith
