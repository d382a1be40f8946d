-- Lists of calls of which only the live ones are kept: what a look-up finds there, and what a change gives. A test that only
-- live calls meet sees no difference.
use Rattle.std.proofs.Common.{◌≡◌, ℕ, Bool, false, List, [], ◌∷◌, ◌++◌, filter, ◌||◌, flat_map, if◌then◌else◌, true, true≢false, refl, sym, ap, ◌∙◌, ◌⊎◌, inl, inr, arith}
use Rattle.spec_records.proofs.KeptLists.{append-kept, change_first-kept, kept-kept, map-kept}
use Rattle.spec_kernel.specs.Types.{Call, CallStage, Door, Errno, Obj, Pool}
use Rattle.dk_base.specs.declared.error.Errno.TheVariants.{EBADF, EINTR, EMFILE}
use Rattle.spec_records.specs.declared.record.CallStage.TheVariants as stage
use Rattle.spec_records.specs.Words.{CallTree, Leaving, abandoned_at, at_stage, broken_call_at, change_first, collect_call, enter_call, ended_where, fail_call, give_call, gone_call_at, is_client_call_of, is_entered_by, is_given_as, is_given_to, is_live, is_live_call, is_queued, is_queued_as, is_queued_call, is_queued_in, is_to_collect_as, is_served_by, is_to_collect, left_call, left_calls, live_calls, open_call, return_call, tid, without_arguments_at}
use Rattle.spec_kernel.specs.References.{objects_in_call, objects_in_transit}

-- tests that only live calls meet

abbrev pub IsOfLiveStages : (CallStage → Bool) → Type 0
IsOfLiveStages test = (s : CallStage) → is_live s ≡ false → test s ≡ false

abbrev pub IsOfLiveCalls : (Call → Bool) → Type 0
IsOfLiveCalls test = (r : Call) → is_live_call r ≡ false → test r ≡ false

of_live_stages :
    (test : CallStage → Bool) → test stage.Gone ≡ false → ((k : ℕ) → test (stage.Answered k) ≡ false) → IsOfLiveStages test
of_live_stages test gone answered stage.Gone e = gone
of_live_stages test gone answered (stage.Answered k) e = answered k
of_live_stages test gone answered _ e = absurd (true≢false e)

pub queued_is_live : IsOfLiveStages is_queued
queued_is_live = of_live_stages is_queued refl (λ k. refl)

pub given_is_live : (t : ℕ) → IsOfLiveStages (is_given_to t)
given_is_live t = of_live_stages (is_given_to t) refl (λ k. refl)

pub entered_is_live : (t : ℕ) → IsOfLiveStages (is_entered_by t)
entered_is_live t = of_live_stages (is_entered_by t) refl (λ k. refl)

pub to_collect_is_live : IsOfLiveStages is_to_collect
to_collect_is_live = of_live_stages is_to_collect refl (λ k. refl)

pub queued_call_is_live : IsOfLiveCalls is_queued_call
queued_call_is_live r e = queued_is_live r.stage e

pub queued_as_is_live : (c : ℕ) → IsOfLiveCalls (is_queued_as c)
queued_as_is_live c r e = grind (arith, queued_is_live r.stage e)

pub queued_in_is_live : (doors : List Door) (pool : Pool) → IsOfLiveCalls (is_queued_in doors pool)
queued_in_is_live doors pool r e = grind (arith, queued_is_live r.stage e)

pub given_as_is_live : (c t : ℕ) → IsOfLiveCalls (is_given_as c t)
given_as_is_live c t r e = grind (arith, given_is_live t r.stage e)

pub client_is_live : (t : ℕ) → IsOfLiveCalls (is_client_call_of t)
client_is_live t r e = grind (arith, entered_is_live t r.stage e)

pub served_is_live : (t : ℕ) → IsOfLiveCalls (is_served_by t)
served_is_live t r e = grind (arith, given_is_live t r.stage e, entered_is_live t r.stage e)

pub ready_as_is_live : (c : ℕ) → IsOfLiveCalls (is_to_collect_as c)
ready_as_is_live c r e = grind (arith, to_collect_is_live r.stage e)

-- a call that is answered or left holds no object
no_objects : (r : Call) (s : CallStage) → is_live s ≡ false → objects_in_transit r s ≡ []
no_objects r stage.Gone e = refl
no_objects r (stage.Answered k) e = refl
no_objects r _ e = absurd (true≢false e)

pub objects-live : (xs : List Call) → flat_map objects_in_call (filter is_live_call xs) ≡ flat_map objects_in_call xs
objects-live [] = refl
objects-live (r ∷ rs) = go (is_live_call r) refl (objects-live rs)
  where
    go :
        (b : Bool) → is_live_call r ≡ b → flat_map objects_in_call (filter is_live_call rs) ≡ flat_map objects_in_call rs →
        flat_map objects_in_call (if b then r ∷ filter is_live_call rs else filter is_live_call rs)
        ≡ flat_map objects_in_call (r ∷ rs)
    go true e ih = ap (λ os. objects_in_call r ++ os) ih
    go false e ih = ih ∙ ap (λ os. os ++ flat_map objects_in_call rs) (sym (no_objects r r.stage e))

-- calls when callers and threads leave

-- a call that was left is Gone or Ended
abbrev pub IsOver : CallStage → Type 0
IsOver s = (s ≡ stage.Gone) ⊎ ((e : Errno) × (s ≡ stage.Ended e))

-- a call stays, is over, or is over and abandoned
pub left_call-over :
    (P : Call → Type 0) (who : Leaving) (r : Call) → P r → ((s : CallStage) → IsOver s → P (without_arguments_at s r)) →
    ((s : CallStage) → IsOver s → P (abandoned_at s r)) → P (left_call who r)
left_call-over P who r same over left = go (who.ends r.caller.0)
  where
    without_gone : P (without_arguments_at stage.Gone r)
    without_gone = over stage.Gone (inl refl)

    without_ended : (e : Errno) → P (without_arguments_at (stage.Ended e) r)
    without_ended e = over (stage.Ended e) (inr (e, refl))

    gone : (s : CallStage) → P (gone_call_at s r)
    gone (stage.Entered u) = left stage.Gone (inl refl)
    gone (stage.Answered k) = same
    gone stage.Gone = same
    gone stage.Queued = without_gone
    gone (stage.Given u) = without_gone
    gone (stage.Returned bytes objects) = without_gone
    gone (stage.Ended e) = without_gone

    ended : (b : Bool) (e : Errno) → P (ended_where b e r)
    ended true e = without_ended e
    ended false e = same

    queued : (b : Bool) → P (if b then without_arguments_at (stage.Ended EINTR) r else ended_where (who.loses r.door) EBADF r)
    queued true = without_ended EINTR
    queued false = ended (who.loses r.door) EBADF

    entered : (b c : Bool) → P (if b then abandoned_at (stage.Ended EINTR) r else ended_where c EINTR r)
    entered true c = left (stage.Ended EINTR) (inr (EINTR, refl))
    entered false c = ended c EINTR

    broken : (s : CallStage) → P (broken_call_at who s r)
    broken stage.Queued = queued (who.interrupts r.caller.0)
    broken (stage.Given u) = ended (who.interrupts r.caller.0 || who.ends u.0) EINTR
    broken (stage.Entered u) = entered (who.interrupts r.caller.0) (who.ends u.0)
    broken (stage.Returned bytes objects) = same
    broken (stage.Ended e) = same
    broken (stage.Answered k) = same
    broken stage.Gone = same

    go : (b : Bool) → P (if b then gone_call_at r.stage r else broken_call_at who r.stage r)
    go true = gone r.stage
    go false = broken r.stage

pub left_call-case :
    (P : Call → Type 0) (who : Leaving) (r : Call) → P r → ((s : CallStage) → P (without_arguments_at s r)) →
    ((s : CallStage) → P (abandoned_at s r)) → P (left_call who r)
left_call-case P who r same without abandoned = left_call-over P who r same (λ s o. without s) (λ s o. abandoned s)

-- what of a call no leaving changes
module _ (who : Leaving) (r : Call) where
  pub left_call-same :
      {Y : Type 0} (f : Call → Y) → ((s : CallStage) → f (without_arguments_at s r) ≡ f r) →
      ((s : CallStage) → f (abandoned_at s r) ≡ f r) → f (left_call who r) ≡ f r
  left_call-same f without abandoned = left_call-case (λ q. f q ≡ f r) who r refl without abandoned

  pub left_call-number : (left_call who r).number ≡ r.number
  left_call-number = left_call-same (λ (q : Call). q.number) (λ s. refl) (λ s. refl)

  -- an answered call, and one whose caller ended, stay as they are
  pub left_call-not_live : is_live_call r ≡ false → left_call who r ≡ r
  left_call-not_live e = go (who.ends r.caller.0)
    where
      gone : (s : CallStage) → is_live s ≡ false → gone_call_at s r ≡ r
      gone stage.Gone e = refl
      gone (stage.Answered k) e = refl
      gone _ e = absurd (true≢false e)

      broken : (s : CallStage) → is_live s ≡ false → broken_call_at who s r ≡ r
      broken stage.Gone e = refl
      broken (stage.Answered k) e = refl
      broken _ e = absurd (true≢false e)

      go : (b : Bool) → (if b then gone_call_at r.stage r else broken_call_at who r.stage r) ≡ r
      go true = gone r.stage e
      go false = broken r.stage e

-- arrows of calls

abbrev pub HaveSameLive : CallTree → CallTree → Type 0
HaveSameLive a b = live_calls a ≡ live_calls b

module _ (tree : CallTree) where
  change_in_tree :
      (test : Call → Bool) (change : Call → Call) → IsOfLiveCalls test →
      HaveSameLive
      (record tree { calls = change_first test change (live_calls tree).calls })
      (record tree { calls = change_first test change tree.calls })
  change_in_tree test change only_live = ap (λ xs. record tree { calls = xs }) (change_first-kept is_live_call test only_live change tree.calls)

  pub live_calls-live : HaveSameLive (live_calls tree) tree
  live_calls-live = ap (λ xs. record tree { calls = xs }) (kept-kept is_live_call tree.calls)

  pub open_call-live : (r : Call) → HaveSameLive (open_call (live_calls tree) r) (open_call tree r)
  open_call-live r = ap (λ xs. record { made = r.number; calls = xs }) (append-kept is_live_call tree.calls (r ∷ []))

  pub give_call-live : (c u : ℕ) → HaveSameLive (give_call (live_calls tree) c u) (give_call tree c u)
  give_call-live c u = change_in_tree (is_queued_as c) (at_stage (stage.Given (tid u))) (queued_as_is_live c)

  pub enter_call-live : (c t : ℕ) → HaveSameLive (enter_call (live_calls tree) c t) (enter_call tree c t)
  enter_call-live c t = change_in_tree (is_given_as c t) (without_arguments_at (stage.Entered (tid t))) (given_as_is_live c t)

  pub fail_call-live : (c t : ℕ) → HaveSameLive (fail_call (live_calls tree) c t) (fail_call tree c t)
  fail_call-live c t = change_in_tree (is_given_as c t) (without_arguments_at (stage.Ended EMFILE)) (given_as_is_live c t)

  pub return_call-live :
      (t : ℕ) (bytes : List ℕ) (objects : List Obj) →
      HaveSameLive (return_call (live_calls tree) t bytes objects) (return_call tree t bytes objects)
  return_call-live t bytes objects =
      change_in_tree (is_client_call_of t) (without_arguments_at (stage.Returned bytes objects)) (client_is_live t)

  pub collect_call-live : (c now : ℕ) → HaveSameLive (collect_call (live_calls tree) c now) (collect_call tree c now)
  collect_call-live c now = change_in_tree (is_to_collect_as c) (without_arguments_at (stage.Answered now)) (ready_as_is_live c)

  pub left_calls-live : (who : Leaving) → HaveSameLive (left_calls who (live_calls tree)) (left_calls who tree)
  left_calls-live who = ap (λ xs. record tree { calls = xs }) (map-kept is_live_call is_live_call (left_call who) stays tree.calls)
    where
      stays : (r : Call) → is_live_call r ≡ false → is_live_call (left_call who r) ≡ false
      stays r e = ap is_live_call (left_call-not_live who r e) ∙ e
