-- Once holds of every run.
use Rattle.std.specs.Prelude.{ℕ, ◌≡◌, ◌+◌, ◌<◌, ◌≤◌, ◌⊎◌, List, Option, Bool, true, false, Some, None, length, nat_lt, slice_get}
use Rattle.std.proofs.Common.{refl, sym, ap, subst, ◌∙◌, inl, inr, ⊎_elim}
use native.Mathlib.Omega.{arith}
use Rattle.std.proofs.lemmas.Option.{slice_get_within}
use Rattle.spec_kernel.specs.Types.{Answer, Call, CallStage, Errno, Fd, Inv, Item, Obj, Request}
use Rattle.dk_base.specs.declared.error.Errno.TheVariants.{EMFILE}
use Rattle.dk_base.specs.declared.object.Item.TheVariants as item
use Rattle.dk_base.specs.declared.answer.Answer.TheVariants as answer
use Rattle.spec_records.specs.declared.record.ThreadState.TheVariants as is
use Rattle.spec_records.specs.declared.record.CallStage.TheVariants as stage
use Rattle.spec_records.specs.Words.{is_live, new_descriptors, tid}
use Rattle.spec_kernel.specs.Words.{State, Turn, caller_in, door_of, invocation_of, state_at, state_of, process_of}
use Rattle.law_states.specs.Records.{door_at, item_of, owner_in, record_of, stage_in, stage_of}
use Rattle.law_states.specs.Core.{caller_number, door_in, is_outside, live_in}
use Rattle.law_states.specs.Coherent.{IsCoherent}
use Rattle.law_states.specs.Core.{core}
use Rattle.law_states.specs.Events.{Begins, InvocationArrow, IsAcceptedNow, IsCaller, IsToldBy}
use Rattle.law_states.specs.Arrows.{has_own_room, own_table}
use Rattle.law_states.specs.Arrows.EndsBy.{door_invalid, server_full, interrupted, server_ended}
use Rattle.law_states.specs.Events.InvocationArrow.{stays, begins, cancels, ends, leaves}
use Rattle.law_places.specs.Places.{BecomesAnswered, BecomesEntered, HasEntered, IsAccept, IsCollect, answer_at, is_answered_in, is_entered_in, is_returned_in, is_returned_stage, process_at}
use Rattle.law_runs.specs.Once.{CollectsEntered, Enters, FailsToEnter, InvocationMoves, IsLiveCallOf, Once, WaitsAgain, WasEntered}
use Rattle.law_runs.specs.Once.InvocationMoves.{stays as move_stays, begins as move_begins, cancels as move_cancels, ends as move_ends, leaves as move_leaves}
use Rattle.law_runs.specs.Once.WaitsAgain.{is_idle, is_given, has_failed}
use Rattle.law_places.proofs.Counts.{too_few_is, room_is}
use Rattle.law_places.proofs.Changes.{answered_rank, entered_rank}
use Rattle.law_places.proofs.Known.{Known, becomes_once, changes, false_not_true, invariant_after, invariant_before, next, number_of_event}
use Rattle.law_places.proofs.Invocations.{MovesAt, begun, entered_by, invocations, return_ends}
use Rattle.law_places.proofs.NoticePlaces.{notice_entered_by}
use Rattle.law_places.proofs.Bound.{invalid_decides, none_invalid}
use Rattle.law_places.proofs.ReturnRefusals.{no_return_refusal}
use Rattle.law_runs.proofs.Returns.{return_parks, return_unbinds, wakes}
use Rattle.law_runs.proofs.Story.{story}
use Rattle.law_runs.proofs.Parked.{Parks, failed_accept_parks}
use Rattle.law_runs.proofs.Parked.Parks.{idle, given, unbound}
use Rattle.law_places.proofs.Rows.{Breaks, HandsOver, answered_row, ended_row, is_ended_in, EnteredRow, some_call}
use Rattle.law_places.proofs.Rows.Breaks.{by_cause, by_interrupt}
use Rattle.law_places.proofs.Rows.HandsOver.{results, nothing, error}
use Rattle.law_runs.proofs.Readers.{AnsweredRowAt, EndedRowAt, EnteredAt, ReturnedAt, accept_of, number_of, returned}
use Rattle.law_places.specs.Counts.{free_descriptors}

differs :
    (n c entry cookie entry' cookie' : ℕ) (bytes : List ℕ) (fds : List Fd) →
    answer.EnteredNotice n entry cookie ≡ answer.Entered c entry' cookie' bytes fds → ⊥
differs n c entry cookie entry' cookie' bytes fds e = cc

entered_not_failed :
    (c d entry cookie : ℕ) (bytes : List ℕ) (fds : List Fd) → answer.EnterFailed c ≡ answer.Entered d entry cookie bytes fds → ⊥
entered_not_failed c d entry cookie bytes fds e = cc

same_given : (c d : ℕ) (r : Call) → is.Given (item.Call r.number) ≡ is.Given (item.Call c) → r.number ≡ d → d ≡ c
same_given c d r e f = cc

notice_or_call : (c n : ℕ) → is.Given (item.Notice n) ≡ is.Given (item.Call c) → ⊥
notice_or_call c n e = cc

same_item : (c d : ℕ) (o : Option Item) → o ≡ Some (item.Call c) → o ≡ Some (item.Call d) → c ≡ d
same_item c d o e f = cc

at_given : (u : ℕ) (o : Option Call) → stage_in o ≡ Some (stage.Given (tid u)) → is_entered_in o ≡ false
at_given u o e = grind arith

pub at_entered : (u : ℕ) (o : Option Call) → stage_in o ≡ Some (stage.Entered (tid u)) → is_entered_in o ≡ true
at_entered u o e = grind arith

at_given_not_ended : (u : ℕ) (o : Option Call) → stage_in o ≡ Some (stage.Given (tid u)) → is_ended_in o ≡ false
at_given_not_ended u o e = grind arith

at_ended : (x : Errno) (o : Option Call) → stage_in o ≡ Some (stage.Ended x) → is_ended_in o ≡ true
at_ended x o e = grind arith

ended_not_given : (x : Errno) (u : ℕ) (o : Option Call) → stage_in o ≡ Some (stage.Ended x) → stage_in o ≡ Some (stage.Given (tid u)) → ⊥
ended_not_given x u o e f = cc

at_answered : (n : ℕ) (o : Option Call) → stage_in o ≡ Some (stage.Answered n) → is_answered_in o ≡ true
at_answered n o e = grind arith

live_not_answered : (o : Option Call) → live_in o ≡ true → is_answered_in o ≡ false
live_not_answered o e = grind arith

live_call_of : (t : ℕ) (o : Option Call) → live_in o ≡ true → caller_number o ≡ t → IsLiveCallOf o t
live_call_of t None e f = absurd (cc e)
live_call_of t (Some r) e f = record { call = r; there = refl; same_caller = ap (λ (n : ℕ). tid n) f; live = e }

live_caller : (t : ℕ) (o : Option Call) → live_in o ≡ true → caller_number o ≡ t → caller_in o ≡ Some t
live_caller t o e f = grind arith

pub owner_same : (m : State) (o : Option Call) (s : CallStage) → stage_in o ≡ Some s → owner_in (door_at m o) ≡ owner_in (door_of m (door_in o))
owner_same m None s e = grind arith
owner_same m (Some r) s e = refl

-- an accept that fails begins no invocation
not_begun :
    (m : State) (t : ℕ) (q : Option Request) (a : Answer) (n : State) (u c : ℕ) (o p : Option Inv) →
    InvocationArrow m t q a n u o p → o ≡ None → a ≡ answer.EnterFailed c → p ≡ None
not_begun m t q a n u c o p stays e f = e
not_begun m t q a n u c o p (begins i g h k b) e f = absurd (subst (λ (z : Answer). Begins z i) f b)
not_begun m t q a n u c o p (cancels v g) e f = absurd (cc e)
not_begun m t q a n u c o p (ends v bytes pass g h l k) e f = refl
not_begun m t q a n u c o p (leaves v g) e f = refl

failed :
    (m : State) (t : ℕ) (q : Option Request) (a : Answer) (n : State) (r : Call) (x : Errno) → Breaks m t q a n r x → x ≡ EMFILE →
    (a ≡ answer.EnterFailed r.number) × (has_own_room m t r.objects ≡ false)
failed m t q a n r x (by_interrupt u e f d) s = absurd (cc s)
failed m t q a n r x (by_cause y (door_invalid e f g h)) s = absurd (cc s)
failed m t q a n r x (by_cause y (interrupted e f d)) s = absurd (cc s)
failed m t q a n r x (by_cause y (server_ended u e f d)) s = absurd (cc s)
failed m t q a n r x (by_cause y (server_full e f g h k)) s = (k, h)

same_error : (e f : Errno) (o : Option Call) → stage_in o ≡ Some (stage.Ended e) → stage_in o ≡ Some (stage.Ended f) → e ≡ f
same_error e f o g h = cc

-- results come only from a call that is Returned, with descriptors for what comes with them

pub record HandsBack (m : State) (t : ℕ) (r : Call) (bytes : List ℕ) (fds : List Fd) (more : Bool) : Type 0 where
  pub objects : List Obj
  pub returned : r.stage ≡ stage.Returned bytes objects
  pub room : has_own_room m t objects ≡ true
  pub descriptors : fds ≡ new_descriptors (own_table m t) objects
  pub grown : more ≡ nat_lt r.rsize (length bytes)

pub hands_back :
    (m : State) (t : ℕ) (r : Call) (a : Answer) (bytes : List ℕ) (fds : List Fd) (more : Bool) → HandsOver m t r a →
    a ≡ answer.Results bytes fds more → HandsBack m t r bytes fds more
hands_back m t r a bytes fds more (results b objects e h) f =
    let same : b ≡ bytes = cc in
    record {
      objects = objects;
      returned = e ∙ ap (λ (w : List ℕ). stage.Returned w objects) same;
      room = h;
      descriptors = cc;
      grown = cc;
    }
hands_back m t r a bytes fds more (nothing b objects e h) f = absurd (cc)
hands_back m t r a bytes fds more (error x e) f = absurd (cc)

-- Once

module _ (m : State) (xs : List Turn) (k : Known m xs) where
  pub entered_once : (c i j : ℕ) → BecomesEntered m xs c i → BecomesEntered m xs c j → i ≡ j
  entered_once c i j a b = becomes_once m xs k c i j 3 is_entered_in entered_rank a b

  answered_once : (c i j : ℕ) → BecomesAnswered m xs c i → BecomesAnswered m xs c j → i ≡ j
  answered_once c i j a b = becomes_once m xs k c i j 5 is_answered_in answered_rank a b

  only_by_accept : (i c : ℕ) (x : Turn) → slice_get xs i ≡ Some x → BecomesEntered m xs c i → IsAccept m xs i x c
  only_by_accept i c x e b = accept_of m xs i c x _ _ refl (entered_by m xs k i c x e b)

  notices_enter_no_call :
      (i n entry cookie c : ℕ) (x : Turn) → slice_get xs i ≡ Some x →
      answer_at m xs i x ≡ answer.EnteredNotice n entry cookie → BecomesEntered m xs c i → ⊥
  notices_enter_no_call i n entry cookie c x e f b = go (only_by_accept i c x e b)
    where
      go : IsAccept m xs i x c → ⊥
      go a = differs n c entry cookie a.entry a.cookie a.bytes a.descriptors (sym f ∙ a.answer)

  moves : (i t : ℕ) (x : Turn) (o p : Option Inv) → slice_get xs i ≡ Some x → MovesAt m xs k i x t o p → InvocationMoves m xs i x t o p
  moves i t x o p e stays = move_stays
  moves i t x o p e (begins y g h l b) = move_begins y g h l b
  moves i t x o p e (cancels v w) = move_cancels v w
  moves i t x o p e (ends v bytes pass g h n a) =
      move_ends v bytes pass g
      (record {
        asked = h;
        not_refused = no_return_refusal (state_at m xs i) (invariant_before m xs k i x e) x.thread (process_at m xs i x.thread) bytes pass n;
      })
  moves i t x o p e (leaves v d) = move_leaves v d

  -- what an accept does, where the wait of a thread that was given a call ends

  enters_given :
      (i c : ℕ) (x : Turn) → slice_get xs i ≡ Some x → x.request ≡ None →
      state_of (state_at m xs i) x.thread ≡ is.Given (item.Call c) → IsCoherent (core (state_at m xs i)) →
      IsCoherent (core (state_at m xs (i + 1))) → HasEntered (state_at m xs (i + 1)) x.thread c → Enters m xs i x c
  enters_given i c x e q s h g after =
      record {
        no_request = q;
        was_given = s;
        stage_before = before;
        stage_after = after;
        room = λ r f. fits r f (entered_by m xs k i c x e becomes);
        entered = becomes;
        no_notice = λ n b. notice_or_call c _ (sym (notice_entered_by m xs k i n x e b).given ∙ s);
        nothing_else = λ d b. same_given c d (entered_by m xs k i d x e b).call (sym (entered_by m xs k i d x e b).given ∙ s) (number_of (state_at m xs i) d _ (entered_by m xs k i d x e b).before);
        of_the_owner = owner_same (state_at m xs i) (record_of (state_at m xs i) c) _ before ∙ h.at_doors.given_owner c x.thread before;
        free_before = free;
        invocation_after = begun _ _ _ _ _ x.thread (item.Call c) _ _ (invocations m xs k i x.thread x e) free (g.invocations.entered c x.thread after);
      }
    where
      before : stage_of (state_at m xs i) c ≡ Some (stage.Given (tid x.thread))
      before = h.waits.given_back c x.thread s

      free : invocation_of (state_at m xs i) x.thread ≡ None
      free = h.servers.outside x.thread (ap is_outside s)

      fits :
          (r : Call) → record_of (state_at m xs i) c ≡ Some r →
          EnteredRow (state_at m xs i) x.thread x.request (answer_at m xs i x) (record_of (state_at m xs i) c) (record_of (state_at m xs (i + 1)) c) →
          length r.objects ≤ free_descriptors (state_at m xs i) (process_of (state_at m xs i) x.thread)
      fits r f w =
          let same : w.call ≡ r = cc (sym w.before ∙ f) in
          room_is (state_at m xs i) (process_of (state_at m xs i) x.thread) r.objects (ap (λ (z : Call). has_own_room (state_at m xs i) x.thread z.objects) (sym same) ∙ w.room)

      becomes : BecomesEntered m xs c i
      becomes =
          record {
            within = slice_get_within xs i x e;
            before = at_given x.thread _ before;
            after = at_entered x.thread _ after;
          }

  pub ended_by :
      (i c : ℕ) (x : Turn) → slice_get xs i ≡ Some x → is_ended_in (record_of (state_at m xs i) c) ≡ false →
      is_ended_in (record_of (state_at m xs (i + 1)) c) ≡ true →
      EndedRowAt m xs i x (record_of (state_at m xs i) c) (record_of (state_at m xs (i + 1)) c)
  ended_by i c x e b a = ended_row _ _ _ _ _ _ _ (changes m xs k c i x is_ended_in false true e false_not_true b a) a

  fails_given :
      (i c : ℕ) (x : Turn) → slice_get xs i ≡ Some x → x.request ≡ None →
      state_of (state_at m xs i) x.thread ≡ is.Given (item.Call c) → IsCoherent (core (state_at m xs i)) →
      IsCoherent (core (state_at m xs (i + 1))) → stage_of (state_at m xs (i + 1)) c ≡ Some (stage.Ended EMFILE) →
      FailsToEnter m xs i x c
  fails_given i c x e q s h g after = go (ended_by i c x e (at_given_not_ended x.thread _ before) (at_ended EMFILE _ after))
    where
      before : stage_of (state_at m xs i) c ≡ Some (stage.Given (tid x.thread))
      before = h.waits.given_back c x.thread s

      with_answer :
          (r : Call) → record_of (state_at m xs i) c ≡ Some r → has_own_room (state_at m xs i) x.thread r.objects ≡ false →
          answer_at m xs i x ≡ answer.EnterFailed c → FailsToEnter m xs i x c
      with_answer r b room a =
          record {
            no_request = q;
            was_given = s;
            stage_before = before;
            stage_after = after;
            answer = a;
            full = λ z f.
                let same : z ≡ r = some_call z r (sym f ∙ b) in
                too_few_is (state_at m xs i) _ z.objects (ap (λ (y : Call). has_own_room (state_at m xs i) x.thread y.objects) same ∙ room);
            none_entered = λ d b. none (only_by_accept i d x e b);
            no_notice = λ n b. notice_or_call c _ (sym (notice_entered_by m xs k i n x e b).given ∙ s);
            of_the_owner = owner_same (state_at m xs i) (record_of (state_at m xs i) c) _ before ∙ h.at_doors.given_owner c x.thread before;
            free_after = not_begun _ _ _ _ _ x.thread c _ _ (invocations m xs k i x.thread x e) (h.servers.outside x.thread (ap is_outside s)) a;
            parked =
                again
                (subst (λ n. Parks (state_at m xs i) n x.thread) (sym (next m xs k i x e))
                (failed_accept_parks (state_at m xs i) x.thread c c x.request q s a));
          }
        where
          again : Parks (state_at m xs i) (state_at m xs (i + 1)) x.thread → WaitsAgain m xs i x c
          again (idle v b) =
              is_idle (none_invalid (state_at m xs i) x.thread v) (b ∙ ap is.Idle (number_of_event m xs k i (slice_get_within xs i x e)))
          again (given v other b) =
              is_given other (none_invalid (state_at m xs i) x.thread v)
              (λ same. ended_not_given EMFILE x.thread _ after (g.waits.given_back c x.thread (b ∙ ap (λ (y : Item). is.Given y) same)))
              b
          again (unbound v b d) = has_failed ((invalid_decides (state_at m xs i) x.thread).0 v) b d

          none : {d : ℕ} → IsAccept m xs i x d → ⊥
          none {d} b = entered_not_failed c d b.entry b.cookie b.bytes b.descriptors (sym a ∙ b.answer)

      go : EndedRowAt m xs i x (record_of (state_at m xs i) c) (record_of (state_at m xs (i + 1)) c) → FailsToEnter m xs i x c
      go w = by (failed _ _ _ _ _ w.call w.error w.breaks is_full)
        where
          is_full : w.error ≡ EMFILE
          is_full = same_error w.error EMFILE _ (ap stage_in w.after ∙ ap (λ (y : CallStage). Some y) w.goes_on.stage) after

          by :
              (answer_at m xs i x ≡ answer.EnterFailed w.call.number) × (has_own_room (state_at m xs i) x.thread w.call.objects ≡ false) →
              FailsToEnter m xs i x c
          by b =
              with_answer w.call w.before b.1
              (b.0 ∙ ap (λ (d : ℕ). answer.EnterFailed d) (number_of (state_at m xs i) c w.call w.before))

  pub given_enters :
      (i c : ℕ) (x : Turn) → slice_get xs i ≡ Some x → x.request ≡ None → state_of (state_at m xs i) x.thread ≡ is.Given (item.Call c) →
      Enters m xs i x c ⊎ FailsToEnter m xs i x c
  given_enters i c x e q s =
      ⊎_elim (λ a. inl (enters_given i c x e q s before after a)) (λ a. inr (fails_given i c x e q s before after a))
      (subst (λ n. IsAcceptedNow n x.thread c) (sym (next m xs k i x e)) ((k.keeps i x e).accepted c q s))
    where
      before : IsCoherent (core (state_at m xs i))
      before = (invariant_before m xs k i x e).consistent.coherent

      after : IsCoherent (core (state_at m xs (i + 1)))
      after = (invariant_after m xs k i x e).consistent.coherent

  pub accepts :
      (i c entry cookie : ℕ) (x : Turn) (bytes : List ℕ) (fds : List Fd) → slice_get xs i ≡ Some x →
      answer_at m xs i x ≡ answer.Entered c entry cookie bytes fds → Enters m xs i x c
  accepts i c entry cookie x bytes fds e f = go (subst (IsToldBy (state_at m xs i) x.thread x.request) f (k.keeps i x e).told)
    where
      fails : FailsToEnter m xs i x c → Enters m xs i x c
      fails b = absurd (entered_not_failed c c entry cookie bytes fds (sym b.answer ∙ f))

      go : (x.request ≡ None) × (state_of (state_at m xs i) x.thread ≡ is.Given (item.Call c)) → Enters m xs i x c
      go a = ⊎_elim (λ b. b) fails (given_enters i c x e a.0 a.1)

  pub accept_fails :
      (i c : ℕ) (x : Turn) → slice_get xs i ≡ Some x → answer_at m xs i x ≡ answer.EnterFailed c → FailsToEnter m xs i x c
  accept_fails i c x e f = go (subst (IsToldBy (state_at m xs i) x.thread x.request) f (k.keeps i x e).told)
    where
      accepted : IsAccept m xs i x c → FailsToEnter m xs i x c
      accepted b = absurd (entered_not_failed c c b.entry b.cookie b.bytes b.descriptors (sym f ∙ b.answer))

      enters : Enters m xs i x c → FailsToEnter m xs i x c
      enters b = accepted (only_by_accept i c x e b.entered)

      go : (x.request ≡ None) × (state_of (state_at m xs i) x.thread ≡ is.Given (item.Call c)) → FailsToEnter m xs i x c
      go a = ⊎_elim enters (λ b. b) (given_enters i c x e a.0 a.1)

  in_its_invocation :
      (i t c : ℕ) → i ≤ length xs → HasEntered (state_at m xs i) t c → item_of (state_at m xs i) t ≡ Some (item.Call c)
  in_its_invocation i t c l e = (k.invariant i l).consistent.coherent.invocations.entered c t e

  one_at_once :
      (i t c d : ℕ) → i ≤ length xs → HasEntered (state_at m xs i) t c → HasEntered (state_at m xs i) t d → c ≡ d
  one_at_once i t c d l e f =
      same_item c d (item_of (state_at m xs i) t) (in_its_invocation i t c l e) (in_its_invocation i t d l f)

  live_call : (i c : ℕ) (x : Turn) → slice_get xs i ≡ Some x → IsCollect m xs i x c → live_in (record_of (state_at m xs i) c) ≡ true
  live_call i c x e w = (invariant_before m xs k i x e).consistent.coherent.waits.live c x.thread w.calling

  pub collects : (i c : ℕ) (x : Turn) → slice_get xs i ≡ Some x → IsCollect m xs i x c → BecomesAnswered m xs c i
  collects i c x e w =
      record {
        within = slice_get_within xs i x e;
        before = live_not_answered _ (live_call i c x e w);
        after = at_answered _ _ (ap (λ n. stage_of n c) (next m xs k i x e) ∙ (k.keeps i x e).collected c w.no_request w.calling);
      }

  pub answered_by :
      (i c : ℕ) (x : Turn) → slice_get xs i ≡ Some x → BecomesAnswered m xs c i →
      AnsweredRowAt m xs i x (record_of (state_at m xs i) c) (record_of (state_at m xs (i + 1)) c)
  answered_by i c x e b =
      answered_row _ _ _ _ _ _ _ (changes m xs k c i x is_answered_in false true e false_not_true b.before b.after) b.after

  only_by_collect : (i c : ℕ) (x : Turn) → slice_get xs i ≡ Some x → BecomesAnswered m xs c i → IsCollect m xs i x c
  only_by_collect i c x e b = go (answered_by i c x e b)
    where
      go :
          AnsweredRowAt m xs i x (record_of (state_at m xs i) c) (record_of (state_at m xs (i + 1)) c) →
          IsCollect m xs i x c
      go a =
          record {
            no_request = a.no_request;
            calling = a.calling ∙ ap (λ (d : ℕ). is.Calling d) (number_of (state_at m xs i) c a.call a.before);
          }

  collects_own :
      (i c : ℕ) (x : Turn) → slice_get xs i ≡ Some x → IsCollect m xs i x c →
      caller_in (record_of (state_at m xs i) c) ≡ Some x.thread
  collects_own i c x e w =
      live_caller x.thread _ (live_call i c x e w) ((invariant_before m xs k i x e).consistent.coherent.waits.caller c x.thread w.calling)

  pub caller_waits :
      (i c : ℕ) (r : Call) → i ≤ length xs → record_of (state_at m xs i) c ≡ Some r → is_live r.stage ≡ true →
      state_of (state_at m xs i) r.caller.0 ≡ is.Calling c
  caller_waits i c r l e f =
      subst (λ o. state_of (state_at m xs i) (caller_number o) ≡ is.Calling c) e
      ((k.invariant i l).consistent.coherent.waits.calling c (ap live_in e ∙ f))

  -- where results are collected, the call is Returned, and so was entered

  pub collected_results :
      (i c : ℕ) (x : Turn) (bytes : List ℕ) (fds : List Fd) (more : Bool) → slice_get xs i ≡ Some x → IsCollect m xs i x c →
      answer_at m xs i x ≡ answer.Results bytes fds more →
      (a : AnsweredRowAt m xs i x (record_of (state_at m xs i) c) (record_of (state_at m xs (i + 1)) c)) →
      HandsBack (state_at m xs i) x.thread a.call bytes fds more
  collected_results i c x bytes fds more e w f a =
      hands_back (state_at m xs i) x.thread a.call a.told bytes fds more a.hands_over (sym a.answers ∙ f)

  pub caller_of_results :
      (i : ℕ) (x : Turn) (bytes : List ℕ) (fds : List Fd) (more : Bool) → slice_get xs i ≡ Some x →
      answer_at m xs i x ≡ answer.Results bytes fds more → (x.request ≡ None) × IsCaller (state_at m xs i) x.thread
  caller_of_results i x bytes fds more e f = subst (IsToldBy (state_at m xs i) x.thread x.request) f (k.keeps i x e).told

  pub returned_before :
      (i c : ℕ) (r : Call) (bytes : List ℕ) (objects : List Obj) → i ≤ length xs → record_of (state_at m xs i) c ≡ Some r →
      r.stage ≡ stage.Returned bytes objects → ReturnedAt m xs c i (record_of (state_at m xs i) c)
  returned_before i c r bytes objects l e f =
      returned m xs c i _ (story m xs k c i l) (ap is_returned_in e ∙ ap is_returned_stage f)

  was_entered : (c i : ℕ) (p : Option Call) → ReturnedAt m xs c i p → WasEntered m xs i c
  was_entered c i p b = go b.entered b.earlier
    where
      given : (n u : ℕ) (o : Option Call) (r : Call) → o ≡ Some r → r.stage ≡ stage.Given (tid u) → is_entered_in o ≡ false
      given n u o r e f = grind arith

      came : (t : ℕ) (o q : Option Call) (r : Call) → q ≡ o → o ≡ Some r → r.stage ≡ stage.Entered (tid t) → is_entered_in q ≡ true
      came t o q r g e f = grind arith

      go : EnteredAt m xs c b.at b.old → b.at < i → WasEntered m xs i c
      go a l =
          record {
            at = a.at;
            earlier = omega (arith, a.earlier, l);
            entered =
                record {
                  within = slice_get_within xs a.at a.turn a.found;
                  before = given 0 a.turn.thread _ a.row.call (a.was ∙ a.row.before) a.row.was_given;
                  after = came b.turn.thread b.old _ b.row.call a.there b.row.before b.row.was_entered;
                };
          }

  results_after_entry :
      (i : ℕ) (x : Turn) (bytes : List ℕ) (fds : List Fd) (grown : Bool) → slice_get xs i ≡ Some x →
      answer_at m xs i x ≡ answer.Results bytes fds grown → CollectsEntered m xs i x
  results_after_entry i x bytes fds grown e f = go (caller_of_results i x bytes fds grown e f)
    where
      within : i ≤ length xs
      within = omega (arith, slice_get_within xs i x e)

      by :
          (c : ℕ) → IsCollect m xs i x c → (b : BecomesAnswered m xs c i) →
          (a : AnsweredRowAt m xs i x (record_of (state_at m xs i) c) (record_of (state_at m xs (i + 1)) c)) →
          HandsBack (state_at m xs i) x.thread a.call bytes fds grown → CollectsEntered m xs i x
      by c w b a g =
          record {
            call = c;
            collect = w;
            answered = b;
            was_entered = was_entered c i _ (returned_before i c a.call bytes g.objects within a.before g.returned);
          }

      at : (c : ℕ) → IsCollect m xs i x c → CollectsEntered m xs i x
      at c w =
          let b : BecomesAnswered m xs c i = collects i c x e w in
          by c w b (answered_by i c x e b) (collected_results i c x bytes fds grown e w f (answered_by i c x e b))

      go : (x.request ≡ None) × IsCaller (state_at m xs i) x.thread → CollectsEntered m xs i x
      go a = at a.1.call (record { no_request = a.0; calling = a.1.calling })

  pub once_holds : Once m xs
  once_holds =
      record {
        entered_once = entered_once;
        answered_once = answered_once;
        accepts = accepts;
        accept_fails = accept_fails;
        given_enters = given_enters;
        only_by_accept = only_by_accept;
        notices_enter_no_call = notices_enter_no_call;
        in_its_invocation = in_its_invocation;
        one_at_once = one_at_once;
        invocations = λ i t x e. moves i t x _ _ e (invocations m xs k i t x e);
        return_parks = return_parks m xs k;
        return_unbinds = return_unbinds m xs k;
        wakes = wakes m xs k;
        return_ends = return_ends m xs k;
        none_when_done = λ i t l e. (k.invariant i l).consistent.coherent.servers.outside t (ap is_outside e);
        collects = collects;
        only_by_collect = only_by_collect;
        caller_waits = caller_waits;
        calling_live = λ i t c l e. live_call_of t _ ((k.invariant i l).consistent.coherent.waits.live c t e) ((k.invariant i l).consistent.coherent.waits.caller c t e);
        collects_own = collects_own;
        results_after_entry = results_after_entry;
      }
