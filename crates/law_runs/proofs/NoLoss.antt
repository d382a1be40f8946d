-- No loss holds of every run.
use Rattle.std.specs.Prelude.{ℕ, ◌≡◌, ◌+◌, ◌⊎◌, List, Option, Bool, true, false, Some, None, is_some, length, nat_lt, slice_get}
use Rattle.std.proofs.Common.{refl, sym, ap, subst, ◌∙◌, inl, inr}
use native.Mathlib.Omega.{arith}
use Rattle.std.proofs.lemmas.Option.{slice_get_within}
use Rattle.spec_kernel.specs.Types.{Answer, Call, CallStage, Door, Errno, Fd, Obj, Pass, Request}
use Rattle.dk_base.specs.declared.error.Errno.TheVariants.{EMFILE}
use Rattle.dk_base.specs.declared.object.Item.TheVariants as item
use Rattle.dk_base.specs.declared.request.Request.TheVariants as request
use Rattle.dk_base.specs.declared.answer.Answer.TheVariants as answer
use Rattle.spec_records.specs.declared.record.CallStage.TheVariants as stage
use Rattle.spec_records.specs.declared.record.ThreadState.TheVariants as is
use Rattle.spec_records.specs.Words.{cookie_of, entry_of, gone_call_at, new_descriptors, objects_passed, tid}
use Rattle.spec_kernel.specs.Words.{State, Turn, door_of, object_at, state_at, state_of, step}
use Rattle.law_states.specs.Core.{has_arguments}
use Rattle.law_states.specs.Records.{record_of, stage_in}
use Rattle.law_states.specs.Events.{IsToldBy}
use Rattle.law_places.specs.Places.{BecomesAnswered, BecomesReturned, IsCollect, MakesCall, ReturnsCall, answer_at, is_answered_in, is_entered_in, is_returned_in, process_at}
use Rattle.law_runs.specs.Once.{Enters, FailsToEnter}
use Rattle.law_runs.specs.NoLoss.{AreBrought, AreInstalled, AreReleased, Brings, Fate, IsPut, IsSameTable, NoLoss, Passes, Puts}
use Rattle.law_places.specs.References.{in_transit, message_in, message_of}
use Rattle.law_runs.specs.NoLoss.Brings.{by_accept, by_collect}
use Rattle.law_runs.specs.NoLoss.Fate.{stay, installed, dropped}
use Rattle.law_runs.specs.NoLoss.Passes.{at_call, at_return}
use Rattle.law_runs.specs.NoLoss.Puts.{by_call, by_return}
use Rattle.law_places.proofs.Changes.{Change, gone_stage}
use Rattle.law_places.proofs.Changes.Change.{made, given, entered, returned, ended, broken_off, left, results_collected, nothing_collected, error_collected}
use Rattle.law_places.proofs.Known.{ChangeAt, Known, changes, false_not_true, next, stays_or_changes}
use Rattle.law_places.proofs.Rows.{HandsOver, Origin, answered_row, ended_row, entered_row, is_ended_in, origin, returned_row}
use Rattle.law_places.proofs.Rows.HandsOver.{results, nothing, error}
use Rattle.law_places.proofs.Rows.Origin.{new, older}
use Rattle.law_places.proofs.ReturnRefusals.{not_refused_at}
use Rattle.law_runs.proofs.Tables.{Installs, Releases, call_passes, failed_accept_keeps, failed_collect_keeps, notice_accept_keeps, return_passes}
use Rattle.law_runs.proofs.Readers.{AnsweredRowAt, EndedRowAt, EnteredRowAt, HasObjects, ReturnedRowAt, made_here, number_of, table_at}
use Rattle.law_runs.proofs.Once.{HandsBack, accept_fails, accepts, answered_by, collected_results, collects}
use Rattle.law_places.proofs.Invocations.{entered_by}
use Rattle.law_runs.proofs.Match.{installed_at_accept, installed_at_collect, only_by_call, only_by_return, returned_now}
use Rattle.law_runs.proofs.Returns.{not_returned_yet}

-- messages of records

message_there : (o : Option Call) (r : Call) → o ≡ Some r → message_in o ≡ message_of r
message_there o r e = ap message_in e

waits_with : (r : Call) → has_arguments r.stage ≡ true → message_of r ≡ Some r.objects
waits_with r e = grind arith

same_request :
    (q : Option Request) (fd gd : Fd) (b d : List ℕ) (x y : List Pass) (n l : ℕ) → q ≡ Some (request.Call fd b x n) →
    q ≡ Some (request.Call gd d y l) → x ≡ y
same_request q fd gd b d x y n l e f = cc

same_return : (q : Option Request) (b d : List ℕ) (x y : List Pass) → q ≡ Some (request.Return b x) → q ≡ Some (request.Return d y) → x ≡ y
same_return q b d x y e f = cc

none_or_some : (o : Option (List Obj)) (objects : List Obj) → o ≡ None → o ≡ Some objects → ⊥
none_or_some o objects e f = cc

ended_empty : (o : Option Call) (x : Errno) → stage_in o ≡ Some (stage.Ended x) → message_in o ≡ None
ended_empty o x e = grind arith

gone_empty : (o : Option Call) → stage_in o ≡ Some stage.Gone → message_in o ≡ None
gone_empty o e = grind arith

-- what puts a message where none was
put_row :
    (m : State) (t : ℕ) (q : Option Request) (a : Answer) (n : State) (o p : Option Call) (objects : List Obj) → Change m t q a n o p →
    message_in o ≡ None → message_in p ≡ Some objects → (o ≡ None) ⊎ (is_returned_in p ≡ true)
put_row m t q a n o p objects (made d rsize fd bytes pass s e f v k w) h g = inl refl
put_row m t q a n o p objects (returned r bytes pass e x f k v) h g = inr refl
put_row m t q a n o p objects (given r u e) h g = absurd (grind arith)
put_row m t q a n o p objects (entered r e f k v w) h g = absurd (grind arith)
put_row m t q a n o p objects (ended r x e) h g = absurd (grind arith)
put_row m t q a n o p objects (broken_off r u e f d) h g = absurd (grind arith)
put_row m t q a n o p objects (left r l e) h g =
    absurd (none_or_some _ objects (gone_empty (Some (gone_call_at r.stage r)) (ap (λ (s : CallStage). Some s) (gone_stage r.stage r l))) g)
put_row m t q a n o p objects (results_collected r bytes os e f k v w z) h g = absurd (grind arith)
put_row m t q a n o p objects (nothing_collected r bytes os e f k v w z) h g = absurd (grind arith)
put_row m t q a n o p objects (error_collected r x e f k v w) h g = absurd (grind arith)

has_message : Option Call → Bool
has_message o = is_some (message_in o)

without_message : (o : Option Call) → message_in o ≡ None → has_message o ≡ false
unfolding has_message
without_message o e = ap is_some e

with_message : (o : Option Call) (objects : List Obj) → message_in o ≡ Some objects → has_message o ≡ true
unfolding has_message
with_message o objects e = ap is_some e

record IsRecord (o : Option Call) : Type 0 where
  call : Call
  there : o ≡ Some call

record_with : (o : Option Call) (objects : List Obj) → message_in o ≡ Some objects → IsRecord o
record_with None objects e = absurd (cc e)
record_with (Some r) objects e = record { call = r; there = refl }

not_returned : (o : Option Call) → message_in o ≡ None → is_returned_in o ≡ false
not_returned o e = grind arith

not_at_both : (o : Option Call) (s c : CallStage) → stage_in o ≡ Some s → stage_in o ≡ Some c → (s ≡ c → ⊥) → ⊥
not_at_both o s c e f h = h (cc)

ended_not_answered : (o : Option Call) (x : Errno) → stage_in o ≡ Some (stage.Ended x) → is_answered_in o ≡ true → ⊥
ended_not_answered o x e f = grind arith

gone_not_answered : (o : Option Call) → stage_in o ≡ Some stage.Gone → is_answered_in o ≡ true → ⊥
gone_not_answered o e f = grind arith

some_same : (a b : List Obj) → Some a ≡ Some b → a ≡ b
some_same a b e = cc

returned_message : (r : Call) (bytes : List ℕ) (objects : List Obj) → r.stage ≡ stage.Returned bytes objects → message_of r ≡ Some objects
returned_message r bytes objects e = grind arith

ended_message : (r : Call) (x : Errno) (objects : List Obj) → r.stage ≡ stage.Ended x → message_of r ≡ Some objects → ⊥
ended_message r x objects e f = grind arith

answered_empty : (o : Option Call) → is_answered_in o ≡ true → message_in o ≡ None
answered_empty o e = grind arith

same_descriptors :
    (a : Answer) (c d entry entry' cookie cookie' : ℕ) (bytes bytes' : List ℕ) (fds fds' : List Fd) →
    a ≡ answer.Entered c entry cookie bytes fds → a ≡ answer.Entered d entry' cookie' bytes' fds' → fds ≡ fds'
same_descriptors a c d entry entry' cookie cookie' bytes bytes' fds fds' e f = cc

entered_no_failure :
    (c entry cookie : ℕ) (bytes : List ℕ) (fds : List Fd) (e : Errno) → answer.Entered c entry cookie bytes fds ≡ answer.Failure e → ⊥
entered_no_failure c entry cookie bytes fds e f = cc

results_no_failure : (bytes : List ℕ) (fds : List Fd) (grown : Bool) (e : Errno) → answer.Results bytes fds grown ≡ answer.Failure e → ⊥
results_no_failure bytes fds grown e f = cc

-- a message is the objects that the call's record holds
-- what becomes of a message by one change
fate_row :
    (m : State) (t : ℕ) (q : Option Request) (a : Answer) (n : State) (o p : Option Call) (objects : List Obj) → Change m t q a n o p →
    message_in o ≡ Some objects →
    (message_in p ≡ Some objects)
    ⊎ ((is_entered_in p ≡ true)
    ⊎ ((is_answered_in p ≡ true) ⊎ ((is_ended_in p ≡ true) ⊎ (stage_in p ≡ Some stage.Gone))))
fate_row m t q a n o p objects (made d rsize fd bytes pass s e f v k w) h = absurd (grind arith)
fate_row m t q a n o p objects (given r u e) h = inl (grind arith)
fate_row m t q a n o p objects (entered r e f k v w) h = inr (inl refl)
fate_row m t q a n o p objects (returned r bytes pass e x f k v) h = absurd (grind arith)
fate_row m t q a n o p objects (ended r x e) h = inr (inr (inr (inl refl)))
fate_row m t q a n o p objects (broken_off r u e f d) h = inr (inr (inr (inl refl)))
fate_row m t q a n o p objects (left r l e) h = inr (inr (inr (inr (ap (λ (s : CallStage). Some s) (gone_stage r.stage r l)))))
fate_row m t q a n o p objects (results_collected r bytes os e f k v w z) h = inr (inr (inl refl))
fate_row m t q a n o p objects (nothing_collected r bytes os e f k v w z) h = inr (inr (inl refl))
fate_row m t q a n o p objects (error_collected r x e f k v w) h = inr (inr (inl refl))

module _ (m : State) (xs : List Turn) (k : Known m xs) where
  -- a Call that makes a call

  record_made :
      (i c : ℕ) (x : Turn) (r : Call) → slice_get xs i ≡ Some x → record_of (state_at m xs i) c ≡ None →
      record_of (state_at m xs (i + 1)) c ≡ Some r → HasObjects m xs c i x r
  record_made i c x r e b a =
      go (stays_or_changes m xs k c i x e)
    where
      by : Origin (state_at m xs i) x.thread x.request (answer_at m xs i x) (record_of (state_at m xs i) c) r → HasObjects m xs c i x r
      by (new g row) = made_here m xs c i x r e g a row
      by (older s g h) = absurd (cc)

      go :
          (record_of (state_at m xs (i + 1)) c ≡ record_of (state_at m xs i) c)
          ⊎ ChangeAt m xs i x (record_of (state_at m xs i) c) (record_of (state_at m xs (i + 1)) c) →
          HasObjects m xs c i x r
      go (inl same) = absurd (cc)
      go (inr w) = by (origin _ _ _ _ _ _ _ r w a)

  call_puts : (i c : ℕ) (x : Turn) (makes : MakesCall m xs i x c) → IsPut m xs i x c makes.pass
  call_puts i c x makes =
      record {
        objects = objects_passed (table_at m xs i x) makes.pass;
        named = (call_passes (state_at m xs i) x.thread c makes.rsize x.request makes.fd makes.bytes makes.pass makes.request makes.answer).named;
        on_the_way =
            message_there _ makes.made makes.there
            ∙ waits_with makes.made makes.waits
            ∙ ap (λ (os : List Obj). Some os) (go (record_made i c x makes.made makes.turn makes.none_before makes.there));
      }
    where
      go : HasObjects m xs c i x makes.made → makes.made.objects ≡ objects_passed (table_at m xs i x) makes.pass
      go h =
          h.objects
          ∙ ap (λ (pass : List Pass). objects_passed (table_at m xs i x) pass)
          (same_request x.request h.makes.fd makes.fd h.makes.bytes makes.bytes h.makes.pass makes.pass h.makes.rsize makes.rsize h.makes.request makes.request)

  -- a Return to a client

  becomes_returned : (i c : ℕ) (x : Turn) → ReturnsCall m xs i x c → BecomesReturned m xs c i
  becomes_returned i c x h =
      record {
        within = slice_get_within xs i x h.turn;
        before = not_returned_yet _ x.thread h.was_entered;
        after = returned_now _ h.bytes h.objects h.is_returned;
      }

  return_puts : (i c : ℕ) (x : Turn) (returns : ReturnsCall m xs i x c) → IsPut m xs i x c returns.pass
  return_puts i c x h =
      record {
        objects = objects_passed (table_at m xs i x) h.pass;
        named = (return_passes (state_at m xs i) x.thread x.request h.bytes h.pass h.is_return.asked (not_refused_at m xs k i x h.bytes h.pass h.turn h.is_return)).named;
        on_the_way = go (becomes_returned i c x h);
      }
    where
      by :
          ReturnedRowAt m xs i x (record_of (state_at m xs i) c) (record_of (state_at m xs (i + 1)) c) →
          in_transit (state_at m xs (i + 1)) c ≡ Some (objects_passed (table_at m xs i x) h.pass)
      by w =
          ap message_in w.after
          ∙ ap (λ (pass : List Pass). Some (objects_passed (table_at m xs i x) pass)) (same_return x.request w.bytes h.bytes w.pass h.pass w.asked h.is_return.asked)

      go : BecomesReturned m xs c i → in_transit (state_at m xs (i + 1)) c ≡ Some (objects_passed (table_at m xs i x) h.pass)
      go b = by (returned_row _ _ _ _ _ _ _ (changes m xs k c i x is_returned_in false true h.turn false_not_true b.before b.after) b.after)

  -- and nothing else

  only_put :
      (i c : ℕ) (x : Turn) (objects : List Obj) → slice_get xs i ≡ Some x → in_transit (state_at m xs i) c ≡ None →
      in_transit (state_at m xs (i + 1)) c ≡ Some objects → Puts m xs i x c
  only_put i c x objects e b a =
      go (record_with _ objects a)
      (put_row _ _ _ _ _ _ _ objects (changes m xs k c i x has_message false true e false_not_true (without_message _ b) (with_message _ objects a)) b a)
    where
      makes : MakesCall m xs i x c → Puts m xs i x c
      makes h = by_call h (call_puts i c x h)

      returns : ReturnsCall m xs i x c → Puts m xs i x c
      returns h = by_return h (return_puts i c x h)

      go :
          IsRecord (record_of (state_at m xs (i + 1)) c) →
          (record_of (state_at m xs i) c ≡ None) ⊎ (is_returned_in (record_of (state_at m xs (i + 1)) c) ≡ true) → Puts m xs i x c
      go r (inl h) = makes (only_by_call m xs k i c x r.call e h r.there)
      go r (inr h) =
          returns
          (only_by_return m xs k i c x e
          (record { within = slice_get_within xs i x e; before = not_returned _ b; after = h }))

  -- what becomes of it

  are_installed :
      (i p : ℕ) (fds : List Fd) (objects : List Obj) → Installs (state_at m xs i) (state_at m xs (i + 1)) p fds objects →
      AreInstalled m xs i p fds objects
  are_installed i p fds objects h =
      record { were_free = h.were_free; name_them = h.name_them; lowest = h.lowest; others = h.others; elsewhere = h.elsewhere }

  -- what is entered is installed
  brought_at_accept :
      (i c : ℕ) (x : Turn) → slice_get xs i ≡ Some x →
      (w : EnteredRowAt m xs i x (record_of (state_at m xs i) c) (record_of (state_at m xs (i + 1)) c)) →
      AreBrought m xs i x c (new_descriptors (table_at m xs i x) w.call.objects)
  brought_at_accept i c x e w =
      record {
        objects = w.call.objects;
        before = message_there _ w.call w.before ∙ waits_with w.call (ap has_arguments w.was_given);
        after = ap message_in w.after;
        installed = are_installed i (process_at m xs i x.thread) _ w.call.objects (installed_at_accept m xs k i c x _ _ e refl w);
      }

  -- and so are results that are collected
  brought_at_collect :
      (i c : ℕ) (x : Turn) (bytes : List ℕ) (fds : List Fd) (grown : Bool) → slice_get xs i ≡ Some x →
      is_answered_in (record_of (state_at m xs (i + 1)) c) ≡ true →
      (a : AnsweredRowAt m xs i x (record_of (state_at m xs i) c) (record_of (state_at m xs (i + 1)) c)) →
      (g : HandsBack (state_at m xs i) x.thread a.call bytes fds grown) → AreBrought m xs i x c fds
  brought_at_collect i c x bytes fds grown e after a g =
      subst (AreBrought m xs i x c) (sym g.descriptors)
      (record {
        objects = g.objects;
        before = message_there _ a.call a.before ∙ returned_message a.call bytes g.objects g.returned;
        after = answered_empty _ after;
        installed = are_installed i (process_at m xs i x.thread) _ g.objects (installed_at_collect m xs k i c x bytes fds grown e a g);
      })

  brought_fate :
      (i c : ℕ) (x : Turn) (objects : List Obj) (fds : List Fd) → in_transit (state_at m xs i) c ≡ Some objects →
      Brings m xs i x c fds → AreBrought m xs i x c fds → Fate m xs i x c objects
  brought_fate i c x objects fds b g h =
      subst (Fate m xs i x c) (some_same _ _ (sym h.before ∙ b)) (installed fds g h.installed h.after)

  entered_fate :
      (i c : ℕ) (x : Turn) (objects : List Obj) → slice_get xs i ≡ Some x → in_transit (state_at m xs i) c ≡ Some objects →
      EnteredRowAt m xs i x (record_of (state_at m xs i) c) (record_of (state_at m xs (i + 1)) c) → Fate m xs i x c objects
  entered_fate i c x objects e b w =
      brought_fate i c x objects fds b (by_accept (entry_of door) (cookie_of door) w.call.bytes answers) (brought_at_accept i c x e w)
    where
      door : Option Door
      door = door_of (state_at m xs i) w.call.door

      fds : List Fd
      fds = new_descriptors (table_at m xs i x) w.call.objects

      answers : answer_at m xs i x ≡ answer.Entered c (entry_of door) (cookie_of door) w.call.bytes fds
      answers =
          w.answers
          ∙ ap (λ (d : ℕ). answer.Entered d (entry_of door) (cookie_of door) w.call.bytes fds) (number_of (state_at m xs i) c w.call w.before)

  -- what is collected is installed, or dropped where there is no room for it
  answered_fate :
      (i c : ℕ) (x : Turn) (objects : List Obj) → slice_get xs i ≡ Some x → in_transit (state_at m xs i) c ≡ Some objects →
      is_answered_in (record_of (state_at m xs (i + 1)) c) ≡ true →
      AnsweredRowAt m xs i x (record_of (state_at m xs i) c) (record_of (state_at m xs (i + 1)) c) → Fate m xs i x c objects
  answered_fate i c x objects e b after a = go a.told a.answers a.hands_over
    where
      collect : IsCollect m xs i x c
      collect = record { no_request = a.no_request; calling = a.calling ∙ ap (λ (d : ℕ). is.Calling d) (number_of (state_at m xs i) c a.call a.before) }

      brings_none : (d : Answer) → answer_at m xs i x ≡ d → (er : Errno) → d ≡ answer.Failure er → (fds : List Fd) → Brings m xs i x c fds → ⊥
      brings_none d f er g fds (by_accept entry cookie bytes h) = entered_no_failure c entry cookie bytes fds er (sym h ∙ f ∙ g)
      brings_none d f er g fds (by_collect bytes grown w h) = results_no_failure bytes fds grown er (sym h ∙ f ∙ g)

      back :
          (bytes : List ℕ) (fds : List Fd) (grown : Bool) → answer_at m xs i x ≡ answer.Results bytes fds grown →
          HandsBack (state_at m xs i) x.thread a.call bytes fds grown → Fate m xs i x c objects
      back bytes fds grown f g =
          brought_fate i c x objects fds b (by_collect bytes grown collect f) (brought_at_collect i c x bytes fds grown e after a g)

      go : (d : Answer) → answer_at m xs i x ≡ d → HandsOver (state_at m xs i) x.thread a.call d → Fate m xs i x c objects
      go d f (results bytes os s room) =
          back bytes (new_descriptors (table_at m xs i x) os) (nat_lt a.call.rsize (length bytes)) f
          (record { objects = os; returned = s; room = room; descriptors = refl; grown = refl })
      go d f (nothing bytes os s room) = dropped (brings_none (answer.Failure EMFILE) f EMFILE refl) (answered_empty _ after)
      go d f (error er s) = absurd (ended_message a.call er objects s (sym (message_there _ a.call a.before) ∙ b))

  -- what ends is dropped
  ended_fate :
      (i c : ℕ) (x : Turn) (objects : List Obj) → slice_get xs i ≡ Some x →
      EndedRowAt m xs i x (record_of (state_at m xs i) c) (record_of (state_at m xs (i + 1)) c) → Fate m xs i x c objects
  ended_fate i c x objects e w = dropped none (ended_empty _ w.error after)
    where
      after : stage_in (record_of (state_at m xs (i + 1)) c) ≡ Some (stage.Ended w.error)
      after = ap stage_in w.after ∙ ap (λ (s : CallStage). Some s) w.goes_on.stage

      not_accepted : Enters m xs i x c → ⊥
      not_accepted h = not_at_both _ (stage.Ended w.error) (stage.Entered (tid x.thread)) after h.stage_after (λ z. cc)

      not_collected : BecomesAnswered m xs c i → ⊥
      not_collected h = ended_not_answered _ w.error after h.after

      none : (fds : List Fd) → Brings m xs i x c fds → ⊥
      none fds (by_accept entry cookie bytes h) = not_accepted (accepts m xs k i c entry cookie x bytes fds e h)
      none fds (by_collect bytes grown h f) = not_collected (collects m xs k i c x e h)

  -- and what its caller leaves
  gone_fate :
      (i c : ℕ) (x : Turn) (objects : List Obj) → slice_get xs i ≡ Some x →
      stage_in (record_of (state_at m xs (i + 1)) c) ≡ Some stage.Gone → Fate m xs i x c objects
  gone_fate i c x objects e after = dropped none (gone_empty _ after)
    where
      not_accepted : Enters m xs i x c → ⊥
      not_accepted h = not_at_both _ stage.Gone (stage.Entered (tid x.thread)) after h.stage_after (λ z. cc)

      not_collected : BecomesAnswered m xs c i → ⊥
      not_collected h = gone_not_answered _ after h.after

      none : (fds : List Fd) → Brings m xs i x c fds → ⊥
      none fds (by_accept entry cookie bytes h) = not_accepted (accepts m xs k i c entry cookie x bytes fds e h)
      none fds (by_collect bytes grown h f) = not_collected (collects m xs k i c x e h)

  fate :
      (i c : ℕ) (x : Turn) (objects : List Obj) → slice_get xs i ≡ Some x → in_transit (state_at m xs i) c ≡ Some objects →
      Fate m xs i x c objects
  fate i c x objects e b = go (stays_or_changes m xs k c i x e)
    where
      by :
          ChangeAt m xs i x (record_of (state_at m xs i) c) (record_of (state_at m xs (i + 1)) c) →
          (in_transit (state_at m xs (i + 1)) c ≡ Some objects)
          ⊎ ((is_entered_in (record_of (state_at m xs (i + 1)) c) ≡ true)
          ⊎ ((is_answered_in (record_of (state_at m xs (i + 1)) c) ≡ true)
          ⊎ ((is_ended_in (record_of (state_at m xs (i + 1)) c) ≡ true)
          ⊎ (stage_in (record_of (state_at m xs (i + 1)) c) ≡ Some stage.Gone)))) →
          Fate m xs i x c objects
      by w (inl h) = stay h
      by w (inr (inl h)) = entered_fate i c x objects e b (entered_row _ _ _ _ _ _ _ w h)
      by w (inr (inr (inl h))) = answered_fate i c x objects e b h (answered_row _ _ _ _ _ _ _ w h)
      by w (inr (inr (inr (inl h)))) = ended_fate i c x objects e (ended_row _ _ _ _ _ _ _ w h)
      by w (inr (inr (inr (inr h)))) = gone_fate i c x objects e h

      go :
          (record_of (state_at m xs (i + 1)) c ≡ record_of (state_at m xs i) c)
          ⊎ ChangeAt m xs i x (record_of (state_at m xs i) c) (record_of (state_at m xs (i + 1)) c) →
          Fate m xs i x c objects
      go (inl same) = stay (ap message_in same ∙ b)
      go (inr w) = by w (fate_row _ _ _ _ _ _ _ objects w b)

  -- what is brought was in transit, and is installed

  brought : (i c : ℕ) (x : Turn) (fds : List Fd) → slice_get xs i ≡ Some x → Brings m xs i x c fds → AreBrought m xs i x c fds
  brought i c x fds e (by_accept entry cookie bytes h) = go (accepts m xs k i c entry cookie x bytes fds e h)
    where
      row :
          EnteredRowAt m xs i x (record_of (state_at m xs i) c) (record_of (state_at m xs (i + 1)) c) → AreBrought m xs i x c fds
      row w = subst (AreBrought m xs i x c) (same_descriptors _ _ _ _ _ _ _ _ _ _ _ w.answers h) (brought_at_accept i c x e w)

      go : Enters m xs i x c → AreBrought m xs i x c fds
      go n = row (entered_by m xs k i c x e n.entered)
  brought i c x fds e (by_collect bytes grown w f) = go (collects m xs k i c x e w)
    where
      go : BecomesAnswered m xs c i → AreBrought m xs i x c fds
      go b =
          brought_at_collect i c x bytes fds grown e b.after (answered_by m xs k i c x e b)
          (collected_results m xs k i c x bytes fds grown e w f (answered_by m xs k i c x e b))

  -- what brings nothing

  accept_keeps :
      (i c : ℕ) (x : Turn) → slice_get xs i ≡ Some x → answer_at m xs i x ≡ answer.EnterFailed c → (p : ℕ) → IsSameTable m xs i p
  accept_keeps i c x e f p fd = go (accept_fails m xs k i c x e f)
    where
      go : FailsToEnter m xs i x c → object_at (state_at m xs (i + 1)) p fd ≡ object_at (state_at m xs i) p fd
      go h =
          ap (λ n. object_at n p fd) (next m xs k i x e)
          ∙ failed_accept_keeps (state_at m xs i) x.thread c c x.request h.no_request h.was_given f p fd

  notice_keeps :
      (i c entry cookie : ℕ) (x : Turn) → slice_get xs i ≡ Some x → answer_at m xs i x ≡ answer.EnteredNotice c entry cookie →
      (p : ℕ) → IsSameTable m xs i p
  notice_keeps i c entry cookie x e f p fd = go (subst (IsToldBy (state_at m xs i) x.thread x.request) f (k.keeps i x e).told)
    where
      go :
          (x.request ≡ None) × (state_of (state_at m xs i) x.thread ≡ is.Given (item.Notice c)) →
          object_at (state_at m xs (i + 1)) p fd ≡ object_at (state_at m xs i) p fd
      go h = ap (λ n. object_at n p fd) (next m xs k i x e) ∙ notice_accept_keeps (state_at m xs i) x.thread c x.request h.0 h.1 p fd

  collect_keeps :
      (i c : ℕ) (x : Turn) (y : Errno) → slice_get xs i ≡ Some x → IsCollect m xs i x c → answer_at m xs i x ≡ answer.Failure y →
      (p : ℕ) → IsSameTable m xs i p
  collect_keeps i c x y e h f p fd =
      ap (λ n. object_at n p fd) (next m xs k i x e)
      ∙ failed_collect_keeps (state_at m xs i) x.thread c x.request y h.no_request h.calling f p fd

  -- descriptors with release

  are_released :
      (i : ℕ) (x : Turn) (pass : List Pass) → slice_get xs i ≡ Some x →
      Releases (state_at m xs i) (step (state_at m xs i) x.thread x.request).state (process_at m xs i x.thread) pass →
      AreReleased m xs i (process_at m xs i x.thread) pass
  are_released i x pass e h =
      record {
        released = λ fd f. ap (λ n. object_at n (process_at m xs i x.thread) fd) (next m xs k i x e) ∙ h.released fd f;
        others = λ fd f. ap (λ n. object_at n (process_at m xs i x.thread) fd) (next m xs k i x e) ∙ h.others fd f;
        elsewhere = λ q other fd. ap (λ n. object_at n q fd) (next m xs k i x e) ∙ h.elsewhere q other fd;
      }

  released :
      (i : ℕ) (x : Turn) (pass : List Pass) → slice_get xs i ≡ Some x → Passes m xs i x pass →
      AreReleased m xs i (process_at m xs i x.thread) pass
  released i x pass e (at_call fd bytes rsize c f g) =
      are_released i x pass e (call_passes (state_at m xs i) x.thread c rsize x.request fd bytes pass f g).releases
  released i x pass e (at_return bytes h) =
      are_released i x pass e (return_passes (state_at m xs i) x.thread x.request bytes pass h.asked (not_refused_at m xs k i x bytes pass e h)).releases

  pub no_loss_holds : NoLoss m xs
  no_loss_holds =
      record {
        none_at_first = λ c. ap message_in (k.no_call c);
        call_puts = call_puts;
        return_puts = return_puts;
        only_put = only_put;
        fate = fate;
        brought = brought;
        accept_keeps = accept_keeps;
        notice_keeps = notice_keeps;
        collect_keeps = collect_keeps;
        released = released;
      }
