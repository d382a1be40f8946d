-- What becomes of a core where callers are interrupted, threads end, and doors become invalid, all at one event. It keeps what
-- holds of a core.
use Rattle.std.specs.Prelude.{ℕ, ◌≡◌, ◌⊎◌, ◌&&◌, ◌||◌, [], Option, Bool, not, true, false, if◌then◌else◌, Some, None, is_some, option_map}
use Rattle.std.proofs.Common.{refl, sym, ap, ◌∙◌, ⊎_elim}
use native.Mathlib.Omega.{arith}
use Rattle.dk_base.specs.declared.object.Item.TheVariants as item
use Rattle.spec_kernel.specs.Types.{Call, Inv, Item, NoticeStage, ThreadState}
use Rattle.spec_records.specs.declared.record.ThreadState.TheVariants as is
use Rattle.spec_records.specs.declared.record.CallStage.TheVariants as stage
use Rattle.spec_records.specs.declared.record.NoticeStage.TheVariants as notice
use Rattle.spec_records.specs.declared.pool.TheConstants.{LOST_DOOR}
use Rattle.spec_records.specs.Words.{Leaving, cancelled_invocation, interrupted_state, is_left, is_live, is_private_in, is_unborn_in, is_valid_in, left_call, no_cancel_of, tid}
use Rattle.law_states.specs.Core.{Core, caller_number, door_in, ended_in, has_arguments, is_outside, is_underway, live_in}
use Rattle.law_states.specs.Coherent.{AreAtDoors, AreCalls, AreDoors, AreInvocations, AreNoticesAtDoors, AreNoticesEntered, AreNoticesGiven, AreServers, AreWaits, IsCoherent, is_unfit}
use Rattle.law_states.specs.Records.{item_in, owner_in, stage_in}

-- calls

-- what the event leaves of every call
pub record KeepsFields (r x : Call) : Type 0 where
  pub number : x.number ≡ r.number
  pub caller : x.caller ≡ r.caller
  pub door : x.door ≡ r.door
  pub no_cancel : x.no_cancel ≡ r.no_cancel

pub left_fields : (who : Leaving) (r : Call) → KeepsFields r (left_call who r)
left_fields who r = record { number = grind arith; caller = grind arith; door = grind arith; no_cancel = grind arith }

-- a call after the event, of which these facts alone are seen below
unfoldable pub left : Leaving → Call → Call
left who r = left_call who r

module _ (who : Leaving) (r : Call) where
  left_number : (left who r).number ≡ r.number
  unfolding left
  left_number = grind arith

  left_caller : (left who r).caller ≡ r.caller
  unfolding left
  left_caller = grind arith

  left_door : (left who r).door ≡ r.door
  unfolding left
  left_door = grind arith

  left_no_cancel : (left who r).no_cancel ≡ r.no_cancel
  unfolding left
  left_no_cancel = grind arith

  left_live : is_live (left who r).stage ≡ (is_live r.stage && not (who.ends r.caller.0))
  unfolding left
  left_live = grind arith

  -- a call that waits after the event did so before it
  was_queued : (left who r).stage ≡ stage.Queued → (r.stage ≡ stage.Queued) × (who.loses r.door ≡ false)
  unfolding left
  was_queued e = (grind arith, grind arith)

  still_given :
      (u : ℕ) → r.stage ≡ stage.Given (tid u) → is_left who r ≡ false → who.ends u ≡ false →
      (left who r).stage ≡ stage.Given (tid u)
  unfolding left
  still_given u e f g = grind arith

  -- a call is abandoned where its caller leaves it after a thread entered it
  still_entered :
      (u : ℕ) → r.stage ≡ stage.Entered (tid u) → (left who r).abandoned ≡ false → who.ends u ≡ false →
      (left who r).stage ≡ stage.Entered (tid u)
  unfolding left
  still_entered u e f g = grind arith

  was_not_abandoned : (left who r).abandoned ≡ false → r.abandoned ≡ false
  unfolding left
  was_not_abandoned e = grind arith

  still_underway : is_underway (left who r).stage ≡ true → (is_underway r.stage ≡ true) × ((left who r).abandoned ≡ r.abandoned)
  unfolding left
  still_underway e = (grind arith, grind arith)

  -- only calls that wait for a thread have arguments
  left_arguments :
      has_arguments (left who r).stage ≡ false → (has_arguments r.stage ≡ false → (r.bytes ≡ []) × (r.objects ≡ [])) →
      ((left who r).bytes ≡ []) × ((left who r).objects ≡ [])
  unfolding left
  left_arguments e g = (grind (arith, g), grind (arith, g))

-- a call that a thread serves after the event did so before it
module _ (who : Leaving) (u : ℕ) (r : Call) where
  was_given : (left who r).stage ≡ stage.Given (tid u) → (r.stage ≡ stage.Given (tid u)) × (who.ends u ≡ false) × (is_left who r ≡ false)
  unfolding left
  was_given e = (grind arith, grind arith, grind arith)

  was_entered : (left who r).stage ≡ stage.Entered (tid u) → (r.stage ≡ stage.Entered (tid u)) × (who.ends u ≡ false)
  unfolding left
  was_entered e = (grind arith, grind arith)

-- notices

-- the stage of a notice of door d, after the event
abbrev pub left_notice_stage : Leaving → ℕ → NoticeStage → NoticeStage
left_notice_stage who d notice.Waiting = if who.loses d then notice.Dropped else notice.Waiting
left_notice_stage who d (notice.Given u) = if who.ends u.0 then notice.Over else notice.Given u
left_notice_stage who d (notice.Entered u) = if who.ends u.0 then notice.Over else notice.Entered u
left_notice_stage who d s = s

-- threads

-- the state of a thread that is interrupted, where it is
abbrev pub marked : Bool → ThreadState → ThreadState
marked b s = if b then interrupted_state s else s

marked_outside : (b : Bool) (s : ThreadState) → is_outside (marked b s) ≡ is_outside s
marked_outside true s = grind arith
marked_outside false s = refl

marked_unfit : (b : Bool) (s : ThreadState) → is_unfit (marked b s) ≡ is_unfit s
marked_unfit true s = grind arith
marked_unfit false s = refl

-- a mark changes no state but that of a wait at a port
pub marked_same : (b : Bool) (s : ThreadState) → interrupted_state s ≡ s → marked b s ≡ s
marked_same true s e = e
marked_same false s e = refl

-- thread u after the event, by its state and its invocation
pub data LeftThread (k : Core) (who : Leaving) (now u : ℕ) (s : ThreadState) (v : Option Inv) : Type 0 where
  ends : who.ends u ≡ true → s ≡ is.Done → v ≡ None → LeftThread k who now u s v
  -- the caller leaves of the call that it was given
  parks :
      (r : Call) → who.ends u ≡ false → k.call r.number ≡ Some r → r.stage ≡ stage.Given (tid u) → is_left who r ≡ true →
      s ≡ is.Idle now → v ≡ None → LeftThread k who now u s v
  -- the caller leaves of the call that it has entered
  cancels :
      (r : Call) → who.ends u ≡ false → k.call r.number ≡ Some r → r.stage ≡ stage.Entered (tid u) → is_left who r ≡ true →
      r.no_cancel ≡ false → s ≡ marked (who.interrupts u) (k.role u) → v ≡ option_map cancelled_invocation (k.serves u) → LeftThread k who now u s v
  stays :
      who.ends u ≡ false → ((r : Call) → k.call r.number ≡ Some r → r.stage ≡ stage.Given (tid u) → is_left who r ≡ false) →
      s ≡ marked (who.interrupts u) (k.role u) → v ≡ k.serves u → LeftThread k who now u s v

item-cancelled : (v : Option Inv) → item_in (option_map cancelled_invocation v) ≡ item_in v
item-cancelled None = refl
item-cancelled (Some v) = refl

pub given_role :
    (k : Core) → IsCoherent k → (u : ℕ) (r : Call) → k.call r.number ≡ Some r → r.stage ≡ stage.Given (tid u) →
    k.role u ≡ is.Given (item.Call r.number)
given_role k h u r e f = h.waits.given r.number u (ap stage_in e ∙ ap (λ s. Some s) f)

pub entered_item :
    (k : Core) → IsCoherent k → (u : ℕ) (r : Call) → k.call r.number ≡ Some r → r.stage ≡ stage.Entered (tid u) →
    item_in (k.serves u) ≡ Some (item.Call r.number)
entered_item k h u r e f = h.invocations.entered r.number u (ap stage_in e ∙ ap (λ s. Some s) f)

-- a thread that was given a call has no invocation
given_outside : (k : Core) → IsCoherent k → (u : ℕ) (i : Item) → k.role u ≡ is.Given i → k.serves u ≡ None
given_outside k h u i e = h.servers.outside u (ap is_outside e)

-- the states of a thread that waits for an item
abbrev is_held : ThreadState → Bool
is_held (is.Given i) = true
is_held (is.Calling c) = true
is_held _ = false

marked_idle : (b : Bool) (s : ThreadState) (since : ℕ) → marked b s ≡ is.Idle since → s ≡ is.Idle since
marked_idle true s since e = grind arith
marked_idle false s since e = e

marked_held : (b : Bool) (s : ThreadState) → is_held (marked b s) ≡ true → s ≡ marked b s
marked_held true s e = grind arith
marked_held false s e = refl

module _ (k : Core) (who : Leaving) (now u : ℕ) (s : ThreadState) (v : Option Inv) (h : IsCoherent k) where
  -- a thread that does not end and is not parked has its state, but for a mark, and serves what it served
  pub record Was : Type 0 where
    pub stays : who.ends u ≡ false
    pub state : s ≡ marked (who.interrupts u) (k.role u)
    pub item : item_in (k.serves u) ≡ item_in v

  -- a thread that waits for an item or serves one after the event
  was : LeftThread k who now u s v → is_held s || is_some v ≡ true → Was
  was (ends a b c) e = absurd (grind arith)
  was (parks x a b c d f g) e = absurd (grind arith)
  was (cancels x a b c d f g j) e = record { stays = a; state = g; item = sym (ap item_in j ∙ item-cancelled (k.serves u)) }
  was (stays a b c d) e = record { stays = a; state = c; item = sym (ap item_in d) }

  was_held : Was → is_held s ≡ true → k.role u ≡ s
  was_held w e = marked_held (who.interrupts u) (k.role u) (ap is_held (sym w.state) ∙ e) ∙ sym w.state

  still_is : Was → (z : ThreadState) → k.role u ≡ z → interrupted_state z ≡ z → s ≡ z
  still_is w z e f = w.state ∙ ap (marked (who.interrupts u)) e ∙ marked_same (who.interrupts u) z f

  -- and a thread that was given no call that its caller leaves
  still :
      LeftThread k who now u s v → who.ends u ≡ false →
      ((r : Call) → k.call r.number ≡ Some r → r.stage ≡ stage.Given (tid u) → is_left who r ≡ false) → Was
  still (ends a b c) e l = absurd (grind arith)
  still (parks x a b c d f g) e l = absurd (grind (arith, l x b c))
  still (cancels x a b c d f g j) e l = record { stays = a; state = g; item = sym (ap item_in j ∙ item-cancelled (k.serves u)) }
  still (stays a b c d) e l = record { stays = a; state = c; item = sym (ap item_in d) }

  -- as one that was given no call at all
  still_elsewhere : LeftThread k who now u s v → who.ends u ≡ false → ((c : ℕ) → k.role u ≡ is.Given (item.Call c) → ⊥) → Was
  still_elsewhere p e l = still p e (λ r f g. absurd (l r.number (given_role k h u r f g)))

  -- of a thread that is given a call after the event the caller does not leave
  given_not_left :
      LeftThread k who now u s v → (r : Call) → k.call r.number ≡ Some r → r.stage ≡ stage.Given (tid u) → s ≡ is.Given (item.Call r.number) →
      is_left who r ≡ false
  given_not_left (ends a b c) r e f g = absurd (grind arith)
  given_not_left (parks x a b c d i j) r e f g = absurd (grind arith)
  given_not_left (cancels x a b c d i j l) r e f g =
      absurd (grind (arith, given_outside k h u (item.Call r.number) (given_role k h u r e f), entered_item k h u x b c))
  given_not_left (stays a b c d) r e f g = b r e f

  -- a thread that waits for a call and does not end waits on
  pub still_calling : LeftThread k who now u s v → (c : ℕ) → k.role u ≡ is.Calling c → who.ends u ≡ false → s ≡ is.Calling c
  still_calling p c e f = still_is (still_elsewhere p f (λ d g. grind arith)) (is.Calling c) e refl

  -- one that serves an item and does not end serves it still
  still_serves : LeftThread k who now u s v → (i : Item) → item_in (k.serves u) ≡ Some i → who.ends u ≡ false → item_in v ≡ Some i
  still_serves p i e f = sym (still_elsewhere p f (λ d g. grind (arith, given_outside k h u (item.Call d) g))).item ∙ e

  still_outside : LeftThread k who now u s v → is_outside s ≡ true → v ≡ None
  still_outside (ends a b c) e = c
  still_outside (parks x a b c d f g) e = g
  still_outside (cancels x a b c d f g j) e = j ∙ ap (option_map cancelled_invocation) (h.servers.outside u (sym (ap is_outside g ∙ marked_outside (who.interrupts u) (k.role u)) ∙ e))
  still_outside (stays a b c d) e = d ∙ h.servers.outside u (sym (ap is_outside c ∙ marked_outside (who.interrupts u) (k.role u)) ∙ e)

  still_fit : LeftThread k who now u s v → is_unfit s ≡ false
  still_fit (ends a b c) = ap is_unfit b
  still_fit (parks x a b c d f g) = ap is_unfit f
  still_fit (cancels x a b c d f g j) = ap is_unfit g ∙ marked_unfit (who.interrupts u) (k.role u) ∙ h.has_fit_state u
  still_fit (stays a b c d) = ap is_unfit c ∙ marked_unfit (who.interrupts u) (k.role u) ∙ h.has_fit_state u

  pub ended_now : LeftThread k who now u s v → who.ends u ≡ true → s ≡ is.Done
  ended_now (ends a b c) e = b
  ended_now (parks x a b c d f g) e = absurd (grind arith)
  ended_now (cancels x a b c d f g j) e = absurd (grind arith)
  ended_now (stays a b c d) e = absurd (grind arith)

  -- one that is idle after the event was so, or was given a call, and so is bound to no door or to one that is there
  idle_not_lost : LeftThread k who now u s v → (since : ℕ) → s ≡ is.Idle since → k.bound u ≡ Some LOST_DOOR → ⊥
  idle_not_lost (ends a b c) since e f = absurd (grind arith)
  idle_not_lost (parks x a b c d i g) since e f =
      absurd (grind (arith, h.at_doors.given_bound x.number u (ap stage_in b ∙ ap (λ z. Some z) c), b, h.doors.none_lost))
  idle_not_lost (cancels x a b c d i g j) since e f =
      h.bindings.idle_not_lost u since (marked_idle (who.interrupts u) (k.role u) since (sym g ∙ e)) f
  idle_not_lost (stays a b c d) since e f =
      h.bindings.idle_not_lost u since (marked_idle (who.interrupts u) (k.role u) since (sym c ∙ e)) f

  still_done : LeftThread k who now u s v → k.role u ≡ is.Done → s ≡ is.Done
  still_done p e = go (who.ends u) refl
    where
      go : (b : Bool) → who.ends u ≡ b → s ≡ is.Done
      go true f = ended_now p f
      go false f = still_is (still_elsewhere p f (λ c g. grind arith)) is.Done e refl

-- the whole

-- What becomes of a core: of its threads and calls as above, of doors only their validity, and of processes that they end.
pub record LeftCore (k : Core) (who : Leaving) (now : ℕ) (l : Core) : Type 0 where
  pub thread : (u : ℕ) → LeftThread k who now u (l.role u) (l.serves u)
  pub process : (u : ℕ) → l.process u ≡ k.process u
  pub number : (u : ℕ) → l.number u ≡ k.number u
  pub bound : (u : ℕ) → l.bound u ≡ k.bound u
  pub call : (c : ℕ) → l.call c ≡ option_map (left who) (k.call c)
  pub made : l.made ≡ k.made
  pub notice : (n : ℕ) → l.notice n ≡ option_map (left_notice_stage who (k.noticed_door n)) (k.notice n)
  pub noticed_door : (n : ℕ) → l.noticed_door n ≡ k.noticed_door n
  pub door_there : (d : ℕ) → is_some (l.door d) ≡ is_some (k.door d)
  pub door_owner : (d : ℕ) → owner_in (l.door d) ≡ owner_in (k.door d)
  pub door_no_cancel : (d : ℕ) → no_cancel_of (l.door d) ≡ no_cancel_of (k.door d)
  pub door_private : (d : ℕ) → is_private_in (l.door d) ≡ is_private_in (k.door d)
  -- a door that is valid stays so where it is not lost
  pub door_valid : (d : ℕ) → is_valid_in (k.door d) ≡ true → who.loses d ≡ false → is_valid_in (l.door d) ≡ true
  pub doors : AreDoors l.door l.proc
  -- all threads end of a process that ends
  pub ended : (u : ℕ) → ended_in (l.proc (k.process u)) ≡ true → (k.role u ≡ is.Done) ⊎ (who.ends u ≡ true)
  -- and none of one that has not begun
  pub unborn : (u : ℕ) → is_unborn_in (l.proc (k.process u)) ≡ true → (k.role u ≡ is.Dormant) × (who.ends u ≡ false)
  pub proc_there : (p : ℕ) → is_some (k.proc p) ≡ true → is_some (l.proc p) ≡ true

module _ (k : Core) (who : Leaving) (now : ℕ) (l : Core) (h : IsCoherent k) (p : LeftCore k who now l) where
  -- a thread after the event
  held : (u : ℕ) → is_held (l.role u) || is_some (l.serves u) ≡ true → Was k who now u (l.role u) (l.serves u) h
  held u e = was k who now u _ _ h (p.thread u) e

  role_before : (u : ℕ) → is_held (l.role u) ≡ true → k.role u ≡ l.role u
  role_before u e = was_held k who now u _ _ h (held u (ap (λ b. b || is_some (l.serves u)) e)) e

  given_before : (c u : ℕ) → stage_in (l.call c) ≡ Some (stage.Given (tid u)) → stage_in (k.call c) ≡ Some (stage.Given (tid u))
  given_before c u e = grind (arith, p.call c, was_given who u)

  left_waits : AreWaits l.role l.call
  left_waits =
      record {
        given = λ c u e. given c u e;
        given_back =
            λ c u e. let w = held u (grind arith) in given_back c u e (k.call c) refl (h.waits.given_back c u (role_before u (ap is_held e) ∙ e)) w.stays;
        caller =
            λ c t e. let w = held t (grind arith) in grind (arith, p.call c, h.waits.caller c t, role_before t (ap is_held e), left_caller who, h.waits.live c t);
        live =
            λ c t e. let w = held t (grind arith) in grind (arith, p.call c, h.waits.caller c t, h.waits.live c t, role_before t (ap is_held e), w.stays, left_live who);
        calling = λ c e. calling c (k.call c) refl e;
      }
    where
      given : (c u : ℕ) → stage_in (l.call c) ≡ Some (stage.Given (tid u)) → l.role u ≡ is.Given (item.Call c)
      given c u e =
          let ends : who.ends u ≡ false = grind (arith, p.call c, was_given who u) in
          let before : k.role u ≡ is.Given (item.Call c) = h.waits.given c u (given_before c u e) in
          let stays : (x : Call) → k.call x.number ≡ Some x → x.stage ≡ stage.Given (tid u) → is_left who x ≡ false =
          λ x f g. grind (arith, p.call c, was_given who u x, given_role k h u x f g)
          in
          still_is k who now u _ _ h (still k who now u _ _ h (p.thread u) ends stays) (is.Given (item.Call c)) before refl

      given_back :
          (c u : ℕ) → l.role u ≡ is.Given (item.Call c) → (o : Option Call) → k.call c ≡ o → stage_in o ≡ Some (stage.Given (tid u)) →
          who.ends u ≡ false → stage_in (l.call c) ≡ Some (stage.Given (tid u))
      given_back c u g None f e w = absurd (grind arith)
      given_back c u g (Some r) f e w =
          let n : r.number ≡ c = h.calls.call_number c r f in
          let left : is_left who r ≡ false = given_not_left k who now u _ _ h (p.thread u) r (ap k.call n ∙ f) (grind arith) (grind arith) in
          grind (arith, p.call c, still_given who r u)

      calling : (c : ℕ) (o : Option Call) → k.call c ≡ o → live_in (l.call c) ≡ true → l.role (caller_number (l.call c)) ≡ is.Calling c
      calling c None f e = absurd (grind (arith, p.call c))
      calling c (Some r) f e =
          let alive : (is_live r.stage && not (who.ends r.caller.0)) ≡ true = grind (arith, p.call c, left_live who r) in
          let caller : caller_number (l.call c) ≡ r.caller.0 = grind (arith, p.call c, left_caller who r) in
          ap l.role caller
          ∙ still_calling k who now r.caller.0 _ _ h (p.thread r.caller.0) c (grind (arith, h.waits.calling c)) (grind arith)

  left_invocations : AreInvocations l.serves l.call
  left_invocations =
      record {
        entered =
            λ c u e. still_serves k who now u _ _ h (p.thread u) (item.Call c) (grind (arith, p.call c, was_entered who u, h.invocations.entered c u))
            (grind (arith, p.call c, was_entered who u));
        entered_back =
            λ c u e f. let w = held u (grind arith) in
            grind (arith, p.call c, w.item, w.stays, h.invocations.entered_back c u, was_not_abandoned who, still_entered who);
        kept = λ c e. grind (arith, p.call c, h.invocations.kept c, still_underway who);
      }

  left_notices_given : AreNoticesGiven l.role l.notice
  left_notices_given =
      record {
        notice_given =
            λ n u e.
            let before : k.role u ≡ is.Given (item.Notice n) = grind (arith, p.notice n, h.notices_given.notice_given n u) in
            still_is k who now u _ _ h (still_elsewhere k who now u _ _ h (p.thread u) (grind (arith, p.notice n)) (λ c f. grind arith))
            (is.Given (item.Notice n)) before refl;
        notice_given_back =
            λ n u e. let w = held u (grind arith) in
            grind (arith, p.notice n, role_before u (ap is_held e), w.stays, h.notices_given.notice_given_back n u);
      }

  left_notices_entered : AreNoticesEntered l.serves l.notice
  left_notices_entered =
      record {
        notice_entered =
            λ n u e. still_serves k who now u _ _ h (p.thread u) (item.Notice n) (grind (arith, p.notice n, h.notices_entered.notice_entered n u))
            (grind (arith, p.notice n));
        notice_entered_back =
            λ n u e. let w = held u (grind arith) in
            grind (arith, p.notice n, w.item, w.stays, h.notices_entered.notice_entered_back n u);
      }

  left_notices_at_doors : AreNoticesAtDoors l.notice l.noticed_door l.door l.process l.bound
  left_notices_at_doors =
      record {
        notice_door = λ n e. grind (arith, p.notice n, p.noticed_door n, p.door_there (k.noticed_door n), h.notices_at_doors.notice_door n);
        notice_valid =
            λ n e. grind (arith, p.notice n, p.noticed_door n, p.door_valid (k.noticed_door n), h.notices_at_doors.notice_valid n);
        notice_given_owner =
            λ n u e. grind (arith, p.notice n, p.noticed_door n, p.process u, p.door_owner (k.noticed_door n), h.notices_at_doors.notice_given_owner n u);
        notice_given_bound =
            λ n u e. grind (arith, p.notice n, p.noticed_door n, p.bound u, p.door_private (k.noticed_door n), h.notices_at_doors.notice_given_bound n u);
        notice_entered_owner =
            λ n u e. grind (arith, p.notice n, p.noticed_door n, p.process u, p.door_owner (k.noticed_door n), h.notices_at_doors.notice_entered_owner n u);
      }

  left_servers : AreServers l.role l.serves l.made
  left_servers =
      record {
        outside = λ t e. still_outside k who now t _ _ h (p.thread t) e;
        below =
            λ c d t e f. let w = held t (grind arith) in
            h.servers.below c d t (w.item ∙ e) (role_before t (ap is_held f) ∙ f);
        served_made =
            λ c t e. let w = held t (grind arith) in
            grind (arith, h.servers.served_made c t (w.item ∙ e), p.made);
      }

  left_calls : AreCalls l.call l.made
  left_calls =
      record {
        arguments =
            λ c x e f. (grind (arith, p.call c, h.calls.arguments c, left_arguments who), grind (arith, p.call c, h.calls.arguments c, left_arguments who));
        call_number = λ c x e. grind (arith, p.call c, h.calls.call_number c, left_number who);
        unmade = λ c e. grind (arith, p.call c, p.made, h.calls.unmade c);
      }

  left_at_doors : AreAtDoors l.call l.door l.process l.bound
  left_at_doors =
      record {
        door_there = λ c x e. grind (arith, p.call c, p.door_there x.door, h.at_doors.door_there c, left_door who);
        no_cancel = λ c x e. grind (arith, p.call c, p.door_no_cancel x.door, h.at_doors.no_cancel c, left_door who, left_no_cancel who);
        waiting_valid = λ c e. waiting c (k.call c) refl e;
        given_owner =
            λ c u e. grind (arith, p.call c, p.process u, p.door_owner (door_in (k.call c)), h.at_doors.given_owner c u (given_before c u e), left_door who);
        given_bound =
            λ c u e. grind (arith, p.call c, p.bound u, p.door_private (door_in (k.call c)), h.at_doors.given_bound c u (given_before c u e), left_door who);
        entered_owner =
            λ c u e. grind (arith, p.call c, p.process u, p.door_owner (door_in (k.call c)), h.at_doors.entered_owner c u, left_door who, was_entered who u);
      }
    where
      waiting :
          (c : ℕ) (o : Option Call) → k.call c ≡ o → stage_in (l.call c) ≡ Some stage.Queued →
          is_valid_in (l.door (door_in (l.call c))) ≡ true
      waiting c None f e = absurd (grind (arith, p.call c))
      waiting c (Some r) f e =
          let w : (r.stage ≡ stage.Queued) × (who.loses r.door ≡ false) = was_queued who r (grind (arith, p.call c)) in
          let d : door_in (l.call c) ≡ r.door = grind (arith, p.call c, left_door who r) in
          ap (λ i. is_valid_in (l.door i)) d ∙ p.door_valid r.door (grind (arith, h.at_doors.waiting_valid c)) w.1

  pub leaving_keeps : IsCoherent l
  leaving_keeps =
      record {
        waits = left_waits;
        invocations = left_invocations;
        notices_given = left_notices_given;
        notices_entered = left_notices_entered;
        notices_at_doors = left_notices_at_doors;
        servers = left_servers;
        calls = left_calls;
        at_doors = left_at_doors;
        doors = p.doors;
        bindings =
            record {
              bound_own = λ t d e f. grind (arith, p.bound t, p.process t, p.door_owner d, h.bindings.bound_own t d);
              bound_private = λ t d e f. grind (arith, p.bound t, p.door_private d, h.bindings.bound_private t d);
              idle_not_lost = λ t since e f. idle_not_lost k who now t _ _ h (p.thread t) since e (sym (p.bound t) ∙ f);
            };
        processes =
            record {
              ended_done =
                  λ t e. ⊎_elim (still_done k who now t _ _ h (p.thread t)) (ended_now k who now t _ _ h (p.thread t))
                  (p.ended t (ap (λ i. ended_in (l.proc i)) (sym (p.process t)) ∙ e));
              unborn_dormant =
                  λ t e. let w = p.unborn t (ap (λ i. is_unborn_in (l.proc i)) (sym (p.process t)) ∙ e) in
                  still_is k who now t _ _ h (still_elsewhere k who now t _ _ h (p.thread t) w.1 (λ c g. grind (arith, w.0))) is.Dormant w.0 refl;
            };
        threads =
            record {
              thread_number = λ t n e. grind (arith, p.number t, h.threads.thread_number t n);
              process_there = λ t n e. grind (arith, p.number t, p.process t, p.proc_there (k.process t), h.threads.process_there t n);
            };
        has_fit_state = λ t. still_fit k who now t _ _ h (p.thread t);
      }
