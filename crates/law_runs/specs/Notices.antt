-- Notices: a notice of a door is made exactly where the references to it fall to one, and just one there; a door without
-- DOOR_UNREF_MULTI has at most one ever; each stays with the thread that it was given to, one that may serve the door, and is
-- entered at most once, by that thread; and what becomes of each.
use Rattle.std.specs.Prelude.{ℕ, ◌≡◌, ◌+◌, ◌<◌, ◌≤◌, ◌↔◌, ◌⊎◌, List, true, false, Some, None, length, slice_get}
use Rattle.spec_kernel.specs.Types.{Attrs, Door, Notice, NoticeStage, Pass}
use Rattle.dk_base.specs.declared.object.Item.TheVariants as item
use Rattle.dk_base.specs.declared.answer.Answer.TheVariants as answer
use Rattle.spec_records.specs.declared.record.ThreadState.TheVariants as is
use Rattle.spec_records.specs.declared.record.NoticeStage.TheVariants as notice
use Rattle.spec_records.specs.Words.{new_invocation, tid}
use Rattle.spec_kernel.specs.Words.{State, Turn, door_of, invocation_of, is_valid, process_of, state_at, state_of}
use Rattle.law_states.specs.Records.{item_of, notice_of}
use Rattle.law_states.specs.Events.{IsMade}
use Rattle.law_states.specs.Arrows.{EndsNow}
use Rattle.law_places.specs.Counts.{has_attribute}
use Rattle.law_places.specs.References.{references}
use Rattle.law_places.specs.Places.{BecomesEntered, HasEnteredNotice, IsOf, IsReturn, MayServe, NoticeBecomesEntered, answer_at, door_of_notice, notice_stage_of, owner_of_notice}

-- where one is made

-- notice c, of door d, is made at the turn of place i
pub record MakesNotice (m : State) (xs : List Turn) (i c d : ℕ) : Type 0 where
  pub within : i < length xs
  pub none_before : notice_of (state_at m xs i) c ≡ None
  pub made : Notice
  pub there : notice_of (state_at m xs (i + 1)) c ≡ Some made
  pub door : made.door ≡ d

-- there is a notice of door d, past or not
pub record HasNotice (m : State) (d : ℕ) : Type 0 where
  pub number : ℕ
  pub had : Notice
  pub there : notice_of m number ≡ Some had
  pub door : had.door ≡ d

-- door d, of these attributes, takes one more: it has DOOR_UNREF, 1, and had none so far, or has DOOR_UNREF_MULTI, 16
pub data TakesOneMore (m : State) (d : ℕ) (attrs : Attrs) : Type 0 where
  first : has_attribute 1 attrs ≡ true → (HasNotice m d → ⊥) → TakesOneMore m d attrs
  again : has_attribute 16 attrs ≡ true → TakesOneMore m d attrs

-- Door d is due at the turn of place i: it is valid after it, it takes one more, and has more than one reference before the turn and
-- just one after it.
pub record IsDue (m : State) (xs : List Turn) (i d : ℕ) : Type 0 where
  pub door : Door
  pub there : door_of (state_at m xs (i + 1)) d ≡ Some door
  pub valid : is_valid (state_at m xs (i + 1)) d ≡ true
  pub takes : TakesOneMore (state_at m xs i) d door.attrs
  pub more_before : 1 < references (state_at m xs i) d
  pub one_after : references (state_at m xs (i + 1)) d ≡ 1

pub record MakesJustOne (m : State) (xs : List Turn) (i d : ℕ) : Type 0 where
  pub number : ℕ
  pub makes : MakesNotice m xs i number d
  pub only : (c : ℕ) → MakesNotice m xs i c d → c ≡ number

-- one that is made at place i has the number of that event, and waits or was given to a thread at once
pub record IsFresh (i : ℕ) (x : Notice) : Type 0 where
  pub dated : x.made ≡ i + 1
  pub stage : (x.stage ≡ notice.Waiting) ⊎ ((u : ℕ) × (x.stage ≡ notice.Given (tid u)))

-- a notice that is there at place i was made at an earlier place
pub record WasMadeNotice (m : State) (xs : List Turn) (i c d : ℕ) : Type 0 where
  pub at : ℕ
  pub earlier : at < i
  pub makes : MakesNotice m xs at c d

-- a notice is there later too, with its number, its door and its date
pub record IsKeptNotice (m : State) (c : ℕ) (x : Notice) : Type 0 where
  pub later : Notice
  pub there : notice_of m c ≡ Some later
  pub number : later.number ≡ x.number
  pub door : later.door ≡ x.door
  pub made : later.made ≡ x.made

-- notice c is with thread t: given to it, or entered by it
abbrev pub IsNoticeWith : State → ℕ → ℕ → Type 0
IsNoticeWith m c t = (notice_stage_of m c ≡ Some (notice.Given (tid t))) ⊎ HasEnteredNotice m t c

-- where one is entered

-- The turn of place i ends the wait of a thread that was given notice c: the thread enters c, and nothing else. The answer has the
-- door's procedure and cookie, and neither bytes nor descriptors.
pub record EntersNotice (m : State) (xs : List Turn) (i : ℕ) (x : Turn) (c entry cookie : ℕ) : Type 0 where
  pub no_request : x.request ≡ None
  pub was_given : state_of (state_at m xs i) x.thread ≡ is.Given (item.Notice c)
  pub answer : answer_at m xs i x ≡ answer.EnteredNotice c entry cookie
  pub stage_before : notice_stage_of (state_at m xs i) c ≡ Some (notice.Given (tid x.thread))
  pub stage_after : HasEnteredNotice (state_at m xs (i + 1)) x.thread c
  pub entered : NoticeBecomesEntered m xs c i
  pub nothing_else : (d : ℕ) → NoticeBecomesEntered m xs d i → d ≡ c
  pub no_call : (d : ℕ) → BecomesEntered m xs d i → ⊥
  pub of_the_door : IsOf (door_of_notice (state_at m xs i) c) entry cookie
  pub of_the_owner : owner_of_notice (state_at m xs i) c ≡ Some (process_of (state_at m xs i) x.thread)
  pub free_before : invocation_of (state_at m xs i) x.thread ≡ None
  pub invocation_after : invocation_of (state_at m xs (i + 1)) x.thread ≡ Some (new_invocation (item.Notice c))

-- notice c is entered by the accept at the turn of place i
pub record IsNoticeAccept (m : State) (xs : List Turn) (i : ℕ) (x : Turn) (c : ℕ) : Type 0 where
  pub entry : ℕ
  pub cookie : ℕ
  pub enters : EntersNotice m xs i x c entry cookie

-- what becomes of one

-- it was entered by thread u, at an earlier place
pub record WasEnteredBy (m : State) (xs : List Turn) (i c u : ℕ) : Type 0 where
  pub at : ℕ
  pub turn : Turn
  pub earlier : at < i
  pub found : slice_get xs at ≡ Some turn
  pub accept : IsNoticeAccept m xs at turn c
  pub same_thread : turn.thread ≡ u

-- it is entered at no place before i
abbrev pub IsUnentered : State → List Turn → ℕ → ℕ → Type 0
IsUnentered m xs i c = (j : ℕ) → j < i → NoticeBecomesEntered m xs c j → ⊥

-- it is entered nowhere in the run
abbrev pub IsNeverEntered : State → List Turn → ℕ → Type 0
IsNeverEntered m xs c = (j : ℕ) → NoticeBecomesEntered m xs c j → ⊥

-- at the turn of place i its door became invalid, while it waited
pub record IsDroppedAt (m : State) (xs : List Turn) (i c : ℕ) : Type 0 where
  pub within : i < length xs
  pub waiting : Notice
  pub there : notice_of (state_at m xs i) c ≡ Some waiting
  pub waits : waiting.stage ≡ notice.Waiting
  pub valid_before : is_valid (state_at m xs i) waiting.door ≡ true
  pub invalid_after : is_valid (state_at m xs (i + 1)) waiting.door ≡ false

-- at the turn of place i the thread ended that it was given to
pub record IsLostAt (m : State) (xs : List Turn) (i c u : ℕ) : Type 0 where
  pub within : i < length xs
  pub was_given : notice_stage_of (state_at m xs i) c ≡ Some (notice.Given (tid u))
  pub ends : EndsNow (state_at m xs i) (state_at m xs (i + 1)) u

-- the turn of place i is a Return, not refused, of the thread that has entered it
pub record IsReturnedAt (m : State) (xs : List Turn) (i c : ℕ) : Type 0 where
  pub turn : Turn
  pub found : slice_get xs i ≡ Some turn
  pub bytes : List ℕ
  pub pass : List Pass
  pub is_return : IsReturn m xs i turn bytes pass
  pub was_entered : HasEnteredNotice (state_at m xs i) turn.thread c

-- at the turn of place i the thread ended that has entered it
pub record IsCutOffAt (m : State) (xs : List Turn) (i c u : ℕ) : Type 0 where
  pub within : i < length xs
  pub was_entered : HasEnteredNotice (state_at m xs i) u c
  pub ends : EndsNow (state_at m xs i) (state_at m xs (i + 1)) u

-- why notice c is at this stage at place i: a constructor for each reason
pub data NoticeFate (m : State) (xs : List Turn) (i c : ℕ) : NoticeStage → Type 0 where
  waits : IsUnentered m xs i c → NoticeFate m xs i c notice.Waiting
  is_given : (u : ℕ) → IsUnentered m xs i c → NoticeFate m xs i c (notice.Given (tid u))
  is_entered : (u : ℕ) → WasEnteredBy m xs i c u → NoticeFate m xs i c (notice.Entered (tid u))
  dropped : (at : ℕ) → at < i → IsDroppedAt m xs at c → IsNeverEntered m xs c → NoticeFate m xs i c notice.Dropped
  lost : (at u : ℕ) → at < i → IsLostAt m xs at c u → IsNeverEntered m xs c → NoticeFate m xs i c notice.Over
  returned : (at : ℕ) → at < i → IsReturnedAt m xs at c → NoticeFate m xs i c notice.Over
  cut_off : (at u : ℕ) → at < i → IsCutOffAt m xs at c u → NoticeFate m xs i c notice.Over

-- two reasons are the same, and of the same place
abbrev pub IsSameReason : (m : State) (xs : List Turn) (i c : ℕ) (s r : NoticeStage) → NoticeFate m xs i c s → NoticeFate m xs i c r → Type 0
IsSameReason m xs i c s r (NoticeFate.waits n) (NoticeFate.waits k) = Unit {0}
IsSameReason m xs i c s r (NoticeFate.is_given u n) (NoticeFate.is_given v k) = u ≡ v
IsSameReason m xs i c s r (NoticeFate.is_entered u w) (NoticeFate.is_entered v x) = u ≡ v
IsSameReason m xs i c s r (NoticeFate.dropped a e w n) (NoticeFate.dropped b f x k) = a ≡ b
IsSameReason m xs i c s r (NoticeFate.lost a u e w n) (NoticeFate.lost b v f x k) = (a ≡ b) × (u ≡ v)
IsSameReason m xs i c s r (NoticeFate.returned a e w) (NoticeFate.returned b f x) = a ≡ b
IsSameReason m xs i c s r (NoticeFate.cut_off a u e w) (NoticeFate.cut_off b v f x) = (a ≡ b) × (u ≡ v)
IsSameReason m xs i c s r p q = ⊥

pub record Notices (m : State) (xs : List Turn) : Type 0 where
  pub none_at_first : (c : ℕ) → notice_of m c ≡ None
  -- one is made exactly where its door is due, and just one of that door there
  pub made_where_due : (i c d : ℕ) → MakesNotice m xs i c d → IsDue m xs i d
  pub due_makes : (i d : ℕ) → i < length xs → IsDue m xs i d → MakesJustOne m xs i d
  pub fresh : (i c d : ℕ) (w : MakesNotice m xs i c d) → IsFresh i w.made
  -- each that is there was made, at one place, and stays
  pub was_made : (i c : ℕ) (x : Notice) → i ≤ length xs → notice_of (state_at m xs i) c ≡ Some x → WasMadeNotice m xs i c x.door
  pub made_once : (c i j d e : ℕ) → MakesNotice m xs i c d → MakesNotice m xs j c e → i ≡ j
  pub kept :
      (i j c : ℕ) (x : Notice) → i ≤ j → j ≤ length xs → notice_of (state_at m xs i) c ≡ Some x →
      IsKeptNotice (state_at m xs j) c x
  -- they have the numbers from 1 on, in the order in which they were made, those of one event in the order of their doors
  pub numbered :
      (i c : ℕ) → i ≤ length xs →
      IsMade (notice_of (state_at m xs i) c) ↔ ((1 ≤ c) × (c ≤ (state_at m xs i).notice_list.made))
  pub in_order : (i j c d e f : ℕ) → i < j → MakesNotice m xs i c e → MakesNotice m xs j d f → c < d
  pub by_door : (i c d e f : ℕ) → MakesNotice m xs i c e → MakesNotice m xs i d f → e < f → c < d
  -- of a door without DOOR_UNREF_MULTI at most one is made in the whole run
  pub one_ever :
      (i j b c d : ℕ) (door : Door) → MakesNotice m xs i b d → MakesNotice m xs j c d →
      door_of (state_at m xs (i + 1)) d ≡ Some door → has_attribute 16 door.attrs ≡ false → b ≡ c
  -- one is given only to a thread of the process that made its door, which waits to accept it
  pub given_to_owner :
      (i t c : ℕ) → i ≤ length xs → notice_stage_of (state_at m xs i) c ≡ Some (notice.Given (tid t)) →
      owner_of_notice (state_at m xs i) c ≡ Some (process_of (state_at m xs i) t)
  pub given_waits :
      (i t c : ℕ) → i ≤ length xs → notice_stage_of (state_at m xs i) c ≡ Some (notice.Given (tid t)) →
      state_of (state_at m xs i) t ≡ is.Given (item.Notice c)
  -- that thread is bound to the door where that has a pool of its own, and else to none
  pub given_to_pool :
      (i t c : ℕ) (x : Notice) → i ≤ length xs → notice_of (state_at m xs i) c ≡ Some x → x.stage ≡ notice.Given (tid t) →
      MayServe (state_at m xs i) t x.door
  -- one that is with a thread waits at no later place, and is with no other thread there
  pub waits_no_more :
      (i j c t : ℕ) → i ≤ j → j ≤ length xs → IsNoticeWith (state_at m xs i) c t → notice_stage_of (state_at m xs j) c ≡ Some notice.Waiting → ⊥
  pub same_thread :
      (i j c t u : ℕ) → i ≤ j → j ≤ length xs → IsNoticeWith (state_at m xs i) c t → IsNoticeWith (state_at m xs j) c u → u ≡ t
  pub entered_once : (c i j : ℕ) → NoticeBecomesEntered m xs c i → NoticeBecomesEntered m xs c j → i ≡ j
  pub accepts :
      (i c entry cookie : ℕ) (x : Turn) → slice_get xs i ≡ Some x →
      answer_at m xs i x ≡ answer.EnteredNotice c entry cookie → EntersNotice m xs i x c entry cookie
  -- the wait of a thread that was given a notice ends by entering it
  pub given_enters :
      (i c : ℕ) (x : Turn) → slice_get xs i ≡ Some x → x.request ≡ None → state_of (state_at m xs i) x.thread ≡ is.Given (item.Notice c) →
      IsNoticeAccept m xs i x c
  pub only_by_accept : (i c : ℕ) (x : Turn) → slice_get xs i ≡ Some x → NoticeBecomesEntered m xs c i → IsNoticeAccept m xs i x c
  -- the notice that a thread has entered is its invocation's, so it is one, and the thread has entered no call
  pub in_its_invocation :
      (i t c : ℕ) → i ≤ length xs → HasEnteredNotice (state_at m xs i) t c → item_of (state_at m xs i) t ≡ Some (item.Notice c)
  pub fate :
      (i c : ℕ) (x : Notice) → i ≤ length xs → notice_of (state_at m xs i) c ≡ Some x → NoticeFate m xs i c x.stage
  pub one_reason : (i c : ℕ) (s : NoticeStage) (p q : NoticeFate m xs i c s) → IsSameReason m xs i c s s p q
  -- and each reason has its effect, for ever
  pub dropped_then : (i j c : ℕ) → i < j → j ≤ length xs → IsDroppedAt m xs i c → notice_stage_of (state_at m xs j) c ≡ Some notice.Dropped
  pub lost_then : (i j c u : ℕ) → i < j → j ≤ length xs → IsLostAt m xs i c u → notice_stage_of (state_at m xs j) c ≡ Some notice.Over
  pub returned_then : (i j c : ℕ) → i < j → j ≤ length xs → IsReturnedAt m xs i c → notice_stage_of (state_at m xs j) c ≡ Some notice.Over
  pub cut_off_then : (i j c u : ℕ) → i < j → j ≤ length xs → IsCutOffAt m xs i c u → notice_stage_of (state_at m xs j) c ≡ Some notice.Over
