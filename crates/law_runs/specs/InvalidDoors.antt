-- Invalid doors: a door is valid as it is made; one that is not valid stays so; and a door turns so only by a Revoke that is not
-- refused and whose descriptor names it, or as the process that made it ends, and by each of the two. No call and no notice waits at
-- one.
use Rattle.std.specs.Prelude.{ℕ, ◌≡◌, ◌+◌, ◌≤◌, List, true, false, Some, None, length, slice_get}
use Rattle.spec_kernel.specs.Types.{Call, Door, Fd, Notice}
use Rattle.dk_base.specs.declared.object.Obj.TheVariants as obj
use Rattle.dk_base.specs.declared.request.Request.TheVariants as request
use Rattle.dk_base.specs.declared.answer.Answer.TheVariants as answer
use Rattle.spec_records.specs.declared.record.CallStage.TheVariants as stage
use Rattle.spec_records.specs.declared.record.NoticeStage.TheVariants as notice
use Rattle.spec_kernel.specs.Words.{State, Turn, door_of, is_valid, object_at, state_at}
use Rattle.law_states.specs.Records.{notice_of, owner_in, record_of}
use Rattle.law_places.specs.Places.{answer_at, process_at}
use Rattle.law_runs.specs.Ends.{is_ended}

-- why door d is not valid any more after the turn of place i
pub data Invalidates (m : State) (xs : List Turn) (i : ℕ) (x : Turn) (d : ℕ) : Type 0 where
  revoked :
      (fd : Fd) → x.request ≡ Some (request.Revoke fd) →
      object_at (state_at m xs i) (process_at m xs i x.thread) fd ≡ Some (obj.Door d) → answer_at m xs i x ≡ answer.Done →
      Invalidates m xs i x d
  owner_ends :
      (p : ℕ) → owner_in (door_of (state_at m xs i) d) ≡ Some p → is_ended (state_at m xs i) p ≡ false →
      is_ended (state_at m xs (i + 1)) p ≡ true → Invalidates m xs i x d

pub record InvalidDoors (m : State) (xs : List Turn) : Type 0 where
  pub valid_at_first :
      (i d : ℕ) (x : Turn) (door : Door) → slice_get xs i ≡ Some x → door_of (state_at m xs i) d ≡ None →
      door_of (state_at m xs (i + 1)) d ≡ Some door → is_valid (state_at m xs (i + 1)) d ≡ true
  pub stays :
      (i j d : ℕ) (door : Door) → i ≤ j → j ≤ length xs → door_of (state_at m xs i) d ≡ Some door → is_valid (state_at m xs i) d ≡ false →
      is_valid (state_at m xs j) d ≡ false
  pub only_by :
      (i d : ℕ) (x : Turn) → slice_get xs i ≡ Some x → is_valid (state_at m xs i) d ≡ true → is_valid (state_at m xs (i + 1)) d ≡ false →
      Invalidates m xs i x d
  pub by_each :
      (i d : ℕ) (x : Turn) → slice_get xs i ≡ Some x → Invalidates m xs i x d → is_valid (state_at m xs (i + 1)) d ≡ false
  pub call_waits :
      (i c : ℕ) (r : Call) → i ≤ length xs → record_of (state_at m xs i) c ≡ Some r → r.stage ≡ stage.Queued →
      is_valid (state_at m xs i) r.door ≡ true
  pub notice_waits :
      (i c : ℕ) (x : Notice) → i ≤ length xs → notice_of (state_at m xs i) c ≡ Some x → x.stage ≡ notice.Waiting →
      is_valid (state_at m xs i) x.door ≡ true
