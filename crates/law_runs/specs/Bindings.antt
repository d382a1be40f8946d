-- Bindings: at every event each thread is bound to the door that it was bound to, except where it binds or unbinds itself, is the first
-- thread of a child that a thread forks which is bound, or its door is not valid: then its Return unbinds it, and so does its failing
-- while it is parked.
use Rattle.std.specs.Prelude.{ℕ, ◌≡◌, ◌+◌, ◌≤◌, ◌⊎◌, List, Option, false, true, Some, None, is_some, length, slice_get}
use Rattle.spec_kernel.specs.Types.{Fd, Pass, Pid}
use Rattle.dk_base.specs.declared.object.Obj.TheVariants as obj
use Rattle.dk_base.specs.declared.request.Request.TheVariants as request
use Rattle.dk_base.specs.declared.answer.Answer.TheVariants as answer
use Rattle.spec_records.specs.declared.pool.TheConstants.{LOST_DOOR}
use Rattle.spec_records.specs.declared.record.ThreadState.TheVariants as is
use Rattle.spec_records.specs.Words.{is_spare_in}
use Rattle.spec_kernel.specs.Words.{State, Turn, bound_of, is_unborn_process, is_valid, object_at, state_at, state_of, thread_of}
use Rattle.law_places.specs.Places.{IsReturn, answer_at, process_at}
use Rattle.law_runs.specs.Rows.{Forks}

-- the turn of place i binds its thread to door d, which a descriptor of the thread's process names
pub record Binds (m : State) (xs : List Turn) (i : ℕ) (x : Turn) (d : ℕ) : Type 0 where
  pub fd : Fd
  pub asked : x.request ≡ Some (request.Bind fd)
  pub named : object_at (state_at m xs i) (process_at m xs i x.thread) fd ≡ Some (obj.Door d)

-- thread t is the first of process p: the one of the least number among those that are no spares
pub record IsFirstThread (m : State) (xs : List Turn) (i p t : ℕ) : Type 0 where
  pub process : process_at m xs i t ≡ p
  pub no_spare : is_spare_in (thread_of m t) ≡ false
  pub least : (u : ℕ) → process_at m xs i u ≡ p → is_spare_in (thread_of m u) ≡ false → t ≤ u

-- to which door thread t is bound before and after the turn of place i
pub data BindingChange (m : State) (xs : List Turn) (i : ℕ) (x : Turn) (t : ℕ) : Option ℕ → Option ℕ → Type 0 where
  stays : {o : Option ℕ} → BindingChange m xs i x t o o
  binds :
      (o : Option ℕ) (d : ℕ) → x.thread ≡ t → Binds m xs i x d → answer_at m xs i x ≡ answer.Done → BindingChange m xs i x t o (Some d)
  -- it is the first thread of a process that begins, and the thread that forks is bound
  forks :
      (o : Option ℕ) (child : Pid) → Forks m xs i x child → is_some (bound_of (state_at m xs i) x.thread) ≡ true →
      IsFirstThread m xs i child.0 t → BindingChange m xs i x t o (Some LOST_DOOR)
  unbinds :
      (d : ℕ) → x.thread ≡ t → x.request ≡ Some request.Unbind → answer_at m xs i x ≡ answer.Done →
      BindingChange m xs i x t (Some d) None
  returns :
      (d : ℕ) (bytes : List ℕ) (pass : List Pass) → x.thread ≡ t → IsReturn m xs i x bytes pass → is_valid (state_at m xs i) d ≡ false →
      BindingChange m xs i x t (Some d) None
  fails :
      (d : ℕ) → state_of (state_at m xs (i + 1)) t ≡ is.FailedReturn → is_valid (state_at m xs (i + 1)) d ≡ false →
      BindingChange m xs i x t (Some d) None

-- the thread of the turn is bound to the door that the turn binds it to
pub record IsBound (m : State) (xs : List Turn) (i : ℕ) (x : Turn) : Type 0 where
  pub door : ℕ
  pub binds : Binds m xs i x door
  pub bound : bound_of (state_at m xs (i + 1)) x.thread ≡ Some door

pub record Bindings (m : State) (xs : List Turn) : Type 0 where
  pub none_at_first : (t : ℕ) → bound_of m t ≡ None
  pub each :
      (i t : ℕ) (x : Turn) → slice_get xs i ≡ Some x →
      BindingChange m xs i x t (bound_of (state_at m xs i) t) (bound_of (state_at m xs (i + 1)) t)
  -- threads of a process that has not begun are bound to none
  pub unborn :
      (i t : ℕ) → i ≤ length xs → is_unborn_process (state_at m xs i) (process_at m xs i t) ≡ true → bound_of (state_at m xs i) t ≡ None
  -- and each request that is done has its effect
  pub bound :
      (i : ℕ) (x : Turn) (fd : Fd) → slice_get xs i ≡ Some x → x.request ≡ Some (request.Bind fd) → answer_at m xs i x ≡ answer.Done →
      IsBound m xs i x
  pub unbound :
      (i : ℕ) (x : Turn) → slice_get xs i ≡ Some x → x.request ≡ Some request.Unbind → answer_at m xs i x ≡ answer.Done →
      bound_of (state_at m xs (i + 1)) x.thread ≡ None
  pub forked :
      (i t : ℕ) (x : Turn) (child : Pid) → slice_get xs i ≡ Some x → Forks m xs i x child →
      is_some (bound_of (state_at m xs i) x.thread) ≡ true → IsFirstThread m xs i child.0 t →
      bound_of (state_at m xs (i + 1)) t ≡ Some LOST_DOOR
  -- A Fork by a thread that is bound to none binds none: at its event each thread is bound as before, or fails. One may fail where its
  -- caller is interrupted: it was given the call of a door that became invalid since then.
  pub forked_by_unbound :
      (i t : ℕ) (x : Turn) (child : Pid) → slice_get xs i ≡ Some x → Forks m xs i x child → bound_of (state_at m xs i) x.thread ≡ None →
      (bound_of (state_at m xs (i + 1)) t ≡ bound_of (state_at m xs i) t) ⊎ (state_of (state_at m xs (i + 1)) t ≡ is.FailedReturn)
