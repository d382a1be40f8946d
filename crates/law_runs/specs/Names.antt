-- Names: at every event each path has the door that it had, except where a request attaches a door to it, or detaches it.
use Rattle.std.specs.Prelude.{ℕ, ◌≡◌, ◌+◌, List, Option, Some, None, slice_get}
use Rattle.spec_kernel.specs.Types.{Fd, Name, PathId}
use Rattle.dk_base.specs.declared.object.Obj.TheVariants as obj
use Rattle.dk_base.specs.declared.request.Request.TheVariants as request
use Rattle.dk_base.specs.declared.answer.Answer.TheVariants as answer
use Rattle.spec_kernel.specs.Words.{State, Turn, name_of, object_at, state_at}
use Rattle.law_places.specs.Places.{answer_at, process_at}

-- the turn of place i attaches the door that a descriptor of its thread's process names
pub record Attaches (m : State) (xs : List Turn) (i : ℕ) (x : Turn) (path : PathId) (n : Name) : Type 0 where
  pub fd : Fd
  pub asked : x.request ≡ Some (request.Attach fd path)
  pub named : object_at (state_at m xs i) (process_at m xs i x.thread) fd ≡ Some (obj.Door n.door)

-- what a path has before and after the turn of place i
pub data NameChange (m : State) (xs : List Turn) (i : ℕ) (x : Turn) (path : PathId) : Option Name → Option Name → Type 0 where
  stays : {o : Option Name} → NameChange m xs i x path o o
  attached : (n : Name) → Attaches m xs i x path n → answer_at m xs i x ≡ answer.Done → NameChange m xs i x path None (Some n)
  detached : (n : Name) → x.request ≡ Some (request.Detach path) → answer_at m xs i x ≡ answer.Done → NameChange m xs i x path (Some n) None

-- there is a name, and the turn attaches it
pub record IsAttached (m : State) (xs : List Turn) (i : ℕ) (x : Turn) (path : PathId) : Type 0 where
  pub name : Name
  pub attaches : Attaches m xs i x path name
  pub there : name_of (state_at m xs (i + 1)) path ≡ Some name

pub record Names (m : State) (xs : List Turn) : Type 0 where
  pub each :
      (i : ℕ) (x : Turn) (path : PathId) → slice_get xs i ≡ Some x →
      NameChange m xs i x path (name_of (state_at m xs i) path) (name_of (state_at m xs (i + 1)) path)
  -- and each request that is done has its effect
  pub attached :
      (i : ℕ) (x : Turn) (fd : Fd) (path : PathId) → slice_get xs i ≡ Some x → x.request ≡ Some (request.Attach fd path) →
      answer_at m xs i x ≡ answer.Done → IsAttached m xs i x path
  pub detached :
      (i : ℕ) (x : Turn) (path : PathId) → slice_get xs i ≡ Some x → x.request ≡ Some (request.Detach path) →
      answer_at m xs i x ≡ answer.Done → name_of (state_at m xs (i + 1)) path ≡ None
