-- No loss: the objects that a door call or a return takes along are in transit from that event on, until all of them are
-- installed at one event, or all are dropped at one event; and descriptors with release are closed.
use Rattle.std.specs.Prelude.{ℕ, ◌≡◌, ◌+◌, List, Bool, true, Some, None, if◌then◌else◌, map, slice_get, ◌==◌, false}
use Rattle.std.specs.List.{list_any}
use Rattle.spec_kernel.specs.Types.{Errno, Fd, Obj, Pass}
use Rattle.dk_base.specs.declared.request.Request.TheVariants as request
use Rattle.dk_base.specs.declared.answer.Answer.TheVariants as answer
use Rattle.spec_kernel.specs.Words.{State, Turn, object_at, state_at}
use Rattle.law_places.specs.Counts.{free_below}
use Rattle.law_places.specs.References.{in_transit}
use Rattle.law_places.specs.Places.{IsCollect, IsReturn, MakesCall, ReturnsCall, answer_at, objects_at, objects_named, process_at}

-- after the turn x of place i the objects that these descriptors named before are in transit, as those of call c
pub record IsPut (m : State) (xs : List Turn) (i : ℕ) (x : Turn) (c : ℕ) (pass : List Pass) : Type 0 where
  pub objects : List Obj
  pub named : objects_named (state_at m xs i) (process_at m xs i x.thread) pass ≡ map (λ o. Some o) objects
  pub on_the_way : in_transit (state_at m xs (i + 1)) c ≡ Some objects

-- the turn is a Call that makes call c, or a Return that hands over its results
pub data Puts (m : State) (xs : List Turn) (i : ℕ) (x : Turn) (c : ℕ) : Type 0 where
  by_call : (makes : MakesCall m xs i x c) → IsPut m xs i x c makes.pass → Puts m xs i x c
  by_return : (returns : ReturnsCall m xs i x c) → IsPut m xs i x c returns.pass → Puts m xs i x c

-- the turn of place i answers descriptors that come with call c: its accept, or the collect that answers results
pub data Brings (m : State) (xs : List Turn) (i : ℕ) (x : Turn) (c : ℕ) (fds : List Fd) : Type 0 where
  by_accept :
      (entry cookie : ℕ) (bytes : List ℕ) → answer_at m xs i x ≡ answer.Entered c entry cookie bytes fds → Brings m xs i x c fds
  by_collect :
      (bytes : List ℕ) (grown : Bool) → IsCollect m xs i x c → answer_at m xs i x ≡ answer.Results bytes fds grown →
      Brings m xs i x c fds

abbrev pub is_descriptor : Fd → Fd → Bool
is_descriptor a b = a.0 == b.0

-- a process's descriptors name, after the turn of place i, what they named before it
abbrev pub IsSameTable : State → List Turn → ℕ → ℕ → Type 0
IsSameTable m xs i p = (fd : Fd) → object_at (state_at m xs (i + 1)) p fd ≡ object_at (state_at m xs i) p fd

-- In the table of process p these descriptors were free before the turn of place i, the lowest in order, and name these objects
-- after it; and all others, of this process and of all others, name what they named.
pub record AreInstalled (m : State) (xs : List Turn) (i p : ℕ) (fds : List Fd) (objects : List Obj) : Type 0 where
  pub were_free : objects_at (state_at m xs i) p fds ≡ map (λ o. None) fds
  pub name_them : objects_at (state_at m xs (i + 1)) p fds ≡ map (λ o. Some o) objects
  -- as many were free below each as stand before it
  pub lowest : (a : ℕ) (fd : Fd) → slice_get fds a ≡ Some fd → free_below (state_at m xs i) p fd ≡ a
  pub others :
      (fd : Fd) → list_any (is_descriptor fd) fds ≡ false →
      object_at (state_at m xs (i + 1)) p fd ≡ object_at (state_at m xs i) p fd
  pub elsewhere : (q : ℕ) → (q ≡ p → ⊥) → IsSameTable m xs i q

-- By the turn of place i the objects that were in transit as those of call c are installed at these descriptors, in the table of
-- its thread's process, and after it none of c is in transit.
pub record AreBrought (m : State) (xs : List Turn) (i : ℕ) (x : Turn) (c : ℕ) (fds : List Fd) : Type 0 where
  pub objects : List Obj
  pub before : in_transit (state_at m xs i) c ≡ Some objects
  pub after : in_transit (state_at m xs (i + 1)) c ≡ None
  pub installed : AreInstalled m xs i (process_at m xs i x.thread) fds objects

-- what becomes of the objects in transit of call c at the turn x of place i
pub data Fate (m : State) (xs : List Turn) (i : ℕ) (x : Turn) (c : ℕ) (objects : List Obj) : Type 0 where
  stay : in_transit (state_at m xs (i + 1)) c ≡ Some objects → Fate m xs i x c objects
  installed :
      (fds : List Fd) → Brings m xs i x c fds → AreInstalled m xs i (process_at m xs i x.thread) fds objects →
      in_transit (state_at m xs (i + 1)) c ≡ None → Fate m xs i x c objects
  dropped :
      ((fds : List Fd) → Brings m xs i x c fds → ⊥) → in_transit (state_at m xs (i + 1)) c ≡ None → Fate m xs i x c objects

-- the turn of place i is a Call or a Return that passes these descriptors, and is not refused
pub data Passes (m : State) (xs : List Turn) (i : ℕ) (x : Turn) (pass : List Pass) : Type 0 where
  at_call :
      (fd : Fd) (bytes : List ℕ) (rsize c : ℕ) → x.request ≡ Some (request.Call fd bytes pass rsize) →
      answer_at m xs i x ≡ answer.WaitCall c → Passes m xs i x pass
  at_return : (bytes : List ℕ) → IsReturn m xs i x bytes pass → Passes m xs i x pass

abbrev pub is_release_of : Fd → Pass → Bool
is_release_of fd y = if y.release then is_descriptor fd y.fd else false

-- in the sender's table a descriptor that is passed with release names nothing after the turn, and all others, of this process and of
-- all others, name what they named
pub record AreReleased (m : State) (xs : List Turn) (i p : ℕ) (pass : List Pass) : Type 0 where
  pub released : (fd : Fd) → list_any (is_release_of fd) pass ≡ true → object_at (state_at m xs (i + 1)) p fd ≡ None
  pub others :
      (fd : Fd) → list_any (is_release_of fd) pass ≡ false →
      object_at (state_at m xs (i + 1)) p fd ≡ object_at (state_at m xs i) p fd
  pub elsewhere : (q : ℕ) → (q ≡ p → ⊥) → IsSameTable m xs i q

pub record NoLoss (m : State) (xs : List Turn) : Type 0 where
  pub none_at_first : (c : ℕ) → in_transit m c ≡ None
  -- objects are put in transit by each Call that makes a call and by each Return to a client, and by nothing else
  pub call_puts : (i c : ℕ) (x : Turn) (makes : MakesCall m xs i x c) → IsPut m xs i x c makes.pass
  pub return_puts : (i c : ℕ) (x : Turn) (returns : ReturnsCall m xs i x c) → IsPut m xs i x c returns.pass
  pub only_put :
      (i c : ℕ) (x : Turn) (objects : List Obj) → slice_get xs i ≡ Some x → in_transit (state_at m xs i) c ≡ None →
      in_transit (state_at m xs (i + 1)) c ≡ Some objects → Puts m xs i x c
  -- all of them stay, or are installed, or are dropped
  pub fate :
      (i c : ℕ) (x : Turn) (objects : List Obj) → slice_get xs i ≡ Some x → in_transit (state_at m xs i) c ≡ Some objects →
      Fate m xs i x c objects
  -- they are installed at each accept that enters the call, and at each collect that answers results
  pub brought : (i c : ℕ) (x : Turn) (fds : List Fd) → slice_get xs i ≡ Some x → Brings m xs i x c fds → AreBrought m xs i x c fds
  -- an accept that fails, an accept of a notice and a collect that answers an error bring nothing into any table
  pub accept_keeps :
      (i c : ℕ) (x : Turn) → slice_get xs i ≡ Some x → answer_at m xs i x ≡ answer.EnterFailed c → (p : ℕ) → IsSameTable m xs i p
  pub notice_keeps :
      (i c entry cookie : ℕ) (x : Turn) → slice_get xs i ≡ Some x → answer_at m xs i x ≡ answer.EnteredNotice c entry cookie →
      (p : ℕ) → IsSameTable m xs i p
  pub collect_keeps :
      (i c : ℕ) (x : Turn) (e : Errno) → slice_get xs i ≡ Some x → IsCollect m xs i x c → answer_at m xs i x ≡ answer.Failure e →
      (p : ℕ) → IsSameTable m xs i p
  pub released :
      (i : ℕ) (x : Turn) (pass : List Pass) → slice_get xs i ≡ Some x → Passes m xs i x pass →
      AreReleased m xs i (process_at m xs i x.thread) pass
