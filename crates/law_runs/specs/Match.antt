-- Match: a server sees what the caller of the call sent, and the caller gets what the server returned for that call.
use Rattle.std.specs.Prelude.{ℕ, ◌≡◌, ◌+◌, ◌<◌, ◌≤◌, List, Bool, Some, None, length, map, nat_lt, slice_get}
use Rattle.spec_kernel.specs.Types.{Call, Fd, Obj, Pass}
use Rattle.dk_base.specs.declared.answer.Answer.TheVariants as answer
use Rattle.spec_kernel.specs.Words.{State, Turn, door_of, state_at}
use Rattle.law_states.specs.Records.{record_of}
use Rattle.law_places.specs.Places.{BecomesReturned, HasEntered, IsAccept, IsCollect, IsOf, IsReturn, MakesCall, ReturnsCall, answer_at, objects_at, objects_named, process_at}

-- What the accept of call c at place a shows was sent: by the Call that made c, at an earlier place. The bytes are the same,
-- procedure and cookie are those of the door that the caller's descriptor named, and the descriptors that are shown name, in
-- the server's table after the accept, the objects that the passed ones named in the caller's table at the Call.
pub record IsSent (m : State) (xs : List Turn) (a : ℕ) (y : Turn) (c entry cookie : ℕ) (bytes : List ℕ) (fds : List Fd) : Type 0 where
  pub at : ℕ
  pub caller : Turn
  pub earlier : at < a
  pub makes : MakesCall m xs at caller c
  pub same_bytes : bytes ≡ makes.bytes
  pub of_the_door : IsOf (door_of (state_at m xs a) makes.door) entry cookie
  pub objects : List Obj
  pub passed : objects_named (state_at m xs at) (process_at m xs at caller.thread) makes.pass ≡ map (λ o. Some o) objects
  pub installed : objects_at (state_at m xs (a + 1)) (process_at m xs (a + 1) y.thread) fds ≡ map (λ o. Some o) objects

-- Results that the turn z of place k collects are those of call c: c was made by this thread, entered by an accept after that,
-- and returned after that, by the thread that had accepted it, with these bytes, and at no other place. The descriptors that
-- come with them name, in the caller's table after the collect, the objects that the passed ones named in the server's table
-- at the Return. `more` says whether the bytes are more than the caller had room for.
pub record IsReturned (m : State) (xs : List Turn) (k : ℕ) (z : Turn) (results : List ℕ) (fds : List Fd) (more : Bool) : Type 0 where
  pub call : ℕ
  pub collect : IsCollect m xs k z call
  pub made_at : ℕ
  pub caller : Turn
  pub makes : MakesCall m xs made_at caller call
  pub accepted_at : ℕ
  pub server : Turn
  pub accepts_turn : slice_get xs accepted_at ≡ Some server
  pub accepts : IsAccept m xs accepted_at server call
  pub returned_at : ℕ
  pub returner : Turn
  pub returns : ReturnsCall m xs returned_at returner call
  pub accept_later : made_at < accepted_at
  pub return_later : accepted_at < returned_at
  pub collect_later : returned_at < k
  pub only_return : (j : ℕ) → BecomesReturned m xs call j → j ≡ returned_at
  pub same_caller : caller.thread ≡ z.thread
  pub same_server : returner.thread ≡ server.thread
  pub same_bytes : results ≡ returns.bytes
  pub objects : List Obj
  pub passed : objects_named (state_at m xs returned_at) (process_at m xs returned_at returner.thread) returns.pass ≡ map (λ o. Some o) objects
  pub installed : objects_at (state_at m xs (k + 1)) (process_at m xs (k + 1) z.thread) fds ≡ map (λ o. Some o) objects
  pub grown : more ≡ nat_lt makes.rsize (length results)

-- a call is there later too, of the same caller, door and room for results
pub record IsKeptCall (m : State) (c : ℕ) (r : Call) : Type 0 where
  pub later : Call
  pub there : record_of m c ≡ Some later
  pub caller : later.caller ≡ r.caller
  pub door : later.door ≡ r.door
  pub rsize : later.rsize ≡ r.rsize

pub record Match (m : State) (xs : List Turn) : Type 0 where
  -- a call comes only by a Call that answers its number, each such Call makes one, and each call is made once, and stays
  pub none_at_first : (c : ℕ) → record_of m c ≡ None
  pub made : (i c : ℕ) (x : Turn) → slice_get xs i ≡ Some x → answer_at m xs i x ≡ answer.WaitCall c → MakesCall m xs i x c
  pub only_by_call :
      (i c : ℕ) (x : Turn) (r : Call) → slice_get xs i ≡ Some x → record_of (state_at m xs i) c ≡ None →
      record_of (state_at m xs (i + 1)) c ≡ Some r → MakesCall m xs i x c
  pub made_once : (c i j : ℕ) (x y : Turn) → MakesCall m xs i x c → MakesCall m xs j y c → i ≡ j
  pub kept :
      (i j c : ℕ) (r : Call) → i ≤ j → j ≤ length xs → record_of (state_at m xs i) c ≡ Some r → IsKeptCall (state_at m xs j) c r
  pub shown :
      (a c entry cookie : ℕ) (y : Turn) (bytes : List ℕ) (fds : List Fd) → slice_get xs a ≡ Some y →
      answer_at m xs a y ≡ answer.Entered c entry cookie bytes fds → IsSent m xs a y c entry cookie bytes fds
  -- a call is returned only by a Return of the thread that has entered it, and once
  pub only_by_return : (j c : ℕ) (w : Turn) → slice_get xs j ≡ Some w → BecomesReturned m xs c j → ReturnsCall m xs j w c
  -- and each Return, not refused, of a thread that has entered a call returns it
  pub return_hands_over :
      (j c : ℕ) (w : Turn) (bytes : List ℕ) (pass : List Pass) → slice_get xs j ≡ Some w → IsReturn m xs j w bytes pass →
      HasEntered (state_at m xs j) w.thread c → BecomesReturned m xs c j
  pub returned_once : (c i j : ℕ) → BecomesReturned m xs c i → BecomesReturned m xs c j → i ≡ j
  pub results :
      (k : ℕ) (z : Turn) (bytes : List ℕ) (fds : List Fd) (more : Bool) → slice_get xs k ≡ Some z →
      answer_at m xs k z ≡ answer.Results bytes fds more → IsReturned m xs k z bytes fds more
