-- Answers: an entry that answers no error gives the kind of answer that its request has, and the end of a wait gives one that belongs
-- to what the thread waited in.
use Rattle.std.specs.Prelude.{ℕ, ◌≡◌, ◌<◌, ◌≤◌, ◌⊎◌, List, Option, Bool, [], false, true, None, Some, length, slice_get}
use Rattle.spec_kernel.specs.Types.{AlertMode, Answer, Attrs, Errno, EventRec, Fd, Param, Pass, PathId, Pid, Request, ThreadState, Tid}
use Rattle.dk_base.specs.declared.request.Op.{Op}
use Rattle.dk_base.specs.declared.set.PollSet.{PollSet}
use Rattle.dk_base.specs.declared.error.Errno.TheVariants.{EBADF, EINTR, EINVAL, EMFILE}
use Rattle.dk_base.specs.declared.object.Item.TheVariants as item
use Rattle.dk_base.specs.declared.answer.Answer.TheVariants as answer
use Rattle.dk_base.specs.declared.request.Request.TheVariants as request
use Rattle.spec_records.specs.declared.record.ThreadState.TheVariants as is
use Rattle.spec_kernel.specs.Words.{State, Turn, state_at, state_of}
use Rattle.law_places.specs.Places.{answer_at}
use Rattle.law_places.specs.References.{references_of_port}
use Rattle.law_runs.specs.Channels.{AreEnough}

-- a constructor for each kind of answer that a request has
pub data Answers : Request → Answer → Type 0 where
  fails : (r : Request) (e : Errno) → Answers r (answer.Failure e)
  creates : (entry cookie : ℕ) (attrs : Attrs) (fd : Fd) → Answers (request.Create entry cookie attrs) (answer.NewFd fd)
  copies : (old fd : Fd) → Answers (request.Dup old) (answer.NewFd fd)
  opens : (path : PathId) (fd : Fd) → Answers (request.Open path) (answer.NewFd fd)
  calls : (fd : Fd) (bytes : List ℕ) (pass : List Pass) (rsize c : ℕ) → Answers (request.Call fd bytes pass rsize) (answer.WaitCall c)
  returns : (bytes : List ℕ) (pass : List Pass) → Answers (request.Return bytes pass) answer.Wait
  waits : (path : PathId) → Answers (request.Await path) answer.Wait
  finds : (path : PathId) → Answers (request.Await path) answer.Done
  informs : (fd : Fd) (i : _) → Answers (request.Info fd) (answer.Info i)
  informs_bound : (i : _) → Answers request.InfoQuery (answer.Info i)
  values : (fd : Fd) (x : Param) (value : ℕ) → Answers (request.GetParam fd x) (answer.Param value)
  names_client : (process : Pid) → Answers request.Cred (answer.Client process)
  cancels : (yes : _) → Answers request.TestCancel (answer.Cancel yes)
  revokes : (fd : Fd) → Answers (request.Revoke fd) answer.Done
  binds : (fd : Fd) → Answers (request.Bind fd) answer.Done
  unbinds : Answers request.Unbind answer.Done
  sets : (fd : Fd) (x : Param) (value : ℕ) → Answers (request.SetParam fd x value) answer.Done
  closes : (fd : Fd) → Answers (request.Close fd) answer.Done
  attaches : (fd : Fd) (path : PathId) → Answers (request.Attach fd path) answer.Done
  detaches : (path : PathId) → Answers (request.Detach path) answer.Done
  interrupts : (thread : Tid) → Answers (request.Interrupt thread) answer.Done
  kills : (process : Pid) → Answers (request.Kill process) answer.Done
  exits : Answers request.Exit answer.Done
  forks : (child : Pid) → Answers (request.Fork child) (answer.Child child)
  makes_pipe : (reading writing : Fd) → Answers request.Pipe (answer.TwoFds reading writing)
  writes : (fd : Fd) (bytes : List ℕ) (n : ℕ) → n ≤ length bytes → Answers (request.Write fd bytes) (answer.Count n)
  reads : (fd : Fd) (max : ℕ) (bytes : List ℕ) → length bytes ≤ max → Answers (request.Read fd max) (answer.Data bytes)
  makes_port : (fd : Fd) → Answers request.PortCreate (answer.NewFd fd)
  gets : (fd : Fd) (wait : Bool) (event : EventRec) → Answers (request.Get fd wait) (answer.OneEvent event)
  waits_for_one : (fd : Fd) → Answers (request.Get fd true) answer.Wait
  tells_queued : (fd : Fd) (max nget : ℕ) (wait : Bool) (n : ℕ) → max ≡ 0 → Answers (request.GetN fd max nget wait) (answer.Available n)
  gets_many :
      (fd : Fd) (max nget : ℕ) (wait : Bool) (events : List EventRec) → 1 ≤ max → length events ≤ max →
      Answers (request.GetN fd max nget wait) (answer.Events events)
  waits_for_many : (fd : Fd) (max nget : ℕ) → 1 ≤ max → Answers (request.GetN fd max nget true) answer.Wait
  sends : (fd : Fd) (events user : ℕ) → Answers (request.Send fd events user) answer.Done
  sends_each :
      (fds : List Fd) (events user : ℕ) (errors : List (Option Errno)) → length errors ≡ length fds →
      Answers (request.SendN fds events user) (answer.Errors errors)
  alerts : (fd : Fd) (mode : AlertMode) (events user : ℕ) → Answers (request.Alert fd mode events user) answer.Done
  associates : (port object : Fd) (events : PollSet) (user : ℕ) → Answers (request.Associate port object events user) answer.Done
  dissociates : (port object : Fd) → Answers (request.Dissociate port object) answer.Done
  -- the id of the timer that is made
  makes_timer : (port : Fd) (user id : ℕ) → id < 32 → Answers (request.TimerCreate port user) (answer.Count id)
  sets_timer : (timer first interval : ℕ) → Answers (request.TimerSet timer first interval) answer.Done
  deletes_timer : (timer : ℕ) → Answers (request.TimerDelete timer) answer.Done
  advances : (by : ℕ) → Answers (request.Advance by) answer.Done
  works : (op : Op) (input : List ℕ) → Answers (request.Work op input) answer.Wait
  -- what a name table replies is not computed by the kernel
  replies : (line : List ℕ) → Answers (request.Ncd line) (answer.Data [])

abbrev pub AnswersRequests : State → List Turn → Type 0
AnswersRequests m xs = (i : ℕ) (x : Turn) (r : Request) → slice_get xs i ≡ Some x → x.request ≡ Some r → Answers r (answer_at m xs i x)

-- a constructor for each kind of answer that ends a wait in state m, by what the thread waited in
pub data EndAnswers (m : State) : ThreadState → Answer → Type 0 where
  enters :
      (c entry cookie : ℕ) (bytes : List ℕ) (fds : List Fd) → EndAnswers m (is.Given (item.Call c)) (answer.Entered c entry cookie bytes fds)
  fails_to_enter : (c : ℕ) → EndAnswers m (is.Given (item.Call c)) (answer.EnterFailed c)
  enters_notice : (n entry cookie : ℕ) → EndAnswers m (is.Given (item.Notice n)) (answer.EnteredNotice n entry cookie)
  collects : (c : ℕ) (bytes : List ℕ) (fds : List Fd) (grown : Bool) → EndAnswers m (is.Calling c) (answer.Results bytes fds grown)
  collects_error : (c : ℕ) (e : Errno) → (e ≡ EBADF) ⊎ ((e ≡ EINTR) ⊎ (e ≡ EMFILE)) → EndAnswers m (is.Calling c) (answer.Failure e)
  -- a thread that was interrupted is told so, and no other
  was_interrupted : (port max nget : ℕ) (one : Bool) → EndAnswers m (is.Getting port max nget one true) (answer.Failure EINTR)
  -- else one is told that nothing refers to the port, exactly where that is so
  lost_port : (port max nget : ℕ) (one : Bool) → references_of_port m port ≡ 0 → EndAnswers m (is.Getting port max nget one false) (answer.Failure EBADF)
  gets : (port max nget : ℕ) (event : EventRec) → 1 ≤ references_of_port m port → EndAnswers m (is.Getting port max nget true false) (answer.OneEvent event)
  gets_many :
      (port max nget : ℕ) (events : List EventRec) → 1 ≤ references_of_port m port → AreEnough m port max nget events →
      EndAnswers m (is.Getting port max nget false false) (answer.Events events)
  finds : (path : PathId) → EndAnswers m (is.Awaiting path) answer.Done
  -- what a task's end shows is its output, which the kernel does not compute
  ends_work : (op : Op) (input : List ℕ) → EndAnswers m (is.Working op input) (answer.Data [])
  wakes : EndAnswers m is.FailedReturn (answer.Failure EINVAL)

-- of each end of a wait
abbrev pub AnswersEndsOfWaits : State → List Turn → Type 0
AnswersEndsOfWaits m xs =
    (i : ℕ) (x : Turn) → slice_get xs i ≡ Some x → x.request ≡ None →
    EndAnswers (state_at m xs i) (state_of (state_at m xs i) x.thread) (answer_at m xs i x)
