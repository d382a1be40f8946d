-- What an act does, by what it changes. Requests, refusals, what is looked up and room are told apart here once; a property of
-- acts is a list of rows over these, and a row is told only what made it so.
use Rattle.std.proofs.Common.{◌≡◌, ℕ, Bool, true, false, if◌then◌else◌, ◌==◌, List, [], ◌∷◌, ◌+◌, length, map, Option, None, Some, refl, sym, ap, subst, ◌∙◌, arith}
use Rattle.spec_kernel.specs.Types.{AlertMode, Answer, Call, CallStage, Errno, Fd, Item, Name, Notice, NoticeStage, Obj, Param, Pass, PathId, Pid, Request, ThreadState, Tid}
use Rattle.dk_base.specs.declared.error.Errno.TheVariants.{EBADF, EINTR, EINVAL}
use Rattle.dk_base.specs.declared.object.Item.TheVariants as item
use Rattle.dk_base.specs.declared.object.Obj.TheVariants as obj
use Rattle.dk_base.specs.declared.request.Request.TheVariants as request
use Rattle.dk_base.specs.declared.answer.Answer.TheVariants as answer
use Rattle.spec_records.specs.declared.record.ThreadState.TheVariants as is
use Rattle.std.proofs.lemmas.Bool.Decides.{nat_tests}
use Rattle.spec_records.specs.declared.record.CallStage.TheVariants as stage
use Rattle.spec_records.specs.declared.record.NoticeStage.TheVariants as notice
use Rattle.spec_records.specs.Words.{descriptor, alert_port, fitting, free_id, free_place, is_given_stage, is_ready_for, make_pipe, make_port, oldest, read_pipe, send_event, write_pipe, is_given_to, tid, Leaving, door_attached, interruption, is_given_as, is_given_notice_as, is_last, thread_end, with_name, with_row, without_name}
use Rattle.spec_records.proofs.NumberedLists.{find-passes}
use Rattle.dk_base.specs.ByNumber.{with_at_number}
use Rattle.spec_kernel.specs.Acts.{ActResult, unless_refused}
use Rattle.spec_kernel.specs.Descriptors.{await, await_name, door_named}
use Rattle.spec_kernel.specs.Doors.{accept, accept_call, accept_notice, begin_call, begin_notice, call, collect, create, fail_begin, has_room, return, return_parked, return_unbound, tables_with}
use Rattle.spec_kernel.specs.Binding.{information_of_bound}
use Rattle.spec_kernel.specs.Information.{credentials, information, parameter as get_parameter, door_at, set_parameter}
use Rattle.spec_kernel.specs.Leaving.{test_cancel, exit, fork, kill, leave, leave_process, leave_thread, revoke}
use Rattle.spec_kernel.specs.Pipes.{held_in, pipe_at, table_with_reader}
use Rattle.dk_base.specs.declared.set.PollSet.{PollSet}
use Rattle.spec_kernel.specs.Associations.{associated, dissociated, key_at, watched}
use Rattle.spec_kernel.specs.Timers.{clock_advanced, timer_created, timer_deleted, timer_set}
use Rattle.spec_kernel.specs.Ports.{after_sending_each, end_getting, errors_of_sending, found_answer, get, get_from, get_many, has_port_references, port, port_at, retrieve, take_found, tell_queued, wait_for}
use Rattle.spec_kernel.specs.State.{Channels, State, find_call, find_notice, has_invalid_door, is_live_process, name_of, object_at, process_of, state_of, table_of, timers_in, with_state, with_table_of}
use Rattle.spec_kernel.specs.Step.{act, effect, enter, go_on, refusal_of}

-- an act that leaves this state and answers this
abbrev pub act_result : State → Answer → ActResult
act_result n a = record { state = n; answer = a }

-- an entry that is not refused
abbrev pub IsFree : State → ℕ → Request → Type 0
IsFree m t r = refusal_of m t (process_of m t) r ≡ None

-- what an act tells that changes nothing
pub data IsSaid (m : State) (t : ℕ) : Option Request → Answer → Type 0 where
  refused : (r : Request) (e : Errno) → refusal_of m t (process_of m t) r ≡ Some e → IsSaid m t (Some r) (answer.Failure e)
  informs : (fd : Fd) → IsFree m t (request.Info fd) → IsSaid m t (Some (request.Info fd)) (information m (process_of m t) fd).answer
  informs_bound : IsFree m t request.InfoQuery → IsSaid m t (Some request.InfoQuery) (information_of_bound m t (process_of m t)).answer
  values :
      (fd : Fd) (x : Param) → IsFree m t (request.GetParam fd x) →
      IsSaid m t (Some (request.GetParam fd x)) (get_parameter m (process_of m t) fd x).answer
  names_client : IsFree m t request.Cred → IsSaid m t (Some request.Cred) (credentials m t).answer
  cancels : IsSaid m t (Some request.TestCancel) (test_cancel m t).answer
  tells_queued :
      (fd : Fd) (max nget : ℕ) (wait : Bool) → IsFree m t (request.GetN fd max nget wait) → (max == 0) ≡ true →
      IsSaid m t (Some (request.GetN fd max nget wait)) (tell_queued m (port_at m (process_of m t) fd)).answer
  replies : (line : List ℕ) → IsSaid m t (Some (request.Ncd line)) (answer.Data [])
  is_done : {q : Option Request} → IsSaid m t q answer.Done

-- what comes into which row of the table of the thread's process, and what the thread is told
pub data IsRow (m : State) (t : ℕ) : Request → ℕ → Option Obj → Answer → Type 0 where
  closes : (fd : Fd) → IsFree m t (request.Close fd) → IsRow m t (request.Close fd) fd.0 None answer.Done
  copies :
      (fd : Fd) → IsFree m t (request.Dup fd) →
      IsRow m t (request.Dup fd) (free_place (table_of m (process_of m t))) (object_at m (process_of m t) fd)
      (answer.NewFd (descriptor (free_place (table_of m (process_of m t)))))
  opens :
      (path : PathId) → IsFree m t (request.Open path) →
      IsRow m t (request.Open path) (free_place (table_of m (process_of m t))) (Some (obj.Door (door_attached (name_of m path))))
      (answer.NewFd (descriptor (free_place (table_of m (process_of m t)))))

pub data IsNaming (m : State) (t : ℕ) : Request → List Name → Type 0 where
  attaches :
      (fd : Fd) (path : PathId) → IsFree m t (request.Attach fd path) →
      IsNaming m t (request.Attach fd path) (with_name m.names path (door_named (object_at m (process_of m t) fd)))
  detaches : (path : PathId) → IsFree m t (request.Detach path) → IsNaming m t (request.Detach path) (without_name m.names path)

pub data IsBinding (m : State) (t : ℕ) : Request → Option ℕ → Type 0 where
  binds : (fd : Fd) → IsFree m t (request.Bind fd) → IsBinding m t (request.Bind fd) (Some (door_at m (process_of m t) fd))
  unbinds : IsFree m t request.Unbind → IsBinding m t request.Unbind None

-- a state in which a thread neither calls nor was given anything, and of which nothing else tells
abbrev pub is_quiet : ThreadState → Bool
is_quiet is.Running = true
is_quiet (is.Getting port max nget one interrupted) = true
is_quiet (is.Awaiting path) = true
is_quiet (is.Working op input) = true
is_quiet _ = false

-- to which state a thread turns that neither calls nor enters, and what it is told
pub data IsTurn (m : State) (t : ℕ) : Option Request → ThreadState → Answer → Type 0 where
  awaits : (path : PathId) → name_of m path ≡ None → IsTurn m t (Some (request.Await path)) (is.Awaiting path) answer.Wait
  finds : (path : PathId) → state_of m t ≡ is.Awaiting path → IsTurn m t None is.Running answer.Done
  starts_work : (op : _) (input : List ℕ) → IsTurn m t (Some (request.Work op input)) (is.Working op input) answer.Wait
  works : (op : _) (input : List ℕ) → state_of m t ≡ is.Working op input → IsTurn m t None is.Running (answer.Data [])
  wakes : state_of m t ≡ is.FailedReturn → IsTurn m t None is.Running (answer.Failure EINVAL)
  waits_for_one :
      (fd : Fd) (wait : Bool) → IsFree m t (request.Get fd wait) → is_ready_for 1 (port m (port_at m (process_of m t) fd)) ≡ false →
      IsTurn m t (Some (request.Get fd wait)) (is.Getting (port_at m (process_of m t) fd) 1 1 true false) answer.Wait
  waits_for_many :
      (fd : Fd) (max nget : ℕ) (wait : Bool) → IsFree m t (request.GetN fd max nget wait) → (max == 0) ≡ false →
      is_ready_for nget (port m (port_at m (process_of m t) fd)) ≡ false →
      IsTurn m t (Some (request.GetN fd max nget wait)) (is.Getting (port_at m (process_of m t) fd) max nget false false) answer.Wait
  was_interrupted :
      (q max nget : ℕ) (one : Bool) → state_of m t ≡ is.Getting q max nget one true → IsTurn m t None is.Running (answer.Failure EINTR)
  lost_port :
      (q max nget : ℕ) (one : Bool) → state_of m t ≡ is.Getting q max nget one false → has_port_references m q ≡ false →
      IsTurn m t None is.Running (answer.Failure EBADF)

-- how the bytes of a pipe, the events of ports, the associations or the timers change by an entry, and what the thread is told
pub data IsPassing (m : State) (t : ℕ) : Request → Channels → Answer → Type 0 where
  writes :
      (fd : Fd) (bytes : List ℕ) → IsFree m t (request.Write fd bytes) →
      IsPassing m t (request.Write fd bytes) (record m.channels { pipes = write_pipe m.channels.pipes (pipe_at m (process_of m t) fd) bytes })
      (answer.Count (length (fitting (held_in m (pipe_at m (process_of m t) fd)) bytes)))
  reads :
      (fd : Fd) (max : ℕ) → IsFree m t (request.Read fd max) →
      IsPassing m t (request.Read fd max) (record m.channels { pipes = read_pipe m.channels.pipes (pipe_at m (process_of m t) fd) max })
      (answer.Data (oldest (held_in m (pipe_at m (process_of m t) fd)) max))
  sends :
      (fd : Fd) (events user : ℕ) → IsFree m t (request.Send fd events user) →
      IsPassing m t (request.Send fd events user)
      (record m.channels { ports = send_event m.channels.ports (port_at m (process_of m t) fd) events user }) answer.Done
  sends_each :
      (fds : List Fd) (events user : ℕ) →
      IsPassing m t (request.SendN fds events user)
      (record m.channels { ports = after_sending_each m.channels.ports (map (object_at m (process_of m t)) fds) events user })
      (answer.Errors (errors_of_sending m.channels.ports (map (object_at m (process_of m t)) fds) events user))
  alerts :
      (fd : Fd) (mode : AlertMode) (events user : ℕ) → IsFree m t (request.Alert fd mode events user) →
      IsPassing m t (request.Alert fd mode events user)
      (record m.channels { ports = alert_port m.channels.ports (port_at m (process_of m t) fd) events user }) answer.Done
  gets :
      (fd : Fd) (wait : Bool) → IsFree m t (request.Get fd wait) → is_ready_for 1 (port m (port_at m (process_of m t) fd)) ≡ true →
      IsPassing m t (request.Get fd wait) (take_found m.channels (port_at m (process_of m t) fd) 1)
      (found_answer m (port_at m (process_of m t) fd) 1 true)
  gets_many :
      (fd : Fd) (max nget : ℕ) (wait : Bool) → IsFree m t (request.GetN fd max nget wait) → (max == 0) ≡ false →
      is_ready_for nget (port m (port_at m (process_of m t) fd)) ≡ true →
      IsPassing m t (request.GetN fd max nget wait)
      (take_found m.channels (port_at m (process_of m t) fd) max)
      (found_answer m (port_at m (process_of m t) fd) max false)
  associates :
      (port object : Fd) (events : PollSet) (user : ℕ) → IsFree m t (request.Associate port object events user) →
      IsPassing m t (request.Associate port object events user)
      (associated m.channels (key_at m (process_of m t) port object) (watched (object_at m (process_of m t) object)) events user)
      answer.Done
  dissociates :
      (port object : Fd) → IsFree m t (request.Dissociate port object) →
      IsPassing m t (request.Dissociate port object) (dissociated m.channels (key_at m (process_of m t) port object)) answer.Done
  creates_timer :
      (port : Fd) (user : ℕ) → IsFree m t (request.TimerCreate port user) →
      IsPassing m t (request.TimerCreate port user)
      (timer_created m.channels (process_of m t) (port_at m (process_of m t) port) user)
      (answer.Count (free_id (timers_in m) (process_of m t)))
  sets_timer :
      (timer first interval : ℕ) → IsFree m t (request.TimerSet timer first interval) →
      IsPassing m t (request.TimerSet timer first interval) (timer_set m.channels (process_of m t) timer first interval) answer.Done
  deletes_timer :
      (timer : ℕ) → IsFree m t (request.TimerDelete timer) →
      IsPassing m t (request.TimerDelete timer) (timer_deleted m.channels (process_of m t) timer) answer.Done
  advances : (by : ℕ) → IsPassing m t (request.Advance by) (clock_advanced m.channels by) answer.Done

-- which pipe or port is made, which objects get descriptors, and what the thread is told
pub data IsMaking (m : State) (t : ℕ) : Request → Channels → List Obj → Answer → Type 0 where
  makes_pipe :
      IsFree m t request.Pipe →
      IsMaking m t request.Pipe (record m.channels { pipes = make_pipe m.channels.pipes })
      (obj.PipeIn (length m.channels.pipes + 1) ∷ obj.PipeOut (length m.channels.pipes + 1) ∷ [])
      (answer.TwoFds (descriptor (free_place (table_of m (process_of m t))))
      (descriptor (free_place (table_with_reader m (process_of m t) (length m.channels.pipes + 1)))))
  makes_port :
      IsFree m t request.PortCreate →
      IsMaking m t request.PortCreate (record m.channels { ports = make_port m.channels.ports })
      (obj.Port (length m.channels.ports + 1) ∷ []) (answer.NewFd (descriptor (free_place (table_of m (process_of m t)))))

-- a thread that waits at a port goes on with what it finds there
pub record IsGetting (m : State) (t q max nget : ℕ) (one : Bool) : Type 0 where
  pub waits : state_of m t ≡ is.Getting q max nget one false
  pub referred : has_port_references m q ≡ true

-- by which no door, table or process changes
pub data IsLeaving (m : State) (t : ℕ) : Request → Leaving → Type 0 where
  interrupts : (u : Tid) → IsLeaving m t (request.Interrupt u) (interruption u.0)
  exits : is_last m.process_table t (process_of m t) ≡ false → IsLeaving m t request.Exit (thread_end t)

pub data IsEnding (m : State) (t : ℕ) : Request → ℕ → Type 0 where
  kills : (p : Pid) → is_live_process m p.0 ≡ true → IsEnding m t (request.Kill p) p.0
  exits_last : is_last m.process_table t (process_of m t) ≡ true → IsEnding m t request.Exit (process_of m t)

-- the thread was given this call, or this notice
pub record Accepts (m : State) (t : ℕ) (r : Call) : Type 0 where
  pub given : state_of m t ≡ is.Given (item.Call r.number)
  pub found : find_call m (is_given_as r.number t) ≡ Some r
  pub stage : r.stage ≡ stage.Given (tid t)

pub record AcceptsNotice (m : State) (t : ℕ) (n : Notice) : Type 0 where
  pub given : state_of m t ≡ is.Given (item.Notice n.number)
  pub found : find_notice m (is_given_notice_as n.number t) ≡ Some n
  pub stage : n.stage ≡ notice.Given (tid t)

pub data Moves (m : State) (t : ℕ) : Option Request → ActResult → Type 0 where
  nothing : {q : Option Request} (a : Answer) → IsSaid m t q a → Moves m t q (act_result m a)
  rows :
      (r : Request) (place : ℕ) (o : Option Obj) (a : Answer) → IsRow m t r place o a →
      Moves m t (Some r) (act_result (with_table_of m (process_of m t) (with_row (table_of m (process_of m t)) place o)) a)
  names :
      (r : Request) (names : List Name) → IsNaming m t r names → Moves m t (Some r) (act_result (record m { names = names }) answer.Done)
  bound :
      (r : Request) (o : Option ℕ) → IsBinding m t r o →
      Moves m t (Some r) (act_result (record m { bindings = with_at_number m.bindings t o }) answer.Done)
  parameter :
      (fd : Fd) (x : Param) (value : ℕ) → IsFree m t (request.SetParam fd x value) →
      Moves m t (Some (request.SetParam fd x value)) (set_parameter m (process_of m t) fd x value)
  makes :
      (entry cookie : ℕ) (attrs : _) → IsFree m t (request.Create entry cookie attrs) →
      Moves m t (Some (request.Create entry cookie attrs)) (create m (process_of m t) entry cookie attrs)
  turns : {q : Option Request} (s : ThreadState) (a : Answer) → is_quiet s ≡ true → IsTurn m t q s a → Moves m t q (act_result (with_state m t s) a)
  calls :
      (fd : Fd) (bytes : List ℕ) (pass : List Pass) (rsize : ℕ) → IsFree m t (request.Call fd bytes pass rsize) →
      Moves m t (Some (request.Call fd bytes pass rsize)) (call m t (process_of m t) fd bytes pass rsize)
  returns :
      (bytes : List ℕ) (pass : List Pass) → IsFree m t (request.Return bytes pass) → has_invalid_door m t ≡ false →
      Moves m t (Some (request.Return bytes pass)) (return_parked m t (process_of m t) bytes pass)
  returns_unbound :
      (bytes : List ℕ) (pass : List Pass) → IsFree m t (request.Return bytes pass) → has_invalid_door m t ≡ true →
      Moves m t (Some (request.Return bytes pass)) (return_unbound m t (process_of m t) bytes pass)
  enters :
      (r : Call) → Accepts m t r → has_room m (process_of m t) r.objects ≡ true → Moves m t None (begin_call m t (process_of m t) r.number r)
  fails :
      (r : Call) → Accepts m t r → has_room m (process_of m t) r.objects ≡ false → Moves m t None (fail_begin m t r.number r)
  enters_notice : (n : Notice) → AcceptsNotice m t n → Moves m t None (begin_notice m t n.number n)
  collects : (c : ℕ) → state_of m t ≡ is.Calling c → Moves m t None (collect m t (process_of m t) c)
  leaves : (r : Request) (who : Leaving) → IsLeaving m t r who → Moves m t (Some r) (act_result (leave m who) answer.Done)
  revokes : (fd : Fd) → IsFree m t (request.Revoke fd) → Moves m t (Some (request.Revoke fd)) (revoke m (process_of m t) fd)
  passes : (r : Request) (c : Channels) (a : Answer) → IsPassing m t r c a → Moves m t (Some r) (act_result (record m { channels = c }) a)
  makes_channel :
      (r : Request) (c : Channels) (objects : List Obj) (a : Answer) → IsMaking m t r c objects a →
      Moves m t (Some r) (act_result (record m { tables = tables_with m (process_of m t) objects; channels = c }) a)
  retrieves :
      (q max nget : ℕ) (one : Bool) → IsGetting m t q max nget one →
      Moves m t None
      (act_result (record (with_state m t is.Running) { channels = take_found m.channels q max })
      (found_answer m q max one))
  ends : (r : Request) (p : ℕ) → IsEnding m t r p → Moves m t (Some r) (act_result (leave_process m p) answer.Done)
  forks : (child : Pid) → IsFree m t (request.Fork child) → Moves m t (Some (request.Fork child)) (fork m t (process_of m t) child.0)

-- whether callers, threads or doors leave by it
abbrev pub is_leave : {m : State} {t : ℕ} {q : Option Request} {a : ActResult} → Moves m t q a → Bool
is_leave (leaves r who e) = true
is_leave (revokes fd f) = true
is_leave (ends r p e) = true
is_leave (forks child f) = true
is_leave _ = false

pub given_is : (c t : ℕ) (r : Call) → is_given_as c t r ≡ true → (r.number ≡ c) × (r.stage ≡ stage.Given (tid t))
given_is c t r e = (grind (arith, nat_tests), go r.stage (grind (arith, nat_tests)))
  where
    go : (s : CallStage) → is_given_to t s ≡ true → s ≡ stage.Given (tid t)
    go (stage.Given u) f = ap (λ (n : ℕ). stage.Given (tid n)) (grind (arith, nat_tests))
    go s f = grind arith

pub given_notice_is : (c t : ℕ) (x : Notice) → is_given_notice_as c t x ≡ true → (x.number ≡ c) × (x.stage ≡ notice.Given (tid t))
given_notice_is c t x e = (grind (arith, nat_tests), go x.stage (grind (arith, nat_tests)))
  where
    go : (s : NoticeStage) → is_given_stage t s ≡ true → s ≡ notice.Given (tid t)
    go (notice.Given u) f = ap (λ (n : ℕ). notice.Given (tid n)) (grind (arith, nat_tests))
    go s f = grind arith

module _ (m : State) (t : ℕ) where
  await_moves : (path : PathId) → Moves m t (Some (request.Await path)) (await m t path)
  await_moves path = go (name_of m path) refl
    where
      go : (o : Option Name) → name_of m path ≡ o → Moves m t (Some (request.Await path)) (await_name m t path o)
      go (Some n) e = nothing _ is_done
      go None e = turns _ _ refl (awaits path e)

  return_moves :
      (bytes : List ℕ) (pass : List Pass) → IsFree m t (request.Return bytes pass) →
      Moves m t (Some (request.Return bytes pass)) (return m t (process_of m t) bytes pass)
  return_moves bytes pass f = go (has_invalid_door m t) refl
    where
      go :
          (b : Bool) → has_invalid_door m t ≡ b →
          Moves m t (Some (request.Return bytes pass))
          (if b then return_unbound m t (process_of m t) bytes pass else return_parked m t (process_of m t) bytes pass)
      go true e = returns_unbound bytes pass f e
      go false e = returns bytes pass f e

  kill_moves : (p : Pid) → Moves m t (Some (request.Kill p)) (kill m p.0)
  kill_moves p = go (is_live_process m p.0) refl
    where
      go :
          (b : Bool) → is_live_process m p.0 ≡ b →
          Moves m t (Some (request.Kill p)) (act_result (if b then leave_process m p.0 else m) answer.Done)
      go true e = ends _ p.0 (kills p e)
      go false e = nothing _ is_done

  exit_moves : Moves m t (Some request.Exit) (exit m t (process_of m t))
  exit_moves = go (is_last m.process_table t (process_of m t)) refl
    where
      go :
          (b : Bool) → is_last m.process_table t (process_of m t) ≡ b →
          Moves m t (Some request.Exit) (act_result (if b then leave_process m (process_of m t) else leave_thread m t) answer.Done)
      go true e = ends _ _ (exits_last e)
      go false e = leaves _ _ (exits e)

  get_moves : (fd : Fd) (wait : Bool) → IsFree m t (request.Get fd wait) → Moves m t (Some (request.Get fd wait)) (get m t (process_of m t) fd)
  get_moves fd wait f = go (is_ready_for 1 (port m (port_at m (process_of m t) fd))) refl
    where
      go :
          (b : Bool) → is_ready_for 1 (port m (port_at m (process_of m t) fd)) ≡ b →
          Moves m t (Some (request.Get fd wait))
          (if b then retrieve m (port_at m (process_of m t) fd) 1 true else wait_for m t (port_at m (process_of m t) fd) 1 1 true)
      go true e = passes _ _ _ (gets fd wait f e)
      go false e = turns _ _ refl (waits_for_one fd wait f e)

  get_many_moves :
      (fd : Fd) (max nget : ℕ) (wait : Bool) → IsFree m t (request.GetN fd max nget wait) →
      Moves m t (Some (request.GetN fd max nget wait)) (get_many m t (process_of m t) fd max nget)
  get_many_moves fd max nget wait f = by_max (max == 0) refl
    where
      by_events :
          (max == 0) ≡ false → (b : Bool) → is_ready_for nget (port m (port_at m (process_of m t) fd)) ≡ b →
          Moves m t (Some (request.GetN fd max nget wait))
          (if b then retrieve m (port_at m (process_of m t) fd) max false else wait_for m t (port_at m (process_of m t) fd) max nget false)
      by_events z true e = passes _ _ _ (gets_many fd max nget wait f z e)
      by_events z false e = turns _ _ refl (waits_for_many fd max nget wait f z e)

      by_max :
          (b : Bool) → (max == 0) ≡ b →
          Moves m t (Some (request.GetN fd max nget wait))
          (if b then tell_queued m (port_at m (process_of m t) fd) else get_from m t (port_at m (process_of m t) fd) max nget false)
      by_max true z = nothing _ (tells_queued fd max nget wait f z)
      by_max false z = by_events z (is_ready_for nget (port m (port_at m (process_of m t) fd))) refl

  pub effect_moves : (r : Request) → IsFree m t r → Moves m t (Some r) (effect m t (process_of m t) r)
  effect_moves (request.Create entry cookie attrs) f = makes entry cookie attrs f
  effect_moves (request.Call fd bytes pass rsize) f = calls fd bytes pass rsize f
  effect_moves (request.Return bytes pass) f = return_moves bytes pass f
  effect_moves (request.Revoke fd) f = revokes fd f
  effect_moves (request.Bind fd) f = bound _ _ (binds fd f)
  effect_moves request.Unbind f = bound _ _ (unbinds f)
  effect_moves (request.SetParam fd x value) f = parameter fd x value f
  effect_moves (request.Close fd) f = rows _ _ _ _ (closes fd f)
  effect_moves (request.Dup fd) f = rows _ _ _ _ (copies fd f)
  effect_moves (request.Attach fd path) f = names _ _ (attaches fd path f)
  effect_moves (request.Detach path) f = names _ _ (detaches path f)
  effect_moves (request.Open path) f = rows _ _ _ _ (opens path f)
  effect_moves (request.Await path) f = await_moves path
  effect_moves (request.Interrupt u) f = leaves _ _ (interrupts u)
  effect_moves (request.Kill p) f = kill_moves p
  effect_moves request.Exit f = exit_moves
  effect_moves (request.Fork child) f = forks child f
  effect_moves (request.Info fd) f = nothing _ (informs fd f)
  effect_moves request.InfoQuery f = nothing _ (informs_bound f)
  effect_moves (request.GetParam fd x) f = nothing _ (values fd x f)
  effect_moves request.Cred f = nothing _ (names_client f)
  effect_moves request.TestCancel f = nothing _ cancels
  effect_moves request.Pipe f = makes_channel _ _ _ _ (makes_pipe f)
  effect_moves (request.Write fd bytes) f = passes _ _ _ (writes fd bytes f)
  effect_moves (request.Read fd max) f = passes _ _ _ (reads fd max f)
  effect_moves request.PortCreate f = makes_channel _ _ _ _ (makes_port f)
  effect_moves (request.Get fd wait) f = get_moves fd wait f
  effect_moves (request.GetN fd max nget wait) f = get_many_moves fd max nget wait f
  effect_moves (request.Send fd events user) f = passes _ _ _ (sends fd events user f)
  effect_moves (request.SendN fds events user) f = passes _ _ _ (sends_each fds events user)
  effect_moves (request.Alert fd mode events user) f = passes _ _ _ (alerts fd mode events user f)
  effect_moves (request.Associate port object events user) f = passes _ _ _ (associates port object events user f)
  effect_moves (request.Dissociate port object) f = passes _ _ _ (dissociates port object f)
  effect_moves (request.TimerCreate port user) f = passes _ _ _ (creates_timer port user f)
  effect_moves (request.TimerSet timer first interval) f = passes _ _ _ (sets_timer timer first interval f)
  effect_moves (request.TimerDelete timer) f = passes _ _ _ (deletes_timer timer f)
  effect_moves (request.Advance by) f = passes _ _ _ (advances by)
  effect_moves (request.Ncd line) f = nothing _ (replies line)
  effect_moves (request.Work op bytes) f = turns _ _ refl (starts_work op bytes)

  enter_moves : (r : Request) → Moves m t (Some r) (enter m t (process_of m t) r)
  enter_moves r = go (refusal_of m t (process_of m t) r) refl
    where
      go :
          (o : Option Errno) → refusal_of m t (process_of m t) r ≡ o →
          Moves m t (Some r) (unless_refused m o (effect m t (process_of m t) r))
      go (Some e) f = nothing _ (refused r e f)
      go None f = effect_moves r f

  accept_moves : (i : Item) → state_of m t ≡ is.Given i → Moves m t None (accept m t (process_of m t) i)
  accept_moves (item.Call c) e = go (find_call m (is_given_as c t)) refl
    where
      by_room :
          (r : Call) → Accepts m t r → (b : Bool) → has_room m (process_of m t) r.objects ≡ b →
          Moves m t None (if b then begin_call m t (process_of m t) r.number r else fail_begin m t r.number r)
      by_room r h true g = enters r h g
      by_room r h false g = fails r h g

      go : (o : Option Call) → find_call m (is_given_as c t) ≡ o → Moves m t None (accept_call m t (process_of m t) c o)
      go None f = nothing _ is_done
      go (Some r) f =
          let i : (r.number ≡ c) × (r.stage ≡ stage.Given (tid t)) = given_is c t r (find-passes (is_given_as c t) m.call_tree.calls r f) in
          subst (λ d. Moves m t None (accept_call m t (process_of m t) d (Some r))) i.0
          (by_room r
          (record {
            given = e ∙ ap (λ d. is.Given (item.Call d)) (sym i.0);
            found = subst (λ d. find_call m (is_given_as d t) ≡ Some r) (sym i.0) f;
            stage = i.1;
          })
          (has_room m (process_of m t) r.objects)
          refl)
  accept_moves (item.Notice c) e = go (find_notice m (is_given_notice_as c t)) refl
    where
      go : (o : Option Notice) → find_notice m (is_given_notice_as c t) ≡ o → Moves m t None (accept_notice m t c o)
      go None f = nothing _ is_done
      go (Some n) f =
          let i : (n.number ≡ c) × (n.stage ≡ notice.Given (tid t)) = given_notice_is c t n (find-passes (is_given_notice_as c t) m.notice_list.notices n f) in
          subst (λ d. Moves m t None (accept_notice m t d (Some n))) i.0
          (enters_notice n
          (record {
            given = e ∙ ap (λ d. is.Given (item.Notice d)) (sym i.0);
            found = subst (λ d. find_notice m (is_given_notice_as d t) ≡ Some n) (sym i.0) f;
            stage = i.1;
          }))

  getting_moves :
      (q max nget : ℕ) (one interrupted : Bool) → state_of m t ≡ is.Getting q max nget one interrupted →
      Moves m t None (end_getting m t q max one interrupted)
  getting_moves q max nget one true e = turns _ _ refl (was_interrupted q max nget one e)
  getting_moves q max nget one false e = go (has_port_references m q) refl
    where
      go :
          (b : Bool) → has_port_references m q ≡ b →
          Moves m t None
          (if b then retrieve (with_state m t is.Running) q max one else act_result (with_state m t is.Running) (answer.Failure EBADF))
      go true f = retrieves q max nget one (record { waits = e; referred = f })
      go false f = turns _ _ refl (lost_port q max nget one e f)

  go_on_moves : (s : ThreadState) → state_of m t ≡ s → Moves m t None (go_on m t (process_of m t) s)
  go_on_moves (is.Given i) e = accept_moves i e
  go_on_moves (is.Calling c) e = collects c e
  go_on_moves (is.Getting q max nget one interrupted) e = getting_moves q max nget one interrupted e
  go_on_moves (is.Awaiting path) e = turns _ _ refl (finds path e)
  go_on_moves (is.Working op input) e = turns _ _ refl (works op input e)
  go_on_moves is.FailedReturn e = turns _ _ refl (wakes e)
  go_on_moves s e = nothing _ is_done

  pub act_moves : (q : Option Request) → Moves m t q (act m t q)
  act_moves (Some r) = enter_moves r
  act_moves None = go_on_moves (state_of m t) refl
