-- What the fourth word of an event asks for, and the operands of each request in their order.
use Rattle.std.specs.Prelude.{ℕ, Bool, true, false, List, [], ◌∷◌, ◌++◌, Option, codes}
use Rattle.dk_base.specs.declared.event.What.TheVariants as what
use Rattle.dk_base.specs.declared.limits.TheConstants.{ADVANCE_MAX, DELAY_MAX}
use Rattle.dk_base.specs.declared.request.Request.TheVariants.{Create, Call, Return, Revoke, Bind, Unbind, Info, InfoQuery, GetParam, SetParam, Cred, TestCancel, Close, Dup, Attach, Detach, Open, Await, Pipe, Write, Read, PortCreate, Associate, Dissociate, Get, GetN, Send, SendN, Alert, TimerCreate, TimerSet, TimerDelete, Advance, Interrupt, Kill, Exit, Fork}
use Rattle.line_reader.specs.Words.{Reader, misspelling, mode, number, optional_word, param, poll, pure, value_out_of_range, ◌>>=◌}
use Rattle.line_forms.specs.Words.{value_of_word}
use Rattle.spec_requests.specs.Words.{what_word}
use Rattle.history_text.specs.declared.line.Asked.TheVariants.{Enter, GoOn}
use Rattle.history_text.specs.Types.{Asked, Fd, PathId, Request, What}
use Rattle.history_text.specs.Names.{Names}
use Rattle.history_text.specs.Operands.{attributes, child, data_bytes, fd, number_32, number_64, passes, path, ports, procedure, process, the_word, thread, value, waits}

abbrev pub requests : List What
requests =
    what.Create ∷ what.Call ∷ what.Return ∷ what.Revoke ∷ what.Bind ∷ what.Unbind ∷ what.Info ∷ what.GetParam ∷ what.SetParam
    ∷ what.Cred ∷ what.TestCancel ∷ what.Close ∷ what.Dup ∷ what.Attach ∷ what.Detach ∷ what.Open ∷ what.Await ∷ what.Pipe
    ∷ what.Write ∷ what.Read ∷ what.PortCreate ∷ what.Associate ∷ what.Dissociate ∷ what.Get ∷ what.GetN ∷ what.Send ∷ what.SendN
    ∷ what.Alert ∷ what.TimerCreate ∷ what.TimerSet ∷ what.TimerDelete ∷ what.Advance ∷ what.Interrupt ∷ what.Kill ∷ what.Exit
    ∷ what.Fork ∷ []

abbrev pub wait_ends : List What
wait_ends = what.Accept ∷ what.Collect ∷ what.Got ∷ what.Found ∷ what.Woken ∷ []

-- what a word asks for: a request, or the end of a wait
abbrev pub what_of : List ℕ → Option What
what_of word = value_of_word what_word (requests ++ wait_ends) word

-- requests that have operands of the same kinds

abbrev pub with_fd : (Fd → Request) → Reader Request
with_fd make = do
  of ← fd
  pure (make of)

abbrev pub with_path : Names → (PathId → Request) → Reader Request
with_path names make = do
  at ← path names
  pure (make at)

-- the other requests

-- create PROC U64 {ATTR}, PROC of this process
abbrev pub create_request : Names → ℕ → Reader Request
create_request names of = do
  entry ← procedure names of
  cookie ← number_64
  attrs ← attributes
  pure (Create entry cookie attrs)

-- call FD STRING [desc] rsize U64
abbrev pub call_request : Reader Request
call_request = do
  door ← fd
  bytes ← data_bytes
  pass ← passes
  here ← the_word (codes "rsize")
  room ← number_64
  pure (Call door bytes pass room)

-- return STRING [desc]
abbrev pub return_request : Reader Request
return_request = do
  bytes ← data_bytes
  pass ← passes
  pure (Return bytes pass)

abbrev pub info_after : Bool → Reader Request
info_after true = pure InfoQuery
info_after false = with_fd Info

-- info FD, info query
abbrev pub info_request : Reader Request
info_request = do
  query ← optional_word (codes "query")
  info_after query

-- getparam FD PARAM
abbrev pub getparam_request : Reader Request
getparam_request = do
  door ← fd
  of ← param
  pure (GetParam door of)

-- setparam FD PARAM (U64 | max)
abbrev pub setparam_request : Reader Request
setparam_request = do
  door ← fd
  of ← param
  n ← value
  pure (SetParam door of n)

-- attach FD PATH
abbrev pub attach_request : Names → Reader Request
attach_request names = do
  door ← fd
  at ← path names
  pure (Attach door at)

-- write FD STRING
abbrev pub write_request : Reader Request
write_request = do
  to ← fd
  bytes ← data_bytes
  pure (Write to bytes)

-- read FD 1..4096
abbrev pub read_request : Reader Request
read_request = do
  from ← fd
  most ← number 1 4096
  pure (Read from most)

-- associate FD FD POLL U64
abbrev pub associate_request : Reader Request
associate_request = do
  port ← fd
  object ← fd
  events ← poll
  user ← number_64
  pure (Associate port object events user)

-- dissociate FD FD
abbrev pub dissociate_request : Reader Request
dissociate_request = do
  port ← fd
  object ← fd
  pure (Dissociate port object)

-- get FD [nowait]
abbrev pub get_request : Reader Request
get_request = do
  port ← fd
  wait ← waits
  pure (Get port wait)

-- getn FD 0..64 U32 [nowait]
abbrev pub getn_request : Reader Request
getn_request = do
  port ← fd
  most ← number 0 64
  least ← number_32
  wait ← waits
  pure (GetN port most least wait)

-- send FD U32 U64
abbrev pub send_request : Reader Request
send_request = do
  port ← fd
  events ← number_32
  user ← number_64
  pure (Send port events user)

-- sendn U32 U64 FD {FD}
abbrev pub sendn_request : Reader Request
sendn_request = do
  events ← number_32
  user ← number_64
  to ← ports
  pure (SendN to events user)

-- alert FD MODE U32 U64
abbrev pub alert_request : Reader Request
alert_request = do
  port ← fd
  how ← mode
  events ← number_32
  user ← number_64
  pure (Alert port how events user)

-- tcreate FD U64
abbrev pub tcreate_request : Reader Request
tcreate_request = do
  port ← fd
  user ← number_64
  pure (TimerCreate port user)

-- tset U32 DELAY DELAY
abbrev pub tset_request : Reader Request
tset_request = do
  timer ← number_32
  first ← number 0 DELAY_MAX
  interval ← number 0 DELAY_MAX
  pure (TimerSet timer first interval)

-- tdelete U32
abbrev pub tdelete_request : Reader Request
tdelete_request = do
  timer ← number_32
  pure (TimerDelete timer)

-- once the clock is too late to move, any advance is out of range
abbrev pub advance_in_time : Bool → ℕ → Reader Request
advance_in_time false by = pure (Advance by)
advance_in_time true by = value_out_of_range (Advance by)

-- advance 1..10000
abbrev pub advance_request : Bool → Reader Request
advance_request late = do
  by ← number 1 ADVANCE_MAX
  advance_in_time late by

-- interrupt THREAD
abbrev pub interrupt_request : Names → Reader Request
interrupt_request names = do
  whom ← thread names
  pure (Interrupt whom)

-- kill PROCESS
abbrev pub kill_request : Names → Reader Request
kill_request names = do
  whom ← process names
  pure (Kill whom)

-- fork CHILD, a child of this process
abbrev pub fork_request : Names → ℕ → Reader Request
fork_request names of = do
  begins ← child names of
  pure (Fork begins)

-- what follows the word of a request by a thread of this process, where the clock may be too late to move
abbrev pub request_with : Names → ℕ → Bool → What → Reader Request
request_with names of late what.Create = create_request names of
request_with names of late what.Call = call_request
request_with names of late what.Return = return_request
request_with names of late what.Revoke = with_fd Revoke
request_with names of late what.Bind = with_fd Bind
request_with names of late what.Unbind = pure Unbind
request_with names of late what.Info = info_request
request_with names of late what.GetParam = getparam_request
request_with names of late what.SetParam = setparam_request
request_with names of late what.Cred = pure Cred
request_with names of late what.TestCancel = pure TestCancel
request_with names of late what.Close = with_fd Close
request_with names of late what.Dup = with_fd Dup
request_with names of late what.Attach = attach_request names
request_with names of late what.Detach = with_path names Detach
request_with names of late what.Open = with_path names Open
request_with names of late what.Await = with_path names Await
request_with names of late what.Pipe = pure Pipe
request_with names of late what.Write = write_request
request_with names of late what.Read = read_request
request_with names of late what.PortCreate = pure PortCreate
request_with names of late what.Associate = associate_request
request_with names of late what.Dissociate = dissociate_request
request_with names of late what.Get = get_request
request_with names of late what.GetN = getn_request
request_with names of late what.Send = send_request
request_with names of late what.SendN = sendn_request
request_with names of late what.Alert = alert_request
request_with names of late what.TimerCreate = tcreate_request
request_with names of late what.TimerSet = tset_request
request_with names of late what.TimerDelete = tdelete_request
request_with names of late what.Advance = advance_request late
request_with names of late what.Interrupt = interrupt_request names
request_with names of late what.Kill = kill_request names
request_with names of late what.Exit = pure Exit
request_with names of late what.Fork = fork_request names of
request_with names of late _ = misspelling

abbrev pub asked_as : Bool → Names → ℕ → Bool → What → Reader Asked
asked_as true names of late how = pure (GoOn how)
asked_as false names of late how = request_with names of late how >>= (λ request. pure (Enter request))

abbrev pub is_wait_end : What → Bool
is_wait_end what.Accept = true
is_wait_end what.Collect = true
is_wait_end what.Got = true
is_wait_end what.Found = true
is_wait_end what.Woken = true
is_wait_end _ = false

-- what follows the fourth word of an event
abbrev pub asked_with : Names → ℕ → Bool → What → Reader Asked
asked_with names of late how = asked_as (is_wait_end how) names of late how

-- what the reader's own contracts say

-- the request on a descriptor, or on a path, of what has no other operands
abbrev pub request_on : What → Fd → Request
request_on what.Bind = Bind
request_on what.Close = Close
request_on what.Dup = Dup
request_on _ = Revoke

abbrev pub request_at : What → PathId → Request
request_at what.Detach = Detach
request_at what.Await = Await
request_at _ = Open
