-- The operands of each command, in the order of the language's table.
use Rattle.std.specs.Prelude.{ℕ, Bool, true, false, codes}
use Rattle.line_reader.specs.Types.{Keyword, Line}
use Rattle.line_forms.specs.declared.keyword.Keyword.TheVariants as keyword
use Rattle.line_forms.specs.declared.line.Line.TheVariants.{Create, Call, Return, Serve, Revoke, Bind, Unbind, Info, InfoQuery, GetParam, SetParam, Cred, TestCancel, Exit, Close, Dup, Attach, Detach, Open, Await, Pipe, Write, Read, PortCreate, Associate, Dissociate, Get, GetN, Send, SendN, Alert, TimerCreate, TimerSet, TimerDelete, Advance, Interrupt, Kill, Fork, Work, Ncd, Repeat, If, End}
use Rattle.line_forms.specs.Words.{Tables, greatest_32, greatest_64}
use Rattle.line_reader.specs.Combinators.{Reader, optional_word, value_at_end, ◌>>=◌}
use Rattle.line_reader.specs.Operands.{number, name, procedure, thread, process, child, path, fd, passes, rsize, ports, pieces, attributes, poll, param, mode, op, condition, value, wait_option}

-- create VAR PROC COOKIE ATTR ..
unfoldable pub create_line : Tables → ℕ → Reader Line
create_line tables process = do
  var ← name
  entry ← procedure tables process
  cookie ← number 0 greatest_64
  attrs ← attributes
  value_at_end (Create var entry cookie attrs)

-- call VAR FD DATA, then optionally desc PASS .., then optionally rsize N
unfoldable pub call_line : Reader Line
call_line = do
  var ← name
  door ← fd
  bytes ← pieces
  pass ← passes
  room ← rsize
  value_at_end (Call var door bytes pass room)

-- return DATA, then optionally desc PASS ..
unfoldable pub return_line : Reader Line
return_line = do
  bytes ← pieces
  pass ← passes
  value_at_end (Return bytes pass)

-- serve
unfoldable pub serve_line : Reader Line
serve_line = value_at_end Serve

-- revoke FD
unfoldable pub revoke_line : Reader Line
revoke_line = do
  door ← fd
  value_at_end (Revoke door)

-- bind FD
unfoldable pub bind_line : Reader Line
bind_line = do
  door ← fd
  value_at_end (Bind door)

-- unbind
unfoldable pub unbind_line : Reader Line
unbind_line = value_at_end Unbind

abbrev pub info_after : Bool → Reader Line
info_after true = value_at_end InfoQuery
info_after false = do
  door ← fd
  value_at_end (Info door)

-- info FD, info query
unfoldable pub info_line : Reader Line
info_line = do
  query ← optional_word (codes "query")
  info_after query

-- getparam FD PARAM
unfoldable pub getparam_line : Reader Line
getparam_line = do
  door ← fd
  of ← param
  value_at_end (GetParam door of)

-- setparam FD PARAM N
unfoldable pub setparam_line : Reader Line
setparam_line = do
  door ← fd
  of ← param
  n ← value
  value_at_end (SetParam door of n)

-- cred
unfoldable pub cred_line : Reader Line
cred_line = value_at_end Cred

-- testcancel
unfoldable pub testcancel_line : Reader Line
testcancel_line = value_at_end TestCancel

-- exit
unfoldable pub exit_line : Reader Line
exit_line = value_at_end Exit

-- close FD
unfoldable pub close_line : Reader Line
close_line = do
  of ← fd
  value_at_end (Close of)

-- dup VAR FD
unfoldable pub dup_line : Reader Line
dup_line = do
  var ← name
  of ← fd
  value_at_end (Dup var of)

-- attach FD PATH
unfoldable pub attach_line : Tables → Reader Line
attach_line tables = do
  door ← fd
  at ← path tables
  value_at_end (Attach door at)

-- detach PATH
unfoldable pub detach_line : Tables → Reader Line
detach_line tables = do
  at ← path tables
  value_at_end (Detach at)

-- open VAR PATH
unfoldable pub open_line : Tables → Reader Line
open_line tables = do
  var ← name
  at ← path tables
  value_at_end (Open var at)

-- await PATH
unfoldable pub await_line : Tables → Reader Line
await_line tables = do
  at ← path tables
  value_at_end (Await at)

-- pipe VAR VAR
unfoldable pub pipe_line : Reader Line
pipe_line = do
  reading ← name
  writing ← name
  value_at_end (Pipe reading writing)

-- write FD DATA
unfoldable pub write_line : Reader Line
write_line = do
  to ← fd
  bytes ← pieces
  value_at_end (Write to bytes)

-- read VAR FD N (N from 1 to 4096)
unfoldable pub read_line : Reader Line
read_line = do
  var ← name
  from ← fd
  most ← number 1 4096
  value_at_end (Read var from most)

-- pcreate VAR
unfoldable pub pcreate_line : Reader Line
pcreate_line = do
  var ← name
  value_at_end (PortCreate var)

-- associate FD FD POLL USER
unfoldable pub associate_line : Reader Line
associate_line = do
  port ← fd
  object ← fd
  events ← poll
  user ← number 0 greatest_64
  value_at_end (Associate port object events user)

-- dissociate FD FD
unfoldable pub dissociate_line : Reader Line
dissociate_line = do
  port ← fd
  object ← fd
  value_at_end (Dissociate port object)

-- get FD, get FD nowait
unfoldable pub get_line : Reader Line
get_line = do
  port ← fd
  wait ← wait_option
  value_at_end (Get port wait)

-- getn FD MAX NGET, getn FD MAX NGET nowait (MAX and NGET from 0 to 64)
unfoldable pub getn_line : Reader Line
getn_line = do
  port ← fd
  most ← number 0 64
  least ← number 0 64
  wait ← wait_option
  value_at_end (GetN port most least wait)

-- send FD EV USER
unfoldable pub send_line : Reader Line
send_line = do
  port ← fd
  events ← number 0 greatest_32
  user ← number 0 greatest_64
  value_at_end (Send port events user)

-- sendn EV USER FD .. (1 to 16)
unfoldable pub sendn_line : Reader Line
sendn_line = do
  events ← number 0 greatest_32
  user ← number 0 greatest_64
  to ← ports
  value_at_end (SendN events user to)

-- alert FD MODE EV USER
unfoldable pub alert_line : Reader Line
alert_line = do
  port ← fd
  how ← mode
  events ← number 0 greatest_32
  user ← number 0 greatest_64
  value_at_end (Alert port how events user)

-- tcreate FD USER
unfoldable pub tcreate_line : Reader Line
tcreate_line = do
  port ← fd
  user ← number 0 greatest_64
  value_at_end (TimerCreate port user)

-- tset ID FIRST INTERVAL (ID from 0 to 31, FIRST and INTERVAL from 0 to 1000000000)
unfoldable pub tset_line : Reader Line
tset_line = do
  timer ← number 0 31
  first ← number 0 1000000000
  interval ← number 0 1000000000
  value_at_end (TimerSet timer first interval)

-- tdelete ID
unfoldable pub tdelete_line : Reader Line
tdelete_line = do
  timer ← number 0 31
  value_at_end (TimerDelete timer)

-- advance N (N from 1 to 10000)
unfoldable pub advance_line : Reader Line
advance_line = do
  by ← number 1 10000
  value_at_end (Advance by)

-- interrupt THREAD
unfoldable pub interrupt_line : Tables → Reader Line
interrupt_line tables = do
  whom ← thread tables
  value_at_end (Interrupt whom)

-- kill PROCESS
unfoldable pub kill_line : Tables → Reader Line
kill_line tables = do
  whom ← process tables
  value_at_end (Kill whom)

-- fork CHILD
unfoldable pub fork_line : Tables → ℕ → Reader Line
fork_line tables of = do
  begins ← child tables of
  value_at_end (Fork begins)

-- work VAR OP DATA
unfoldable pub work_line : Reader Line
work_line = do
  var ← name
  of ← op
  bytes ← pieces
  value_at_end (Work var of bytes)

-- ncd VAR DATA
unfoldable pub ncd_line : Reader Line
ncd_line = do
  var ← name
  bytes ← pieces
  value_at_end (Ncd var bytes)

-- repeat N (N from 1 to 1000000)
unfoldable pub repeat_line : Reader Line
repeat_line = do
  times ← number 1 1000000
  value_at_end (Repeat times)

-- if COND
unfoldable pub if_line : Reader Line
if_line = do
  of ← condition
  value_at_end (If of)

-- end
unfoldable pub end_line : Reader Line
end_line = value_at_end End

-- what follows the first word of a line, in a body of this process
abbrev pub line_with : Tables → ℕ → Keyword → Reader Line
line_with tables process keyword.Create = create_line tables process
line_with tables process keyword.Call = call_line
line_with tables process keyword.Return = return_line
line_with tables process keyword.Serve = serve_line
line_with tables process keyword.Revoke = revoke_line
line_with tables process keyword.Bind = bind_line
line_with tables process keyword.Unbind = unbind_line
line_with tables process keyword.Info = info_line
line_with tables process keyword.GetParam = getparam_line
line_with tables process keyword.SetParam = setparam_line
line_with tables process keyword.Cred = cred_line
line_with tables process keyword.TestCancel = testcancel_line
line_with tables process keyword.Exit = exit_line
line_with tables process keyword.Close = close_line
line_with tables process keyword.Dup = dup_line
line_with tables process keyword.Attach = attach_line tables
line_with tables process keyword.Detach = detach_line tables
line_with tables process keyword.Open = open_line tables
line_with tables process keyword.Await = await_line tables
line_with tables process keyword.Pipe = pipe_line
line_with tables process keyword.Write = write_line
line_with tables process keyword.Read = read_line
line_with tables process keyword.PortCreate = pcreate_line
line_with tables process keyword.Associate = associate_line
line_with tables process keyword.Dissociate = dissociate_line
line_with tables process keyword.Get = get_line
line_with tables process keyword.GetN = getn_line
line_with tables process keyword.Send = send_line
line_with tables process keyword.SendN = sendn_line
line_with tables process keyword.Alert = alert_line
line_with tables process keyword.TimerCreate = tcreate_line
line_with tables process keyword.TimerSet = tset_line
line_with tables process keyword.TimerDelete = tdelete_line
line_with tables process keyword.Advance = advance_line
line_with tables process keyword.Interrupt = interrupt_line tables
line_with tables process keyword.Kill = kill_line tables
line_with tables process keyword.Fork = fork_line tables process
line_with tables process keyword.Work = work_line
line_with tables process keyword.Ncd = ncd_line
line_with tables process keyword.Repeat = repeat_line
line_with tables process keyword.If = if_line
line_with tables process keyword.End = end_line
