-- A line after its keyword fails with `form` or with `range` and with no other reason.
use Rattle.std.proofs.Common.{ℕ, Bool, true, false, List, [], ◌∷◌}
use Rattle.std.specs.Prelude.{codes}
use Rattle.line_reader.specs.Types.{Keyword, Line}
use Rattle.line_forms.specs.declared.keyword.Keyword.TheVariants as keyword
use Rattle.line_forms.specs.declared.line.Line.TheVariants.{Create, Call, Return, Serve, Revoke, Bind, Unbind, Info, InfoQuery, GetParam, SetParam, Cred, TestCancel, Exit, Close, Dup, Attach, Detach, Open, Await, Pipe, Write, Read, PortCreate, Associate, Dissociate, Get, GetN, Send, SendN, Alert, TimerCreate, TimerSet, TimerDelete, Advance, Interrupt, Kill, Fork, Work, Ncd, Repeat, If, End}
use Rattle.line_forms.specs.Words.{Tables, greatest_32, greatest_64}
use Rattle.line_reader.specs.Words.{advance_line, alert_line, associate_line, attach_line, attributes, await_line, bind_line, call_line, close_line, create_line, cred_line, detach_line, dissociate_line, dup_line, end_line, exit_line, fd, fork_line, get_line, getn_line, getparam_line, if_line, info_after, info_line, interrupt_line, kill_line, line_with, ncd_line, open_line, optional_word, passes, pcreate_line, pieces, pipe_line, ports, read_line, repeat_line, return_line, revoke_line, rsize, send_line, sendn_line, serve_line, setparam_line, tcreate_line, tdelete_line, testcancel_line, tset_line, unbind_line, wait_option, work_line, write_line}
use Rattle.law_lines.proofs.Formats.{Values, read_all}
use Rattle.law_lines.proofs.LastOperands.{Last, LastValue, read_last, NoMore, TheAttributes, TheWait, ThePorts, TheData, DataPasses, DataPassesRsize}
use Rattle.law_lines.proofs.WordKinds.{WordKind, read_word, AName, AProcedure, AThread, AProcess, AChild, APath, ANumber, AnFd, APoll, AParam, AMode, AnOp, ACond, AValue}
use Rattle.law_lines.proofs.OperandFailures.{ByOperands, fails-then, fails-optional_word, fails-value_at_end, fails-number, fails-name, fails-procedure, fails-thread, fails-process, fails-child, fails-path, fails-fd, fails-poll, fails-param, fails-mode, fails-op, fails-condition, fails-value, fails-passes, fails-rsize, fails-ports, fails-pieces, fails-attributes, fails-wait_option}

word_fails : (tables : Tables) (process : ℕ) (kind : WordKind) → ByOperands (read_word tables process kind)
word_fails tables process AName = fails-name
word_fails tables process AProcedure = fails-procedure tables process
word_fails tables process AThread = fails-thread tables
word_fails tables process AProcess = fails-process tables
word_fails tables process AChild = fails-child tables process
word_fails tables process APath = fails-path tables
word_fails tables process (ANumber low high) = fails-number low high
word_fails tables process AnFd = fails-fd
word_fails tables process APoll = fails-poll
word_fails tables process AParam = fails-param
word_fails tables process AMode = fails-mode
word_fails tables process AnOp = fails-op
word_fails tables process ACond = fails-condition
word_fails tables process AValue = fails-value

last_fails : (last : Last) (line : LastValue last → Line) → ByOperands (read_last last line)
last_fails NoMore line = fails-value_at_end (line tt)
last_fails TheAttributes line = fails-then attributes _ fails-attributes (λ set. fails-value_at_end _)
last_fails TheWait line = fails-then wait_option _ fails-wait_option (λ wait. fails-value_at_end _)
last_fails ThePorts line = fails-then ports _ fails-ports (λ fds. fails-value_at_end _)
last_fails TheData line = fails-then pieces _ fails-pieces (λ bytes. fails-value_at_end _)
last_fails DataPasses line = fails-then pieces _ fails-pieces (λ bytes. fails-then passes _ fails-passes (λ pass. fails-value_at_end _))
last_fails DataPassesRsize line = fails-then pieces _ fails-pieces (λ bytes. fails-then passes _ fails-passes (λ pass. fails-then rsize _ fails-rsize (λ room. fails-value_at_end _)))

all_fail : (tables : Tables) (process : ℕ) (kinds : List WordKind) (last : Last) (make : Values kinds last → Line) → ByOperands (read_all tables process kinds last make)
all_fail tables process [] last make = last_fails last make
all_fail tables process (kind ∷ kinds) last make =
    fails-then (read_word tables process kind) _ (word_fails tables process kind) (λ x. all_fail tables process kinds last (λ xs. make (x, xs)))

info_fails : (query : Bool) → ByOperands (info_after query)
info_fails true = fails-value_at_end InfoQuery
info_fails false = fails-then fd _ fails-fd (λ door. fails-value_at_end (Info door))

-- whatever follows the keyword
pub line_fails : (tables : Tables) (process : ℕ) (keyword : Keyword) → ByOperands (line_with tables process keyword)
unfolding create_line call_line return_line serve_line revoke_line bind_line unbind_line info_line getparam_line setparam_line cred_line testcancel_line exit_line close_line dup_line attach_line detach_line open_line await_line pipe_line write_line read_line pcreate_line associate_line dissociate_line get_line getn_line send_line sendn_line alert_line tcreate_line tset_line tdelete_line advance_line interrupt_line kill_line fork_line work_line ncd_line repeat_line if_line end_line
line_fails tables process keyword.Create = all_fail tables process (AName ∷ AProcedure ∷ ANumber 0 greatest_64 ∷ []) TheAttributes (λ v. Create v.0 v.1.0 v.1.1.0 v.1.1.1)
line_fails tables process keyword.Call = all_fail tables process (AName ∷ AnFd ∷ []) DataPassesRsize (λ v. Call v.0 v.1.0 v.1.1.0 v.1.1.1 v.1.1.2)
line_fails tables process keyword.Return = all_fail tables process [] DataPasses (λ v. Return v.0 v.1)
line_fails tables process keyword.Serve = all_fail tables process [] NoMore (λ v. Serve)
line_fails tables process keyword.Revoke = all_fail tables process (AnFd ∷ []) NoMore (λ v. Revoke v.0)
line_fails tables process keyword.Bind = all_fail tables process (AnFd ∷ []) NoMore (λ v. Bind v.0)
line_fails tables process keyword.Unbind = all_fail tables process [] NoMore (λ v. Unbind)
line_fails tables process keyword.Info = fails-then (optional_word (codes "query")) _ (fails-optional_word (codes "query")) info_fails
line_fails tables process keyword.GetParam = all_fail tables process (AnFd ∷ AParam ∷ []) NoMore (λ v. GetParam v.0 v.1.0)
line_fails tables process keyword.SetParam = all_fail tables process (AnFd ∷ AParam ∷ AValue ∷ []) NoMore (λ v. SetParam v.0 v.1.0 v.1.1.0)
line_fails tables process keyword.Cred = all_fail tables process [] NoMore (λ v. Cred)
line_fails tables process keyword.TestCancel = all_fail tables process [] NoMore (λ v. TestCancel)
line_fails tables process keyword.Exit = all_fail tables process [] NoMore (λ v. Exit)
line_fails tables process keyword.Close = all_fail tables process (AnFd ∷ []) NoMore (λ v. Close v.0)
line_fails tables process keyword.Dup = all_fail tables process (AName ∷ AnFd ∷ []) NoMore (λ v. Dup v.0 v.1.0)
line_fails tables process keyword.Attach = all_fail tables process (AnFd ∷ APath ∷ []) NoMore (λ v. Attach v.0 v.1.0)
line_fails tables process keyword.Detach = all_fail tables process (APath ∷ []) NoMore (λ v. Detach v.0)
line_fails tables process keyword.Open = all_fail tables process (AName ∷ APath ∷ []) NoMore (λ v. Open v.0 v.1.0)
line_fails tables process keyword.Await = all_fail tables process (APath ∷ []) NoMore (λ v. Await v.0)
line_fails tables process keyword.Pipe = all_fail tables process (AName ∷ AName ∷ []) NoMore (λ v. Pipe v.0 v.1.0)
line_fails tables process keyword.Write = all_fail tables process (AnFd ∷ []) TheData (λ v. Write v.0 v.1)
line_fails tables process keyword.Read = all_fail tables process (AName ∷ AnFd ∷ ANumber 1 4096 ∷ []) NoMore (λ v. Read v.0 v.1.0 v.1.1.0)
line_fails tables process keyword.PortCreate = all_fail tables process (AName ∷ []) NoMore (λ v. PortCreate v.0)
line_fails tables process keyword.Associate = all_fail tables process (AnFd ∷ AnFd ∷ APoll ∷ ANumber 0 greatest_64 ∷ []) NoMore (λ v. Associate v.0 v.1.0 v.1.1.0 v.1.1.1.0)
line_fails tables process keyword.Dissociate = all_fail tables process (AnFd ∷ AnFd ∷ []) NoMore (λ v. Dissociate v.0 v.1.0)
line_fails tables process keyword.Get = all_fail tables process (AnFd ∷ []) TheWait (λ v. Get v.0 v.1)
line_fails tables process keyword.GetN = all_fail tables process (AnFd ∷ ANumber 0 64 ∷ ANumber 0 64 ∷ []) TheWait (λ v. GetN v.0 v.1.0 v.1.1.0 v.1.1.1)
line_fails tables process keyword.Send = all_fail tables process (AnFd ∷ ANumber 0 greatest_32 ∷ ANumber 0 greatest_64 ∷ []) NoMore (λ v. Send v.0 v.1.0 v.1.1.0)
line_fails tables process keyword.SendN = all_fail tables process (ANumber 0 greatest_32 ∷ ANumber 0 greatest_64 ∷ []) ThePorts (λ v. SendN v.0 v.1.0 v.1.1)
line_fails tables process keyword.Alert = all_fail tables process (AnFd ∷ AMode ∷ ANumber 0 greatest_32 ∷ ANumber 0 greatest_64 ∷ []) NoMore (λ v. Alert v.0 v.1.0 v.1.1.0 v.1.1.1.0)
line_fails tables process keyword.TimerCreate = all_fail tables process (AnFd ∷ ANumber 0 greatest_64 ∷ []) NoMore (λ v. TimerCreate v.0 v.1.0)
line_fails tables process keyword.TimerSet = all_fail tables process (ANumber 0 31 ∷ ANumber 0 1000000000 ∷ ANumber 0 1000000000 ∷ []) NoMore (λ v. TimerSet v.0 v.1.0 v.1.1.0)
line_fails tables process keyword.TimerDelete = all_fail tables process (ANumber 0 31 ∷ []) NoMore (λ v. TimerDelete v.0)
line_fails tables process keyword.Advance = all_fail tables process (ANumber 1 10000 ∷ []) NoMore (λ v. Advance v.0)
line_fails tables process keyword.Interrupt = all_fail tables process (AThread ∷ []) NoMore (λ v. Interrupt v.0)
line_fails tables process keyword.Kill = all_fail tables process (AProcess ∷ []) NoMore (λ v. Kill v.0)
line_fails tables process keyword.Fork = all_fail tables process (AChild ∷ []) NoMore (λ v. Fork v.0)
line_fails tables process keyword.Work = all_fail tables process (AName ∷ AnOp ∷ []) TheData (λ v. Work v.0 v.1.0 v.1.1)
line_fails tables process keyword.Ncd = all_fail tables process (AName ∷ []) TheData (λ v. Ncd v.0 v.1)
line_fails tables process keyword.Repeat = all_fail tables process (ANumber 1 1000000 ∷ []) NoMore (λ v. Repeat v.0)
line_fails tables process keyword.If = all_fail tables process (ACond ∷ []) NoMore (λ v. If v.0)
line_fails tables process keyword.End = all_fail tables process [] NoMore (λ v. End)
