-- The keyword of a line.
use Rattle.std.specs.Prelude.{ℕ}
use Rattle.line_forms.specs.declared.keyword.Keyword.{Keyword}
use Rattle.line_forms.specs.declared.keyword.Keyword.TheVariants as keyword
use Rattle.line_forms.specs.declared.line.Line.{Line}
use Rattle.line_forms.specs.Keywords.{keyword_version}
use Rattle.line_forms.specs.declared.line.Line.TheVariants.{Create, Call, Return, Serve, Revoke, Bind, Unbind, Info, InfoQuery, GetParam, SetParam, Cred, TestCancel, Exit, Close, Dup, Attach, Detach, Open, Await, Pipe, Write, Read, PortCreate, Associate, Dissociate, Get, GetN, Send, SendN, Alert, TimerCreate, TimerSet, TimerDelete, Advance, Interrupt, Kill, Fork, Work, Ncd, Repeat, If, End}

abbrev pub keyword_of_line : Line → Keyword
keyword_of_line (Create var entry cookie attrs) = keyword.Create
keyword_of_line (Call var door bytes pass room) = keyword.Call
keyword_of_line (Return bytes pass) = keyword.Return
keyword_of_line Serve = keyword.Serve
keyword_of_line (Revoke door) = keyword.Revoke
keyword_of_line (Bind door) = keyword.Bind
keyword_of_line Unbind = keyword.Unbind
keyword_of_line (Info fd) = keyword.Info
keyword_of_line InfoQuery = keyword.Info
keyword_of_line (GetParam door of) = keyword.GetParam
keyword_of_line (SetParam door of n) = keyword.SetParam
keyword_of_line Cred = keyword.Cred
keyword_of_line TestCancel = keyword.TestCancel
keyword_of_line Exit = keyword.Exit
keyword_of_line (Close of) = keyword.Close
keyword_of_line (Dup var of) = keyword.Dup
keyword_of_line (Attach door at) = keyword.Attach
keyword_of_line (Detach at) = keyword.Detach
keyword_of_line (Open var at) = keyword.Open
keyword_of_line (Await at) = keyword.Await
keyword_of_line (Pipe reading writing) = keyword.Pipe
keyword_of_line (Write to bytes) = keyword.Write
keyword_of_line (Read var from most) = keyword.Read
keyword_of_line (PortCreate var) = keyword.PortCreate
keyword_of_line (Associate port object events user) = keyword.Associate
keyword_of_line (Dissociate port object) = keyword.Dissociate
keyword_of_line (Get port wait) = keyword.Get
keyword_of_line (GetN port most least wait) = keyword.GetN
keyword_of_line (Send port events user) = keyword.Send
keyword_of_line (SendN events user to) = keyword.SendN
keyword_of_line (Alert port how events user) = keyword.Alert
keyword_of_line (TimerCreate port user) = keyword.TimerCreate
keyword_of_line (TimerSet timer first interval) = keyword.TimerSet
keyword_of_line (TimerDelete timer) = keyword.TimerDelete
keyword_of_line (Advance by) = keyword.Advance
keyword_of_line (Interrupt whom) = keyword.Interrupt
keyword_of_line (Kill whom) = keyword.Kill
keyword_of_line (Fork child) = keyword.Fork
keyword_of_line (Work var of bytes) = keyword.Work
keyword_of_line (Ncd var bytes) = keyword.Ncd
keyword_of_line (Repeat times) = keyword.Repeat
keyword_of_line (If of) = keyword.If
keyword_of_line End = keyword.End

-- the least version in whose texts a line may stand
abbrev pub line_version : Line → ℕ
line_version line = keyword_version (keyword_of_line line)
