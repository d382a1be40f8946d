-- The words of a line in the canonical text.
use Rattle.std.specs.Prelude.{ℕ, Bool, true, false, ◌==◌, ◌++◌, List, [], ◌∷◌, unwrap_or, option_map, map, flat_map, slice_get, codes, decimal, if◌then◌else◌}
use Rattle.line_text.specs.Types.{PathId, Pid, Tid}
use Rattle.line_text.specs.Words.{quoted_text}
use Rattle.line_forms.specs.declared.line.FdArg.{FdArg}
use Rattle.line_forms.specs.declared.line.FdArg.TheVariants.{Number, Of as OfFd}
use Rattle.line_forms.specs.declared.line.PassArg.{PassArg}
use Rattle.line_forms.specs.declared.line.Piece.{Piece}
use Rattle.line_forms.specs.declared.line.Piece.TheVariants.{Text, Of, Fill}
use Rattle.line_forms.specs.declared.line.Line.{Line}
use Rattle.line_forms.specs.declared.line.Line.TheVariants.{Create, Call, Return, Serve, Revoke, Bind, Unbind, Info, InfoQuery, GetParam, SetParam, Cred, TestCancel, Exit, Close, Dup, Attach, Detach, Open, Await, Pipe, Write, Read, PortCreate, Associate, Dissociate, Get, GetN, Send, SendN, Alert, TimerCreate, TimerSet, TimerDelete, Advance, Interrupt, Kill, Fork, Work, Ncd, Repeat, If, End}
use Rattle.dk_base.specs.ByNumber.{at_number}
use Rattle.line_forms.specs.Tables.{Tables}
use Rattle.line_forms.specs.Sets.{attribute_words, poll_word}
use Rattle.line_forms.specs.Enumerated.{param_word, mode_word, op_word, cond_word}
use Rattle.line_forms.specs.GreatestNumbers.{greatest_64}

abbrev pub process_word : Tables → Pid → List ℕ
process_word tables process = unwrap_or (at_number tables.processes process.0) []

abbrev pub thread_word : Tables → Tid → List ℕ
thread_word tables thread = unwrap_or (at_number tables.threads thread.0) []

abbrev pub procedure_word : Tables → ℕ → List ℕ
procedure_word tables entry = unwrap_or (option_map (λ procedure. procedure.name) (slice_get tables.procedures entry)) []

abbrev pub path_word : Tables → PathId → List ℕ
path_word tables path = unwrap_or (slice_get tables.paths path.0) []

-- $VAR; 36 is `$`
abbrev pub variable_word : List ℕ → List ℕ
variable_word variable = 36 ∷ variable

-- $VAR.0 is written $VAR; 46 is `.`
abbrev pub fd_word : FdArg → List ℕ
fd_word (Number n) = decimal n
fd_word (OfFd variable k) = if k == 0 then variable_word variable else variable_word variable ++ 46 ∷ decimal k

-- 33 is `!`
abbrev pub release_mark : Bool → List ℕ
release_mark true = 33 ∷ []
release_mark false = []

abbrev pub pass_word : PassArg → List ℕ
pass_word pass = fd_word pass.fd ++ release_mark pass.release

abbrev pub piece_word : Piece → List ℕ
piece_word (Text text) = quoted_text text
piece_word (Of variable) = variable_word variable
piece_word (Fill n) = codes "fill:" ++ decimal n

abbrev pub joined_piece : Piece → List (List ℕ)
joined_piece piece = codes "+" ∷ piece_word piece ∷ []

abbrev pub data_words : List Piece → List (List ℕ)
data_words [] = []
data_words (piece ∷ pieces) = piece_word piece ∷ flat_map joined_piece pieces

abbrev pub desc_words : List PassArg → List (List ℕ)
desc_words [] = []
desc_words (pass ∷ passes) = codes "desc" ∷ map pass_word (pass ∷ passes)

-- the greatest number of `setparam` is written `max`
abbrev pub value_word : ℕ → List ℕ
value_word value = if value == greatest_64 then codes "max" else decimal value

abbrev pub wait_words : Bool → List (List ℕ)
wait_words true = []
wait_words false = codes "nowait" ∷ []

abbrev pub line_words : Tables → Line → List (List ℕ)
line_words tables (Create var entry cookie attrs) = codes "create" ∷ var ∷ procedure_word tables entry ∷ decimal cookie ∷ attribute_words attrs
line_words tables (Call var fd bytes pass rsize) = codes "call" ∷ var ∷ fd_word fd ∷ data_words bytes ++ desc_words pass ++ codes "rsize" ∷ decimal rsize ∷ []
line_words tables (Return bytes pass) = codes "return" ∷ data_words bytes ++ desc_words pass
line_words tables Serve = codes "serve" ∷ []
line_words tables (Revoke fd) = codes "revoke" ∷ fd_word fd ∷ []
line_words tables (Bind fd) = codes "bind" ∷ fd_word fd ∷ []
line_words tables Unbind = codes "unbind" ∷ []
line_words tables (Info fd) = codes "info" ∷ fd_word fd ∷ []
line_words tables InfoQuery = codes "info" ∷ codes "query" ∷ []
line_words tables (GetParam fd param) = codes "getparam" ∷ fd_word fd ∷ param_word param ∷ []
line_words tables (SetParam fd param value) = codes "setparam" ∷ fd_word fd ∷ param_word param ∷ value_word value ∷ []
line_words tables Cred = codes "cred" ∷ []
line_words tables TestCancel = codes "testcancel" ∷ []
line_words tables Exit = codes "exit" ∷ []
line_words tables (Close fd) = codes "close" ∷ fd_word fd ∷ []
line_words tables (Dup var fd) = codes "dup" ∷ var ∷ fd_word fd ∷ []
line_words tables (Attach fd path) = codes "attach" ∷ fd_word fd ∷ path_word tables path ∷ []
line_words tables (Detach path) = codes "detach" ∷ path_word tables path ∷ []
line_words tables (Open var path) = codes "open" ∷ var ∷ path_word tables path ∷ []
line_words tables (Await path) = codes "await" ∷ path_word tables path ∷ []
line_words tables (Pipe reading writing) = codes "pipe" ∷ reading ∷ writing ∷ []
line_words tables (Write fd bytes) = codes "write" ∷ fd_word fd ∷ data_words bytes
line_words tables (Read var fd max) = codes "read" ∷ var ∷ fd_word fd ∷ decimal max ∷ []
line_words tables (PortCreate var) = codes "pcreate" ∷ var ∷ []
line_words tables (Associate port object events user) = codes "associate" ∷ fd_word port ∷ fd_word object ∷ poll_word events ∷ decimal user ∷ []
line_words tables (Dissociate port object) = codes "dissociate" ∷ fd_word port ∷ fd_word object ∷ []
line_words tables (Get port wait) = codes "get" ∷ fd_word port ∷ wait_words wait
line_words tables (GetN port max nget wait) = codes "getn" ∷ fd_word port ∷ decimal max ∷ decimal nget ∷ wait_words wait
line_words tables (Send port events user) = codes "send" ∷ fd_word port ∷ decimal events ∷ decimal user ∷ []
line_words tables (SendN events user ports) = codes "sendn" ∷ decimal events ∷ decimal user ∷ map fd_word ports
line_words tables (Alert port mode events user) = codes "alert" ∷ fd_word port ∷ mode_word mode ∷ decimal events ∷ decimal user ∷ []
line_words tables (TimerCreate port user) = codes "tcreate" ∷ fd_word port ∷ decimal user ∷ []
line_words tables (TimerSet timer first interval) = codes "tset" ∷ decimal timer ∷ decimal first ∷ decimal interval ∷ []
line_words tables (TimerDelete timer) = codes "tdelete" ∷ decimal timer ∷ []
line_words tables (Advance by) = codes "advance" ∷ decimal by ∷ []
line_words tables (Interrupt thread) = codes "interrupt" ∷ thread_word tables thread ∷ []
line_words tables (Kill process) = codes "kill" ∷ process_word tables process ∷ []
line_words tables (Fork child) = codes "fork" ∷ process_word tables child ∷ []
line_words tables (Work var op bytes) = codes "work" ∷ var ∷ op_word op ∷ data_words bytes
line_words tables (Ncd var bytes) = codes "ncd" ∷ var ∷ data_words bytes
line_words tables (Repeat times) = codes "repeat" ∷ decimal times ∷ []
line_words tables (If cond) = codes "if" ∷ cond_word cond ∷ []
line_words tables End = codes "end" ∷ []

abbrev pub words_after_first : List (List ℕ) → List (List ℕ)
words_after_first [] = []
words_after_first (word ∷ words) = words

-- the words of a line after its keyword, in the canonical text
abbrev pub operand_words : Tables → Line → List (List ℕ)
operand_words tables line = words_after_first (line_words tables line)
