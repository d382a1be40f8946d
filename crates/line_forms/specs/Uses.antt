-- The variables and the paths that a line names, in their order.
use Rattle.std.specs.Prelude.{ℕ, List, [], ◌∷◌, ◌++◌, flat_map}
use Rattle.line_text.specs.Types.{PathId}
use Rattle.line_forms.specs.declared.line.FdArg.{FdArg}
use Rattle.line_forms.specs.declared.line.FdArg.TheVariants.{Number, Of as OfFd}
use Rattle.line_forms.specs.declared.line.PassArg.{PassArg}
use Rattle.line_forms.specs.declared.line.Piece.{Piece}
use Rattle.line_forms.specs.declared.line.Piece.TheVariants.{Text, Of, Fill}
use Rattle.line_forms.specs.declared.line.Line.{Line}
use Rattle.line_forms.specs.declared.line.Line.TheVariants.{Create, Call, Return, Serve, Revoke, Bind, Unbind, Info, InfoQuery, GetParam, SetParam, Cred, TestCancel, Exit, Close, Dup, Attach, Detach, Open, Await, Pipe, Write, Read, PortCreate, Associate, Dissociate, Get, GetN, Send, SendN, Alert, TimerCreate, TimerSet, TimerDelete, Advance, Interrupt, Kill, Fork, Work, Ncd, Repeat, If, End}

abbrev pub fd_variables : FdArg → List (List ℕ)
fd_variables (Number n) = []
fd_variables (OfFd variable k) = variable ∷ []

abbrev pub pass_variables : PassArg → List (List ℕ)
pass_variables pass = fd_variables pass.fd

abbrev pub piece_variables : Piece → List (List ℕ)
piece_variables (Text text) = []
piece_variables (Of variable) = variable ∷ []
piece_variables (Fill n) = []

-- VAR, $VAR and $VAR.K of a line
abbrev pub variables_of : Line → List (List ℕ)
variables_of (Create var entry cookie attrs) = var ∷ []
variables_of (Call var fd bytes pass rsize) = var ∷ fd_variables fd ++ flat_map piece_variables bytes ++ flat_map pass_variables pass
variables_of (Return bytes pass) = flat_map piece_variables bytes ++ flat_map pass_variables pass
variables_of Serve = []
variables_of (Revoke fd) = fd_variables fd
variables_of (Bind fd) = fd_variables fd
variables_of Unbind = []
variables_of (Info fd) = fd_variables fd
variables_of InfoQuery = []
variables_of (GetParam fd param) = fd_variables fd
variables_of (SetParam fd param value) = fd_variables fd
variables_of Cred = []
variables_of TestCancel = []
variables_of Exit = []
variables_of (Close fd) = fd_variables fd
variables_of (Dup var fd) = var ∷ fd_variables fd
variables_of (Attach fd path) = fd_variables fd
variables_of (Detach path) = []
variables_of (Open var path) = var ∷ []
variables_of (Await path) = []
variables_of (Pipe reading writing) = reading ∷ writing ∷ []
variables_of (Write fd bytes) = fd_variables fd ++ flat_map piece_variables bytes
variables_of (Read var fd max) = var ∷ fd_variables fd
variables_of (PortCreate var) = var ∷ []
variables_of (Associate port object events user) = fd_variables port ++ fd_variables object
variables_of (Dissociate port object) = fd_variables port ++ fd_variables object
variables_of (Get port wait) = fd_variables port
variables_of (GetN port max nget wait) = fd_variables port
variables_of (Send port events user) = fd_variables port
variables_of (SendN events user ports) = flat_map fd_variables ports
variables_of (Alert port mode events user) = fd_variables port
variables_of (TimerCreate port user) = fd_variables port
variables_of (TimerSet timer first interval) = []
variables_of (TimerDelete timer) = []
variables_of (Advance by) = []
variables_of (Interrupt thread) = []
variables_of (Kill process) = []
variables_of (Fork child) = []
variables_of (Work var op bytes) = var ∷ flat_map piece_variables bytes
variables_of (Ncd var bytes) = var ∷ flat_map piece_variables bytes
variables_of (Repeat times) = []
variables_of (If cond) = []
variables_of End = []

-- PATH of a line
abbrev pub paths_of : Line → List PathId
paths_of (Attach fd path) = path ∷ []
paths_of (Detach path) = path ∷ []
paths_of (Open var path) = path ∷ []
paths_of (Await path) = path ∷ []
paths_of line = []
