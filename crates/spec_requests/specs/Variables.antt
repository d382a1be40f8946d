-- The variables of a frame, and what operands are by them.
use Rattle.std.specs.Prelude.{ℕ, List, [], ◌∷◌, Option, Some, None, if◌then◌else◌, bytes_eq, flat_map, replicate, slice_get, take}
use Rattle.spec_requests.specs.Types.{Answer, Fd, Pass}
use Rattle.dk_base.specs.declared.answer.Answer.TheVariants as answer
use Rattle.script_lang.specs.Types.{FdArg, Line, PassArg, Piece}
use Rattle.line_forms.specs.declared.line.FdArg.TheVariants.{Number, Of as OfFd}
use Rattle.line_forms.specs.declared.line.Line.TheVariants as line
use Rattle.line_forms.specs.declared.line.Piece.TheVariants.{Text, Of, Fill}

-- what a variable holds
pub record Value : Type 0 where
  pub bytes : List ℕ
  pub descriptors : List Fd

abbrev pub empty_value : Value
empty_value = record { bytes = []; descriptors = [] }

abbrev pub with_bytes : List ℕ → Value
with_bytes bytes = record { bytes = bytes; descriptors = [] }

abbrev pub with_descriptor : Fd → Value
with_descriptor fd = record { bytes = []; descriptors = fd ∷ [] }

abbrev pub with_both : List ℕ → List Fd → Value
with_both bytes fds = record { bytes = bytes; descriptors = fds }

abbrev pub Variables : Type 0
Variables = List ℕ → Value

abbrev pub no_variables : Variables
no_variables name = empty_value

-- setting a variable replaces its whole value
abbrev pub set_variable : Variables → List ℕ → Value → Variables
set_variable variables var value name = if bytes_eq name var then value else variables name

-- operands

-- a number that no table has
abbrev pub no_descriptor : Fd
no_descriptor = record { 0 = 4294967295 }

abbrev pub or_no_descriptor : Option Fd → Fd
or_no_descriptor None = no_descriptor
or_no_descriptor (Some fd) = fd

abbrev pub fd_of : Variables → FdArg → Fd
fd_of variables (Number n) = record { 0 = n }
fd_of variables (OfFd var k) = or_no_descriptor (slice_get (variables var).descriptors k)

abbrev pub pass_of : Variables → PassArg → Pass
pass_of variables pass = record { fd = fd_of variables pass.fd; release = pass.release }

-- `fill:N` is N bytes `x`
abbrev pub piece_bytes : Variables → Piece → List ℕ
piece_bytes variables (Text bytes) = bytes
piece_bytes variables (Of var) = (variables var).bytes
piece_bytes variables (Fill n) = replicate n 120

unfoldable pub greatest_data : ℕ
greatest_data = 8192

-- the bytes of DATA, cut to the first 8,192
abbrev pub data_of : Variables → List Piece → List ℕ
data_of variables pieces = take greatest_data (flat_map (piece_bytes variables) pieces)

-- what answers set

-- the variables that a command sets, in order
abbrev pub vars_of : Line → List (List ℕ)
vars_of (line.Create var entry cookie attrs) = var ∷ []
vars_of (line.Call var fd bytes pass rsize) = var ∷ []
vars_of (line.Dup var fd) = var ∷ []
vars_of (line.Open var path) = var ∷ []
vars_of (line.Pipe reading writing) = reading ∷ writing ∷ []
vars_of (line.Read var fd most) = var ∷ []
vars_of (line.PortCreate var) = var ∷ []
vars_of (line.Work var op bytes) = var ∷ []
vars_of (line.Ncd var bytes) = var ∷ []
vars_of line = []

-- the values that an answer gives, in order
abbrev pub values_of : Answer → List Value
values_of (answer.NewFd fd) = with_descriptor fd ∷ []
values_of (answer.TwoFds read write) = with_descriptor read ∷ with_descriptor write ∷ []
values_of (answer.Data bytes) = with_bytes bytes ∷ []
values_of (answer.Results bytes fds grown) = with_both bytes fds ∷ []
values_of answer = []

-- each variable is set to its value, one after another; where there is no value the variable stays
abbrev pub set_each : Variables → List (List ℕ) → List Value → Variables
set_each variables [] values = variables
set_each variables (var ∷ vars) [] = variables
set_each variables (var ∷ vars) (value ∷ values) = set_each (set_variable variables var value) vars values
