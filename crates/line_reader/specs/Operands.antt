-- The operands of lines.
use Rattle.std.specs.Prelude.{ℕ, Bool, true, false, ◌==◌, List, [], ◌∷◌, Option, Some, None, bytes_eq, codes, if◌then◌else◌, take}
use Rattle.line_text.specs.Types.{AlertMode, Attrs, Op, Param, PathId, Pid, PollSet, Tid}
use Rattle.line_text.specs.declared.number.Number.{Number}
use Rattle.line_text.specs.declared.number.Number.TheVariants.{Found, OutOfRange, NoNumber}
use Rattle.line_text.specs.Words.{bounded_number, is_name, part_before_last, parts_at, string_of}
use Rattle.line_reader.specs.Types.{Cond, FdArg, PassArg, Piece}
use Rattle.line_forms.specs.declared.line.FdArg.TheVariants.{Number as NumberFd, Of as OfFd}
use Rattle.line_forms.specs.declared.line.Piece.TheVariants.{Text, Of, Fill}
use Rattle.line_forms.specs.Words.{Tables, attributes_of, child_number, cond_of, earlier_number, entry_number, greatest_64, mode_of, op_of, param_of, path_number, poll_of, process_number, thread_number}
use Rattle.line_reader.specs.Combinators.{Reader, pure, misspelling, value_with_rest, value_out_of_range, spelled_value, declared_number, next_word, optional_word, items_to, list_in_range, ◌>>=◌}

-- numbers

abbrev pub number_reader : Number → Reader ℕ
number_reader (Found n) = pure n
number_reader OutOfRange = value_out_of_range 0
number_reader NoNumber = misspelling

abbrev pub number_from_word : ℕ → ℕ → List ℕ → Reader ℕ
number_from_word low high digits = number_reader (bounded_number low high digits)

-- a number from low to high
abbrev pub number : ℕ → ℕ → Reader ℕ
number low high = do
  digits ← next_word
  number_from_word low high digits

-- names

abbrev pub name_from_word : List ℕ → Reader (List ℕ)
name_from_word bytes = if is_name bytes then pure bytes else misspelling

-- NAME, VAR
abbrev pub name : Reader (List ℕ)
name = do
  bytes ← next_word
  name_from_word bytes

-- PROC: a procedure of this process
abbrev pub procedure : Tables → ℕ → Reader ℕ
procedure tables process = do
  bytes ← name
  declared_number (entry_number tables process bytes)

abbrev pub tid : ℕ → Tid
tid n = record { 0 = n }

abbrev pub thread_from_word : Tables → List ℕ → Reader Tid
thread_from_word tables bytes = do
  spelling ← name_from_word bytes
  n ← declared_number (thread_number tables spelling)
  pure (tid n)

-- THREAD: a thread's or a spare's name
abbrev pub thread : Tables → Reader Tid
thread tables = do
  bytes ← next_word
  thread_from_word tables bytes

abbrev pub pid : ℕ → Pid
pid n = record { 0 = n }

-- PROCESS
abbrev pub process : Tables → Reader Pid
process tables = do
  bytes ← name
  n ← declared_number (process_number tables bytes)
  pure (pid n)

-- PARENT: a process that stands before, where so many do
abbrev pub parent : Tables → ℕ → Reader Pid
parent tables before = do
  bytes ← name
  n ← declared_number (earlier_number (take before tables.processes) bytes)
  pure (pid n)

-- CHILD: a child of this process
abbrev pub child : Tables → ℕ → Reader Pid
child tables process = do
  bytes ← name
  n ← declared_number (child_number tables process bytes)
  pure (pid n)

abbrev pub path_id : ℕ → PathId
path_id n = record { 0 = n }

-- PATH
abbrev pub path : Tables → Reader PathId
path tables = do
  bytes ← name
  pure (path_id (path_number tables bytes))

-- descriptors

abbrev pub variable_parts : List ℕ → Option (List ℕ × List ℕ) → Reader FdArg
variable_parts bytes None = do
  variable ← name_from_word bytes
  pure (OfFd variable 0)
variable_parts bytes (Some parts) = do
  variable ← name_from_word parts.0
  k ← number_from_word 0 15 parts.1
  pure (OfFd variable k)

abbrev pub descriptor_number : List ℕ → Reader FdArg
descriptor_number digits = do
  n ← number_from_word 0 255 digits
  pure (NumberFd n)

-- 36 is `$` and 46 is `.`
abbrev pub fd_from_word : List ℕ → Reader FdArg
fd_from_word [] = misspelling
fd_from_word (b ∷ bs) = if b == 36 then variable_parts bs (parts_at 46 bs) else descriptor_number (b ∷ bs)

-- FD: a number from 0 to 255, $VAR, or $VAR.K with K from 0 to 15
abbrev pub fd : Reader FdArg
fd = do
  bytes ← next_word
  fd_from_word bytes

abbrev pub pass_arg : FdArg → Bool → PassArg
pass_arg given release = record { fd = given; release = release }

abbrev pub pass_parts : List ℕ → Option (List ℕ) → Reader PassArg
pass_parts bytes None = do
  given ← fd_from_word bytes
  pure (pass_arg given false)
pass_parts bytes (Some front) = do
  given ← fd_from_word front
  pure (pass_arg given true)

-- PASS: an FD, or an FD followed at once by `!`, which is 33
abbrev pub pass_from_word : List ℕ → Reader PassArg
pass_from_word bytes = pass_parts bytes (part_before_last 33 bytes)

abbrev pub is_rsize : List ℕ → Bool
is_rsize bytes = bytes_eq bytes (codes "rsize")

abbrev pub is_no_stop : List ℕ → Bool
is_no_stop bytes = false

abbrev pub passes_after : Bool → Reader (List PassArg)
passes_after false = pure []
passes_after true = do
  given ← items_to is_rsize pass_from_word
  list_in_range 1 32 given

-- nothing, or `desc PASS ..` (1 to 32)
abbrev pub passes : Reader (List PassArg)
passes = do
  begins ← optional_word (codes "desc")
  passes_after begins

abbrev pub rsize_after : Bool → Reader ℕ
rsize_after false = pure 4096
rsize_after true = number 0 greatest_64

-- nothing, or `rsize N`
abbrev pub rsize : Reader ℕ
rsize = do
  begins ← optional_word (codes "rsize")
  rsize_after begins

-- FD .. (1 to 16)
abbrev pub ports : Reader (List FdArg)
ports = do
  fds ← items_to is_no_stop fd_from_word
  list_in_range 1 16 fds

-- data

abbrev pub text_piece : List ℕ → Reader Piece
text_piece bytes = do
  text ← spelled_value (string_of bytes)
  pure (Text text)

abbrev pub variable_piece : List ℕ → Reader Piece
variable_piece bytes = do
  variable ← name_from_word bytes
  pure (Of variable)

abbrev pub fill_parts : Option (List ℕ × List ℕ) → Reader Piece
fill_parts None = misspelling
fill_parts (Some parts) =
    if bytes_eq parts.0 (codes "fill")
    then number_from_word 0 8192 parts.1 >>= (λ n. pure (Fill n))
    else misspelling

-- a string, $VAR, or fill:N with N from 0 to 8192; 34 is `"`, 36 is `$` and 58 is `:`
abbrev pub piece_from_word : List ℕ → Reader Piece
piece_from_word [] = misspelling
piece_from_word (b ∷ bs) =
    if b == 34 then text_piece (b ∷ bs) else (
    if b == 36 then variable_piece bs else
    fill_parts (parts_at 58 (b ∷ bs)))

abbrev pub is_plus : List ℕ → Bool
is_plus bytes = bytes_eq bytes (codes "+")

-- the pieces that follow, each after the word `+`
abbrev pub more_pieces : List (List ℕ) → Reader (List Piece)
more_pieces [] = value_with_rest [] []
more_pieces (sign ∷ []) = if is_plus sign then misspelling else value_with_rest (sign ∷ []) []
more_pieces (sign ∷ bytes ∷ words) =
    if is_plus sign
    then piece_from_word bytes >>= (λ first. more_pieces words >>= (λ others. pure (first ∷ others)))
    else value_with_rest (sign ∷ bytes ∷ words) []

abbrev pub pieces_after : Piece → Reader (List Piece)
pieces_after first rest = (more_pieces rest.words >>= (λ others. pure (first ∷ others))) rest

-- DATA: pieces joined by the word `+`
abbrev pub pieces : Reader (List Piece)
pieces = do
  bytes ← next_word
  first ← piece_from_word bytes
  pieces_after first

-- words of a set

-- ATTR .. to the line's end, each at most once, in any order
abbrev pub attributes : Reader Attrs
attributes rest = (spelled_value (attributes_of rest.words) >>= value_with_rest []) rest

-- POLL
abbrev pub poll : Reader PollSet
poll = do
  bytes ← next_word
  spelled_value (poll_of bytes)

-- PARAM
abbrev pub param : Reader Param
param = do
  bytes ← next_word
  spelled_value (param_of bytes)

-- MODE
abbrev pub mode : Reader AlertMode
mode = do
  bytes ← next_word
  spelled_value (mode_of bytes)

-- OP
abbrev pub op : Reader Op
op = do
  bytes ← next_word
  spelled_value (op_of bytes)

-- COND
abbrev pub condition : Reader Cond
condition = do
  bytes ← next_word
  spelled_value (cond_of bytes)

abbrev pub value_from_word : List ℕ → Reader ℕ
value_from_word bytes = if bytes_eq bytes (codes "max") then pure greatest_64 else number_from_word 0 greatest_64 bytes

-- the N of `setparam`: a number, or `max`, the greatest
abbrev pub value : Reader ℕ
value = do
  bytes ← next_word
  value_from_word bytes

-- nothing, or `nowait`: whether it waits
abbrev pub wait_option : Reader Bool
wait_option = do
  nowait ← optional_word (codes "nowait")
  pure (if nowait then false else true)
