-- The operands of a history's lines: those of scripts, but for the ones here.
use Rattle.std.specs.Prelude.{ℕ, Bool, true, false, ◌+◌, ◌==◌, ◌&&◌, not, nat_le, List, [], ◌∷◌, Option, Some, None, option_and_then, bytes_eq, codes, length, if◌then◌else◌}
use Rattle.line_text.specs.Words.{part_before_last, quoted_text, string_of}
use Rattle.line_forms.specs.Words.{Flag, attribute_flags, greatest_32, greatest_64}
use Rattle.line_reader.specs.Words.{Reader, declared_number, is_no_stop, is_rsize, items_to, list_in_range, misspelling, name, name_from_word, next_word, number, number_from_word, optional_word, path_id, pid, pure, spelled_value, tid, value_out_of_range, ◌>>=◌}
use Rattle.history_text.specs.declared.limits.TheConstants.{REQUEST_DATA_MAX}
use Rattle.history_text.specs.Types.{Attrs, Fd, Pass, PathId, Pid, Tid}
use Rattle.history_text.specs.Names.{Names}
use Rattle.history_text.specs.Lookups.{child_number, path_number, procedure_number, process_number, thread_number}

abbrev pub word_after : Bool → Reader Bool
word_after true = pure true
word_after false = misspelling

-- this word
abbrev pub the_word : List ℕ → Reader Bool
the_word keyword = do
  here ← optional_word keyword
  word_after here

-- a number of 32 bits, and one of 64

abbrev pub number_32 : Reader ℕ
number_32 = number 0 greatest_32

abbrev pub number_64 : Reader ℕ
number_64 = number 0 greatest_64

-- descriptors

abbrev pub fd_from_word : List ℕ → Reader Fd
fd_from_word digits = do
  n ← number_from_word 0 greatest_32 digits
  pure (record { 0 = n })

-- FD
abbrev pub fd : Reader Fd
fd = do
  digits ← next_word
  fd_from_word digits

abbrev pub released : Bool → Fd → Pass
released release given = record { fd = given; release = release }

abbrev pub pass_parts : List ℕ → Option (List ℕ) → Reader Pass
pass_parts word None = do
  given ← fd_from_word word
  pure (released false given)
pass_parts word (Some front) = do
  given ← fd_from_word front
  pure (released true given)

-- PASS: an FD, or an FD followed at once by `!`, which is 33
abbrev pub pass_from_word : List ℕ → Reader Pass
pass_from_word word = pass_parts word (part_before_last 33 word)

abbrev pub passes_after : Bool → Reader (List Pass)
passes_after false = pure []
passes_after true = do
  given ← items_to is_rsize pass_from_word
  list_in_range 1 32 given

-- nothing, or `desc PASS {PASS}` (1 to 32)
abbrev pub passes : Reader (List Pass)
passes = do
  begins ← optional_word (codes "desc")
  passes_after begins

-- FD {FD} (1 to 16)
abbrev pub ports : Reader (List Fd)
ports = do
  fds ← items_to is_no_stop fd_from_word
  list_in_range 1 16 fds

-- strings

-- a string in its one spelling
abbrev pub if_canonical : List ℕ → List ℕ → Option (List ℕ)
if_canonical word text = if bytes_eq (quoted_text text) word then Some text else None

abbrev pub canonical_string : List ℕ → Option (List ℕ)
canonical_string word = option_and_then (if_canonical word) (string_of word)

-- bytes, where they are so many; others are out of range
abbrev pub bytes_in_range : ℕ → ℕ → List ℕ → Reader (List ℕ)
bytes_in_range low high bytes = if nat_le low (length bytes) && nat_le (length bytes) high then pure bytes else value_out_of_range []

-- STRING, of so many bytes
abbrev pub string : ℕ → ℕ → Reader (List ℕ)
string low high = do
  word ← next_word
  bytes ← spelled_value (canonical_string word)
  bytes_in_range low high bytes

-- DATA
abbrev pub data_bytes : Reader (List ℕ)
data_bytes = string 0 REQUEST_DATA_MAX

-- names

-- NAME {NAME} to the line's end
abbrev pub names_to_end : Reader (List (List ℕ))
names_to_end = items_to is_no_stop name_from_word

-- PROCESS
abbrev pub process : Names → Reader Pid
process names = do
  called ← name
  n ← declared_number (process_number names called)
  pure (pid n)

abbrev pub thread_from_word : Names → List ℕ → Reader Tid
thread_from_word names word = do
  called ← name_from_word word
  n ← declared_number (thread_number names called)
  pure (tid n)

-- THREAD
abbrev pub thread : Names → Reader Tid
thread names = do
  word ← next_word
  thread_from_word names word

-- CHILD of this process
abbrev pub child : Names → ℕ → Reader Pid
child names process = do
  called ← name
  n ← declared_number (child_number names process called)
  pure (pid n)

-- PROC of this process
abbrev pub procedure : Names → ℕ → Reader ℕ
procedure names process = do
  called ← name
  declared_number (procedure_number names process called)

-- PATH
abbrev pub path : Names → Reader PathId
path names = do
  called ← name
  n ← declared_number (path_number names called)
  pure (path_id n)

-- words of tables

abbrev pub bits_if : Bool → ℕ → ℕ
bits_if true bits = bits
bits_if false bits = 0

-- the bits of a flag whose word stands here, which is then read, or none
abbrev pub optional_flag : Flag → Reader ℕ
optional_flag flag = do
  here ← optional_word flag.word
  pure (bits_if here flag.bits)

-- the bits of the flags whose words stand here, in the order of these
abbrev pub flags_in_order : List Flag → Reader ℕ
flags_in_order [] = pure 0
flags_in_order (flag ∷ flags) = optional_flag flag >>= (λ bits. flags_in_order flags >>= (λ others. pure (bits + others)))

-- ATTR .., each at most once and in the table's order
abbrev pub attributes : Reader Attrs
attributes = do
  bits ← flags_in_order attribute_flags
  pure (record { 0 = bits })

abbrev pub is_greatest : ℕ → Reader ℕ
is_greatest n = if n == greatest_64 then misspelling else pure n

abbrev pub value_from_word : List ℕ → Reader ℕ
value_from_word word =
    if bytes_eq word (codes "max")
    then pure greatest_64
    else number_from_word 0 greatest_64 word >>= is_greatest

-- the value of `setparam`: a number, of which the greatest is `max`
abbrev pub value : Reader ℕ
value = do
  word ← next_word
  value_from_word word

-- nothing, or `nowait`: whether it waits
abbrev pub waits : Reader Bool
waits = do
  nowait ← optional_word (codes "nowait")
  pure (not nowait)
