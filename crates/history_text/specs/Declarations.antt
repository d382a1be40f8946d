-- The lines that declare, and the end line: what follows their first words.
use Rattle.std.specs.Prelude.{ℕ, Bool, true, false, ◌==◌, List, [], ◌∷◌, Option, Some, None, codes, length, option_and_then, option_map, if◌then◌else◌}
use Rattle.dk_base.specs.declared.limits.TheConstants.{DESCRIPTORS_MAX}
use Rattle.history_text.specs.declared.limits.TheConstants.{PATH_TEXT_MAX}
use Rattle.history_text.specs.declared.line.Ending.TheVariants.{Complete, Stalled, Open}
use Rattle.history_text.specs.declared.line.Line.TheVariants.{Process, Child, Name, Procedure, Path, End}
use Rattle.line_reader.specs.Words.{Reader, declared_number, is_no_stop, items_to, misspelling, name, nonempty_list, number, next_word, pid, pure, spelled_value, value_at_end, value_with_rest, ◌>>=◌}
use Rattle.line_forms.specs.Words.{value_of_word}
use Rattle.line_text.specs.Words.{is_name}
use Rattle.history_text.specs.Types.{Ending, Line, Member, Pid, Tid}
use Rattle.history_text.specs.LineWords.{ending_word, member_kind}
use Rattle.history_text.specs.Names.{Names}
use Rattle.history_text.specs.Lookups.{member_count, parent_of, used_process_number}
use Rattle.history_text.specs.Operands.{names_to_end, number_64, process, string, the_word, thread_from_word}

-- members

abbrev pub is_spare_of : List ℕ → Option Bool
is_spare_of word = value_of_word member_kind (false ∷ true ∷ []) word

abbrev pub member_called : List ℕ → Bool → Option Member
member_called word spare = if is_name word then Some (record { spare = spare; name = word }) else None

-- the member that two words name
abbrev pub member_of : List ℕ → List ℕ → Option Member
member_of kind word = option_and_then (member_called word) (is_spare_of kind)

abbrev pub with_member : Option (List Member) → Member → Option (List Member)
with_member others member = option_map (λ members. member ∷ members) others

abbrev pub members_of : List (List ℕ) → Option (List Member)
members_of [] = Some []
members_of (kind ∷ []) = None
members_of (kind ∷ word ∷ words) = option_and_then (with_member (members_of words)) (member_of kind word)

-- {("thread" | "spare") NAME} to the line's end
abbrev pub members : Reader (List Member)
members rest = (spelled_value (members_of rest.words) >>= value_with_rest []) rest

-- processes and children

-- process NAME limit N {MEMBER}
abbrev pub process_line : Reader Line
process_line = do
  called ← name
  here ← the_word (codes "limit")
  limit ← number 0 DESCRIPTORS_MAX
  with ← members
  value_at_end (Process called limit with)

-- child NAME of PROCESS {MEMBER}
abbrev pub child_line : Names → Reader Line
child_line names = do
  called ← name
  here ← the_word (codes "of")
  parent ← process names
  with ← members
  value_at_end (Child called parent with)

-- new names

-- a name for each member of a process; where the process is not declared, any number of them
abbrev pub for_each_member : Names → Option ℕ → List (List ℕ) → Reader (List (List ℕ))
for_each_member names None called = pure called
for_each_member names (Some process) called = if length called == member_count names process then pure called else misspelling

abbrev pub if_has_parent : ℕ → Option Pid → Option ℕ
if_has_parent process None = None
if_has_parent process (Some parent) = Some process

-- the number of a process, where it is a child
abbrev pub if_child : Names → Option ℕ → Option ℕ
if_child names None = None
if_child names (Some process) = if_has_parent process (parent_of names process)

-- name CHILD NAME {NAME}
abbrev pub name_line : Names → Reader Line
name_line names = do
  child ← name
  called ← name
  others ← names_to_end
  members ← for_each_member names (used_process_number names child) others
  n ← declared_number (if_child names (used_process_number names child))
  value_at_end (Name (pid n) called members)

-- procedures and paths

-- proc NAME of PROCESS
abbrev pub procedure_line : Names → Reader Line
procedure_line names = do
  called ← name
  here ← the_word (codes "of")
  of ← process names
  value_at_end (Procedure called of)

-- path NAME STRING, of 1 to 4096 bytes
abbrev pub path_line : Reader Line
path_line = do
  called ← name
  text ← string 1 PATH_TEXT_MAX
  value_at_end (Path called text)

-- the end

abbrev pub ending_of : List ℕ → Option Ending
ending_of word = value_of_word ending_word (Complete ∷ Stalled ∷ Open ∷ []) word

abbrev pub waiting_after : Names → Ending → Reader (List Tid)
waiting_after names Complete = pure []
waiting_after names Open = pure []
waiting_after names Stalled = do
  threads ← items_to is_no_stop (thread_from_word names)
  nonempty_list threads

-- end complete NUMBER, end stalled NUMBER THREAD {THREAD}, end open NUMBER
abbrev pub end_line : Names → Reader Line
end_line names = do
  word ← next_word
  ending ← spelled_value (ending_of word)
  n ← number_64
  threads ← waiting_after names ending
  value_at_end (End ending n threads)
