-- The lines of a script after the first, by their first words.
use Rattle.std.specs.Prelude.{ℕ, Bool, true, false, ◌&&◌, List, Option, Some, None, option_map, length, bytes_eq, codes, if◌then◌else◌, nat_le}
use Rattle.line_text.specs.Types.{Pid}
use Rattle.script_lang.specs.Types.{Keyword}
use Rattle.line_forms.specs.Words.{Tables, keyword_of}
use Rattle.line_reader.specs.Words.{Reader, is_no_stop, items_to, line_with, name, misspelling, nonempty_list, number, optional_word, parent, pure, thread_from_word, value_at_end, ◌>>=◌}
use Rattle.script_lang.specs.declared.item.ScriptLine.{ScriptLine}
use Rattle.script_lang.specs.declared.item.ScriptLine.TheVariants.{Budget, Process, Child, Spare, Thread, Procedure, Do, Schedule}
use Rattle.script_lang.specs.declared.item.ScriptPlace.{ScriptPlace}
use Rattle.script_lang.specs.declared.item.ScriptPlace.TheVariants.{Start, Processes, Members, Body, Schedule as Scheduled}
use Rattle.script_lang.specs.Context.{ContextValue}
use Rattle.dk_base.specs.declared.limits.TheConstants.{BUDGET_MAX, DESCRIPTORS_MAX}

-- budget N (N from 1 to `BUDGET_MAX`)
unfoldable pub budget_item : Reader ScriptLine
budget_item = do
  events ← number 1 BUDGET_MAX
  value_at_end (Budget events)

abbrev pub limit_after : Bool → Reader ℕ
limit_after false = pure DESCRIPTORS_MAX
limit_after true = number 0 DESCRIPTORS_MAX

-- process NAME, process NAME limit N (N from 0 to `DESCRIPTORS_MAX`)
unfoldable pub process_item : Reader ScriptLine
process_item = do
  process ← name
  limited ← optional_word (codes "limit")
  limit ← limit_after limited
  value_at_end (Process process limit)

abbrev pub parent_after : Tables → ℕ → Bool → Reader Pid
parent_after tables before false = misspelling
parent_after tables before true = parent tables before

-- child NAME of PARENT, where so many processes stand before
unfoldable pub child_item : Tables → ℕ → Reader ScriptLine
child_item tables before = do
  child ← name
  named ← optional_word (codes "of")
  of ← parent_after tables before named
  value_at_end (Child child of)

-- spare NAME
unfoldable pub spare_item : Reader ScriptLine
spare_item = do
  spare ← name
  value_at_end (Spare spare)

-- thread NAME
unfoldable pub thread_item : Reader ScriptLine
thread_item = do
  thread ← name
  value_at_end (Thread thread)

-- proc NAME
unfoldable pub procedure_item : Reader ScriptLine
procedure_item = do
  procedure ← name
  value_at_end (Procedure procedure)

-- schedule NAME .. (one or more)
unfoldable pub schedule_item : Tables → Reader ScriptLine
schedule_item tables = do
  named ← items_to is_no_stop (thread_from_word tables)
  threads ← nonempty_list named
  value_at_end (Schedule threads)

-- a line of a body in this process
abbrev pub line_item : Tables → ℕ → Keyword → Reader ScriptLine
line_item tables process keyword = line_with tables process keyword >>= (λ line. pure (Do line))

abbrev pub is_keyword : List ℕ → List ℕ → Bool
is_keyword word keyword = bytes_eq word keyword

-- what follows the first word of a line, where the word is one of its place

abbrev pub item_in_schedule : Tables → List ℕ → Option (Reader ScriptLine)
item_in_schedule tables word = if is_keyword word (codes "schedule") then Some (schedule_item tables) else None

-- from version 2 on a text may have children
abbrev pub is_child_keyword : ℕ → List ℕ → Bool
is_child_keyword version word = nat_le 2 version && is_keyword word (codes "child")

abbrev pub item_in_processes : ℕ → Tables → ℕ → List ℕ → Option (Reader ScriptLine)
item_in_processes version tables process word =
    if is_keyword word (codes "process") then Some process_item else (
    if is_child_keyword version word then Some (child_item tables process) else
    item_in_schedule tables word)

abbrev pub item_at_start : ℕ → Tables → ℕ → List ℕ → Option (Reader ScriptLine)
item_at_start version tables process word = if is_keyword word (codes "budget") then Some budget_item else item_in_processes version tables process word

abbrev pub item_in_members : ℕ → Tables → ℕ → List ℕ → Option (Reader ScriptLine)
item_in_members version tables process word =
    if is_keyword word (codes "spare") then Some spare_item else (
    if is_keyword word (codes "thread") then Some thread_item else (
    if is_keyword word (codes "proc") then Some procedure_item else
    item_in_processes version tables process word))

abbrev pub item_in_body : ℕ → Tables → ℕ → List ℕ → Option (Reader ScriptLine)
item_in_body version tables process word = option_map (line_item tables process) (keyword_of version word)

abbrev pub item_at_place : ScriptPlace → ℕ → Tables → ℕ → List ℕ → Option (Reader ScriptLine)
item_at_place Start version tables process word = item_at_start version tables process word
item_at_place Processes version tables process word = item_in_processes version tables process word
item_at_place Members version tables process word = item_in_members version tables process word
item_at_place Body version tables process word = item_in_body version tables process word
item_at_place Scheduled version tables process word = item_in_schedule tables word

-- The process of a body is the last that stands before; the parent of a child is one of those that do.
abbrev pub item_in_context : ℕ → Tables → ContextValue → List ℕ → Option (Reader ScriptLine)
item_in_context version tables context word = item_at_place context.place version tables (length context.processes) word
