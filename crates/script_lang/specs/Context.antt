-- What stands before a line, and whether a line may stand after it.
use Rattle.std.specs.Prelude.{ℕ, Bool, true, false, ◌&&◌, ◌||◌, not, nat_lt, nat_le, List, [], ◌∷◌, ◌++◌, length, Option, Some, None, if◌then◌else◌}
use Rattle.line_text.specs.Words.{has_name, with_distinct_names}
use Rattle.script_lang.specs.Types.{Kind, Line, Reason}
use Rattle.line_forms.specs.declared.line.Kind.TheVariants.{Act, Loop, Test, Closing}
use Rattle.line_forms.specs.declared.reason.Reason.TheVariants.{Twice, Many, Body as Misplaced}
use Rattle.line_forms.specs.Words.{depth_after, kind_of, variables_of}
use Rattle.script_lang.specs.declared.item.ScriptLine.{ScriptLine}
use Rattle.script_lang.specs.declared.item.ScriptLine.TheVariants.{Budget, Process, Child, Spare, Thread, Procedure, Do, Schedule}
use Rattle.script_lang.specs.declared.item.ScriptPlace.{ScriptPlace}
use Rattle.script_lang.specs.declared.item.ScriptPlace.TheVariants.{Start, Processes, Members, Body, Schedule as Scheduled}
use Rattle.dk_base.specs.declared.limits.TheConstants.{DEPTH_MAX, PROCEDURES_MAX, PROCESSES_MAX, THREADS_MAX, VARIABLES_MAX}

pub record ContextValue : Type 0 where
  pub place : ScriptPlace
  -- the names so far of processes with children, of threads with spares, and of this process's procedures
  pub processes : List (List ℕ)
  pub threads : List (List ℕ)
  pub procedures : List (List ℕ)
  -- the different names of variables so far in this body
  pub variables : List (List ℕ)
  -- how many blocks are open in this body
  pub depth : ℕ
  -- whether the line follows a `repeat` at once
  pub after_repeat : Bool

-- after the first line
abbrev pub first_context : ContextValue
first_context = record { place = Start; processes = []; threads = []; procedures = []; variables = []; depth = 0; after_repeat = false }

-- the text may end here
abbrev pub is_closed_place : ScriptPlace → Bool
is_closed_place Start = true
is_closed_place Processes = true
is_closed_place Members = true
is_closed_place Body = false
is_closed_place Scheduled = true

abbrev pub is_closed : ContextValue → Bool
is_closed context = is_closed_place context.place

-- a name is declared again
abbrev pub is_declared_twice : ContextValue → ScriptLine → Bool
is_declared_twice context (Budget events) = false
is_declared_twice context (Process name limit) = has_name context.processes name
is_declared_twice context (Child name parent) = has_name context.processes name
is_declared_twice context (Spare name) = has_name context.threads name
is_declared_twice context (Thread name) = has_name context.threads name
is_declared_twice context (Procedure name) = has_name context.procedures name
is_declared_twice context (Do line) = false
is_declared_twice context (Schedule threads) = false

abbrev pub variables_with : ContextValue → Line → List (List ℕ)
variables_with context line = with_distinct_names context.variables (variables_of line)

abbrev pub is_block_start : Kind → Bool
is_block_start Act = false
is_block_start Loop = true
is_block_start Test = true
is_block_start Closing = false

-- how deep `repeat` and `if` nest, and how many different variables a body has
abbrev pub is_line_over_limit : ContextValue → Line → Bool
is_line_over_limit context line = (is_block_start (kind_of line) && nat_le DEPTH_MAX context.depth) || nat_lt VARIABLES_MAX (length (variables_with context line))

-- a limit on a count is exceeded: of processes, of threads with spares, of procedures in a process, and those of bodies
abbrev pub is_over_limit : ContextValue → ScriptLine → Bool
is_over_limit context (Budget events) = false
is_over_limit context (Process name limit) = nat_le PROCESSES_MAX (length context.processes)
is_over_limit context (Child name parent) = nat_le PROCESSES_MAX (length context.processes)
is_over_limit context (Spare name) = nat_le THREADS_MAX (length context.threads)
is_over_limit context (Thread name) = nat_le THREADS_MAX (length context.threads)
is_over_limit context (Procedure name) = nat_le PROCEDURES_MAX (length context.procedures)
is_over_limit context (Do line) = is_line_over_limit context line
is_over_limit context (Schedule threads) = false

abbrev pub is_request : Kind → Bool
is_request Act = true
is_request Loop = false
is_request Test = false
is_request Closing = false

-- the first item inside a `repeat` is a command that makes a request, and this line is another
abbrev pub is_misplaced : ContextValue → ScriptLine → Bool
is_misplaced context (Do line) = context.after_repeat && not (is_request (kind_of line))
is_misplaced context item = false

-- why an item may not stand after these: the first reason that applies
abbrev pub place_fault : ContextValue → ScriptLine → Option Reason
place_fault context item =
    if is_declared_twice context item then Some Twice else (
    if is_over_limit context item then Some Many else (
    if is_misplaced context item then Some Misplaced else None))

-- what stands before the next line

abbrev pub context_at_place : ContextValue → ScriptPlace → ContextValue
context_at_place context place = record context { place = place }

abbrev pub context_with_process : ContextValue → List ℕ → ContextValue
context_with_process context name = record context { place = Members; processes = context.processes ++ name ∷ []; procedures = [] }

abbrev pub context_with_spare : ContextValue → List ℕ → ContextValue
context_with_spare context name = record context { threads = context.threads ++ name ∷ [] }

abbrev pub context_in_body : ContextValue → ContextValue
context_in_body context = record context { place = Body; variables = []; depth = 0; after_repeat = false }

abbrev pub context_with_thread : ContextValue → List ℕ → ContextValue
context_with_thread context name = context_in_body (context_with_spare context name)

abbrev pub context_with_procedure : ContextValue → List ℕ → ContextValue
context_with_procedure context name = context_in_body (record context { procedures = context.procedures ++ name ∷ [] })

abbrev pub is_loop_start : Kind → Bool
is_loop_start Act = false
is_loop_start Loop = true
is_loop_start Test = false
is_loop_start Closing = false

-- with the variables of a line of its body
abbrev pub context_with_variables : ContextValue → Line → ContextValue
context_with_variables context line = record context { variables = variables_with context line; after_repeat = is_loop_start (kind_of line) }

-- so many blocks are open after a line, or the body has ended
abbrev pub context_at_depth : ContextValue → Option ℕ → ContextValue
context_at_depth context None = context_at_place context Members
context_at_depth context (Some depth) = record context { depth = depth }

abbrev pub context_with_line : ContextValue → Line → ContextValue
context_with_line context line = context_at_depth (context_with_variables context line) (depth_after context.depth (kind_of line))

abbrev pub context_after : ContextValue → ScriptLine → ContextValue
context_after context (Budget events) = context_at_place context Processes
context_after context (Process name limit) = context_with_process context name
context_after context (Child name parent) = context_with_process context name
context_after context (Spare name) = context_with_spare context name
context_after context (Thread name) = context_with_thread context name
context_after context (Procedure name) = context_with_procedure context name
context_after context (Do line) = context_with_line context line
context_after context (Schedule threads) = context_at_place context Scheduled
