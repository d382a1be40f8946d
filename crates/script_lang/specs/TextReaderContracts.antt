-- What the reader's own contracts say of the lines that are still to be read.
use Rattle.std.specs.Prelude.{◌≡◌, ℕ, Bool, true, false, List, Option, None, Result, Ok, Err, MatchResult, length, ◌∷◌, ◌+◌}
use Rattle.std.specs.Option.{option_or}
use Rattle.line_reader.specs.declared.fault.Fault.{Fault}
use Rattle.line_reader.specs.declared.fault.Fault.TheVariants.{Bad as BadLine}
use Rattle.script_lang.specs.Types.{Reason}
use Rattle.line_forms.specs.Words.{Tables}
use Rattle.script_lang.specs.declared.bad.Bad.{Bad}
use Rattle.script_lang.specs.declared.bad.ParseFault.{ParseFault}
use Rattle.script_lang.specs.declared.bad.ParseFault.TheVariants.{Bad as BadText}
use Rattle.script_lang.specs.declared.draft.Draft.{Draft}
use Rattle.script_lang.specs.declared.draft.Owner.{Owner}
use Rattle.script_lang.specs.declared.draft.Owner.TheVariants.{Nobody, Thread as OfThread, Procedure as OfProcedure}
use Rattle.script_lang.specs.declared.item.ScriptPlace.{ScriptPlace}
use Rattle.script_lang.specs.declared.item.ScriptPlace.TheVariants.{Start, Processes, Members, Body, Schedule}
use Rattle.script_lang.specs.declared.text_reader.TextReader.{TextReader}
use Rattle.script_lang.specs.declared.item.ScriptLineRead.{ScriptLineRead}
use Rattle.script_lang.specs.Adds.{Adds}
use Rattle.script_lang.specs.Context.{ContextValue, place_fault, context_after}
use Rattle.script_lang.specs.Drafts.{draft_after, script_with}
use Rattle.script_lang.specs.Parsing.{ScriptLinesRead, bad_line, first_unknown, lines_read, script_unless_unknown}
use Rattle.script_lang.specs.Value.{ScriptValue}

abbrev pub result_of_draft : ℕ → Tables → Draft → ℕ → Option ℕ → Result ScriptLinesRead Bad → Result ScriptValue Bad
result_of_draft version tables draft depth unknown (Err fault) = Err fault
result_of_draft version tables draft depth unknown (Ok found) = script_unless_unknown (script_with version tables.paths draft depth found.items) (option_or unknown found.unknown)

-- the reading of the lines from the number n on, after these, where the lines before have made this draft, and this is
-- the first of them that names something that is not declared
abbrev pub parse_result_from : ℕ → Tables → Draft → ContextValue → Option ℕ → ℕ → List (List ℕ) → Result ScriptValue Bad
parse_result_from version tables draft context unknown n lines = result_of_draft version tables draft context.depth unknown (lines_read version tables n context lines)

abbrev pub has_owner : Owner → Bool
has_owner Nobody = false
has_owner (OfThread name) = true
has_owner (OfProcedure name) = true

abbrev pub is_body : ScriptPlace → Bool
is_body Start = false
is_body Processes = false
is_body Members = false
is_body Body = true
is_body Schedule = false

-- a body has begun exactly where the next line is one of a body, and the processes are those before
pub record Agrees (draft : Draft) (context : ContextValue) : Type 0 where
  pub in_body : has_owner draft.owner ≡ is_body context.place
  pub processes : length draft.processes ≡ length context.processes

-- the reading of these lines after those of a reader
abbrev pub remaining_result : TextReader → List (List ℕ) → Result ScriptValue Bad
remaining_result reader lines = parse_result_from reader.lines.version reader.lines.tables reader.draft reader.context reader.unknown reader.number lines

abbrev pub IsInStep : TextReader → Type 0
IsInStep reader = Agrees reader.draft reader.context

-- a fault is the reading's, or want of memory
abbrev pub Refuses : Result ScriptValue Bad → ParseFault → Type 0
Refuses answer fault = (bad : Bad) → fault ≡ BadText bad → answer ≡ Err bad

abbrev pub first_unknown_at : Option ℕ → ℕ → Bool → Option ℕ
first_unknown_at unknown n known = option_or unknown (first_unknown n known None)

-- a reader after an item that stands in the next line
abbrev pub reader_with_found : TextReader → ScriptLineRead → TextReader
reader_with_found reader found =
    record reader {
      context = context_after reader.context found.item;
      draft = draft_after reader.draft reader.context.depth found.item;
      unknown = first_unknown_at reader.unknown reader.number found.known;
    }

abbrev pub AddsScriptLine : TextReader → ScriptLineRead → Result (Unit {0}) Fault → TextReader → Type 0
AddsScriptLine old found result new = Adds (place_fault old.context found.item) (reader_with_found old found) result new

-- the next line was read, but not yet counted
abbrev pub ReadsLine : TextReader → List ℕ → Result (Unit {0}) Fault → TextReader → Type 0
ReadsLine old line result new =
    MatchResult result (λ _. (lines : List (List ℕ)) → remaining_result old (line ∷ lines) ≡ remaining_result (record new { number = new.number + 1 }) lines)
    (λ fault. (reason : Reason) → fault ≡ BadLine reason → (lines : List (List ℕ)) → remaining_result old (line ∷ lines) ≡ Err (bad_line old.number reason))

-- the next line was read
abbrev pub ReadsOne : TextReader → List ℕ → Result (Unit {0}) ParseFault → TextReader → Type 0
ReadsOne old line result new =
    MatchResult result (λ _. (lines : List (List ℕ)) → remaining_result old (line ∷ lines) ≡ remaining_result new lines)
    (λ fault. (lines : List (List ℕ)) → Refuses (remaining_result old (line ∷ lines)) fault)
