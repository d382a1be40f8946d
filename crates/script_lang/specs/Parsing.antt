-- The script that a text spells, or its first bad line with the reason.
use Rattle.std.specs.Prelude.{ℕ, Bool, true, false, ◌+◌, ◌==◌, not, List, [], ◌∷◌, Option, Some, None, Result, Ok, Err, bytes_eq, find, if◌then◌else◌}
use Rattle.std.specs.List.{list_all}
use Rattle.line_text.specs.Words.{is_printable, lines_of, words_of}
use Rattle.script_lang.specs.Types.{Reason}
use Rattle.line_forms.specs.declared.reason.Reason.TheVariants.{Byte, Header, Word, Open, Unknown}
use Rattle.line_forms.specs.Words.{Tables}
use Rattle.line_reader.specs.Words.{Reader, Rest, rest_of}
use Rattle.script_lang.specs.declared.bad.Bad.{Bad}
use Rattle.script_lang.specs.declared.item.ScriptLine.{ScriptLine}
use Rattle.script_lang.specs.declared.item.ScriptLineRead.{ScriptLineRead}
use Rattle.script_lang.specs.Context.{ContextValue, first_context, is_closed, place_fault, context_after}
use Rattle.script_lang.specs.Items.{item_in_context}
use Rattle.script_lang.specs.Value.{ScriptValue}
use Rattle.script_lang.specs.TextTables.{tables_of_lines}
use Rattle.script_lang.specs.Scripts.{script_of_items}
use Rattle.script_lang.specs.Canonical.{header, canonical_text}
use Rattle.script_lang.specs.Versions.{versions}

abbrev pub bad_line : ℕ → Reason → Bad
bad_line n reason = record { line = n; reason = reason }

-- a line

-- a line that is not read: it has only spaces, each 32, or its first byte other than a space is `#`, which is 35
abbrev pub is_skipped : List ℕ → Bool
is_skipped [] = true
is_skipped (b ∷ bs) = if b == 32 then is_skipped bs else b == 35

abbrev pub is_printable_line : List ℕ → Bool
is_printable_line line = list_all is_printable line

abbrev pub item_read : ScriptLine → Bool → ScriptLineRead
item_read item known = record { item = item; known = known }

abbrev pub item_found : Result (ScriptLine × Rest) Reason → Result (Option ScriptLineRead) Reason
item_found (Err reason) = Err reason
item_found (Ok found) = Ok (Some (item_read found.0 found.1.known))

abbrev pub spelling_with : List (List ℕ) → Option (Reader ScriptLine) → Result (Option ScriptLineRead) Reason
spelling_with words None = Err Word
spelling_with words (Some read) = item_found (read (rest_of words))

abbrev pub words_spelling : ℕ → Tables → ContextValue → List (List ℕ) → Result (Option ScriptLineRead) Reason
words_spelling version tables context [] = Ok None
words_spelling version tables context (word ∷ words) = spelling_with words (item_in_context version tables context word)

-- the reason of a line after these by its spelling, or what it is; a skipped line is nothing
unfoldable pub line_spelling : ℕ → Tables → ContextValue → List ℕ → Result (Option ScriptLineRead) Reason
line_spelling version tables context line =
    if not (is_printable_line line) then Err Byte else (
    if is_skipped line then Ok None else
    words_spelling version tables context (words_of line))

abbrev pub result_unless : Option Reason → ScriptLineRead → Result (Option ScriptLineRead) Reason
result_unless None found = Ok (Some found)
result_unless (Some reason) found = Err reason

-- a line that is spelled right, after these
abbrev pub result_at_place : ContextValue → Result (Option ScriptLineRead) Reason → Result (Option ScriptLineRead) Reason
result_at_place context (Err reason) = Err reason
result_at_place context (Ok None) = Ok None
result_at_place context (Ok (Some found)) = result_unless (place_fault context found.item) found

-- the reason of a line after these, or what it is
unfoldable pub line_read : ℕ → Tables → ContextValue → List ℕ → Result (Option ScriptLineRead) Reason
line_read version tables context line = result_at_place context (line_spelling version tables context line)

-- lines

-- what lines are, and the first of them that names something that is not declared
pub record ScriptLinesRead : Type 0 where
  pub items : List ScriptLine
  pub unknown : Option ℕ

abbrev pub items_read : List ScriptLine → Option ℕ → ScriptLinesRead
items_read items unknown = record { items = items; unknown = unknown }

abbrev pub first_unknown : ℕ → Bool → Option ℕ → Option ℕ
first_unknown n true unknown = unknown
first_unknown n false unknown = Some n

abbrev pub with_item : ℕ → ScriptLineRead → Result ScriptLinesRead Bad → Result ScriptLinesRead Bad
with_item n found (Err fault) = Err fault
with_item n found (Ok others) = Ok (items_read (found.item ∷ others.items) (first_unknown n found.known others.unknown))

abbrev pub line_then : ℕ → ContextValue → (ContextValue → Result ScriptLinesRead Bad) → Result (Option ScriptLineRead) Reason → Result ScriptLinesRead Bad
line_then n context others (Err reason) = Err (bad_line n reason)
line_then n context others (Ok None) = others context
line_then n context others (Ok (Some found)) = with_item n found (others (context_after context found.item))

-- the text ends after these; the line is one past the last
abbrev pub result_at_end : ℕ → Bool → Result ScriptLinesRead Bad
result_at_end n true = Ok (items_read [] None)
result_at_end n false = Err (bad_line n Open)

-- lines from the number n on, after these
abbrev pub lines_read : ℕ → Tables → ℕ → ContextValue → List (List ℕ) → Result ScriptLinesRead Bad
lines_read version tables n context [] = result_at_end n (is_closed context)
lines_read version tables n context (line ∷ lines) =
    line_then n context (λ after. lines_read version tables (n + 1) after lines) (line_read version tables context line)

-- a text

abbrev pub script_unless_unknown : ScriptValue → Option ℕ → Result ScriptValue Bad
script_unless_unknown script None = Ok script
script_unless_unknown script (Some n) = Err (bad_line n Unknown)

abbrev pub script_read : ℕ → Tables → Result ScriptLinesRead Bad → Result ScriptValue Bad
script_read version tables (Err fault) = Err fault
script_read version tables (Ok found) = script_unless_unknown (script_of_items version tables.paths found.items) found.unknown

-- the version that a text's first line names
abbrev pub version_of : List ℕ → Option ℕ
version_of line = find (λ version. bytes_eq line (header version)) versions

abbrev pub result_after_header : Tables → List (List ℕ) → Option ℕ → Result ScriptValue Bad
result_after_header tables lines None = Err (bad_line 1 Header)
result_after_header tables lines (Some version) = script_read version tables (lines_read version tables 2 first_context lines)

abbrev pub text_lines_read : List (List ℕ) → Result ScriptValue Bad
text_lines_read [] = Err (bad_line 1 Header)
text_lines_read (line ∷ lines) =
    if not (is_printable_line line) then Err (bad_line 1 Byte) else
    result_after_header (tables_of_lines lines) lines (version_of line)

unfoldable pub parse_result : List ℕ → Result ScriptValue Bad
parse_result text = text_lines_read (lines_of text)

abbrev pub fault_of : Result ScriptValue Bad → Option Bad
fault_of (Ok script) = None
fault_of (Err fault) = Some fault

-- the first bad line of a text that spells no script, with the reason
unfoldable pub first_bad_line : List ℕ → Option Bad
first_bad_line text = fault_of (parse_result text)

abbrev pub canonical_of_result : Result ScriptValue Bad → Option (List ℕ)
canonical_of_result (Ok script) = Some (canonical_text script)
canonical_of_result (Err fault) = None

-- the canonical text of the script that a text spells
unfoldable pub canonical_of_text : List ℕ → Option (List ℕ)
canonical_of_text text = canonical_of_result (parse_result text)
