-- The reading of a text after its first line.
use Rattle.std.proofs.Common.{◌≡◌, ℕ, true, List, [], ◌∷◌, Some, None, Result, Ok, Err, MatchResult, refl, sym, subst, ap, ◌∙◌}
use Rattle.line_text.specs.Words.{lines_of}
use Rattle.line_forms.specs.Words.{Tables}
use Rattle.script_lang.specs.declared.bad.Bad.{Bad}
use Rattle.script_lang.specs.declared.bad.ParseFault.{ParseFault}
use Rattle.script_lang.specs.declared.text_lines.LineReader.{LineReader}
use Rattle.script_lang.specs.declared.text_reader.TextReader.{TextReader}
use Rattle.script_lang.specs.Context.{first_context}
use Rattle.script_lang.specs.Drafts.{empty_draft}
use Rattle.script_lang.specs.Parsing.{ScriptLinesRead, parse_result, is_printable_line, version_of, lines_read, script_read}
use Rattle.script_lang.specs.TextReaderContracts.{remaining_result, result_of_draft, Refuses}
use Rattle.script_lang.specs.TextTables.{tables_of_lines}
use Rattle.script_lang.specs.Value.{ScriptValue}

begun : (version : ℕ) (tables : Tables) (found : Result ScriptLinesRead Bad) → script_read version tables found ≡ result_of_draft version tables empty_draft 0 None found
begun version tables (Err bad) = refl
begun version tables (Ok found) = refl

-- a reader after the first line
abbrev pub first_reader : LineReader → TextReader
first_reader lines = record { lines = lines; context = first_context; draft = empty_draft; number = 2; unknown = None }

reading_begins : (text first rest : List ℕ) (version : ℕ) (lines : LineReader) → lines_of text ≡ first ∷ lines_of rest → is_printable_line first ≡ true → version_of first ≡ Some version
    → lines.version ≡ version → lines.tables ≡ tables_of_lines (lines_of rest) → parse_result text ≡ remaining_result (first_reader lines) (lines_of rest)
unfolding parse_result
reading_begins text first rest version lines e printable named is_version is_tables =
    rw (e, printable, named, ← is_version, ← is_tables) (begun lines.version lines.tables (lines_read lines.version lines.tables 2 first_context (lines_of rest)))

-- what is read of a text's lines is what the text is read as
pub reading_goes_on : (text first rest : List ℕ) (version : ℕ) (lines : LineReader) (reader : TextReader) (answer : Result ScriptValue Bad)
    → lines_of text ≡ first ∷ lines_of rest → is_printable_line first ≡ true → version_of first ≡ Some version → lines.version ≡ version → lines.tables ≡ tables_of_lines (lines_of rest)
    → reader ≡ first_reader lines → remaining_result reader (lines_of rest) ≡ answer → parse_result text ≡ answer
reading_goes_on text first rest version lines reader answer e printable named is_version is_tables begins goes =
    reading_begins text first rest version lines e printable named is_version is_tables ∙ ap (λ (at : TextReader). remaining_result at (lines_of rest)) (sym begins) ∙ goes

abbrev IsAnswer : Result ScriptValue ParseFault → Result ScriptValue Bad → Type 0
IsAnswer result answer = MatchResult result (λ script. answer ≡ Ok script) (λ fault. Refuses answer fault)

-- what a reader answers at the end is what the text is read as
pub read_whole : (text first rest : List ℕ) (version : ℕ) (lines : LineReader) (reader new : TextReader) (result : Result ScriptValue ParseFault)
    → lines_of text ≡ first ∷ lines_of rest → is_printable_line first ≡ true → version_of first ≡ Some version → lines.version ≡ version → lines.tables ≡ tables_of_lines (lines_of rest)
    → reader ≡ first_reader lines → remaining_result reader (lines_of rest) ≡ remaining_result new []
    → MatchResult result (λ script. remaining_result new [] ≡ Ok script) (λ fault. Refuses (remaining_result new []) fault)
    → MatchResult result (λ script. parse_result text ≡ Ok script) (λ fault. Refuses (parse_result text) fault)
read_whole text first rest version lines reader new result e printable named is_version is_tables begins goes h =
    subst (IsAnswer result) (sym (reading_goes_on text first rest version lines reader (remaining_result new []) e printable named is_version is_tables begins goes)) h

-- a fault after the first line is the text's
pub refused_whole : (text first rest : List ℕ) (version : ℕ) (lines : LineReader) (reader : TextReader) (fault : ParseFault)
    → lines_of text ≡ first ∷ lines_of rest → is_printable_line first ≡ true → version_of first ≡ Some version → lines.version ≡ version → lines.tables ≡ tables_of_lines (lines_of rest)
    → reader ≡ first_reader lines → Refuses (remaining_result reader (lines_of rest)) fault → Refuses (parse_result text) fault
refused_whole text first rest version lines reader fault e printable named is_version is_tables begins h =
    subst (λ answer. Refuses answer fault) (sym (reading_goes_on text first rest version lines reader (remaining_result reader (lines_of rest)) e printable named is_version is_tables begins refl)) h
