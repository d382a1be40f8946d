-- A script that was read is one.
use Rattle.std.proofs.Common.{◌≡◌, ℕ, true, List, ◌∷◌, [], Some, Result, Ok, Err, IfOk, refl, sym, ap, ◌∙◌, subst}
use Rattle.line_text.specs.Words.{lines_of}
use Rattle.line_forms.specs.Words.{Tables}
use Rattle.script_lang.specs.declared.bad.Bad.{Bad}
use Rattle.script_lang.specs.declared.text_lines.LineReader.{LineReader}
use Rattle.script_lang.specs.declared.text_reader.TextReader.{TextReader}
use Rattle.script_lang.specs.Canonical.{canonical_text}
use Rattle.script_lang.specs.IsScript.{IsScript}
use Rattle.script_lang.specs.Parsing.{parse_result, is_printable_line, version_of}
use Rattle.script_lang.specs.TextReaderContracts.{remaining_result}
use Rattle.script_lang.specs.Scripts.{tables_of}
use Rattle.script_lang.specs.Spelled.{spells, SpellsLines}
use Rattle.script_lang.specs.TextTables.{tables_of_lines}
use Rattle.script_lang.specs.Value.{ScriptValue}
use Rattle.script_lang.proofs.CanonicalSpelled.{canonical_spelled}
use Rattle.script_lang.proofs.ReadingBegins.{first_reader, reading_goes_on}
use Rattle.script_lang.proofs.TextFound.{text_found}
use Rattle.script_lang.proofs.TextOnly.{text_only, tables_again}

-- the names in the lines after the first are those of the script that the text spells
names_read : (text first : List ℕ) (lines : List (List ℕ)) (script : ScriptValue) → lines_of text ≡ first ∷ lines → spells text script → tables_of_lines lines ≡ tables_of script
unfolding spells
names_read text first lines script e spelled =
    let at : SpellsLines (first ∷ lines) script = subst (λ (ls : List (List ℕ)). SpellsLines ls script) e spelled in
    tables_again lines script at.2

pub script_is_script : (text first : List ℕ) (lines : List (List ℕ)) (script : ScriptValue) → lines_of text ≡ first ∷ lines → parse_result text ≡ Ok script → IsScript (tables_of_lines lines) script
script_is_script text first lines script e read =
    let spelled = text_found text script read in
    record {
      names = names_read text first lines script e spelled;
      again = text_only (canonical_text script) script (canonical_spelled text script spelled);
    }

if_read : (answer : Result ScriptValue Bad) (tables : Tables) → ((script : ScriptValue) → answer ≡ Ok script → IsScript tables script) → IfOk answer (λ script. IsScript tables script)
if_read (Ok script) tables is = is script refl
if_read (Err bad) tables is = tt

-- what a reader answers at the end, with its names, is a script
pub answer_is_script : (text first rest : List ℕ) (version : ℕ) (lines : LineReader) (reader new : TextReader)
    → lines_of text ≡ first ∷ lines_of rest → is_printable_line first ≡ true → version_of first ≡ Some version → lines.version ≡ version → lines.tables ≡ tables_of_lines (lines_of rest)
    → reader ≡ first_reader lines → remaining_result reader (lines_of rest) ≡ remaining_result new [] → new.lines.tables ≡ reader.lines.tables → IfOk (remaining_result new []) (λ script. IsScript new.lines.tables script)
answer_is_script text first rest version lines reader new e printable named is_version is_tables begins goes same =
    let tables : new.lines.tables ≡ tables_of_lines (lines_of rest) = same ∙ ap (λ (at : TextReader). at.lines.tables) begins ∙ is_tables in
    let read = reading_goes_on text first rest version lines reader (remaining_result new []) e printable named is_version is_tables begins goes in
    if_read (remaining_result new []) new.lines.tables (λ script is. subst (λ names. IsScript names script) (sym tables) (script_is_script text first (lines_of rest) script e (read ∙ is)))
