-- A reader after one more line.
use Rattle.std.proofs.Common.{◌≡◌, ℕ, ◌+◌, List, ◌∷◌, Option, Some, None, Result, Ok, Err, OnOk, refl, sym, ap, subst, ◌∙◌}
use Rattle.script_lang.specs.Types.{Reason}
use Rattle.script_lang.specs.declared.item.ScriptLineRead.{ScriptLineRead}
use Rattle.script_lang.specs.declared.text_reader.TextReader.{TextReader}
use Rattle.script_lang.specs.Context.{place_fault}
use Rattle.script_lang.specs.Parsing.{bad_line, line_spelling, line_read, result_at_place, result_unless}
use Rattle.line_reader.specs.declared.fault.Fault.{Fault}
use Rattle.line_reader.specs.declared.fault.Fault.TheVariants.{Bad as BadLine, Memory as NoRoom}
use Rattle.script_lang.specs.declared.bad.Bad.{Bad}
use Rattle.script_lang.specs.declared.bad.ParseFault.TheVariants.{Bad as BadText}
use Rattle.script_lang.specs.Faults.{fault_at}
use Rattle.script_lang.specs.Value.{ScriptValue}
use Rattle.script_lang.specs.TextReaderContracts.{IsInStep, remaining_result, reader_with_found, AddsScriptLine, ReadsLine, Refuses}
use Rattle.script_lang.proofs.DraftSteps.{agrees_more}
use Rattle.script_lang.proofs.LineSteps.{skipped_line, bad_line_read, item_line_read}
use Rattle.script_lang.proofs.OfPlace.{of_place}

abbrev bad_answer : Bad → Result ScriptValue Bad
bad_answer bad = Err bad

abbrev spelled_in : TextReader → List ℕ → Result (Option ScriptLineRead) Reason
spelled_in reader line = line_spelling reader.lines.version reader.lines.tables reader.context line

pub skipped : (reader : TextReader) (line : List ℕ) → line_spelling reader.lines.version reader.lines.tables reader.context line ≡ Ok None → (lines : List (List ℕ))
    → remaining_result reader (line ∷ lines) ≡ remaining_result (record reader { number = reader.number + 1 }) lines
unfolding line_read
skipped reader line e lines = skipped_line reader.lines.version reader.lines.tables reader.draft reader.context reader.unknown reader.number line lines (ap (result_at_place reader.context) e)

pub misspelled : (reader : TextReader) (line : List ℕ) (reason : Reason) → line_spelling reader.lines.version reader.lines.tables reader.context line ≡ Err reason → (lines : List (List ℕ))
    → remaining_result reader (line ∷ lines) ≡ Err (bad_line reader.number reason)
unfolding line_read
misspelled reader line reason e lines = bad_line_read reader.lines.version reader.lines.tables reader.draft reader.context reader.unknown reader.number line lines reason (ap (result_at_place reader.context) e)

pub misplaced : (reader : TextReader) (line : List ℕ) (found : ScriptLineRead) (reason : Reason) → line_spelling reader.lines.version reader.lines.tables reader.context line ≡ Ok (Some found) → place_fault reader.context found.item ≡ Some reason
    → (lines : List (List ℕ)) → remaining_result reader (line ∷ lines) ≡ Err (bad_line reader.number reason)
unfolding line_read
misplaced reader line found reason e p lines =
    bad_line_read reader.lines.version reader.lines.tables reader.draft reader.context reader.unknown reader.number line lines reason
    (ap (result_at_place reader.context) e ∙ ap (λ why. result_unless why found) p)

pub found_item : (reader : TextReader) (line : List ℕ) (found : ScriptLineRead) → IsInStep reader → line_spelling reader.lines.version reader.lines.tables reader.context line ≡ Ok (Some found) → place_fault reader.context found.item ≡ None
    → (lines : List (List ℕ)) → remaining_result reader (line ∷ lines) ≡ remaining_result (record (reader_with_found reader found) { number = reader.number + 1 }) lines
unfolding line_read
found_item reader line found sound e p lines =
    item_line_read reader.lines.version reader.lines.tables reader.draft reader.context reader.unknown reader.number line lines found
    (ap (result_at_place reader.context) e ∙ ap (λ why. result_unless why found) p)
    sound (of_place reader.lines.version reader.lines.tables reader.context line found e)

pub sound_more : (reader : TextReader) (line : List ℕ) (found : ScriptLineRead) → IsInStep reader → line_spelling reader.lines.version reader.lines.tables reader.context line ≡ Ok (Some found) → IsInStep (reader_with_found reader found)
sound_more reader line found sound e = agrees_more reader.draft reader.context found.item sound (of_place reader.lines.version reader.lines.tables reader.context line found e)

-- what adding an item says of reading its line
pub added_reads : (reader new : TextReader) (line : List ℕ) (found : ScriptLineRead) (result : Result (Unit {0}) Fault) → IsInStep reader → line_spelling reader.lines.version reader.lines.tables reader.context line ≡ Ok (Some found)
    → AddsScriptLine reader found result new → ReadsLine reader line result new
added_reads reader new line found (Ok done) sound e h = λ lines. found_item reader line found sound e h.0 lines ∙ ap (λ (at : TextReader). remaining_result (record at { number = at.number + 1 }) lines) (sym h.1)
added_reads reader new line found (Err fault) sound e h = λ reason is lines. misplaced reader line found reason e (h reason is) lines

pub added_sound : (reader new : TextReader) (line : List ℕ) (found : ScriptLineRead) (result : Result (Unit {0}) Fault) → IsInStep reader → line_spelling reader.lines.version reader.lines.tables reader.context line ≡ Ok (Some found)
    → AddsScriptLine reader found result new → OnOk result (IsInStep new)
added_sound reader new line found (Ok done) sound e h = subst IsInStep (sym h.1) (sound_more reader line found sound e)
added_sound reader new line found (Err fault) sound e h = tt

bad_is : (n : ℕ) (reason : Reason) (bad : Bad) → fault_at n (BadLine reason) ≡ BadText bad → bad_line n reason ≡ bad
bad_is n reason bad e = cc

-- a line's fault is the text's
pub refused : (answer : Result ScriptValue Bad) (n : ℕ) (fault : Fault) → ((reason : Reason) → fault ≡ BadLine reason → answer ≡ Err (bad_line n reason)) → Refuses answer (fault_at n fault)
refused answer n (BadLine reason) h bad e = h reason refl ∙ ap (λ (at : Bad). bad_answer at) (bad_is n reason bad e)
refused answer n NoRoom h bad e = cc
