-- A line that is read declares nothing again.
use Rattle.std.proofs.Common.{◌≡◌, Bool, true, false, List, ℕ, Option, Some, None, Result, Ok, Err, refl, sym, ap, ◌∙◌, subst}
use Rattle.std.specs.Prelude.{if◌then◌else◌}
use Rattle.line_forms.specs.declared.reason.Reason.{Reason}
use Rattle.line_forms.specs.declared.reason.Reason.TheVariants.{Many, Twice, Unknown}
use Rattle.line_reader.specs.Words.{Rest}
use Rattle.history_text.specs.declared.line.Line.{Line}
use Rattle.history_text.specs.declared.place.Place.{Place}
use Rattle.history_text.specs.Faults.{is_many, is_twice}
use Rattle.history_text.specs.Words.{Names}
use Rattle.history_text.specs.Reading.{byte_fault, line_by_words, line_found, line_read, line_unless, line_with_bytes}

by_tests : (twice many known : Bool) (read line : Line) →
    line_unless (if twice then Some Twice else (if many then Some Many else (if known then None else Some Unknown))) read ≡ Ok line → (twice ≡ false) × (read ≡ line)
by_tests true many known read line h = cc
by_tests false true known read line h = cc
by_tests false false true read line h = (refl, cc)
by_tests false false false read line h = cc

found_once : (names : Names) (place : Place) (line : Line) (found : Result (Line × Rest) Reason) → line_found names place found ≡ Ok line → is_twice names line ≡ false
found_once names place line (Ok found) h =
    let p = by_tests (is_twice names found.0) (is_many names place found.0) found.1.known found.0 line h in
    subst (λ (x : Line). is_twice names x ≡ false) p.1 p.0
found_once names place line (Err reason) h = cc

once_unless : (names : Names) (place : Place) (text : List ℕ) (line : Line) (fault : Option Reason) → line_with_bytes names place text fault ≡ Ok line → is_twice names line ≡ false
once_unless names place text line None h = found_once names place line (line_by_words names place text) h
once_unless names place text line (Some reason) h = cc

pub read_once : (names : Names) (place : Place) (text : List ℕ) (line : Line) → line_read names place text ≡ Ok line → is_twice names line ≡ false
unfolding line_read
read_once names place text line h = once_unless names place text line (byte_fault text) h
