-- What a text is found to be: its lines are judged in order, and the first that is bad or illegal is the answer.
use Rattle.std.specs.Prelude.{ℕ, ◌+◌, List, [], ◌∷◌, Option, Some, None, bytes_eq, if◌then◌else◌}
use Rattle.line_forms.specs.declared.reason.Reason.TheVariants.{Header}
use Rattle.line_forms.specs.declared.reason.Reason.{Reason}
use Rattle.spec_histories.specs.Histories.{History}
use Rattle.history_text.specs.Words.{byte_fault, header}
use Rattle.history_check.specs.declared.verdict.Verdict.{Verdict}
use Rattle.history_check.specs.declared.verdict.Verdict.TheVariants.{Legal, Cut, Bad, Illegal}
use Rattle.history_check.specs.Judging.{Found, found_at}
use Rattle.history_check.specs.Places.{Reached, at_start, state_of}
use Rattle.history_check.specs.WholeLines.{cut_part, whole_lines}

-- after the last whole line, where nothing may stand
abbrev pub verdict_at_end : ℕ → Reached → List ℕ → Verdict
verdict_at_end line r [] = Legal (state_of r).events
verdict_at_end line r (b ∷ bs) = Cut line

-- `next` is the verdict on what follows
abbrev pub verdict_after : ℕ → List ℕ → (Reached → Verdict) → Found → Verdict
verdict_after line have next (Found.GoesOn r) = next r
verdict_after line have next (Found.IsBad reason) = Bad line reason
verdict_after line have next (Found.IsIllegal want) = Illegal line want have

-- the verdict on these lines, of which the first has this number, and on what stands after them
abbrev pub verdict_from : ℕ → Reached → List (List ℕ) → List ℕ → Verdict
verdict_from line r [] rest = verdict_at_end line r rest
verdict_from line r (have ∷ lines) rest = verdict_after line have (λ next. verdict_from (line + 1) next lines rest) (found_at r have)

-- the first line
abbrev pub unless_header : List ℕ → Option Reason → Option Reason
unless_header line None = if bytes_eq line header then None else Some Header
unless_header line (Some reason) = Some reason

abbrev pub header_fault : List ℕ → Option Reason
header_fault line = unless_header line (byte_fault line)

abbrev pub verdict_unless : Option Reason → Verdict → Verdict
verdict_unless None found = found
verdict_unless (Some reason) found = Bad 1 reason

abbrev pub verdict_without_line : List ℕ → Verdict
verdict_without_line [] = Bad 1 Header
verdict_without_line (b ∷ bs) = Cut 1

abbrev pub verdict_of_lines : List (List ℕ) → List ℕ → Verdict
verdict_of_lines [] rest = verdict_without_line rest
verdict_of_lines (first ∷ lines) rest = verdict_unless (header_fault first) (verdict_from 2 at_start lines rest)

unfoldable pub verdict : List ℕ → Verdict
verdict text = verdict_of_lines (whole_lines text) (cut_part text)

-- the line that a verdict names
abbrev pub line_found : Verdict → Option ℕ
line_found (Legal events) = None
line_found (Cut line) = Some line
line_found (Bad line reason) = Some line
line_found (Illegal line want have) = Some line

-- where these lines lead, up to the first that is bad or illegal

abbrev pub place_after : Reached → (Reached → Reached) → Found → Reached
place_after p next (Found.GoesOn q) = next q
place_after p next found = p

abbrev pub place_from : Reached → List (List ℕ) → Reached
place_from p [] = p
place_from p (have ∷ lines) = place_after p (λ q. place_from q lines) (found_at p have)

abbrev pub place_of_lines : List (List ℕ) → Reached
place_of_lines [] = at_start
place_of_lines (first ∷ lines) = place_from at_start lines

-- the history that the lines of a text tell, up to the first that is bad or illegal
unfoldable pub history_told : List ℕ → History
history_told text = (place_of_lines (whole_lines text)).history
