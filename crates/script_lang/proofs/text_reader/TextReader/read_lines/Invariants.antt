use Rattle.std.proofs.Common.{◌≡◌, ◌+◌, ◌<◌, ◌^◌, length}
use Rattle.line_text.specs.Words.{lines_of}
use Rattle.script_lang.specs.TextReaderContracts.{IsInStep, remaining_result}
use Rattle.script_lang.proofs.text_reader.TextReader.read_lines.Given as goal

abbrev pub invariant-loop-line : goal.invariant-loop-line
invariant-loop-line l = record { sound : IsInStep l.self; number : l.self.number + length l.rest < 2 ^ 32; names : l.self.lines.tables ≡ l.initial.self.lines.tables; goes_on : remaining_result l.self (lines_of l.rest) ≡ remaining_result l.initial.self (lines_of l.text) }

abbrev pub decreases-loop-line : goal.decreases-loop-line
decreases-loop-line l = length l.rest
