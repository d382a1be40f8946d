use Rattle.std.proofs.Common.{arith}
use Rattle.line_text.proofs.Digits.{stays_great}
use Rattle.line_text.proofs.number.value.Goals as goal

pub returns-in_err-value : goal.returns-in_err-value
returns-in_err-value c = grind (arith, stays_great)
